-- A stack of numbers: how high it is, and what stands on each level. Assumes nothing.
use Rattle.std.specs.Prelude.{◌≡◌, ℕ, ◌+◌, ◌-◌, ◌<◌, vec_items, vec_len, slice_index}
use Rattle.tables.specs.declared.stack.Stack.{Stack}

-- how many numbers it has
abbrev pub stack_height : Stack → ℕ
stack_height s = s.height

-- the number on a level; what stands above the height is not on the stack
abbrev pub stack_item : Stack → ℕ → ℕ
stack_item s x = slice_index (vec_items s.at) x

-- how many numbers it has room for
abbrev pub stack_room : Stack → ℕ
stack_room s = vec_len s.at

-- it is full, and gives low first, then the next numbers, count in all
pub record CountsDown (low count : ℕ) (s : Stack) : Type 0 where
  pub height : stack_height s ≡ count
  pub room : stack_room s ≡ count
  pub items : (x : ℕ) → x < count → stack_item s x ≡ low + (count - 1 - x)
