-- Sixteen values as a function, and what they are once one was lent. Assumes nothing.
use Rattle.std.specs.Prelude.{ℕ, slice_index_or}
use Rattle.std.proofs.Common.{◌∙◌, length-set}
use Rattle.std.specs.Borrow.{Lends, Fml, RattleType, MutBor}
use Rattle.arrayvec.specs.ArrayVec.{with_item}
use Rattle.tables.specs.declared.sixteen.Sixteen.{Sixteen}
use Rattle.tables.specs.contracts.sixteen.Sixteen.{the_row}

-- the value at a number, and d where the number is past the last
abbrev pub value_at : {T : Type 0} → Sixteen T → T → ℕ → T
value_at t d n = slice_index_or t.at.items n d

-- the values with v at n
abbrev pub with_value : {T : Type 0} → Sixteen T → ℕ → T → Sixteen T
with_value t n v = record { at = with_item t.at n v; full = length-set t.at.items n v ∙ t.full }

-- once the borrow r ends, the values have its last value at n
abbrev pub lends_value : (T : RattleType) → MutBor (Sixteen T.Denot) → ℕ → MutBor T.Denot → Fml
lends_value T values n r = Lends (the_row T) T values r (with_value values.now n)
