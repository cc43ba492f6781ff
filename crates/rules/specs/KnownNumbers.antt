-- Known numbers: what they mean, and what becomes of them where objects are deleted. Assumes nothing.
use Rattle.std.specs.Prelude.{ℕ, Bool, true, false, cond, ◌&&◌, [], ◌∷◌, ◌==◌}
use Rattle.rules.specs.Tree.{Path}

-- a known number is free, means the object at a path, or is gone
pub data Known : Type 0 where
  free : Known
  means : (path : Path) → Known
  gone : Known

-- whether a known number is free
abbrev pub is_free : Known → Bool
is_free free = true
is_free (means q) = false
is_free gone = false

-- number 0 of a new process means the root, and the others are free
abbrev pub new_numbers : ℕ → Known
new_numbers n = cond (n == 0) (means []) free

-- whether a path goes to or through the object at r
abbrev pub through : Path → Path → Bool
through [] q = true
through (i ∷ r) [] = false
through (i ∷ r) (j ∷ q) = i == j && through r q

-- a known number after the object at r and all below it were deleted
abbrev pub after_removal : Path → Known → Known
after_removal r free = free
after_removal r gone = gone
after_removal r (means q) = cond (through r q) gone (means q)
