-- Three words, or three labels, each below the next. Assumes nothing.
use Rattle.std.specs.Prelude.{Bool, ◌&&◌}

-- a is below b, and b below c
abbrev pub chain : {X : Type 0} → (X → X → Bool) → X → X → X → Bool
chain below a b c = below a b && below b c
