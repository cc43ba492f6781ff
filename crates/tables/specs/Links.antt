-- Sixteen numbers as a function. Assumes nothing.
use Rattle.std.specs.Prelude.{ℕ, None, Option}
use Rattle.tables.specs.declared.sixteen.Sixteen.{Sixteen}
use Rattle.tables.specs.Sixteens.{value_at}

-- the number at e, if it is there
abbrev pub link : Sixteen (Option ℕ) → ℕ → Option ℕ
link t e = value_at t None e

-- no number is there
abbrev pub no_links : ℕ → Option ℕ
no_links e = None
