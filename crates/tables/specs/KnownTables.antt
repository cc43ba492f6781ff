-- The known numbers of a process as a function. Assumes nothing.
use Rattle.std.specs.Prelude.{ℕ}
use Rattle.rules.specs.Indexed.{assign}
use Rattle.tables.specs.declared.known.Known.{Known}
use Rattle.tables.specs.declared.known.Known.TheVariants.{Free, Means}
use Rattle.tables.specs.declared.sixteen.Sixteen.{Sixteen}
use Rattle.tables.specs.Sixteens.{value_at}

-- what the number n stands for
abbrev pub known_at : Sixteen Known → ℕ → Known
known_at t n = value_at t Free n

-- number 0 of a new process means the object 0, and the others are free
abbrev pub first_known : ℕ → Known
first_known = assign (λ _. Free) 0 (Means 0)
