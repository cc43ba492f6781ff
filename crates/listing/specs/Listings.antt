-- A listing: its first 64 lines, numbered, each with what it says. Assumes nothing.
use Rattle.std.specs.Prelude.{ℕ, suc, cond, List, [], ◌∷◌, ◌++◌, take, Option, ◌==◌}
use Rattle.std.specs.Option.{option_map}
use Rattle.listing.specs.declared.line.Line.{Line}
use Rattle.listing.specs.Lines.{Submitted, submitted, line_in}

-- a line's number, and its call, if it is readable
pub record Numbered : Type 0 where
  pub number : ℕ
  pub call : Option Submitted

abbrev pub numbered : Line → Numbered
numbered l = record { number = l.number; call = option_map submitted l.call }

-- a last line without a newline is a line, and nothing after the last newline is none
abbrev pub last_line : List ℕ → List (List ℕ)
last_line [] = []
last_line (b ∷ bs) = (b ∷ bs) ∷ []

-- the lines of bytes behind those that the first line has so far; the code 10 ends a line
abbrev pub lines_from : List ℕ → List ℕ → List (List ℕ)
lines_from begun [] = last_line begun
lines_from begun (b ∷ bs) = cond (b == 10) (begun ∷ lines_from [] bs) (lines_from (begun ++ b ∷ []) bs)

-- lines with their numbers, the first of them n
abbrev pub numbered_from : ℕ → List (List ℕ) → List Numbered
numbered_from n [] = []
numbered_from n (l ∷ ls) = record { number = n; call = line_in l } ∷ numbered_from (suc n) ls

-- what a listing says: lines after the 64th are ignored
abbrev pub listing : List ℕ → List Numbered
listing bs = numbered_from 1 (take 64 (lines_from [] bs))
