-- What the walk over a call's arguments answers, and what a call comes to when it is taken apart. Assumes nothing.
use Rattle.std.specs.Prelude.{◌≡◌, ℕ, ◌-◌, List, ◌++◌, map, length, take, replicate, Some, None, Ok, Err, Result}
use Rattle.frames.specs.Faults.{FrameFault}
use Rattle.frames.specs.declared.table.Parameter.{Parameter}
use Rattle.frames.specs.Words.{value_of}
use Rattle.frames.specs.Requests.{Request, call_number, arguments_of, data_in}
use Rattle.frames.specs.Decode.{argument_fault}

-- values, and zeros behind them, five in all
abbrev pub padded : List ℕ → List ℕ
padded vs = vs ++ replicate (5 - length vs) 0

-- the values of the arguments, or the first fault
abbrev pub Walked : ℕ → List Parameter → List ℕ → Result (List ℕ) FrameFault → Type 0
Walked place ps ws (Ok vs) = (argument_fault place ps ws ≡ None) × (vs ≡ padded (map value_of (take (length ps) ws)))
Walked place ps ws (Err f) = argument_fault place ps ws ≡ Some f

-- a call taken apart: its number, its values with zeros behind them, and its data words
pub record TakenApart (n : ℕ) (vs ds : List ℕ) (c : Request) : Type 0 where
  pub number : n ≡ call_number c
  pub values : vs ≡ padded (arguments_of c)
  pub words : ds ≡ data_in c
