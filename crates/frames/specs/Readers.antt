-- Where a reader stands in its frame. Assumes nothing.
use Rattle.std.specs.Prelude.{◌≡◌, ℕ, ◌+◌, ◌≤◌, List, length, drop, slice_index}
use Rattle.frames.specs.declared.fault.Flaw.TheVariants.{WrongKind}
use Rattle.frames.specs.declared.reader.Argument.{Argument}
use Rattle.frames.specs.declared.reader.Reader.{Reader}
use Rattle.frames.specs.Words.{kind_of, value_of}
use Rattle.frames.specs.Operations.{numbered}
use Rattle.frames.specs.Table.{kind_code}
use Rattle.frames.specs.Decode.{map_ok}

-- what a word holds as an argument: its kind, if there is such a kind, and its value
pub record Holding (w : ℕ) (a : Argument) : Type 0 where
  pub kind : map_ok kind_code a.kind ≡ numbered 6 WrongKind (kind_of w)
  pub value : a.value ≡ value_of w

-- the word to read next
abbrev pub next : Reader → ℕ
next r = slice_index r.frame.now r.at

-- the words that are not read yet
abbrev pub unread : Reader → List ℕ
unread r = drop r.at r.frame.now

-- at least k words are not read yet
abbrev pub Holds : Reader → ℕ → Type 0
Holds r k = r.at + k ≤ length r.frame.now

-- a reader that has read k words more of its frame
pub record Moved (before after : Reader) (k : ℕ) : Type 0 where
  pub frame : after.frame.now ≡ before.frame.now
  pub at : after.at ≡ before.at + k
