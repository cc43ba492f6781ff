-- What the loop of `arguments` keeps true.
use Rattle.std.proofs.Common.{◌≡◌, ◌+◌, map, take, drop}
use Rattle.frames.specs.Words.{value_of}
use Rattle.frames.specs.Decode.{argument_fault}
use Rattle.frames.specs.Readers.{unread}
use Rattle.frames.specs.Walks.{padded}
use Rattle.frames.proofs.reader.Reader.arguments.Given as goal

-- the words read so far have no fault, and `values` begins with their values
abbrev pub invariant-loop-i : goal.invariant-loop-i
invariant-loop-i l =
    record {
      frame : l.self.frame.now ≡ l.initial.self.frame.now;
      at : l.self.at ≡ l.initial.self.at + l.i;
      fault : argument_fault l.self.at (drop l.i l.parameters) (unread l.self) ≡ argument_fault l.initial.self.at l.parameters (unread l.initial.self);
      values : l.values ≡ padded (map value_of (take l.i (unread l.initial.self)));
    }
