-- What the loop of `put_arguments` keeps true.
use Rattle.std.proofs.Common.{◌≡◌, ◌+◌, length}
use Rattle.std.specs.Iterator.Adapters.{enumerate_source, enumerate_count, zip_first, zip_second}
use Rattle.std.specs.Slice.Iter.{iter_rest}
use Rattle.frames.specs.Operations.{operation_number}
use Rattle.frames.specs.Table.{parameters_of, arity}
use Rattle.frames.specs.Encode.{put, argument_words}
use Rattle.frames.proofs.encoder.Parts.put_arguments.Given as goal

-- with the arguments that are left the buffer will be as it is to be
abbrev pub invariant-loop-i : goal.invariant-loop-i
invariant-loop-i l =
    record {
      left : enumerate_count l.i-iterator + length (iter_rest (zip_first (enumerate_source l.i-iterator))) ≡ arity (operation_number l.self.operation);
      words : put (1 + enumerate_count l.i-iterator) (argument_words (iter_rest (zip_first (enumerate_source l.i-iterator))) (iter_rest (zip_second (enumerate_source l.i-iterator)))) l.buffer
          ≡ put 1 (argument_words (parameters_of (operation_number l.self.operation)) l.self.values) l.initial.buffer;
    }
