-- What `parse_words` keeps true: the words so far, in front of those that are left, are the words of all bytes.
use Rattle.std.proofs.Common.{◌≡◌, vec_items}
use Rattle.std.specs.Slice.Iter.{chunks_rest, chunks_size}
use Rattle.listing.specs.Lines.{words_in}
use Rattle.listing.proofs.Words.{behind}
use Rattle.listing.proofs.parser.parse_words.Given as goal

abbrev pub invariant-loop-piece : goal.invariant-loop-piece
invariant-loop-piece l = record {
  can_go_on : (goal.iterator-loop-piece).can_next l.piece-iterator;
  finite : (goal.iterator-loop-piece).is_finite l.piece-iterator;
  nine_each : chunks_size l.piece-iterator ≡ 9;
  said : behind (vec_items l.words) (words_in (chunks_rest l.piece-iterator)) ≡ words_in l.bytes;
}
