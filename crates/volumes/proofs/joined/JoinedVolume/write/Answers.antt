-- What is left to show of `write`.
use Rattle.std.proofs.Common.{refl, sym}
use Rattle.volumes.specs.Insides.{past_pages, outside_written, written_keeps_pages}
use Rattle.volumes.specs.Joins.{kept_before, kept_past, changed_behind}
use Rattle.volumes.specs.Parts.{part_inside, part_written}
use Rattle.volumes.proofs.Halves.{first_where, second_where, past_where, first_part, second_part, no_page}
use Rattle.volumes.proofs.joined.JoinedVolume.write.Goals as goal

pub returns-in-Some-First : goal.returns-in-Some-First
returns-in-Some-First g c =
    let v = c.args.self.now in
    let found = rw c.in-Some-First.field-0-is at c.in-Some-First.ensures in
    let place = first_where _ c.args.page _ found in
    let page = first_part _ _ (g.met.A.Volume.whole v.first) (g.met.B.Volume.whole v.second) c.args.page _ found in
    let words = part_written _ _ _ c.args.page page c.args.word c.args.value _ c.write.ensures.words in
    record {
      value = part_inside _ _ _ c.args.page page c.args.word _ c.write.ensures.value;
      words = words;
      pages = written_keeps_pages _ c.args.page c.args.word c.args.value _ words;
      first = rw place.1 at c.write.ensures.words;
      second = kept_before _ _ c.args.page c.args.word c.args.value place.0;
    }

pub returns-in-Some-Second : goal.returns-in-Some-Second
returns-in-Some-Second g c =
    let v = c.args.self.now in
    let found = rw c.in-Some-Second.field-0-is at c.in-Some-Second.ensures in
    let place = second_where _ c.args.page _ found in
    let page = second_part _ _ (g.met.A.Volume.whole v.first) (g.met.B.Volume.whole v.second) c.args.page _ found in
    let words = part_written _ _ _ c.args.page page c.args.word c.args.value _ c.write-in-Some-Second.ensures.words in
    record {
      value = part_inside _ _ _ c.args.page page c.args.word _ c.write-in-Some-Second.ensures.value;
      words = words;
      pages = written_keeps_pages _ c.args.page c.args.word c.args.value _ words;
      first = outside_written _ c.args.page c.args.word c.args.value (past_pages _ c.args.page c.args.word place.0);
      second = changed_behind _ _ c.args.page c.args.word c.args.value _ _ refl place.0 place.1 (rw place.2 at c.write-in-Some-Second.ensures.words);
    }

pub returns-in-None : goal.returns-in-None
returns-in-None g c =
    let v = c.args.self.now in
    let outside = no_page _ _ (g.met.A.Volume.whole v.first) (g.met.B.Volume.whole v.second) c.args.page c.in-None.ensures c.args.word in
    let words = outside_written _ c.args.page c.args.word c.args.value outside in
    record {
      value = sym outside;
      words = words;
      pages = written_keeps_pages _ c.args.page c.args.word c.args.value _ words;
      first = outside_written _ c.args.page c.args.word c.args.value (past_pages _ c.args.page c.args.word (past_where _ c.args.page c.in-None.ensures).0);
      second = kept_past _ _ c.args.page c.args.word c.args.value (past_where _ c.args.page c.in-None.ensures).1;
    }
