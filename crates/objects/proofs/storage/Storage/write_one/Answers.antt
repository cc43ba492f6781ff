-- What is left to show of `write_one`.
use Rattle.std.proofs.Common.{◌+◌, ◌*◌, Bool, cond, Some, ap, ◌∙◌}
use Rattle.rules.specs.Indexed.{assign, tabulate}
use Rattle.rules.specs.Segments.{Pages, present, word_after}
use Rattle.forest.specs.Forest.{pages_of}
use Rattle.forest.proofs.OnePage.{one_page, one_others, slot_pages}
use Rattle.forest.proofs.Serving.{served_alone}
use Rattle.tables.specs.Objects.{look}
use Rattle.objects.specs.VolumePages.{number_of, is_fresh}
use Rattle.objects.specs.Writes.{told}
use Rattle.objects.proofs.storage.Storage.write_one.Goals as goal

pub returns-then-touches-clause-changed : goal.returns-then-touches-clause-changed
returns-then-touches-clause-changed g c =
    let e = c.ensure_page.ensures.changed in
    record {
      after = slot_pages (look c.args.self.now.table) (look c.ensure_page.new.self.table) c.args.index c.args.page.value (Some (number_of c.ensure_page.result)) e.after;
      unused = e.unused;
      room = e.room;
    }

pub returns-then-touches-clause-own : goal.returns-then-touches-clause-own
returns-then-touches-clause-own g c =
    let s = c.ensure_page.new.self in
    let page = c.ensure_page.result in
    let e = c.ensure_page.ensures in
    let a = look c.args.self.now.table in
    let i = c.args.index in
    let k = c.args.page.value in
    let first = c.args.extent.first in
    let ds = c.args.extent.words.now in
    let v = told (g.V.Volume.words c.args.volume.now) in
    let ps : Pages = pages_of v (a i).page in
    one_page a (look s.table) i k (number_of page) first ds (is_fresh page) v (told (g.V.Volume.words c.write.new.volume)) e.changed.after (served_alone s.served) e.was c.write.ensures.words
    ∙ ap (λ (t : Bool). cond t (assign ps k (present (tabulate 16 (λ j. word_after ps first ds (16 * k + j))))) ps) c.if-touches.ensures

pub returns-then-touches-clause-others : goal.returns-then-touches-clause-others
returns-then-touches-clause-others g c =
    let s = c.ensure_page.new.self in
    let page = c.ensure_page.result in
    let e = c.ensure_page.ensures in
    one_others (look c.args.self.now.table) (look s.table) c.args.index c.args.page.value (number_of page) c.args.extent.first c.args.extent.words.now (is_fresh page)
    (told (g.V.Volume.words c.args.volume.now)) (told (g.V.Volume.words c.write.new.volume)) e.changed.after (served_alone s.served) e.was c.write.ensures.words
