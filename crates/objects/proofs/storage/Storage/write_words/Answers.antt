-- What is left to show of `write_words`.
use Rattle.std.proofs.Common.{ℕ, ◌*◌, ◌≤◌, length, sym, refl, ap, ◌∙◌, subst, arith}
use Rattle.rules.specs.Indexed.{sum}
use Rattle.forest.specs.Forest.{pages_of}
use Rattle.forest.proofs.OnePage.{pages_again, upto_step, upto_none}
use Rattle.forest.proofs.Paged.{page_self}
use Rattle.forest.proofs.Tally.{sum_before}
use Rattle.forest.proofs.Write.{written_end}
use Rattle.tables.specs.Objects.{look}
use Rattle.tables.proofs.Counts.{sum_next}
use Rattle.objects.specs.Writes.{told, lacks}
use Rattle.objects.proofs.Lacking.{still_lacks}
use Rattle.objects.proofs.storage.Storage.write_words.Goals as goal

pub loop-page-init : goal.loop-page-init
unfolding sum
loop-page-init g c = record {
  changed = record { after = page_self (look c.args.self.now.table) c.args.index _ refl; unused = refl; room = refl };
  height = omega arith;
  own = upto_none (pages_of (told (g.V.Volume.words c.args.volume.now)) (look c.args.self.now.table c.args.index).page) c.args.extent.first c.args.extent.words.now;
  others = λ j _. refl;
  pages = refl;
  beyond = λ x _. refl;
}

pub write_one-requires : goal.write_one-requires
write_one-requires g c =
    let inv = c.loop-page.invariant in
    let k = c.loop-page.page in
    let a = look c.args.self.now.table in
    let b = look c.loop-page.self.table in
    let i = c.args.index in
    let first = c.args.extent.first in
    let ds = c.args.extent.words.now in
    let low = c.requires.index in
    let size = c.args.self.now.sized in
    let size' = c.loop-page.self.sized in
    let fits = c.requires.volume in
    let room = inv.changed.room in
    let pages = inv.pages in
    let all = c.requires.enough in
    let height = inv.height in
    let part = sum_before 16 (lacks first (length ds) (a i).page) k (omega arith) in
    let same = still_lacks (told (g.V.Volume.words c.args.volume.now)) (told (g.V.Volume.words c.loop-page.volume)) (a i).page (b i).page first ds k inv.own in
    let is = ap (lacks first (length ds) (b i).page) c.new.ensures in
    record {
      index = omega arith;
      volume = omega arith;
      enough = omega arith;
    }

pub loop-page-preserved : goal.loop-page-preserved
loop-page-preserved g c =
    let inv = c.loop-page.invariant in
    let e = rw c.new.ensures at c.write_one.ensures in
    let k = c.loop-page.page in
    let a = look c.args.self.now.table in
    let b = look c.loop-page.self.table in
    let b' = look c.write_one.new.self.table in
    let i = c.args.index in
    let first = c.args.extent.first in
    let ds = c.args.extent.words.now in
    let v = told (g.V.Volume.words c.args.volume.now) in
    let w = told (g.V.Volume.words c.loop-page.volume) in
    let height = inv.height in
    let lower = e.height in
    let next = sum_next k (lacks first (length ds) (a i).page) in
    let same = still_lacks v w (a i).page (b i).page first ds k inv.own in
    record {
      changed = record {
        after = pages_again a b b' i (b i).page (b' i).page inv.changed.after e.changed.after;
        unused = e.changed.unused ∙ inv.changed.unused;
        room = e.changed.room ∙ inv.changed.room;
      };
      height = omega arith;
      own = e.own ∙ upto_step (pages_of v (a i).page) (pages_of w (b i).page) first ds k inv.own;
      others = λ j ne. e.others j ne ∙ inv.others j ne;
      pages = e.pages ∙ inv.pages;
      beyond = λ x l. e.beyond x (subst (λ (m : ℕ). 16 * m ≤ x) (sym inv.changed.room) l) ∙ inv.beyond x l;
    }

pub returns-clause-own : goal.returns-clause-own
returns-clause-own g c =
    c.loop-page.invariant.own
    ∙ written_end (pages_of (told (g.V.Volume.words c.args.volume.now)) (look c.args.self.now.table c.args.index).page) c.args.extent.first c.args.extent.words.now c.loop-page.page (omega arith) c.args.extent.inside
