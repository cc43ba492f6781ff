-- What is left to show of `drop_pages`.
use Rattle.std.proofs.Common.{ℕ, None, Option, ap, ◌∙◌, arith}
use Rattle.rules.specs.Indexed.{assign}
use Rattle.forest.specs.Nodes.{with_page, with_pages}
use Rattle.forest.proofs.Paged.{page_again}
use Rattle.forest.proofs.Truncate.{cut_upto, cut_next, cut_end}
use Rattle.tables.specs.Objects.{look, change_at}
use Rattle.tables.proofs.LatePages.{short}
use Rattle.objects.proofs.storage.Storage.drop_pages.Goals as goal

pub loop-page-preserved : goal.loop-page-preserved
loop-page-preserved c =
    let a = look c.args.self.now.table in
    let i = c.args.index in
    let k = c.loop-page.page in
    let inv = c.loop-page.invariant in
    record {
      after =
          page_again a (look c.loop-page.self.table) (look c.drop_page.new.self.table) i k (cut_upto c.args.keep k (a i).page) None inv.after
          (c.drop_page.ensures.after ∙ ap (λ (p : ℕ). change_at (look c.loop-page.self.table) i (λ n. with_page n p None)) c.new.ensures)
          ∙ ap (λ (ps : ℕ → Option ℕ). assign a i (with_pages (a i) ps)) (cut_next c.args.keep k (a i).page c.loop-page.auto.page);
      unused = c.drop_page.ensures.unused ∙ inv.unused;
      room = c.drop_page.ensures.room ∙ inv.room;
    }

pub returns : goal.returns
returns c =
    let a = look c.args.self.now.table in
    let i = c.args.index in
    let inv = c.loop-page.invariant in
    record {
      after = inv.after ∙ ap (λ (ps : ℕ → Option ℕ). assign a i (with_pages (a i) ps)) (cut_end c.args.keep c.loop-page.page (a i).page (omega arith) (short c.args.self.now.table i));
      unused = inv.unused;
      room = inv.room;
    }
