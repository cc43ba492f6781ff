-- What is left to show of `count`.
use Rattle.std.proofs.Common.{None, sym, refl, ap, arith}
use Rattle.rules.specs.Indexed.{sum}
use Rattle.forest.specs.Forest.{has}
use Rattle.tables.specs.Links.{link}
use Rattle.tables.proofs.Counts.{sum_next, has_some, has_none}
use Rattle.tables.proofs.links.Links.count.Goals as goal
use Rattle.tables.proofs.links.Links.count.Goals.{then-is_some, else-is_some}

pub loop-index-init : goal.loop-index-init
unfolding sum
loop-index-init c = (omega arith, refl)

pub loop-index-preserved : goal.loop-index-preserved
loop-index-preserved c =
    let next = sum_next c.loop-index.index (λ k. has (link c.args.self.now k)) in
    let here = ap has (c.find.ensures None) in
    let was = c.loop-index.invariant.1 in
    elim c.if-is_some.branch [
      | then-is_some w ↦ let h = has_some _ (sym w.if-is_some.ensures) in let n = w.count-is in (omega arith, omega arith)
      | else-is_some w ↦ let h = has_none _ (sym w.if-is_some.ensures) in let n = w.count-is in (omega arith, omega arith)
    ]
