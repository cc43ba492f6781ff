-- What is left to show of `forget`.
use Rattle.std.proofs.Common.{◌<◌, length, ap, ◌∙◌, set, arith}
use Rattle.std.proofs.lemmas.List.{get_or_default}
use Rattle.std.proofs.lemmas.List.Edits.{map_over_more}
use Rattle.tables.specs.Forgotten.{forgotten}
use Rattle.tables.specs.declared.known.Known.TheVariants.{Free}
use Rattle.tables.proofs.known_table.KnownTable.forget.Goals as goal

pub loop-known-preserved : goal.loop-known-preserved
loop-known-preserved c =
    let before = c.args.self.now.at.items in
    let after = c.loop-known.known-items in
    let i = c.loop-known.known-index in
    let same = c.deref_mut-known-items.ensures.value in
    let taken = c.loop-known-test.true in
    let inside : i < length before = omega arith in
    ap (set after i) c.without.ensures ∙ map_over_more (forgotten c.args.marks.now) before after i _ inside c.loop-known.invariant (get_or_default after i Free _ (omega arith))
