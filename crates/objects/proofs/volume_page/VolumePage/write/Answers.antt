-- What is left to show of `write`.
use Rattle.std.proofs.Common.{◌≡◌, ℕ, ◌+◌, ◌*◌, true, cond, eqb, List, sym, ap, ◌∙◌, ap₂, arith, lt-ltb}
use Rattle.std.proofs.lemmas.Bool.{and_from}
use Rattle.forest.specs.Words.{word_over}
use Rattle.forest.proofs.PageWords.{page_past, page_next}
use Rattle.volumes.specs.Pages.{pages_in, inside, written}
use Rattle.volumes.specs.Insides.{index_inside, inside_written}
use Rattle.tables.proofs.Items.{items_set}
use Rattle.objects.specs.VolumePages.{number_of, is_fresh}
use Rattle.objects.specs.Writes.{told}
use Rattle.objects.proofs.volume_page.VolumePage.write.Goals as goal

pub loop-word-preserved : goal.loop-word-preserved
loop-word-preserved g c =
    let w : ℕ → ℕ = told (g.V.Volume.words c.args.volume.now) in
    let ws : List ℕ = g.V.Volume.words c.loop-word.volume in
    let p = number_of c.args.self in
    let fresh = is_fresh c.args.self in
    let first = c.args.extent.first in
    let q = c.loop-word.word in
    let ds = c.args.extent.words.now in
    let low = c.requires in
    let same = c.loop-word.invariant.0 in
    let there : inside ws p q ≡ true = and_from _ _ (lt-ltb p (pages_in ws) (omega arith)) (lt-ltb q 16 (omega arith)) in
    let old = c.loop-word.invariant.1 (p * 16 + q) ∙ page_past w p fresh c.args.page.value first ds q q (omega arith) in
    let value =
    c.new_word-value.ensures
    ∙ ap (λ (z : ℕ). word_over first ds (16 * c.args.page.value + q) (cond fresh 0 z)) old in
    let set = c.write.ensures.words ∙ ap (λ (u : ℕ). written ws u q c.new_word-value.result) c.number-number.ensures ∙ sym (inside_written ws p q c.new_word-value.result there) in
    let items = items_set ws (p * 16 + q) c.new_word-value.result 0 (index_inside ws p q there) in (
      c.write.ensures.pages ∙ same,
      λ x. ap (λ (l : List ℕ). told l x) set ∙ ap (λ (f : ℕ → ℕ). f x) items ∙ ap₂ (cond (eqb x (p * 16 + q))) value (c.loop-word.invariant.1 x)
          ∙ page_next w p fresh c.args.page.value first ds q x,
    )
