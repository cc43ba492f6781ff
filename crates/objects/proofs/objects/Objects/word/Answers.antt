-- What is left to show of `word`.
use Rattle.std.proofs.Common.{◌≡◌, ℕ, ◌/◌, ◌%◌, ◌<◌, true, Some, Option, unwrap_or, sym, ap, ◌∙◌, arith, lt-ltb}
use mathlib.Core.Logic.{∥∥₁_elim}
use native.Mathlib.Bridge.{le_prop}
use Rattle.std.proofs.lemmas.Bool.{and_from}
use Rattle.volumes.specs.Pages.{pages_in, inside}
use Rattle.volumes.specs.Insides.{inside_read}
use Rattle.forest.proofs.PageWords.{word_present}
use Rattle.tables.specs.Objects.{look}
use Rattle.tables.specs.Stacks.{stack_room}
use Rattle.objects.specs.Writes.{told}
use Rattle.objects.proofs.objects.Objects.word.Goals as goal

pub returns-in-Some : goal.returns-in-Some
returns-in-Some g c =
    let ws = g.V.Volume.words c.args.volume.now in
    let links : ℕ → Option ℕ = (look c.args.self.now.storage.table c.args.segment).page in
    let at = c.args.index in
    let page = c.in-Some.page in
    let is : links (at / 16) ≡ Some page = sym c.page.ensures ∙ c.in-Some.is in
    let low : page < stack_room c.args.self.now.storage.spare = ∥∥₁_elim c.args.self.now.kept le_prop (λ z. z.served.used c.args.segment (at / 16) page is) in
    let fits = c.requires.volume in
    let there : inside ws page (at % 16) ≡ true = and_from _ _ (lt-ltb page (pages_in ws) (omega arith)) (lt-ltb (at % 16) 16 (omega arith)) in
    c.unwrap_or.ensures ∙ ap (λ (o : Option ℕ). unwrap_or o 0) (c.read.ensures ∙ sym (inside_read ws page (at % 16) there)) ∙ sym (word_present (told ws) links at page is)
