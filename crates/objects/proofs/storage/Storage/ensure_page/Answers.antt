-- What is left to show of `ensure_page`.
use Rattle.std.proofs.Common.{◌≡◌, ℕ, suc, ◌-◌, ◌<◌, Some, sym, refl, ap, ◌∙◌, subst, arith}
use mathlib.Core.Logic.{∥∥₁_elim, ∥∥₁_map}
use native.Mathlib.Bridge.{le_prop}
use Rattle.forest.specs.Spares.{Served}
use Rattle.forest.proofs.Serving.{page_taken}
use Rattle.tables.specs.Objects.{look}
use Rattle.tables.specs.Stacks.{stack_item, stack_height, stack_room}
use Rattle.objects.proofs.Storing.{stocked_page, served_as}
use Rattle.objects.proofs.storage.Storage.ensure_page.Goals.{After-pop-number}
use Rattle.objects.proofs.storage.Storage.ensure_page.Goals as goal

-- the stack was one higher, and gave what stood on top
height : (c : After-pop-number) → stack_height c.args.self.now.spare ≡ suc (stack_height c.pop-number.new.self)
height c = let h = c.pop-number.ensures.height in omega arith

top : (c : After-pop-number) → c.pop-number.result ≡ stack_item c.args.self.now.spare (stack_height c.pop-number.new.self)
top c =
    let h = height c in
    c.pop-number.ensures.value ∙ ap (stack_item c.args.self.now.spare) (let e : stack_height c.args.self.now.spare - 1 ≡ stack_height c.pop-number.new.self = omega arith in e)

was : (c : After-pop-number) → ∥ Served (stack_room c.args.self.now.spare) (stack_item c.args.self.now.spare) (suc (stack_height c.pop-number.new.self)) (look c.args.self.now.table) ∥₁
was c = served_as refl refl (sym (height c)) c.args.self.now.served

pub invariant_of-self : goal.invariant_of-self
invariant_of-self c =
    let s = c.args.self.now in
    let a = look s.table in
    let b = look c.set_page.new.self in
    let i = c.args.index in
    let k = c.args.page.value in
    let before = (goal.at.invariant_of-self c).After-pop-number in
    let after = c.set_page.ensures.after in
    let low = c.requires.index in
    let few = s.table.few in
    let room = c.pop-number.ensures.room in
    let size = c.set_page.ensures.size in
    let sized = s.sized in
    let roomy = s.roomy in
    record {
      sized = omega arith;
      roomy = omega arith;
      stocked = stocked_page a b i k (Some c.pop-number.result) after room s.stocked;
      served =
          served_as room c.pop-number.ensures.items refl
          (∥∥₁_map (was before) (page_taken a b (stack_room s.spare) (stack_item s.spare) (stack_height c.pop-number.new.self) i k (Some c.pop-number.result)
          (omega arith) c.args.page.small after (sym c.page.ensures ∙ c.in-None.is) (ap Some (top before))));
    }

pub returns-in-Some-clause-low : goal.returns-in-Some-clause-low
returns-in-Some-clause-low c = ∥∥₁_elim c.args.self.now.served le_prop (λ s. s.used c.args.index c.args.page.value c.in-Some.number (sym c.page.ensures ∙ c.in-Some.is))

pub returns-in-None-clause-low : goal.returns-in-None-clause-low
returns-in-None-clause-low c =
    let before = (goal.at.returns-in-None-clause-low c).After-pop-number in
    subst (λ (v : ℕ). v < stack_room c.args.self.now.spare) (sym (top before)) (∥∥₁_elim (was before) le_prop (λ s. (s.spare.free (stack_height c.pop-number.new.self) (omega arith)).0))
