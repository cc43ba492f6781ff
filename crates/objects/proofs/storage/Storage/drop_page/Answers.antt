-- What is left to show of `drop_page`.
use Rattle.std.proofs.Common.{◌≡◌, suc, None, sym, refl, ◌∙◌, arith}
use mathlib.Core.Logic.{∥∥₁_elim, ∥∥₁_map}
use native.Mathlib.Bridge.{le_prop}
use Rattle.forest.proofs.Serving.{page_dropped, served_room}
use Rattle.tables.specs.Objects.{look}
use Rattle.tables.specs.Stacks.{stack_item, stack_height, stack_room}
use Rattle.objects.proofs.Storing.{stocked_page, served_as}
use Rattle.objects.proofs.storage.Storage.drop_page.Goals as goal

pub push-requires : goal.push-requires
push-requires c =
    let s = c.args.self.now in
    let low = c.requires in
    let few = s.table.few in
    ∥∥₁_elim s.served le_prop (served_room (stack_room s.spare) (stack_item s.spare) (stack_height s.spare) (look s.table) c.args.index c.args.page.value c.in-Some.number (omega arith) c.args.page.small (sym c.page.ensures ∙ c.in-Some.is))

pub invariant_of-self : goal.invariant_of-self
invariant_of-self c =
    let s = c.args.self.now in
    let a = look s.table in
    let b = look c.set_page.new.self in
    let after = c.set_page.ensures.after in
    let low = c.requires in
    let few = s.table.few in
    let room = c.push.ensures.room in
    let size = c.set_page.ensures.size in
    let sized = s.sized in
    let roomy = s.roomy in
    let height : stack_height c.push.new.self ≡ suc (stack_height s.spare) = let h = c.push.ensures.height in omega arith in
    record {
      sized = omega arith;
      roomy = omega arith;
      stocked = stocked_page a b c.args.index c.args.page.value None after room s.stocked;
      served =
          served_as room c.push.ensures.items height
          (∥∥₁_map s.served (page_dropped a b (stack_room s.spare) (stack_item s.spare) (stack_height s.spare) c.args.index c.args.page.value None
          (omega arith) c.args.page.small after c.in-Some.number (sym c.page.ensures ∙ c.in-Some.is) refl));
    }
