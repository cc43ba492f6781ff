-- What is left to show of `insert`.
use Rattle.std.proofs.Common.{◌≡◌, ℕ, ◌+◌, ◌-◌, ◌<◌, ◌≤◌, cond, refl, ap, ◌∙◌, subst, arith}
use Rattle.forest.specs.Nodes.{with_place, celled}
use Rattle.forest.proofs.Depth.{dir_live}
use Rattle.forest.proofs.Inserting.{top_unused, top_within, insertion, insertion_kept}
use Rattle.forest.proofs.Keeping.{formed, payer_has_cell, left_granted, granted_small, few_records, object_free, depth_small}
use Rattle.forest.proofs.Steps.{bare_cost, Insertion, insertion_done, insertion_stays}
use Rattle.tables.specs.declared.stack.Stack.{Stack}
use Rattle.tables.specs.Bodies.{body_of}
use Rattle.tables.specs.Objects.{look, table_size, change_at}
use Rattle.tables.specs.Stacks.{stack_item, stack_height, stack_room}
use Rattle.objects.specs.Storing.{IsKept}
use Rattle.objects.proofs.Charging.{can_charge}
use Rattle.objects.proofs.Storing.{kept_over, spares_over, stored}
use Rattle.objects.proofs.objects.Objects.insert.Goals.{After-charge, After-pop-index, After-set_place}
use Rattle.objects.proofs.objects.Objects.insert.Goals as goal

pub overflow_add-depth : goal.overflow_add-depth
overflow_add-depth c =
    let low = depth_small c.args.self.now.kept c.args.directory (dir_live _ c.requires.directory) in
    let is = c.depth-depth.ensures in
    record { fits = omega arith }

pub charge-requires : goal.charge-requires
charge-requires c =
    let a = look c.args.self.now.storage.table in
    let k = c.args.self.now.kept in
    let d = c.args.directory in
    let l = dir_live (a d).body c.requires.directory in
    let low = left_granted k (a d).payer (payer_has_cell k d l) in
    let high = granted_small k (a d).payer (payer_has_cell k d l) in
    let few = few_records k in
    let paid = c.requires.paid in
    can_charge a k d _ _ l (omega arith) (omega arith) (omega arith)

pub pop-index-requires : goal.pop-index-requires
pop-index-requires c =
    let one = bare_cost (body_of c.args.body) c.requires.live in
    let is = c.requires.cost in
    let paid = c.requires.paid in
    let free = object_free c.args.self.now.kept c.args.directory (dir_live _ c.requires.directory) (omega arith) in
    let same = ap stack_height c.charge.ensures.unused in
    omega arith

-- the object on top of the stack, as it was at first
popped : (c : After-pop-index) → record {
  value : c.pop-index.result ≡ stack_item c.args.self.now.storage.unused (stack_height c.args.self.now.storage.unused - 1);
  height : stack_height c.pop-index.new.self + 1 ≡ stack_height c.args.self.now.storage.unused;
  items : stack_item c.pop-index.new.self ≡ stack_item c.args.self.now.storage.unused;
}
popped c =
    let e = c.pop-index.ensures in
    subst (λ (u : Stack). record { value : c.pop-index.result ≡ stack_item u (stack_height u - 1); height : stack_height c.pop-index.new.self + 1 ≡ stack_height u; items : stack_item c.pop-index.new.self ≡ stack_item u })
    c.charge.ensures.unused (record { value = e.value; height = e.height; items = e.items })

some : (c : After-pop-index) → 1 ≤ stack_height c.args.self.now.storage.unused
some c = let h = (popped c).height in omega arith

within : (c : After-pop-index) → c.pop-index.result < table_size c.charge.new.self.table
within c =
    let low = top_within c.args.self.now.kept c.pop-index.result (some c) (popped c).value in
    let sized = c.charge.new.self.sized in
    let same = ap stack_room c.charge.ensures.spare in
    omega arith

pub set_body-requires : goal.set_body-requires
set_body-requires c =
    let low = within (goal.at.set_body-requires c).After-pop-index in
    let one = c.set_entry.ensures.size in
    omega arith

pub set_place-requires : goal.set_place-requires
set_place-requires c =
    let low = within (goal.at.set_place-requires c).After-pop-index in
    let one = c.set_entry.ensures.size in
    let two = c.set_body.ensures.size in
    omega arith

-- what was written is an insertion
written : (c : After-set_place) → Insertion (look c.args.self.now.storage.table) (look c.set_place.new.self) c.args.directory c.args.place.value c.pop-index.result c.args.taken (body_of c.args.body)
written c =
    let a = look c.args.self.now.storage.table in
    let before = (goal.at.invariant_of-storage c).After-pop-index in
    let k = c.args.self.now.kept in
    let low = top_within k c.pop-index.result (some before) (popped before).value in
    let few = few_records k in
    insertion a (look c.charge.new.self.table) (look c.set_entry.new.self) (look c.set_body.new.self) (look c.set_place.new.self)
    c.args.directory c.args.place.value c.pop-index.result (a c.args.directory).payer (a c.args.directory).depth c.payer_of-payer.result c.args.taken (body_of c.args.body)
    c.requires.directory c.args.place.small c.requires.vacant (top_unused k c.pop-index.result (some before) (popped before).value) (omega arith) c.requires.live
    refl refl (c.payer_of-payer.ensures ∙ ap (cond (celled (body_of c.args.body)) c.pop-index.result) c.payer-above.ensures)
    c.charge.ensures.after c.set_entry.ensures.after c.set_body.ensures.after
    (c.set_place.ensures.after
    ∙ ap (λ (x : ℕ). change_at (look c.set_body.new.self) c.pop-index.result (λ n. with_place n c.args.directory c.args.place.value (x + 1) c.payer_of-payer.result)) c.depth-depth.ensures)

kept : (c : After-set_place) → IsKept c.set_place.new.self c.pop-index.new.self c.charge.new.self.spare
kept c =
    let was = popped (goal.at.invariant_of-storage c).After-pop-index in
    kept_over {u = c.pop-index.new.self} {v = c.pop-index.new.self} (ap stack_room c.charge.ensures.spare) refl
    (spares_over c.charge.ensures.spare
    (insertion_kept c.args.self.now.kept c.args.directory c.args.place.value c.pop-index.result c.args.taken (body_of c.args.body) (written c)
    _ _ was.items was.height was.value c.requires.fit c.requires.cost c.requires.paid))

pub invariant_of-storage : goal.invariant_of-storage
invariant_of-storage c =
    let s = c.charge.new.self in
    stored c.set_place.new.self c.pop-index.new.self s.spare (c.set_place.ensures.size ∙ c.set_body.ensures.size ∙ c.set_entry.ensures.size ∙ s.sized) (c.pop-index.ensures.room ∙ s.roomy) (kept c)

pub invariant_of-self : goal.invariant_of-self
invariant_of-self c = record { kept = kept (goal.at.invariant_of-self c).After-set_place }

pub returns : goal.returns
returns c =
    let s = formed c.args.self.now.kept in
    let i = written (goal.at.returns c).After-set_place in
    record {
      tree = (insertion_done _ _ s c.args.directory c.args.place.value c.pop-index.result c.args.taken (body_of c.args.body) i 0 c.requires.fit c.requires.cost c.requires.paid).tree;
      stays = insertion_stays _ _ s c.args.directory c.args.place.value c.pop-index.result c.args.taken (body_of c.args.body) i;
      records = ap stack_room c.charge.ensures.spare;
    }
