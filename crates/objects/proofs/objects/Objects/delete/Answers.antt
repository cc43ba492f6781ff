-- What is left to show of `delete`.
use Rattle.std.proofs.Common.{◌≡◌, ℕ, Bool, None, false, get_or, sym, refl, ap, ◌∙◌, subst, arith}
use Rattle.forest.specs.Nodes.{Nodes, is_live, Tells, with_entry}
use Rattle.forest.specs.Steps.{Kept}
use Rattle.forest.proofs.Bounds.{removal_gives}
use Rattle.forest.proofs.Cutting.{paged_live}
use Rattle.forest.proofs.Depth.{dir_live}
use Rattle.forest.proofs.Keeping.{formed, subtree_records}
use Rattle.forest.proofs.Removing.{unlinking, unlinking_live, unlinked_is, removal, removal_kept}
use Rattle.forest.proofs.Steps.{Removal, removal_done, removal_stays}
use Rattle.forest.proofs.Stock.{alive}
use Rattle.tables.specs.Objects.{look, change_at}
use Rattle.tables.specs.Stacks.{stack_item, stack_height, stack_room}
use Rattle.objects.proofs.Charging.{can_charge}
use Rattle.objects.proofs.Storing.{entry_pages, served_as, stocked_as, stored_same, within_both}
use Rattle.objects.proofs.objects.Objects.delete.Goals.{After-set_entry, After-release_marked}
use Rattle.objects.proofs.objects.Objects.delete.Goals as goal

pub charge-requires : goal.charge-requires
charge-requires c =
    let k = c.args.self.now.kept in
    let d = c.args.directory in
    let bound = removal_gives k d c.args.place c.args.child c.weights-back.result (λ z. get_or c.args.marks.now z false) c.requires.there c.requires.marked c.weights-back.ensures in
    can_charge (look c.args.self.now.storage.table) k d _ _ (dir_live _ ((formed k).down d c.args.place c.args.child c.requires.there).whole) (omega arith) (omega arith) (omega arith)

pub set_entry-requires : goal.set_entry-requires
set_entry-requires c =
    let h = (formed c.args.self.now.kept).down c.args.directory c.args.place c.args.child c.requires.there in
    record { index = within_both c.args.self.now.storage c.charge.new.self c.args.directory c.charge.ensures.spare (dir_live _ h.whole); place = h.within }

-- the place is empty
emptied : (c : After-set_entry) → look c.set_entry.new.self ≡ change_at (look c.charge.new.self.table) c.args.directory (λ n. with_entry n c.args.place None)
emptied c = c.set_entry.ensures.after

-- the table before the marked objects leave use
unlinked : (c : After-set_entry) → look c.set_entry.new.self ≡ unlinking c.weights-back.result (look c.args.self.now.storage.table) c.args.directory c.args.place
unlinked c =
    unlinked_is (look c.args.self.now.storage.table) (look c.charge.new.self.table) (look c.set_entry.new.self) c.args.directory c.args.place _ c.weights-back.result refl c.charge.ensures.after (emptied c)

pub invariant_of-storage : goal.invariant_of-storage
invariant_of-storage c =
    let s = c.charge.new.self in
    let a = look s.table in
    let b = look c.set_entry.new.self in
    let d = c.args.directory in
    let e = c.args.place in
    let after = emptied (goal.at.invariant_of-storage c).After-set_entry in
    stored_same s c.set_entry.new.self c.set_entry.ensures.size (entry_pages a b d e None after) (paged_live a b d (λ n. with_entry n e None) (λ n. refl) after)

pub release_marked-requires : goal.release_marked-requires
release_marked-requires c x q =
    let a = look c.args.self.now.storage.table in
    let is = unlinked (goal.at.release_marked-requires c).After-set_entry in
    alive (look c.set_entry.new.self x).body (a x).body (ap (λ (f : Nodes). is_live (f x).body) is ∙ unlinking_live c.weights-back.result a c.args.directory c.args.place x)
    (subst (Tells a c.args.child x) q (c.requires.marked x)).0

written : (c : After-release_marked) → Removal (look c.args.self.now.storage.table) (look c.release_marked.new.self.table) c.args.directory c.args.place c.args.child c.weights-back.result (λ z. get_or c.args.marks.now z false)
written c =
    removal (look c.args.self.now.storage.table) (look c.set_entry.new.self) (look c.release_marked.new.self.table) c.args.directory c.args.place c.args.child c.weights-back.result (λ z. get_or c.args.marks.now z false)
    c.requires.there c.requires.marked (unlinked (goal.at.invariant_of-self c).After-set_entry) c.release_marked.ensures.after

pub invariant_of-self : goal.invariant_of-self
invariant_of-self c =
    let s = c.release_marked.new.self in
    let room = c.release_marked.ensures.room ∙ ap stack_room c.charge.ensures.spare in
    record {
      kept = subst (λ (n : ℕ). ∥ Kept n (look s.table) (stack_item s.unused) (stack_height s.unused) (stack_item s.spare) (stack_height s.spare) ∥₁) (sym room)
          (removal_kept c.args.self.now.kept c.args.directory c.args.place c.args.child c.weights-back.result (λ z. get_or c.args.marks.now z false) (written c)
          (stack_item s.unused) (stack_height s.unused) (stack_item s.spare) (stack_height s.spare) c.weights-back.ensures
          (stocked_as (sym room) refl refl s.stocked) (served_as (sym room) refl refl s.served));
    }

pub returns : goal.returns
returns c =
    let k = c.args.self.now.kept in
    let s = formed k in
    let m : ℕ → Bool = λ z. get_or c.args.marks.now z false in
    let i = written (goal.at.returns c).After-release_marked in
    record {
      value = λ w. c.weights-back.ensures ∙ subtree_records k c.args.child (s.down c.args.directory c.args.place c.args.child c.requires.there).live m c.requires.marked w;
      tree = (removal_done _ _ s c.args.directory c.args.place c.args.child c.weights-back.result m i 0 c.weights-back.ensures).tree;
      stays = removal_stays _ _ s c.args.directory c.args.place c.args.child c.weights-back.result m i;
      records = c.release_marked.ensures.room ∙ ap stack_room c.charge.ensures.spare;
    }
