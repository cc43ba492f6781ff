-- What is left to show of `move_quota`.
use Rattle.std.proofs.Common.{◌≡◌, sym, refl, ap, ◌∙◌, subst, arith}
use Rattle.forest.specs.Nodes.{Node, Nodes}
use Rattle.forest.specs.Forest.{cell_in}
use Rattle.forest.proofs.Bounds.{move_gives, payer_beside}
use Rattle.forest.proofs.Depth.{dir_live}
use Rattle.forest.proofs.Keeping.{formed, granted_small, few_records}
use Rattle.forest.proofs.Moving.{move, move_kept, charging_other}
use Rattle.forest.proofs.Steps.{Move, move_done, move_stays}
use Rattle.tables.specs.Cells.{CanRegrant}
use Rattle.tables.specs.Objects.{look}
use Rattle.tables.specs.Stacks.{stack_room}
use Rattle.objects.specs.Storing.{IsKept}
use Rattle.objects.proofs.Charging.{can_charge}
use Rattle.objects.proofs.Storing.{within_both, kept_over, spares_over, stored}
use Rattle.objects.proofs.objects.Objects.move_quota.Goals.{After-regrant}
use Rattle.objects.proofs.objects.Objects.move_quota.Goals as goal

pub charge-requires : goal.charge-requires
charge-requires c =
    let k = c.args.self.now.kept in
    let d = c.args.directory in
    let small = c.requires.small.0 in
    can_charge (look c.args.self.now.storage.table) k d _ _ (dir_live _ ((formed k).down d c.args.place c.args.child c.requires.there).whole) (omega arith) c.requires.paid
    (move_gives k d c.args.place c.args.child c.args.up c.args.down c.requires.there c.requires.cell c.requires.paid c.requires.owed)

pub regrant-requires : goal.regrant-requires
regrant-requires c =
    let s = c.args.self.now.storage in
    let k = c.args.self.now.kept in
    let d = c.args.directory in
    let x = c.args.child in
    let same : look c.charge.new.self.table x ≡ look s.table x =
    ap (λ (f : Nodes). f x) c.charge.ensures.after ∙ charging_other (look s.table) d x c.args.up c.args.down (payer_beside k d c.args.place x c.requires.there) in
    let high = granted_small k x c.requires.cell in
    let few = few_records k in
    let small = c.requires.small.0 in
    let owed = c.requires.owed in
    record {
      index = within_both s c.charge.new.self x c.charge.ensures.spare ((formed k).down d c.args.place x c.requires.there).live;
      cell = subst (λ (n : Node). CanRegrant c.args.up c.args.down (cell_in n.body)) (sym same) (record { enough = owed; fits = omega arith });
    }

written : (c : After-regrant) → Move (look c.args.self.now.storage.table) (look c.regrant.new.self) c.args.directory c.args.place c.args.child c.args.up c.args.down
written c =
    move (look c.args.self.now.storage.table) (look c.charge.new.self.table) (look c.regrant.new.self) c.args.directory c.args.place c.args.child _ c.args.up c.args.down
    c.requires.there c.requires.cell refl c.charge.ensures.after c.regrant.ensures.after

kept : (c : After-regrant) → IsKept c.regrant.new.self c.charge.new.self.unused c.charge.new.self.spare
kept c =
    kept_over (ap stack_room c.charge.ensures.spare) c.charge.ensures.unused
    (spares_over c.charge.ensures.spare (move_kept c.args.self.now.kept c.args.directory c.args.place c.args.child c.args.up c.args.down (written c) c.requires.paid c.requires.owed))

pub invariant_of-storage : goal.invariant_of-storage
invariant_of-storage c =
    let s = c.charge.new.self in
    stored c.regrant.new.self s.unused s.spare (c.regrant.ensures.size ∙ s.sized) s.roomy (kept c)

pub invariant_of-self : goal.invariant_of-self
invariant_of-self c = record { kept = kept (goal.at.invariant_of-self c).After-regrant }

pub returns : goal.returns
returns c =
    let s = formed c.args.self.now.kept in
    let i = written (goal.at.returns c).After-regrant in
    record {
      tree = (move_done _ _ s c.args.directory c.args.place c.args.child c.args.up c.args.down i 0 c.requires.paid c.requires.owed).tree;
      stays = move_stays _ _ s c.args.directory c.args.place c.args.child c.args.up c.args.down i;
      records = ap stack_room c.charge.ensures.spare;
    }
