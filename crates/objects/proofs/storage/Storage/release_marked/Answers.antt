-- What is left to show of `release_marked`.
use Rattle.std.proofs.Common.{◌≡◌, ℕ, ◌+◌, Bool, false, get_or, sym, ◌∙◌, subst, get_or-take, arith}
use Rattle.forest.proofs.Marks.{ClearedBelow, cleared_next, cleared_over}
use Rattle.tables.specs.Objects.{look}
use Rattle.tables.specs.Stacks.{stack_room}
use Rattle.objects.specs.declared.storage.Storage.{Storage}
use Rattle.objects.proofs.storage.Storage.release_marked.Goals.{then-marked, else-marked}
use Rattle.objects.proofs.storage.Storage.release_marked.Goals as goal

pub loop-index-preserved : goal.loop-index-preserved
loop-index-preserved c =
    let m : ℕ → Bool = λ k. get_or c.args.marks.now k false in
    let s = c.args.self.now in
    let i = c.loop-index.index in
    let b = look c.loop-index.self.table in
    let inv = c.loop-index.invariant in
    let same = get_or-take c.len.result c.args.marks.now i false (omega arith) in
    let P : Storage → Type 0 = λ x. record { cleared : ClearedBelow m (look s.table) (look x.table) (i + 1); room : stack_room x.spare ≡ stack_room s.spare } in
    elim c.if-marked.branch [
      | then-marked w ↦
          subst P (sym w.self-is) (record {
            cleared = cleared_next m (look s.table) b i inv.cleared (look w.release.new.self.table) (sym same ∙ w.if-marked.true) w.release.ensures.after;
            room = w.release.ensures.room ∙ inv.room;
          })
      | else-marked w ↦ subst P (sym w.self-is) (record { cleared = cleared_over m (look s.table) b i inv.cleared (sym same ∙ w.if-marked.false); room = inv.room })
    ]
