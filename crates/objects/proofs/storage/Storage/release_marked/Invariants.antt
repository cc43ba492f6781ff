-- What stays true while marked objects leave use.
use Rattle.std.proofs.Common.{◌≡◌, false, get_or}
use Rattle.forest.proofs.Marks.{ClearedBelow}
use Rattle.tables.specs.Objects.{look}
use Rattle.tables.specs.Stacks.{stack_room}
use Rattle.objects.proofs.storage.Storage.release_marked.Given as goal

-- the marked objects below the index have left use
abbrev pub invariant-loop-index : goal.invariant-loop-index
invariant-loop-index l = record {
  cleared : ClearedBelow (λ k. get_or l.marks k false) (look l.initial.self.table) (look l.self.table) l.index;
  room : stack_room l.self.spare ≡ stack_room l.initial.self.spare;
}
