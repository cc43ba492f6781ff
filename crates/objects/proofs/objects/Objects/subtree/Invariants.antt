-- What stays true while a subtree is marked.
use Rattle.std.proofs.Common.{◌≡◌, ℕ, ◌<◌, ◌≤◌, false, length, get_or}
use Rattle.forest.specs.Nodes.{Tells}
use Rattle.tables.specs.Objects.{look}
use Rattle.objects.proofs.objects.Objects.subtree.Given as goal

abbrev pub invariant-loop-index : goal.invariant-loop-index
invariant-loop-index l =
    (length l.marks ≡ 257)
    × ((k : ℕ) → k < l.index → Tells (look l.self.storage.table) l.top k (get_or l.marks k false))
    × ((k : ℕ) → l.index ≤ k → get_or l.marks k false ≡ false)
