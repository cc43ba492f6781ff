-- What stays true on the way up.
use Rattle.forest.specs.Nodes.{IsLive, Under}
use Rattle.tables.specs.Objects.{look}
use Rattle.objects.proofs.objects.Objects.lies_under.Given as goal

-- what lies under top does so from the index as from where the walk has come
abbrev pub invariant-loop-at : goal.invariant-loop-at
invariant-loop-at l =
    IsLive (look l.self.storage.table l.at).body
    × (Under (look l.self.storage.table) l.top l.at → Under (look l.self.storage.table) l.top l.index)
    × (Under (look l.self.storage.table) l.top l.index → Under (look l.self.storage.table) l.top l.at)

abbrev pub decreases-loop-at : goal.decreases-loop-at
decreases-loop-at l = (look l.self.storage.table l.at).depth
