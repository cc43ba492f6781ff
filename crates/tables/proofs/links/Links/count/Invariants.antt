-- The numbers before `index` that are there are counted.
use Rattle.std.proofs.Common.{◌≡◌, ◌≤◌}
use Rattle.rules.specs.Indexed.{sum}
use Rattle.forest.specs.Forest.{has}
use Rattle.tables.specs.Links.{link}
use Rattle.tables.proofs.links.Links.count.Given as goal

abbrev pub invariant-loop-index : goal.invariant-loop-index
invariant-loop-index l = (l.count ≤ l.index) × (l.count ≡ sum l.index (λ k. has (link l.self k)))
