-- Every record is in a cell, an object or a present page. Assumes nothing.
use Rattle.std.specs.Prelude.{ℕ, ◌≤◌}
use Rattle.labels.specs.declared.label.Label.{Label}
use Rattle.rules.proofs.Balance.{Fit, Rooted}
use Rattle.forest.specs.Nodes.{Nodes}
use Rattle.forest.specs.Forest.{tree_of}

-- no words: they do not count
abbrev pub blank : ℕ → ℕ
blank i = 0

-- each cell's left and what its directory has given out are its grant; the root has the label r, and its grant is n
pub record Accounted (n : ℕ) (r : Label) (a : Nodes) : Type 0 where
  pub fit : Fit (tree_of blank a)
  pub rooted : Rooted n r (tree_of blank a)
  pub few : n ≤ 256
