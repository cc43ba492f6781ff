-- What a step makes of the table, in the rules' own terms, and what the memory of a store keeps. Assumes nothing.
use Rattle.std.specs.Prelude.{◌≡◌, ℕ}
use Rattle.labels.specs.declared.label.Label.{Label}
use Rattle.rules.specs.Tree.{Path}
use Rattle.rules.specs.Changes.{Effect, tree_after}
use Rattle.forest.specs.Nodes.{Nodes, IsLive, WellFormed}
use Rattle.forest.specs.Forest.{tree_of, path_to}
use Rattle.forest.specs.Accounts.{Accounted}
use Rattle.forest.specs.Spares.{Stocked, Served}

-- whatever words the volume holds, the tree is the one that the rules give
abbrev pub Enacted : Nodes → Nodes → Path → Effect → Type 0
Enacted a b q x = (w : ℕ → ℕ) → tree_of w b ≡ tree_after q x (tree_of w a)

-- an object that was in use is in use, at the same path
abbrev pub Stays : Nodes → Nodes → Type 0
Stays a b = (k : ℕ) → IsLive (a k).body → IsLive (b k).body × (path_to b k ≡ path_to a k)

-- a table of n + 1 objects over n pages of a volume, with the stacks of objects and of pages that are not in use
pub record Kept (n : ℕ) (a : Nodes) (object : ℕ → ℕ) (objects : ℕ) (page : ℕ → ℕ) (pages : ℕ) : Type 0 where
  pub formed : WellFormed a
  pub root : Label
  pub accounted : Accounted n root a
  pub stocked : Stocked n object objects a
  pub served : Served n page pages a
