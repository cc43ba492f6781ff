-- Quota cells: what an object costs, and which cell it uses. Assumes nothing.
use Rattle.std.specs.Prelude.{ℕ, ◌+◌, ◌-◌, Bool, true, false, cond, [], ◌∷◌, Some, None, Option}
use Rattle.labels.specs.declared.label.Label.{Label}
use Rattle.rules.specs.Indexed.{sum}
use Rattle.rules.specs.Segments.{present_pages}
use Rattle.rules.specs.Tree.{Cell, Tree, empty, segment, directory, Path}

-- what an object takes of the cell that its directory uses: one record for itself, and then its grant if it has a cell,
-- or what its pages or the objects in it take
abbrev pub cost : Tree → ℕ
cost empty = 0
cost (segment ps) = 1 + present_pages ps
cost (directory l None places) = 1 + sum 16 (λ i. cost (places i))
cost (directory l (Some c) places) = 1 + c.granted

-- a directory with a cell uses it, any other the cell that its parent uses
abbrev pub cell_used : Option Cell → Cell → Cell
cell_used None c = c
cell_used (Some c') c = c'

-- what stands at a path: nothing, or an object with its label and the cell that it uses
pub data Found : Type 0 where
  nothing : Found
  found : (label : Label) (cell : Cell) (object : Tree) → Found

-- what stands at a path of a tree in a directory with the label l that uses the cell c
abbrev pub find : Label → Cell → Path → Tree → Found
find l c [] empty = nothing
find l c [] (segment ps) = found l c (segment ps)
find l c [] (directory m c' places) = found m (cell_used c' c) (directory m c' places)
find l c (i ∷ q) empty = nothing
find l c (i ∷ q) (segment ps) = nothing
find l c (i ∷ q) (directory m c' places) = find m (cell_used c' c) q (places i)

-- above the root, which has a cell, nothing is granted
abbrev pub no_cell : Cell
no_cell = record { granted = 0; left = 0 }

-- The paying cell

-- whether there is a cell
abbrev pub has_cell : Option Cell → Bool
has_cell None = false
has_cell (Some c) = true

-- a path that begins at the place i; or, where there is none, the directory itself if it has a cell
abbrev pub below_or_here : ℕ → Option Path → Option Cell → Option Path
below_or_here i (Some r) c = Some (i ∷ r)
below_or_here i None c = cond (has_cell c) (Some []) None

-- the path of the directory whose cell the object at a path uses: the nearest on it that has a cell
abbrev pub paying_path : Path → Tree → Option Path
paying_path [] empty = None
paying_path [] (segment ps) = None
paying_path [] (directory l c places) = cond (has_cell c) (Some []) None
paying_path (i ∷ q) empty = None
paying_path (i ∷ q) (segment ps) = None
paying_path (i ∷ q) (directory l c places) = below_or_here i (paying_path q (places i)) c

-- a cell after some records were taken from it and some came back
abbrev pub charge : ℕ → ℕ → Cell → Cell
charge taken back c = record { granted = c.granted; left = (c.left + back) - taken }
