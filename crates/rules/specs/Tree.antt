-- The tree of directories and segments. Assumes nothing.
use Rattle.std.specs.Prelude.{ℕ, zero, suc, Bool, true, false, List, [], ◌∷◌, Some, None, Option}
use Rattle.labels.specs.declared.label.Label.{Label}
use Rattle.rules.specs.Segments.{absent, Pages}

-- a quota cell: the records granted, and those left
pub record Cell : Type 0 where
  pub granted : ℕ
  pub left : ℕ

-- what a place holds: nothing, a segment with its pages,
-- or a directory with its label, its cell if it has one, and its places
pub data Tree : Type 0 where
  empty : Tree
  segment : (pages : Pages) → Tree
  directory : (label : Label) (cell : Option Cell) (places : ℕ → Tree) → Tree

-- the places from the root to an object
abbrev pub Path : Type 0
Path = List ℕ

-- what stands at a path
abbrev pub at : Path → Tree → Tree
at [] t = t
at (i ∷ q) empty = empty
at (i ∷ q) (segment ps) = empty
at (i ∷ q) (directory l c places) = at q (places i)

-- whether a place is empty
abbrev pub is_empty : Tree → Bool
is_empty empty = true
is_empty (segment ps) = false
is_empty (directory l c places) = false

-- Entries

-- the sort of an object: 1 segment, 2 directory
abbrev pub sort_of : Tree → ℕ
sort_of empty = 0
sort_of (segment ps) = 1
sort_of (directory l c places) = 2

-- the label of an object in a directory with the label l: a segment has its directory's
abbrev pub label_in : Label → Tree → Label
label_in l empty = l
label_in l (segment ps) = l
label_in l (directory m c places) = m

-- the grant of a directory: 0 where it has no cell
abbrev pub grant_of : Option Cell → ℕ
grant_of None = 0
grant_of (Some c) = c.granted

-- New objects

-- a segment without pages
abbrev pub new_segment : Tree
new_segment = segment (λ k. absent)

-- the cell of a new directory: none for a grant of 0
abbrev pub new_cell : ℕ → Option Cell
new_cell zero = None
new_cell (suc n) = Some (record { granted = suc n; left = suc n })

-- a directory with empty places
abbrev pub new_directory : Label → ℕ → Tree
new_directory l grant = directory l (new_cell grant) (λ i. empty)
