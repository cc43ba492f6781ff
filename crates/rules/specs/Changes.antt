-- What a call does to the store: to an object, to the cell that pays, and to known numbers. Assumes nothing.
use Rattle.std.specs.Prelude.{ℕ, ◌+◌, ◌-◌, List, [], ◌∷◌, ◌++◌, Some, None, Option}
use Rattle.rules.specs.Indexed.{assign}
use Rattle.rules.specs.Segments.{Pages, pages_written, pages_truncated}
use Rattle.rules.specs.Tree.{Cell, Tree, empty, segment, directory, Path}
use Rattle.rules.specs.Cells.{paying_path, charge}
use Rattle.rules.specs.KnownNumbers.{Known, free, means, after_removal}

-- the tree, and the known numbers of each process
pub record Store : Type 0 where
  pub tree : Tree
  pub numbers : ℕ → ℕ → Known

-- what becomes of a place: an object is put there, or removed with all below it,
-- or the grant of its cell, and what is left, are raised and lowered
pub data PlaceChange : Type 0 where
  create : (object : Tree) → PlaceChange
  remove : PlaceChange
  regrant : (up down : ℕ) → PlaceChange

-- what becomes of an object: one place of a directory changes,
-- or words are written into a segment, or only its first pages are kept
pub data Change : Type 0 where
  change_place : (place : ℕ) → PlaceChange → Change
  write_words : (first : ℕ) (words : List ℕ) → Change
  keep_pages : (count : ℕ) → Change

-- what a call does: nothing; its process's number n means the object at the place e of the call's object;
-- that number becomes free; or the call's object changes, and the cell that it uses pays and gets back so many records
pub data Effect : Type 0 where
  no_change : Effect
  set_number : (n e : ℕ) → Effect
  free_number : (n : ℕ) → Effect
  change : Change → (taken back : ℕ) → Effect

-- Objects

-- an object with the grant of its cell, and what is left, raised and lowered
abbrev pub with_grant : ℕ → ℕ → Tree → Tree
with_grant up down empty = empty
with_grant up down (segment ps) = segment ps
with_grant up down (directory l None places) = directory l None places
with_grant up down (directory l (Some c) places) =
    directory l (Some (record { granted = (c.granted + up) - down; left = (c.left + up) - down })) places

-- what a place holds after its change
abbrev pub place_after : PlaceChange → Tree → Tree
place_after (create object) t = object
place_after remove t = empty
place_after (regrant up down) t = with_grant up down t

-- the places of a directory after a change of it
abbrev pub places_after : Change → (ℕ → Tree) → ℕ → Tree
places_after (change_place e x) places = assign places e (place_after x (places e))
places_after (write_words first ws) places = places
places_after (keep_pages n) places = places

-- the pages of a segment after a change of it
abbrev pub pages_after : Change → Pages → Pages
pages_after (change_place e x) ps = ps
pages_after (write_words first ws) ps = pages_written ps first ws
pages_after (keep_pages n) ps = pages_truncated ps n

-- an object after a change of it
abbrev pub changed : Change → Tree → Tree
changed x empty = empty
changed x (segment ps) = segment (pages_after x ps)
changed x (directory l c places) = directory l c (places_after x places)

-- Paths

-- the tree with what stands at a path changed by f
abbrev pub modified : (Tree → Tree) → Path → Tree → Tree
modified f [] t = f t
modified f (i ∷ q) empty = empty
modified f (i ∷ q) (segment ps) = segment ps
modified f (i ∷ q) (directory l c places) = directory l c (assign places i (modified f q (places i)))

-- a cell, if there is one, changed by g
abbrev pub map_cell : (Cell → Cell) → Option Cell → Option Cell
map_cell g None = None
map_cell g (Some c) = Some (g c)

-- an object with its own cell changed by g
abbrev pub map_own_cell : (Cell → Cell) → Tree → Tree
map_own_cell g empty = empty
map_own_cell g (segment ps) = segment ps
map_own_cell g (directory l c places) = directory l (map_cell g c) places

-- the tree with the cell of the directory at a path, if there is one, changed by g
abbrev pub charged : (Cell → Cell) → Option Path → Tree → Tree
charged g None t = t
charged g (Some r) t = modified (map_own_cell g) r t

-- the tree after the cell that the object at q uses was charged, and then the object changed
abbrev pub paid_change : (Cell → Cell) → (Tree → Tree) → Path → Tree → Tree
paid_change g f q t = modified f q (charged g (paying_path q t) t)

-- Known numbers

-- a known number after a change of what stands at r
abbrev pub after_place_change : Path → PlaceChange → Known → Known
after_place_change r (create object) k = k
after_place_change r remove k = after_removal r k
after_place_change r (regrant up down) k = k

-- a known number after a change of the object at q
abbrev pub after_change : Path → Change → Known → Known
after_change q (change_place e x) k = after_place_change (q ++ (e ∷ [])) x k
after_change q (write_words first ws) k = k
after_change q (keep_pages n) k = k

-- Effects

-- the tree after an effect on the object at q
abbrev pub tree_after : Path → Effect → Tree → Tree
tree_after q no_change t = t
tree_after q (set_number n e) t = t
tree_after q (free_number n) t = t
tree_after q (change x taken back) t = paid_change (charge taken back) (changed x) q t

-- the known numbers after an effect of the process p on the object at q
abbrev pub numbers_after : ℕ → Path → Effect → (ℕ → ℕ → Known) → ℕ → ℕ → Known
numbers_after p q no_change known = known
numbers_after p q (set_number n e) known = assign known p (assign (known p) n (means (q ++ (e ∷ []))))
numbers_after p q (free_number n) known = assign known p (assign (known p) n free)
numbers_after p q (change x taken back) known = λ p' n. after_change q x (known p' n)

-- the store after that effect
abbrev pub store_after : ℕ → Path → Effect → Store → Store
store_after p q x w = record { tree = tree_after q x w.tree; numbers = numbers_after p q x w.numbers }
