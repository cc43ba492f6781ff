-- Balance: records left, present pages and objects add up to what was granted. Assumes nothing.
use Rattle.std.specs.Prelude.{◌≡◌, ℕ, ◌+◌, ◌≤◌, List, take, Some, None, Option}
use Rattle.labels.specs.declared.label.Label.{Label}
use Rattle.rules.specs.Indexed.{sum}
use Rattle.rules.specs.Segments.{present_pages}
use Rattle.rules.specs.Tree.{Cell, Tree, empty, segment, directory, Path, at}
use Rattle.rules.specs.Setup.{Setup, used_pages, opened, Beginning, set_up}
use Rattle.rules.specs.Responses.{RawCall}
use Rattle.rules.specs.Histories.{after_all}

-- what a cell has left, if there is one
abbrev pub left_in : Option Cell → ℕ
left_in None = 0
left_in (Some c) = c.left

-- the records left in the cells of an object and of all below it
abbrev pub records_left : Tree → ℕ
records_left empty = 0
records_left (segment ps) = 0
records_left (directory l c places) = left_in c + sum 16 (λ i. records_left (places i))

-- the present pages of an object and of all below it
abbrev pub all_pages : Tree → ℕ
all_pages empty = 0
all_pages (segment ps) = present_pages ps
all_pages (directory l c places) = sum 16 (λ i. all_pages (places i))

-- an object and all below it, counted
abbrev pub all_objects : Tree → ℕ
all_objects empty = 0
all_objects (segment ps) = 1
all_objects (directory l c places) = 1 + sum 16 (λ i. all_objects (places i))

-- the objects below an object
abbrev pub objects_below : Tree → ℕ
objects_below empty = 0
objects_below (segment ps) = 0
objects_below (directory l c places) = sum 16 (λ i. all_objects (places i))

-- what is in and below a directory: records left, present pages and objects, but not the directory itself
abbrev pub in_and_below : Tree → ℕ
in_and_below t = records_left t + all_pages t + objects_below t

-- the records of a tree balance
pub record Balanced (n : ℕ) (t : Tree) : Type 0 where
  -- in and below the root are n
  pub whole : in_and_below t ≡ n
  -- in and below each directory with a cell are as many as its grant
  pub each_grant : (q : Path) (l : Label) (c : Cell) (places : ℕ → Tree) → at q t ≡ directory l (Some c) places
      → in_and_below (at q t) ≡ c.granted
  -- no cell has more left than granted
  pub not_more : (q : Path) (l : Label) (c : Cell) (places : ℕ → Tree) → at q t ≡ directory l (Some c) places
      → c.left ≤ c.granted

-- before the first call, and after each
abbrev pub Balances : Setup → ℕ → Type 0
Balances s n = (cs : List RawCall) (k : ℕ) → Balanced n (after_all s (opened s) (take k cs)).tree

-- this holds of every setup, whatever its orders
abbrev pub Balance : Type 0
Balance = (b : Beginning) → Balances (set_up b) (used_pages b.pages)
