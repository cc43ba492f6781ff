-- What holds of the store after each call of a history. Assumes nothing.
use Rattle.std.specs.Prelude.{◌≡◌, ℕ, ◌≤◌, true, false, List, [], length, Some, None, Option}
use Rattle.labels.specs.declared.label.Label.{Label}
use Rattle.labels.specs.Labels.{below}
use Rattle.rules.specs.Segments.{absent, present, Pages}
use Rattle.rules.specs.Tree.{Cell, Tree, empty, segment, directory, Path, at, is_empty}
use Rattle.rules.specs.Cells.{found, find, no_cell, paying_path}
use Rattle.rules.specs.KnownNumbers.{free, means}
use Rattle.rules.specs.Changes.{Store}
use Rattle.rules.specs.Setup.{Setup, opened, process_label, Beginning, Granted, set_up}
use Rattle.rules.specs.Responses.{RawCall}
use Rattle.rules.specs.Histories.{after_all}
use Rattle.rules.specs.Balance.{objects_below}

module _ (s : Setup) (w : Store) where
  -- the root is a directory with the tested label, and its cell is granted all records
  abbrev pub RootStands : Type 0
  RootStands = (c : Cell) × (places : ℕ → Tree) × (w.tree ≡ directory s.root (Some c) places) × (c.granted ≡ s.records)

  -- a known number of an admitted process that means an object means one that stands, with a label below the process's
  abbrev pub KnownStandsBelow : Type 0
  KnownStandsBelow =
      (p n : ℕ) (me : Label) (q : Path) → process_label s p ≡ Some me → w.numbers p n ≡ means q
      → (l : Label) × (c : Cell) × (t : Tree) × (find s.root no_cell q w.tree ≡ found l c t) × (below s.orders l me ≡ true)

  -- a directory's label is below those of the directories in it
  abbrev pub LabelsGrow : Type 0
  LabelsGrow =
      (q : Path) (l : Label) (c : Option Cell) (places : ℕ → Tree) → at q w.tree ≡ directory l c places
      → (i : ℕ) (m : Label) (c' : Option Cell) (places' : ℕ → Tree) → places i ≡ directory m c' places' → below s.orders l m ≡ true

  -- there are no more objects below the root than records
  abbrev pub FewObjects : Type 0
  FewObjects = objects_below w.tree ≤ s.records

  -- the cell that an object uses is found: it is that of the nearest directory on its path with a cell
  abbrev pub PayingCellFound : Type 0
  PayingCellFound =
      (q : Path) (l : Label) (c : Cell) (t : Tree) → find s.root no_cell q w.tree ≡ found l c t
      → (r : Path) × (m : Label) × (places : ℕ → Tree) × (paying_path q w.tree ≡ Some r) × (at r w.tree ≡ directory m (Some c) places)

module _ (w : Store) where
  -- number 0 of each process means the root
  abbrev pub ZeroMeansRoot : Type 0
  ZeroMeansRoot = (p : ℕ) → w.numbers p 0 ≡ means []

  -- a process has no known number past 15
  abbrev pub SixteenNumbers : Type 0
  SixteenNumbers = (p n : ℕ) → 16 ≤ n → w.numbers p n ≡ free

  -- a directory without a cell has its parent's label
  abbrev pub NoCellSameLabel : Type 0
  NoCellSameLabel =
      (q : Path) (l : Label) (c : Option Cell) (places : ℕ → Tree) → at q w.tree ≡ directory l c places
      → (i : ℕ) (m : Label) (places' : ℕ → Tree) → places i ≡ directory m None places' → m ≡ l

  -- a directory has 16 places
  abbrev pub SixteenPlaces : Type 0
  SixteenPlaces =
      (q : Path) (l : Label) (c : Option Cell) (places : ℕ → Tree) → at q w.tree ≡ directory l c places
      → (i : ℕ) → 16 ≤ i → places i ≡ empty

  -- a segment has 16 pages
  abbrev pub SixteenPages : Type 0
  SixteenPages = (q : Path) (ps : Pages) → at q w.tree ≡ segment ps → (k : ℕ) → 16 ≤ k → ps k ≡ absent

  -- a present page has 16 words
  abbrev pub SixteenWords : Type 0
  SixteenWords =
      (q : Path) (ps : Pages) → at q w.tree ≡ segment ps → (k : ℕ) (ws : List ℕ) → ps k ≡ present ws → length ws ≡ 16

  -- an object is no deeper than there are objects below the root
  abbrev pub DepthBounded : Type 0
  DepthBounded = (q : Path) → is_empty (at q w.tree) ≡ false → length q ≤ objects_below w.tree

-- all of these
pub record Invariants (s : Setup) (w : Store) : Type 0 where
  pub root : RootStands s w
  pub number_zero : ZeroMeansRoot w
  pub sixteen_numbers : SixteenNumbers w
  pub known : KnownStandsBelow s w
  pub labels : LabelsGrow s w
  pub no_cell_labels : NoCellSameLabel w
  pub sixteen_places : SixteenPlaces w
  pub sixteen_pages : SixteenPages w
  pub sixteen_words : SixteenWords w
  pub few_objects : FewObjects s w
  pub depth : DepthBounded w
  pub paying_cell : PayingCellFound s w

-- they hold before the first call and after each, of every setup
abbrev pub InvariantsKept : Type 0
InvariantsKept = (b : Beginning) → Granted b → (cs : List RawCall) → Invariants (set_up b) (after_all (set_up b) (opened (set_up b)) cs)
