-- The tree that a table of objects stands for, over the words of a volume. Assumes nothing.
use Rattle.std.specs.Prelude.{ℕ, zero, suc, ◌+◌, ◌*◌, cond, List, [], ◌∷◌, ◌++◌, Some, None, Option, nat_lt}
use Rattle.labels.specs.declared.label.Label.{Label}
use Rattle.rules.specs.Indexed.{sum, tabulate}
use Rattle.rules.specs.Segments.{Page, absent, present, Pages}
use Rattle.rules.specs.Tree.{Cell, Tree, empty, segment, directory, Path}
use Rattle.rules.specs.Cells.{no_cell}
use Rattle.rules.specs.Balance.{left_in}
use Rattle.forest.specs.Nodes.{Body, unused, seg, dir, Node, Nodes}

-- Pages

-- the 16 words of a volume page, where w tells every word of the volume
abbrev pub content : (ℕ → ℕ) → ℕ → List ℕ
content w v = tabulate 16 (λ j. w (v * 16 + j))

-- a page is present where a volume page serves it
abbrev pub page_of : (ℕ → ℕ) → Option ℕ → Page
page_of w None = absent
page_of w (Some v) = present (content w v)

abbrev pub pages_of : (ℕ → ℕ) → (ℕ → Option ℕ) → Pages
pages_of w ps k = page_of w (ps k)

-- the volume pages of the pages below keep alone
abbrev pub cut_links : ℕ → (ℕ → Option ℕ) → ℕ → Option ℕ
cut_links keep ps k = cond (nat_lt k keep) (ps k) None

-- Trees

-- an object as a tree: its body, its pages, and what stands at its places
abbrev pub object_tree : (ℕ → ℕ) → Body → (ℕ → Option ℕ) → (ℕ → Tree) → Tree
object_tree w unused ps places = empty
object_tree w seg ps places = segment (pages_of w ps)
object_tree w (dir l c) ps places = directory l c places

-- an object with no pages and nothing at its places
abbrev pub bare_tree : Body → Tree
bare_tree b = object_tree (λ _. 0) b (λ _. None) (λ _. empty)

-- what an entry leads to
abbrev pub entry_tree : (ℕ → Tree) → Option ℕ → Tree
entry_tree f None = empty
entry_tree f (Some j) = f j

-- the tree below the object i, so many levels of it
unfoldable pub tree_below : (ℕ → ℕ) → ℕ → Nodes → ℕ → Tree
tree_below w zero a i = empty
tree_below w (suc n) a i = object_tree w (a i).body (a i).page (λ e. entry_tree (tree_below w n a) ((a i).entry e))

-- the tree below the root; no object lies deeper than 256
unfoldable pub tree_of : (ℕ → ℕ) → Nodes → Tree
tree_of w a = tree_below w 258 a 0

-- Paths

-- the object at the end of a path from i
abbrev pub reach : Nodes → ℕ → Path → Option ℕ
reach a i [] = Some i
reach a i (e ∷ p) = elim ((a i).entry e) [ None ↦ None | Some j ↦ reach a j p ]

-- the path to an object, so many parents up
unfoldable pub path_up : ℕ → Nodes → ℕ → Path
path_up zero a k = []
path_up (suc n) a k = path_up n a (a k).parent ++ ((a k).place ∷ [])

-- the path from the root to an object
abbrev pub path_to : Nodes → ℕ → Path
path_to a k = path_up (a k).depth a k

-- Records

-- 1 where something is there
abbrev pub has : Option ℕ → ℕ
has None = 0
has (Some v) = 1

-- the records that an object stands for: one for itself, one for each present page, and what is left in its cell
abbrev pub weight_of : Body → (ℕ → Option ℕ) → ℕ
weight_of unused ps = 0
weight_of seg ps = 1 + sum 16 (λ k. has (ps k))
weight_of (dir l c) ps = 1 + left_in c

abbrev pub weight : Node → ℕ
weight n = weight_of n.body n.page

-- Labels and cells

abbrev pub no_label : Label
no_label = record { security = 0; integrity = 0 }

abbrev pub dir_label : Body → Label
dir_label unused = no_label
dir_label seg = no_label
dir_label (dir l c) = l

-- the label of the object d, by its body: a segment has its directory's
abbrev pub body_label : Nodes → ℕ → Body → Label
body_label a d unused = no_label
body_label a d seg = dir_label (a (a d).parent).body
body_label a d (dir l c) = l

abbrev pub label_at : Nodes → ℕ → Label
label_at a d = body_label a d (a d).body

abbrev pub cell_or : Option Cell → Cell
cell_or None = no_cell
cell_or (Some c) = c

abbrev pub cell_in : Body → Cell
cell_in unused = no_cell
cell_in seg = no_cell
cell_in (dir l c) = cell_or c

-- the cell of an object that has one
abbrev pub cell_at : Nodes → ℕ → Cell
cell_at a c = cell_in (a c).body
