-- A table of objects as a function from indices to nodes, and what always holds of it. Assumes nothing.
use Rattle.std.specs.Prelude.{◌≡◌, ℕ, suc, ◌+◌, ◌-◌, ◌<◌, Bool, true, false, cond, Some, None, MatchBool, Option, ◌≢◌}
use Rattle.labels.specs.declared.label.Label.{Label}
use Rattle.rules.specs.Indexed.{assign}
use Rattle.rules.specs.Tree.{Cell}
use Rattle.rules.specs.Cells.{has_cell, charge}
use Rattle.rules.specs.Changes.{map_cell}

-- what an object is: not in use, a segment, or a directory with its label and cell
pub data Body : Type 0 where
  unused : Body
  seg : Body
  dir : (label : Label) (cell : Option Cell) → Body

-- an object: its directory, the place there, how deep it lies and whose cell it uses;
-- the object at each place of a directory, and the volume page of each page of a segment
pub record Node : Type 0 where
  pub body : Body
  pub parent : ℕ
  pub place : ℕ
  pub depth : ℕ
  pub payer : ℕ
  pub entry : ℕ → Option ℕ
  pub page : ℕ → Option ℕ

abbrev pub Nodes : Type 0
Nodes = ℕ → Node

-- what an index past the table stands for
abbrev pub nowhere : Node
nowhere = record { body = unused; parent = 0; place = 0; depth = 0; payer = 0; entry = λ _. None; page = λ _. None }

-- Changes of one node

abbrev pub with_body : Node → Body → Node
with_body n b = record { body = b; parent = n.parent; place = n.place; depth = n.depth; payer = n.payer; entry = n.entry; page = n.page }

abbrev pub with_entry : Node → ℕ → Option ℕ → Node
with_entry n e v = record { body = n.body; parent = n.parent; place = n.place; depth = n.depth; payer = n.payer; entry = assign n.entry e v; page = n.page }

abbrev pub with_pages : Node → (ℕ → Option ℕ) → Node
with_pages n ps = record { body = n.body; parent = n.parent; place = n.place; depth = n.depth; payer = n.payer; entry = n.entry; page = ps }

abbrev pub with_page : Node → ℕ → Option ℕ → Node
with_page n k v = with_pages n (assign n.page k v)

abbrev pub with_place : Node → ℕ → ℕ → ℕ → ℕ → Node
with_place n p e d y = record { body = n.body; parent = p; place = e; depth = d; payer = y; entry = n.entry; page = n.page }

-- an object that is no longer in use; where it stood stays written there
abbrev pub cleared : Node → Node
cleared n = record { body = unused; parent = n.parent; place = n.place; depth = n.depth; payer = n.payer; entry = λ _. None; page = λ _. None }

-- Bodies

abbrev pub IsDir : Body → Type 0
IsDir unused = ⊥
IsDir seg = ⊥
IsDir (dir l c) = Unit {0}

abbrev pub IsSeg : Body → Type 0
IsSeg unused = ⊥
IsSeg seg = Unit {0}
IsSeg (dir l c) = ⊥

abbrev pub IsLive : Body → Type 0
IsLive unused = ⊥
IsLive seg = Unit {0}
IsLive (dir l c) = Unit {0}

-- whether it is in use
abbrev pub is_live : Body → Bool
is_live unused = false
is_live seg = true
is_live (dir l c) = true

-- whether it has a cell
abbrev pub celled : Body → Bool
celled unused = false
celled seg = false
celled (dir l c) = has_cell c

-- with its cell, if it has one, charged
abbrev pub charged_body : ℕ → ℕ → Body → Body
charged_body p q unused = unused
charged_body p q seg = seg
charged_body p q (dir l c) = dir l (map_cell (charge p q) c)

-- with the grant of its cell, and what is left, raised and lowered
abbrev pub regranted : ℕ → ℕ → Cell → Cell
regranted p q c = record { granted = (c.granted + p) - q; left = (c.left + p) - q }

abbrev pub regranted_body : ℕ → ℕ → Body → Body
regranted_body p q unused = unused
regranted_body p q seg = seg
regranted_body p q (dir l c) = dir l (map_cell (regranted p q) c)

-- The table

-- the entry e of i holds j: j is live, and says so itself
pub record Holds (a : Nodes) (i e j : ℕ) : Type 0 where
  pub whole : IsDir (a i).body
  pub within : e < 16
  pub live : IsLive (a j).body
  pub up : (a j).parent ≡ i
  pub place : (a j).place ≡ e
  pub depth : (a j).depth ≡ suc (a i).depth

-- entries and parents mirror one another, from the root at 0 down; the root has a cell; an object that is not in use has no pages;
-- and an object with a cell uses it, any other the one that its directory uses
pub record WellFormed (a : Nodes) : Type 0 where
  pub root : IsDir (a 0).body
  pub funds : celled (a 0).body ≡ true
  pub top : (a 0).depth ≡ 0
  pub few : (k : ℕ) → IsLive (a k).body → k < 257
  pub down : (i e j : ℕ) → (a i).entry e ≡ Some j → Holds a i e j
  pub mirror : (j : ℕ) → IsLive (a j).body → (j ≢ 0) → (a (a j).parent).entry (a j).place ≡ Some j
  pub pages : (i k v : ℕ) → (a i).page k ≡ Some v → IsSeg (a i).body × (k < 16)
  pub pays : (k : ℕ) → IsLive (a k).body → (a k).payer ≡ cond (celled (a k).body) k (a (a k).parent).payer

-- i is top, or its parent lies under top
pub data Under (a : Nodes) (top : ℕ) : ℕ → Type 0 where
  itself : Under a top top
  above : {i : ℕ} → (i ≢ 0) → Under a top (a i).parent → Under a top i

-- d uses c's cell: its own, or the one that its parent uses
pub data Uses (a : Nodes) : ℕ → ℕ → Type 0 where
  own : {d : ℕ} → celled (a d).body ≡ true → Uses a d d
  parents : {d c : ℕ} → (d ≢ 0) → celled (a d).body ≡ false → Uses a (a d).parent c → Uses a d c

-- b tells whether k is in use and lies under top
abbrev pub Tells : Nodes → ℕ → ℕ → Bool → Type 0
Tells a top k b = MatchBool b (IsLive (a k).body × Under a top k) (IsLive (a k).body → Under a top k → ⊥)
