-- What the rules find at an object's path: its label, the cell that it uses, and itself. Assumes nothing.
use Rattle.std.proofs.Common.{◌≡◌, ℕ, suc, true, false, [], ◌∷◌, ◌++◌, Some, None, Option, sym, refl, ap, ◌∙◌, subst, ap₂, true≢false}
use Rattle.labels.specs.declared.label.Label.{Label}
use Rattle.rules.specs.Cells.{cell_used, Found, nothing, found, find, no_cell}
use Rattle.rules.specs.Tree.{Tree, empty, segment, directory, Path, Cell, at}
use Rattle.forest.specs.Nodes.{Body, unused, seg, dir, Nodes, WellFormed, IsDir, IsLive, celled, Uses, own, parents}
use Rattle.forest.specs.Forest.{object_tree, entry_tree, tree_below, tree_of, path_to, dir_label, body_label, label_at, cell_or, cell_in, cell_at}
use Rattle.forest.proofs.Beneath.{parent_live, path_reaches}
use Rattle.forest.proofs.Levels.{at_tree, path_of_child}
use Rattle.forest.proofs.Paying.{holds_cell}

abbrev tree_cell : Tree → Cell
tree_cell empty = no_cell
tree_cell (segment ps) = no_cell
tree_cell (directory l c places) = cell_or c

abbrev tree_label : Tree → Label
tree_label empty = record { security = 0; integrity = 0 }
tree_label (segment ps) = record { security = 0; integrity = 0 }
tree_label (directory l c places) = l

-- a directory with a cell uses it
find_own : (p : Path) (t : Tree) (l : Label) (c : Cell) → holds_cell (at p t) ≡ true → find l c p t ≡ found (tree_label (at p t)) (tree_cell (at p t)) (at p t)
find_own [] empty l c h = absurd (true≢false (sym h))
find_own [] (segment ps) l c h = absurd (true≢false (sym h))
find_own [] (directory m None places) l c h = absurd (true≢false (sym h))
find_own [] (directory m (Some x) places) l c h = refl
find_own (i ∷ q) empty l c h = absurd (true≢false (sym h))
find_own (i ∷ q) (segment ps) l c h = absurd (true≢false (sym h))
find_own (i ∷ q) (directory m x places) l c h = find_own q (places i) m (cell_used x c) h

abbrev pub place_tree : ℕ → Tree → Tree
place_tree x empty = empty
place_tree x (segment ps) = empty
place_tree x (directory l c places) = places x

-- any other object the one that its directory uses
abbrev onward : ℕ → Found → Found
onward x nothing = nothing
onward x (found m k empty) = nothing
onward x (found m k (segment ps)) = nothing
onward x (found m k (directory l c places)) = find m k [] (places x)

find_up : (p : Path) (x : ℕ) (t : Tree) (l : Label) (c : Cell) → find l c (p ++ (x ∷ [])) t ≡ onward x (find l c p t)
find_up [] x empty l c = refl
find_up [] x (segment ps) l c = refl
find_up [] x (directory m y places) l c = refl
find_up (i ∷ q) x empty l c = refl
find_up (i ∷ q) x (segment ps) l c = refl
find_up (i ∷ q) x (directory m y places) l c = find_up q x (places i) m (cell_used y c)

pub at_place : (p : Path) (x : ℕ) (t : Tree) → at (p ++ (x ∷ [])) t ≡ place_tree x (at p t)
at_place [] x empty = refl
at_place [] x (segment ps) = refl
at_place [] x (directory m y places) = refl
at_place (i ∷ r) x empty = refl
at_place (i ∷ r) x (segment ps) = refl
at_place (i ∷ r) x (directory m y places) = at_place r x (places i)

pub place_object : (w : ℕ → ℕ) (t : Body) (ps : ℕ → Option ℕ) (places : ℕ → Tree) (x : ℕ) → IsDir t → place_tree x (object_tree w t ps places) ≡ places x
place_object w unused ps places x i = absurd i
place_object w seg ps places x i = absurd i
place_object w (dir m y) ps places x i = refl

module _ (a : Nodes) (s : WellFormed a) (w : ℕ → ℕ) where
  -- an object with a body, as it stands in the tree
  pub stands : (d : ℕ) → IsLive (a d).body → (n : ℕ) × (at (path_to a d) (tree_of w a) ≡ object_tree w (a d).body (a d).page (λ e. entry_tree (tree_below w (suc n) a) ((a d).entry e)))
  unfolding tree_below
  stands d l = let (n, h, _) = at_tree w a (path_to a d) d s (path_reaches a s d l) in (n, h)

  uncelled_found : (d : ℕ) → IsLive (a d).body → celled (a d).body ≡ false → (n : ℕ) (k : Cell) → find (dir_label (a (a d).parent).body) k [] (tree_below w (suc n) a d) ≡ found (label_at a d) k (tree_below w (suc n) a d)
  unfolding tree_below
  uncelled_found d l h n k = go (a d).body l h
    where
      go : (t : Body) → IsLive t → celled t ≡ false → find (dir_label (a (a d).parent).body) k [] (object_tree w t (a d).page (λ e. entry_tree (tree_below w n a) ((a d).entry e))) ≡ found (body_label a d t) k (object_tree w t (a d).page (λ e. entry_tree (tree_below w n a) ((a d).entry e)))
      go unused i f = absurd i
      go seg i f = refl
      go (dir m None) i f = refl
      go (dir m (Some x)) i f = absurd (true≢false f)

  pub found_at : (l₀ : Label) (c₀ : Cell) (d c : ℕ) → IsLive (a d).body → Uses a d c → find l₀ c₀ (path_to a d) (tree_of w a) ≡ found (label_at a d) (cell_at a c) (at (path_to a d) (tree_of w a))
  found_at l₀ c₀ d c l (own h) = go (stands d l)
    where
      celled_dir : (t : Body) → celled t ≡ true → (l : Label) × (x : Cell) × (t ≡ dir l (Some x))
      celled_dir unused q = absurd (true≢false (sym q))
      celled_dir seg q = absurd (true≢false (sym q))
      celled_dir (dir m None) q = absurd (true≢false (sym q))
      celled_dir (dir m (Some x)) q = (m, x, refl)

      go : (n : ℕ) × (at (path_to a d) (tree_of w a) ≡ object_tree w (a d).body (a d).page (λ e. entry_tree (tree_below w (suc n) a) ((a d).entry e))) → find l₀ c₀ (path_to a d) (tree_of w a) ≡ found (label_at a d) (cell_at a d) (at (path_to a d) (tree_of w a))
      go (n, e) =
          let (m, x, q) = celled_dir (a d).body h in
          let e' : at (path_to a d) (tree_of w a) ≡ directory m (Some x) (λ y. entry_tree (tree_below w (suc n) a) ((a d).entry y)) = e ∙ ap (λ t. object_tree w t (a d).page (λ y. entry_tree (tree_below w (suc n) a) ((a d).entry y))) q in
          find_own (path_to a d) (tree_of w a) l₀ c₀ (ap holds_cell e')
          ∙ ap₂ (λ u v. found u v (at (path_to a d) (tree_of w a))) (ap tree_label e' ∙ sym (ap (body_label a d) q)) (ap tree_cell e' ∙ sym (ap cell_in q))
  found_at l₀ c₀ d c l (parents z h u) =
      let up = parent_live a s d l z in
      let o = s.down (a d).parent (a d).place d (s.mirror d l z) in
      let (n, e) = stands (a d).parent up in
      let q = path_of_child a s d l z in
      let p = path_to a (a d).parent in
      ap (λ r. find l₀ c₀ r (tree_of w a)) q ∙ find_up p (a d).place (tree_of w a) l₀ c₀
      ∙ ap (onward (a d).place) (found_at l₀ c₀ (a d).parent c up u ∙ ap (found (label_at a (a d).parent) (cell_at a c)) e)
      ∙ child (a (a d).parent).body refl o.whole _ (cell_at a c)
      ∙ ap (λ (v : Option ℕ). find (dir_label (a (a d).parent).body) (cell_at a c) [] (entry_tree (tree_below w (suc n) a) v)) (s.mirror d l z)
      ∙ uncelled_found d l h n (cell_at a c)
      ∙ ap (found (label_at a d) (cell_at a c)) (sym (below p n e o.whole) ∙ ap (λ r. at r (tree_of w a)) (sym q))
    where
      child : (t : Body) → (a (a d).parent).body ≡ t → IsDir t → (places : ℕ → Tree) (k : Cell)
          → onward (a d).place (found (label_at a (a d).parent) k (object_tree w (a (a d).parent).body (a (a d).parent).page places)) ≡ find (dir_label (a (a d).parent).body) k [] (places (a d).place)
      child unused q i places k = absurd i
      child seg q i places k = absurd i
      child (dir m x) q i places k =
          subst (λ (t : Body). onward (a d).place (found (body_label a (a d).parent t) k (object_tree w t (a (a d).parent).page places)) ≡ find (dir_label t) k [] (places (a d).place)) (sym q) refl

      below : (p : Path) (n : ℕ) → at p (tree_of w a) ≡ object_tree w (a (a d).parent).body (a (a d).parent).page (λ e. entry_tree (tree_below w (suc n) a) ((a (a d).parent).entry e)) → IsDir (a (a d).parent).body
          → at (p ++ ((a d).place ∷ [])) (tree_of w a) ≡ tree_below w (suc n) a d
      below p n e i = at_place p (a d).place (tree_of w a) ∙ ap (place_tree (a d).place) e ∙ place_object w (a (a d).parent).body _ _ (a d).place i ∙ ap (entry_tree (tree_below w (suc n) a)) (s.mirror d l z)
