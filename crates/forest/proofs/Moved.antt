-- Quota moves between the cell that a directory uses and that of a directory at one of its places. Assumes nothing.
use Rattle.std.proofs.Common.{◌≡◌, ℕ, suc, ◌+◌, ◌-◌, ◌≤◌, [], ◌∷◌, ◌++◌, Some, sym, refl, ap, ◌∙◌, subst, arith}
use Rattle.rules.proofs.Assign.{assign_same, assign_other}
use Rattle.labels.specs.declared.label.Label.{Label}
use Rattle.rules.proofs.Balance.{Fit, fit_at, census}
use Rattle.rules.specs.Cells.{cost}
use Rattle.rules.specs.Changes.{regrant, with_grant, change_place, changed, change, tree_after, modified}
use Rattle.rules.specs.Indexed.{assign}
use Rattle.rules.specs.Tree.{directory, Cell, at}
use Rattle.forest.specs.Nodes.{Body, dir, Node, Nodes, WellFormed, IsDir, IsLive, charged_body, regranted_body, with_body, Uses, own, parents}
use Rattle.forest.specs.Forest.{object_tree, entry_tree, tree_below, tree_of, reach, path_to, cell_at, weight}
use Rattle.forest.specs.Accounts.{Accounted, blank}
use Rattle.forest.proofs.Depth.{dir_live}
use Rattle.forest.proofs.Beneath.{path_reaches, parent_depth, parent_live}
use Rattle.forest.proofs.Levels.{at_tree, directory_at, path_at_place, modified_place_after}
use Rattle.forest.proofs.Pays.{charge_sound, charge_other, charge_live, charge_path, charge_pages, charge_tree, paid_sound, paid_path, recelled_tree}
use Rattle.forest.proofs.Found.{place_tree, stands}
use Rattle.forest.proofs.Tally.{tally_bound, burden, burden_tally}
use Rattle.forest.proofs.Accounts.{accounted_after, fair_change, place_some, table_records}

module _ (a : Nodes) (s : WellFormed a) (r : ℕ) (root : Label) (acc : Accounted r root a) (x : ℕ) (m : Label) (y : Cell) (was : (a x).body ≡ dir m (Some y)) where
  live_x : IsLive (a x).body
  live_x = subst IsLive (sym was) tt

  pub there : (n : ℕ) × (at (path_to a x) (tree_of blank a) ≡ directory m (Some y) (λ e. entry_tree (tree_below blank (suc n) a) ((a x).entry e)))
  there = let (n, e) = stands a s blank x live_x in (n, e ∙ ap (λ t. object_tree blank t (a x).page (λ e. entry_tree (tree_below blank (suc n) a) ((a x).entry e))) was)

  -- a cell has no more left than it was granted, and was granted no more than the store's records
  pub cell_bounds : (y.left ≤ y.granted) × (y.granted ≤ r)
  cell_bounds =
      let (n, e) = there in
      let f = (subst Fit e (fit_at (path_to a x) (tree_of blank a) acc.fit)).0 in
      let (k, h, deep) = at_tree blank a (path_to a x) x s (path_reaches a s x live_x) in
      let whole = census (at (path_to a x) (tree_of blank a)) (fit_at (path_to a x) (tree_of blank a) acc.fit) in
      let costs : cost (at (path_to a x) (tree_of blank a)) ≡ 1 + y.granted = ap cost e in
      let same = ap burden h ∙ burden_tally blank a s (suc (suc k)) x in
      let bound = tally_bound a s (suc (suc k)) x (λ i. weight (a i)) live_x (omega arith) in
      let all = table_records a s r root acc in
      (omega arith, omega arith)

-- the payer lies no deeper than d
pub payer_high : (a : Nodes) (s : WellFormed a) (d c : ℕ) → IsLive (a d).body → Uses a d c → (a c).depth ≤ (a d).depth
payer_high a s d c l (own h) = omega arith
payer_high a s d c l (parents z h u) =
    let up = parent_depth a s d l z in
    let ih = payer_high a s (a d).parent c (parent_live a s d l z) u in
    omega arith

-- and so is not what stands at a place of d
pub moved_same : (a a₁ : Nodes) (s : WellFormed a) (d e x c p q : ℕ) → (a d).entry e ≡ Some x → Uses a d c → a₁ ≡ assign a c (with_body (a c) (charged_body p q (a c).body)) → (a₁ x).body ≡ (a x).body
moved_same a a₁ s d e x c p q holds uses w₀ =
    let l = dir_live (a d).body (s.down d e x holds).whole in
    let h = payer_high a s d c l uses in
    let v = (s.down d e x holds).depth in
    ap (λ (n : Node). n.body) (charge_other a a₁ s d c p q l uses w₀ x (λ t. let g = ap (λ (k : ℕ). (a k).depth) t in omega arith))

module _ (a a₁ b : Nodes) (s : WellFormed a) (d e x c p q : ℕ) (m : Label) (y : Cell) (holds : (a d).entry e ≡ Some x) (was : (a x).body ≡ dir m (Some y)) (uses : Uses a d c)
    (w₀ : a₁ ≡ assign a c (with_body (a c) (charged_body p q (a c).body)))
    (w₁ : b ≡ assign a₁ x (with_body (a₁ x) (regranted_body p q (a₁ x).body))) where
  whole : IsDir (a d).body
  whole = (s.down d e x holds).whole

  live_d : IsLive (a d).body
  live_d = dir_live (a d).body whole

  s₁ : WellFormed a₁
  s₁ = charge_sound a a₁ s d c p q live_d uses w₀

  was₁ : (a₁ x).body ≡ dir m (Some y)
  was₁ = moved_same a a₁ s d e x c p q holds uses w₀ ∙ was

  here : b ≡ assign a₁ x (with_body (a₁ x) (dir m (Some (record { granted = (y.granted + p) - q; left = (y.left + p) - q }))))
  here = w₁ ∙ ap (λ (t : Body). assign a₁ x (with_body (a₁ x) (regranted_body p q t))) was₁

  pub moved_sound : WellFormed b
  moved_sound = paid_sound a₁ b s₁ x m y _ was₁ here

  pub moved_path : (i : ℕ) → IsLive (a i).body → path_to b i ≡ path_to a i
  moved_path i l = paid_path a₁ b s₁ x m y _ was₁ here i (charge_live a a₁ s d c p q live_d uses w₀ i l) ∙ charge_path a a₁ s d c p q live_d uses w₀ i l

  pub moved_live : (i : ℕ) → IsLive (a i).body → IsLive (b i).body
  moved_live i l = go (native.Mathlib.Decide.ℕ_discrete i x)
    where
      go : Dec (i ≡ x) → IsLive (b i).body
      go (yes t) = subst (λ (k : ℕ). IsLive (b k).body) (sym t) (subst (λ (n : Node). IsLive n.body) (sym (ap (λ (f : Nodes). f x) here ∙ assign_same a₁ x _)) tt)
      go (no t) = subst (λ (n : Node). IsLive n.body) (sym (ap (λ (f : Nodes). f i) here ∙ assign_other a₁ x i _ t)) (charge_live a a₁ s d c p q live_d uses w₀ i l)

  pub moved_pages : (i : ℕ) → (b i).page ≡ (a i).page
  moved_pages i = go (native.Mathlib.Decide.ℕ_discrete i x) ∙ charge_pages a a₁ s d c p q live_d uses w₀ i
    where
      go : Dec (i ≡ x) → (b i).page ≡ (a₁ i).page
      go (yes t) = subst (λ (k : ℕ). (b k).page ≡ (a₁ k).page) (sym t) (ap (λ (f : Nodes). (f x).page) here ∙ ap (λ (n : Node). n.page) (assign_same a₁ x _))
      go (no t) = ap (λ (f : Nodes). (f i).page) here ∙ ap (λ (n : Node). n.page) (assign_other a₁ x i _ t)

  -- the tree is the one that the rules name
  pub moved_tree : (v : ℕ → ℕ) → tree_of v b ≡ tree_after (path_to a d) (change (change_place e (regrant p q)) p q) (tree_of v a)
  moved_tree v =
      let lx = (s.down d e x holds).live in
      let path : path_to a₁ x ≡ path_to a d ++ (e ∷ []) = charge_path a a₁ s d c p q live_d uses w₀ x lx ∙ path_at_place a s d e x holds in
      recelled_tree a₁ b s₁ x m y _ was₁ here v (with_grant p q) (λ places. refl) (path_to a d ++ (e ∷ [])) (subst (λ t. reach a₁ 0 t ≡ Some x) path (path_reaches a₁ s₁ x (charge_live a a₁ s d c p q live_d uses w₀ x lx)))
      ∙ modified_place_after (path_to a d) e (regrant p q) (tree_of v a₁)
      ∙ ap (modified (changed (change_place e (regrant p q))) (path_to a d)) (charge_tree a a₁ s d c p q live_d uses w₀ v)

  pub moved_accounted : (r : ℕ) (root : Label) → Accounted r root a → p ≤ (cell_at a c).left + q → q ≤ y.left + p → Accounted r root b
  moved_accounted r root acc pays owes =
      let u = at (path_to a d) (tree_of blank a) in
      let (n, t) = there a s r root acc x m y was in
      let place_is : place_tree e u ≡ directory m (Some y) (λ i. entry_tree (tree_below blank (suc n) a) ((a x).entry i)) = place_some a s blank d whole e x holds ∙ t in
      let f = subst Fit t (fit_at (path_to a x) (tree_of blank a) acc.fit) in
      let f₀ = f.0 in
      accounted_after a s r root acc b (change_place e (regrant p q)) p q d c live_d uses
      (fair_change u (cell_at a c) e (regrant p q) p q (directory_at blank a (path_to a d) d s (path_reaches a s d live_d) whole) (fit_at (path_to a d) (tree_of blank a) acc.fit) (s.down d e x holds).within
      (subst (λ z. Fit (with_grant p q z)) (sym place_is) (omega arith, f.1))
      (subst (λ z. cost (with_grant p q z) + q ≡ cost z + p) (sym place_is) (omega arith))
      pays)
      (moved_tree blank)
