-- An object and all below it are removed, and their records go back to the cell that their directory uses. Assumes nothing.
use Rattle.std.proofs.Common.{◌≡◌, ℕ, Bool, true, false, cond, ◌&&◌, eqb, [], ◌∷◌, ◌++◌, Some, None, Option, sym, refl, ap, ◌∙◌, subst, ap₂, true≢false, arith, eq-eqb, eqb-true}
use Rattle.rules.proofs.Balance.{fit_at}
use Rattle.labels.specs.declared.label.Label.{Label}
use Rattle.rules.specs.Cells.{cost}
use Rattle.rules.specs.Changes.{remove, change_place, changed, change, tree_after, modified}
use Rattle.rules.specs.Indexed.{assign, sum}
use Rattle.rules.specs.KnownNumbers.{through}
use Rattle.rules.specs.Tree.{Path, at}
use Rattle.forest.specs.Nodes.{Nodes, WellFormed, IsDir, IsLive, charged_body, with_body, with_entry, cleared, Uses, Under, itself, above, Tells}
use Rattle.forest.specs.Forest.{tree_of, reach, path_to, cell_at, weight}
use Rattle.forest.specs.Accounts.{Accounted, blank}
use Rattle.forest.proofs.Depth.{dir_live}
use Rattle.forest.proofs.Beneath.{path_reaches, route_under, under_route, one_route}
use Rattle.forest.proofs.Refine.{reach_append}
use Rattle.rules.proofs.Choices.{and_left, and_right}
use Rattle.forest.proofs.Levels.{directory_at}
use Rattle.forest.proofs.Pays.{charge_sound, charge_links, charge_live, charge_was, charge_path, charge_tree}
use Rattle.forest.proofs.Deleted.{Deleted, deleted, deleted_sound, deleted_path, deleted_keeps, deleted_tree}
use Rattle.forest.proofs.Accounts.{accounted_after, fair_change, place_some, subtree_cost}

under_same : (a b : Nodes) → ((k : ℕ) → (b k).parent ≡ (a k).parent) → (top i : ℕ) → Under a top i → Under b top i
under_same a b h top i itself = itself
under_same a b h top i (above z u) = above z (subst (λ (p : ℕ). Under b top p) (sym (h i)) (under_same a b h top (a i).parent u))

-- Paths through an object

through_append : (r q : Path) → through r (r ++ q) ≡ true
through_append [] q = refl
through_append (i ∷ r) q = ap₂ (λ x y. x && y) (eq-eqb i i refl) (through_append r q)

through_rest : (r q : Path) → through r q ≡ true → (t : Path) × (q ≡ r ++ t)
through_rest [] q h = (q, refl)
through_rest (i ∷ r) [] h = absurd (true≢false (sym h))
through_rest (i ∷ r) (j ∷ q) h =
    let ij : i ≡ j = eqb-true i j (and_left _ _ h) in
    let (t, e) = through_rest r q (and_right (eqb i j) _ h) in
    (t, ap₂ (λ x y. x ∷ y) (sym ij) e)

module _ (a : Nodes) (s : WellFormed a) where
  -- an object lies under x where its path goes through that of x
  pub marks_through : (x k : ℕ) (b : Bool) → IsLive (a x).body → IsLive (a k).body → Tells a x k b → b ≡ through (path_to a x) (path_to a k)
  marks_through x k true lx lk h =
      let (p, f) = under_route a s x k h.1 lk in
      let whole = reach_append a (path_to a x) p 0 x (path_reaches a s x lx) ∙ f in
      sym (ap (through (path_to a x)) (one_route a s (path_to a k) (path_to a x ++ p) k (path_reaches a s k lk) whole) ∙ through_append (path_to a x) p)
  marks_through x k false lx lk h = go (through (path_to a x) (path_to a k)) refl
    where
      go : (t : Bool) → through (path_to a x) (path_to a k) ≡ t → false ≡ t
      go true q =
          let (p, e) = through_rest (path_to a x) (path_to a k) q in
          let f : reach a x p ≡ Some k = sym (reach_append a (path_to a x) p 0 x (path_reaches a s x lx)) ∙ ap (reach a 0) (sym e) ∙ path_reaches a s k lk in
          absurd (h lk (route_under a s p x k f))
      go false q = refl

module _ (a a₁ a₂ b : Nodes) (s : WellFormed a) (d e x c n : ℕ) (m : ℕ → Bool) (holds : (a d).entry e ≡ Some x) (tells : (k : ℕ) → Tells a x k (m k)) (uses : Uses a d c)
    (w₀ : a₁ ≡ assign a c (with_body (a c) (charged_body 0 n (a c).body)))
    (w₁ : a₂ ≡ assign a₁ d (with_entry (a₁ d) e None))
    (w₂ : (k : ℕ) → b k ≡ cond (m k) (cleared (a₂ k)) (a₂ k)) where
  whole : IsDir (a d).body
  whole = (s.down d e x holds).whole

  live_d : IsLive (a d).body
  live_d = dir_live (a d).body whole

  s₁ : WellFormed a₁
  s₁ = charge_sound a a₁ s d c 0 n live_d uses w₀

  holds₁ : (a₁ d).entry e ≡ Some x
  holds₁ = ap (λ (f : ℕ → Option ℕ). f e) (charge_links a a₁ s d c 0 n live_d uses w₀ d).3 ∙ holds

  tells₁ : (k : ℕ) → Tells a₁ x k (m k)
  tells₁ k = go (m k) (tells k)
    where
      go : (t : Bool) → Tells a x k t → Tells a₁ x k t
      go true (l, u) = (charge_live a a₁ s d c 0 n live_d uses w₀ k l, under_same a a₁ (λ i. (charge_links a a₁ s d c 0 n live_d uses w₀ i).0) x k u)
      go false h = λ l u. h (charge_was a a₁ s d c 0 n live_d uses w₀ k l) (under_same a₁ a (λ i. sym (charge_links a a₁ s d c 0 n live_d uses w₀ i).0) x k u)

  it : Deleted a₁ b d e m
  it = deleted a₁ a₂ b s₁ d e x m holds₁ tells₁ w₁ w₂

  pub removed_sound : WellFormed b
  removed_sound = deleted_sound a₁ b s₁ d e x m it holds₁ tells₁

  pub removed_live : (k : ℕ) → IsLive (a k).body → m k ≡ false → IsLive (b k).body
  removed_live k l h = deleted_keeps a₁ b s₁ d e x m it holds₁ tells₁ k (charge_live a a₁ s d c 0 n live_d uses w₀ k l) h

  pub removed_path : (i : ℕ) → IsLive (a i).body → path_to b i ≡ path_to a i
  removed_path i l =
      deleted_path a₁ b s₁ d e x m it holds₁ tells₁ i (charge_live a a₁ s d c 0 n live_d uses w₀ i l)
      ∙ charge_path a a₁ s d c 0 n live_d uses w₀ i l

  -- the tree is the one that the rules name
  pub removed_tree : (v : ℕ → ℕ) → tree_of v b ≡ tree_after (path_to a d) (change (change_place e remove) 0 n) (tree_of v a)
  removed_tree v =
      let path = charge_path a a₁ s d c 0 n live_d uses w₀ d live_d in
      deleted_tree a₁ b s₁ d e x m it holds₁ tells₁ v (path_to a d)
      (subst (λ p. reach a₁ 0 p ≡ Some d) path (path_reaches a₁ s₁ d (charge_live a a₁ s d c 0 n live_d uses w₀ d live_d)))
      ∙ ap (modified (changed (change_place e remove)) (path_to a d)) (charge_tree a a₁ s d c 0 n live_d uses w₀ v)

  pub removed_accounted : (r : ℕ) (root : Label) → Accounted r root a → n ≡ sum 257 (λ k. cond (m k) (weight (a k)) 0) → Accounted r root b
  removed_accounted r root acc is =
      let u = at (path_to a d) (tree_of blank a) in
      let place_is = ap cost (place_some a s blank d whole e x holds) in
      let costs = subtree_cost a s r root acc x (s.down d e x holds).live m tells in
      accounted_after a s r root acc b (change_place e remove) 0 n d c live_d uses
      (fair_change u (cell_at a c) e remove 0 n (directory_at blank a (path_to a d) d s (path_reaches a s d live_d) whole) (fit_at (path_to a d) (tree_of blank a) acc.fit) (s.down d e x holds).within tt (omega arith) (omega arith))
      (removed_tree blank)
