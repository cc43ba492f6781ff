-- What lies under an object, by parents and by routes.
use Rattle.std.proofs.Common.{◌≡◌, ℕ, zero, suc, ◌≤◌, [], ◌∷◌, ◌++◌, Some, sym, refl, ap, ◌∙◌, subst, arith}
use native.Mathlib.Decide.{ℕ_discrete}
use Rattle.rules.specs.Tree.{Path}
use Rattle.forest.specs.Nodes.{Nodes, WellFormed, IsLive, Under, itself, above}
use Rattle.forest.specs.Forest.{reach, path_up, path_to}
use Rattle.forest.proofs.Refine.{reach_step, reach_head, reach_depth, reach_append, apart}
use Rattle.forest.proofs.Depth.{dir_live}

-- one level up, where it is not top itself
pub under_up : (a : Nodes) (top i : ℕ) → Under a top i → (i ≡ top → ⊥) → (i ≡ 0 → ⊥) × Under a top (a i).parent
under_up a top i itself n = absurd (n refl)
under_up a top i (above z u) n = (z, u)

under_trans : (a : Nodes) (top m i : ℕ) → Under a m i → Under a top m → Under a top i
under_trans a top m i itself v = v
under_trans a top m i (above z u) v = above z (under_trans a top m (a i).parent u v)

module _ (a : Nodes) (w : WellFormed a) where
  pub child_under : (i e j : ℕ) → (a i).entry e ≡ Some j → Under a i j
  child_under i e j h =
      let o = w.down i e j h in
      above (λ q. let t = ap (λ (k : ℕ). (a k).depth) q in let u = w.top in let v = o.depth in omega arith)
      (subst (λ (k : ℕ). Under a i k) (sym o.up) itself)

  pub route_under : (p : Path) (top i : ℕ) → reach a top p ≡ Some i → Under a top i
  route_under [] top i f = let e : top ≡ i = cc in subst (λ (k : ℕ). Under a top k) e itself
  route_under (e ∷ p) top i f = let (j, h, g) = reach_head a top e i p f in under_trans a top j i (route_under p j i g) (child_under top e j h)

  pub parent_live : (i : ℕ) → IsLive (a i).body → (i ≡ 0 → ⊥) → IsLive (a (a i).parent).body
  parent_live i l z = dir_live _ (w.down (a i).parent (a i).place i (w.mirror i l z)).whole

  pub under_route : (top i : ℕ) → Under a top i → IsLive (a i).body → (p : Path) × (reach a top p ≡ Some i)
  under_route top i itself l = ([], refl)
  under_route top i (above z u) l =
      let (p, f) = under_route top (a i).parent u (parent_live i l z) in
      (p ++ ((a i).place ∷ []), reach_append a p ((a i).place ∷ []) top (a i).parent f ∙ reach_step a (a i).parent (a i).place i [] (w.mirror i l z))

  pub under_depth : (top i : ℕ) → Under a top i → IsLive (a i).body → (a top).depth ≤ (a i).depth
  under_depth top i u l = let (p, f) = under_route top i u l in let t = reach_depth a w p top i f in omega arith

  pub parent_depth : (i : ℕ) → IsLive (a i).body → (i ≡ 0 → ⊥) → (a i).depth ≡ suc (a (a i).parent).depth
  parent_depth i l z = (w.down (a i).parent (a i).place i (w.mirror i l z)).depth

  -- every object in use lies under the root
  pub under_root : (n i : ℕ) → (a i).depth ≡ n → IsLive (a i).body → Under a 0 i
  under_root zero i h l = go (ℕ_discrete i 0)
    where
      go : Dec (i ≡ 0) → Under a 0 i
      go (yes q) = subst (λ (k : ℕ). Under a 0 k) (sym q) itself
      go (no q) = let s = parent_depth i l q in absurd (omega arith)
  under_root (suc n) i h l =
      let nz : i ≡ 0 → ⊥ = λ q. let t = ap (λ (k : ℕ). (a k).depth) q in let u = w.top in omega arith in
      let s = parent_depth i l nz in
      above nz (under_root n (a i).parent (omega arith) (parent_live i l nz))

  same_route : (p q : Path) (i d : ℕ) → reach a i p ≡ Some d → reach a i q ≡ Some d → p ≡ q
  same_route [] [] i d f g = refl
  same_route [] (y ∷ q) i d f g = let s = reach_depth a w [] i d f in let t = reach_depth a w (y ∷ q) i d g in absurd (omega arith)
  same_route (x ∷ p) [] i d f g = let s = reach_depth a w (x ∷ p) i d f in let t = reach_depth a w [] i d g in absurd (omega arith)
  same_route (x ∷ p) (y ∷ q) i d f g =
      let (j, hj, fj) = reach_head a i x d p f in
      let (k, hk, fk) = reach_head a i y d q g in
      let xy = apart a w i x y j k d p q hj hk fj fk in
      let hk' : (a i).entry x ≡ Some k = ap (a i).entry xy ∙ hk in
      let jk : j ≡ k = cc in
      λ n. xy n ∷ same_route p q j d fj (ap (λ (z : ℕ). reach a z q) jk ∙ fk) n

  pub one_route : (p q : Path) (d : ℕ) → reach a 0 p ≡ Some d → reach a 0 q ≡ Some d → p ≡ q
  one_route p q d = same_route p q 0 d

  -- the path that parents tell leads to the object
  path_up_reaches : (n i : ℕ) → (a i).depth ≡ n → IsLive (a i).body → reach a 0 (path_up n a i) ≡ Some i
  unfolding path_up
  path_up_reaches zero i h l = go (ℕ_discrete i 0)
    where
      go : Dec (i ≡ 0) → Some 0 ≡ Some i
      go (yes q) = ap Some (sym q)
      go (no q) = let s = parent_depth i l q in absurd (omega arith)
  path_up_reaches (suc n) i h l =
      let nz : i ≡ 0 → ⊥ = λ q. let t = ap (λ (k : ℕ). (a k).depth) q in let u = w.top in omega arith in
      let s = parent_depth i l nz in
      reach_append a (path_up n a (a i).parent) ((a i).place ∷ []) 0 (a i).parent (path_up_reaches n (a i).parent (omega arith) (parent_live i l nz))
      ∙ reach_step a (a i).parent (a i).place i [] (w.mirror i l nz)

  pub path_reaches : (i : ℕ) → IsLive (a i).body → reach a 0 (path_to a i) ≡ Some i
  path_reaches i l = path_up_reaches (a i).depth i refl l
