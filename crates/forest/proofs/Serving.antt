-- Pages of the volume: one begins to serve a page of a segment, or serves nothing any more.
use Rattle.std.proofs.Common.{◌≡◌, ℕ, suc, ◌+◌, ◌<◌, ◌≤◌, Some, None, Option, sym, refl, ap, ◌∙◌, subst, arith}
use mathlib.Core.Logic.{∥∥₁_elim}
use native.Mathlib.Decide.{ℕ_discrete}
use native.Mathlib.Nat.{ℕ_set}
use Rattle.rules.specs.Indexed.{assign, sum}
use Rattle.rules.proofs.Sums.{sum_ext, sum_assign}
use Rattle.rules.proofs.Assign.{assign_same, assign_other}
use Rattle.forest.specs.Nodes.{Node, Nodes, with_page, WellFormed}
use Rattle.forest.specs.Forest.{has}
use Rattle.forest.specs.Spares.{pages_in_use, ServesNothing, Served}
use Rattle.forest.proofs.Created.{none_not_some}
use Rattle.forest.proofs.Stacks.{popped, pushed}

-- no page changes
pub served_kept : (n : ℕ) (item : ℕ → ℕ) (height : ℕ) (a b : Nodes) → ((i : ℕ) → (b i).page ≡ (a i).page) → Served n item height a → Served n item height b
served_kept n item height a b same s = record {
  used = λ i k v h. s.used i k v (back i k v h);
  alone = λ i k j m v h g. s.alone i k j m v (back i k v h) (back j m v g);
  spare = record { free = λ x l. let f = s.spare.free x l in (f.0, λ i k h. f.1 i k (back i k (item x) h)); distinct = s.spare.distinct };
  counted = ap (λ k. height + k) (sum_ext 257 (λ i. ap (λ (ps : ℕ → Option ℕ). sum 16 (λ k. has (ps k))) (same i))) ∙ s.counted;
}
  where
    back : (i k v : ℕ) → (b i).page k ≡ Some v → (a i).page k ≡ Some v
    back i k v h = sym (ap (λ (ps : ℕ → Option ℕ). ps k) (same i)) ∙ h

-- a page of the volume serves one page only
pub served_alone : {n : ℕ} {item : ℕ → ℕ} {height : ℕ} {a : Nodes} → ∥ Served n item height a ∥₁ → (i k j m v : ℕ) → (a i).page k ≡ Some v → (a j).page m ≡ Some v → (i ≡ j) × (k ≡ m)
served_alone s i k j m v h g = (∥∥₁_elim s (ℕ_set i j) (λ z. (z.alone i k j m v h g).0), ∥∥₁_elim s (ℕ_set k m) (λ z. (z.alone i k j m v h g).1))

-- a segment has no page past the sixteenth
pub pages_short : (a : Nodes) → WellFormed a → (i k : ℕ) → 16 ≤ k → (a i).page k ≡ None
pages_short a s i k h = go ((a i).page k) refl
  where
    go : (o : Option ℕ) → (a i).page k ≡ o → o ≡ None
    go None q = refl
    go (Some v) q = let l = (s.pages i k v q).1 in absurd (omega arith)

-- page k of i is served by o
module _ (a b : Nodes) (n : ℕ) (item : ℕ → ℕ) (height i k : ℕ) (o : Option ℕ) (few : i < 257) (within : k < 16) (here : b ≡ assign a i (with_page (a i) k o)) where
  at_i : b i ≡ with_page (a i) k o
  at_i = ap (λ (f : Nodes). f i) here ∙ assign_same a i (with_page (a i) k o)

  page_here : (b i).page k ≡ o
  page_here = ap (λ (x : Node). x.page k) at_i ∙ assign_same (a i).page k o

  -- a page of b is page k of i, or one of a
  by_page : (P : ℕ → ℕ → Option ℕ → Type 0) → P i k o → ((j m : ℕ) → P j m ((a j).page m)) → (j m : ℕ) → P j m ((b j).page m)
  by_page P new old j m = at_j (ℕ_discrete j i)
    where
      at_m : Dec (m ≡ k) → P i m ((b i).page m)
      at_m (yes q) = subst (λ (z : ℕ). P i z ((b i).page z)) (sym q) (subst (P i k) (sym page_here) new)
      at_m (no q) = subst (P i m) (sym (ap (λ (x : Node). x.page m) at_i ∙ assign_other (a i).page k m o q)) (old i m)

      at_j : Dec (j ≡ i) → P j m ((b j).page m)
      at_j (yes q) = subst (λ (z : ℕ). P z m ((b z).page m)) (sym q) (at_m (ℕ_discrete m k))
      at_j (no q) = subst (P j m) (sym (ap (λ (f : Nodes). (f j).page m) here ∙ ap (λ (x : Node). x.page m) (assign_other a i j (with_page (a i) k o) q))) (old j m)

  in_use : pages_in_use b + has ((a i).page k) ≡ pages_in_use a + has o
  in_use =
      let rows = sum_assign {A = Node} (λ x. sum 16 (λ m. has (x.page m))) a i (with_page (a i) k o) 257 few in
      let row = sum_assign {A = Option ℕ} has (a i).page k o 16 within in
      let same = ap (λ (f : Nodes). sum 257 (λ j. sum 16 (λ m. has ((f j).page m)))) here in
      omega arith

  pub page_taken : (a i).page k ≡ None → o ≡ Some (item height) → Served n item (suc height) a → Served n item height b
  page_taken bare is s =
      let top = s.spare.free height (omega arith) in
      let sums = in_use in
      let none : has ((a i).page k) ≡ 0 = ap has bare in
      let one : has o ≡ 1 = ap has is in
      let before = s.counted in
      record {
        used = by_page (λ j m p. (v : ℕ) → p ≡ Some v → v < n) (λ v h. subst (λ (z : ℕ). z < n) (is_top v h) top.0) s.used;
        alone = λ j m j' m' v h g. alone j m j' m' v h g;
        spare = popped (ServesNothing n a) (ServesNothing n b) item height (λ v ne f. (f.0, by_page (λ j m p. p ≡ Some v → ⊥) (λ h. ne (sym (is_top v h))) f.1)) s.spare;
        counted = omega arith;
      }
    where
      is_top : (v : ℕ) → o ≡ Some v → item height ≡ v
      is_top v h = let e : Some (item height) ≡ Some v = sym is ∙ h in cc

      unlinked : (v : ℕ) → o ≡ Some v → (j m : ℕ) → (a j).page m ≡ Some v → ⊥
      unlinked v h j m g = (s.spare.free height (omega arith)).1 j m (g ∙ ap Some (sym (is_top v h)))

      alone : (j m j' m' v : ℕ) → (b j).page m ≡ Some v → (b j').page m' ≡ Some v → (j ≡ j') × (m ≡ m')
      alone j m j' m' v h g =
          by_page (λ x y p. p ≡ Some v → (x ≡ j') × (y ≡ m'))
          (λ new. by_page (λ x y p. p ≡ Some v → (i ≡ x) × (k ≡ y)) (λ _. (refl, refl)) (λ x y old. absurd (unlinked v new x y old)) j' m' g)
          (λ x y old. by_page (λ x' y' p. p ≡ Some v → (x ≡ x') × (y ≡ y')) (λ new. absurd (unlinked v new x y old)) (λ x' y' old'. s.alone x y x' y' v old old') j' m' g)
          j m h

  pub page_dropped : (v : ℕ) → (a i).page k ≡ Some v → o ≡ None → Served n item height a → Served n (assign item height v) (suc height) b
  page_dropped v was is s =
      let sums = in_use in
      let one : has ((a i).page k) ≡ 1 = ap has was in
      let none : has o ≡ 0 = ap has is in
      let before = s.counted in
      record {
        used = by_page (λ j m p. (u : ℕ) → p ≡ Some u → u < n) (λ u h. gone u h) s.used;
        alone = λ j m j' m' u h g. s.alone j m j' m' u (back j m u h) (back j' m' u g);
        spare =
            pushed (ServesNothing n a) (ServesNothing n b) item height v (λ u f. (f.0, λ j m h. f.1 j m (back j m u h)))
            (s.used i k v was, λ j m h. unlinked j m h) (λ f. f.1 i k was) s.spare;
        counted = omega arith;
      }
    where
      gone : {X : Type 0} (u : ℕ) → o ≡ Some u → X
      gone u h = absurd (none_not_some o u is h)

      back : (j m u : ℕ) → (b j).page m ≡ Some u → (a j).page m ≡ Some u
      back j m u = by_page (λ x y p. p ≡ Some u → (a x).page y ≡ Some u) (gone u) (λ x y h. h) j m

      unlinked : (j m : ℕ) → (b j).page m ≡ Some v → ⊥
      unlinked j m h =
          let same = s.alone j m i k v (back j m v h) was in
          none_not_some ((b i).page k) v (page_here ∙ is) (subst (λ (z : ℕ). (b z).page k ≡ Some v) same.0 (subst (λ (z : ℕ). (b j).page z ≡ Some v) same.1 h))

-- where a page is present, not all pages of the volume serve nothing
pub served_room : (n : ℕ) (item : ℕ → ℕ) (height : ℕ) (a : Nodes) (i k v : ℕ) → i < 257 → k < 16 → (a i).page k ≡ Some v → Served n item height a → height < n
served_room n item height a i k v few within was s =
    let t = (page_dropped a (assign a i (with_page (a i) k None)) n item height i k None few within refl v was refl s).counted in
    omega arith
