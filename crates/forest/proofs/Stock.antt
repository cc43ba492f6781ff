-- Objects that are not in use: one is taken into use, or leaves it.
use Rattle.std.proofs.Common.{◌≡◌, ℕ, suc, ◌+◌, ◌<◌, false, sym, refl, ap, ◌∙◌, subst, arith}
use native.Mathlib.Decide.{ℕ_discrete}
use Rattle.rules.specs.Indexed.{assign}
use Rattle.rules.specs.Calls.{flag}
use Rattle.rules.proofs.Sums.{sum_ext, sum_assign}
use Rattle.rules.proofs.Assign.{assign_same, assign_other}
use Rattle.forest.specs.Nodes.{Node, Body, unused, seg, dir, Nodes, IsLive, is_live, cleared}
use Rattle.forest.specs.Spares.{Vacant, objects_in_use, Stocked}
use Rattle.forest.proofs.Stacks.{popped, pushed}

pub live_flag : (t : Body) → IsLive t → flag (is_live t) ≡ 1
live_flag unused l = absurd l
live_flag seg l = refl
live_flag (dir m c) l = refl

pub alive : (t u : Body) → is_live t ≡ is_live u → IsLive u → IsLive t
alive unused unused h l = l
alive unused seg h l = let z : ◌≡◌ {A = ℕ} 0 1 = ap flag h in absurd (omega arith)
alive unused (dir m c) h l = let z : ◌≡◌ {A = ℕ} 0 1 = ap flag h in absurd (omega arith)
alive seg u h l = tt
alive (dir m c) u h l = tt

-- no body changes but in what it is
pub stocked_kept : (n : ℕ) (item : ℕ → ℕ) (height : ℕ) (a b : Nodes) → ((i : ℕ) → is_live (b i).body ≡ is_live (a i).body) → Stocked n item height a → Stocked n item height b
stocked_kept n item height a b same s = record {
  spare = record {
    free = λ x l. let f = s.spare.free x l in (f.0, dead (b (item x)).body (same (item x) ∙ ap is_live f.1));
    distinct = s.spare.distinct;
  };
  counted = ap (λ k. height + k) (sum_ext 257 (λ i. ap flag (same i))) ∙ s.counted;
}
  where
    dead : (t : Body) → is_live t ≡ false → t ≡ unused
    dead unused h = refl
    dead seg h = let z : ◌≡◌ {A = ℕ} 0 1 = ap flag (sym h) in absurd (omega arith)
    dead (dir m c) h = let z : ◌≡◌ {A = ℕ} 0 1 = ap flag (sym h) in absurd (omega arith)

module _ (a b : Nodes) (n : ℕ) (item : ℕ → ℕ) (height j : ℕ) (few : j < 257) (others : (i : ℕ) → (i ≡ j → ⊥) → (b i).body ≡ (a i).body) where
  -- the sum of what is in use, but for j
  in_use : objects_in_use b + flag (is_live (a j).body) ≡ objects_in_use a + flag (is_live (b j).body)
  in_use =
      let swap = sum_assign {A = Body} (λ t. flag (is_live t)) (λ i. (a i).body) j (b j).body 257 few in
      let same = sum_ext 257 (λ i. ap (λ t. flag (is_live t)) (at i (ℕ_discrete i j))) in
      omega arith
    where
      at : (i : ℕ) → Dec (i ≡ j) → (b i).body ≡ assign (λ k. (a k).body) j (b j).body i
      at i (yes q) = ap (λ k. (b k).body) q ∙ sym (ap (assign (λ k. (a k).body) j (b j).body) q ∙ assign_same (λ k. (a k).body) j (b j).body)
      at i (no q) = others i q ∙ sym (assign_other (λ k. (a k).body) j i (b j).body q)

  -- the object on top is taken into use
  pub stock_taken : j ≡ item height → IsLive (b j).body → Stocked n item (suc height) a → Stocked n item height b
  stock_taken top live s =
      let was = (s.spare.free height (omega arith)).1 in
      let dead : flag (is_live (a j).body) ≡ 0 = ap (λ k. flag (is_live (a k).body)) top ∙ ap (λ t. flag (is_live t)) was in
      let alive = live_flag (b j).body live in
      let sums = in_use in
      let before = s.counted in
      record {
        spare = popped (Vacant n a) (Vacant n b) item height (λ v ne f. (f.0, others v (λ e. ne (e ∙ top)) ∙ f.1)) s.spare;
        counted = omega arith;
      }

  -- an object in use leaves it
  pub stock_returned : j < suc n → IsLive (a j).body → (b j).body ≡ unused → Stocked n item height a → Stocked n (assign item height j) (suc height) b
  stock_returned within live gone s =
      let alive = live_flag (a j).body live in
      let dead : flag (is_live (b j).body) ≡ 0 = ap (λ t. flag (is_live t)) gone in
      let sums = in_use in
      let before = s.counted in
      record {
        spare = pushed (Vacant n a) (Vacant n b) item height j (λ u f. (f.0, keeps u f.1 (ℕ_discrete u j))) (within, gone) (λ f. subst IsLive f.1 live) s.spare;
        counted = omega arith;
      }
    where
      keeps : (u : ℕ) → (a u).body ≡ unused → Dec (u ≡ j) → (b u).body ≡ unused
      keeps u f (yes q) = ap (λ k. (b k).body) q ∙ gone
      keeps u f (no q) = others u q ∙ f

-- where an object is in use, not all objects are on the stack
pub stocked_room : (n : ℕ) (item : ℕ → ℕ) (height : ℕ) (a : Nodes) (j : ℕ) → j < 257 → j < suc n → IsLive (a j).body → Stocked n item height a → height < suc n
stocked_room n item height a j few within live s =
    let b : Nodes = assign a j (cleared (a j)) in
    let gone : (b j).body ≡ unused = ap (λ (x : Node). x.body) (assign_same a j _) in
    let t = (stock_returned a b n item height j few (λ i q. ap (λ (x : Node). x.body) (assign_other a j i _ q)) within live gone s).counted in
    omega arith
