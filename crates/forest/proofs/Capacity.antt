-- A record that is left is an object that is not in use, and a page of the volume that serves nothing.
use Rattle.std.proofs.Common.{◌≡◌, ℕ, suc, ◌+◌, ◌≤◌, cond, eqb, Some, None, Option, refl, ap, ◌∙◌, subst, arith, eq-eqb, ne_eqb}
use native.Mathlib.Decide.{ℕ_discrete}
use Rattle.labels.specs.declared.label.Label.{Label}
use Rattle.rules.specs.Indexed.{sum}
use Rattle.rules.specs.Calls.{flag}
use Rattle.rules.proofs.Sums.{sum_add}
use Rattle.forest.specs.Nodes.{Body, unused, seg, dir, Nodes, WellFormed, IsDir, IsSeg, is_live}
use Rattle.forest.specs.Forest.{has, weight, weight_of, cell_in, cell_at}
use Rattle.forest.specs.Accounts.{Accounted}
use Rattle.forest.specs.Spares.{objects_in_use, pages_in_use, Stocked, Served}
use Rattle.forest.proofs.Depth.{dir_live}
use Rattle.forest.proofs.Levels.{root_live}
use Rattle.forest.proofs.Tally.{sum_none, sum_one, sum_le}
use Rattle.forest.proofs.Accounts.{table_records}
use Rattle.forest.proofs.Stock.{live_flag}

module _ (a : Nodes) (s : WellFormed a) where
  abbrev present : ℕ → ℕ
  present i = sum 16 (λ k. has ((a i).page k))

  no_pages : (i : ℕ) → (IsSeg (a i).body → ⊥) → present i ≡ 0
  no_pages i h = sum_none 16 (λ k. has ((a i).page k)) (λ k _. go k ((a i).page k) refl)
    where
      go : (k : ℕ) (o : Option ℕ) → (a i).page k ≡ o → has o ≡ 0
      go k None q = refl
      go k (Some v) q = absurd (h (s.pages i k v q).0)

  -- an object stands for itself, its present pages, and what its cell has left
  weighs : (i : ℕ) (t : Body) → (a i).body ≡ t → weight_of t (a i).page ≡ flag (is_live t) + present i + (cell_in t).left
  weighs i unused q = let z = no_pages i (λ h. subst IsSeg q h) in omega arith
  weighs i seg q = omega arith
  weighs i (dir l None) q = let z = no_pages i (λ h. subst IsSeg q h) in omega arith
  weighs i (dir l (Some c)) q = let z = no_pages i (λ h. subst IsSeg q h) in omega arith

  module _ (n : ℕ) (root : Label) (acc : Accounted n root a) (c : ℕ) (whole : IsDir (a c).body) where
    abbrev left_at : ℕ → ℕ
    left_at i = cond (eqb i c) (cell_at a c).left 0

    -- all of these are no more than the store's records, and the root
    pub bounded : objects_in_use a + pages_in_use a + (cell_at a c).left ≤ suc n
    bounded =
        let all = table_records a s n root acc in
        let le = sum_le 257 (λ i. weight (a i)) (λ i. flag (is_live (a i).body) + present i + left_at i) (λ i _. each i (ℕ_discrete i c)) in
        let two = sum_add 257 (λ i. flag (is_live (a i).body) + present i) left_at in
        let one = sum_add 257 (λ i. flag (is_live (a i).body)) present in
        let at = sum_one 257 left_at c (s.few c (dir_live (a c).body whole)) (λ k _ ne. ap (λ t. cond t (cell_at a c).left 0) (ne_eqb k c ne))
        ∙ ap (λ t. cond t (cell_at a c).left 0) (eq-eqb c c refl) in
        omega arith
      where
        each : (i : ℕ) → Dec (i ≡ c) → flag (is_live (a i).body) + present i + left_at i ≤ weight (a i)
        each i (yes q) =
            let w = weighs i (a i).body refl in
            let e = ap (λ t. cond t (cell_at a c).left 0) (eq-eqb i c q) in
            let p = ap (λ (j : ℕ). (cell_at a j).left) q in
            omega arith
        each i (no q) =
            let w = weighs i (a i).body refl in
            let e = ap (λ t. cond t (cell_at a c).left 0) (ne_eqb i c q) in
            omega arith

    -- where the cell has a record left, an object is not in use
    pub object_there : (item : ℕ → ℕ) (height : ℕ) → Stocked n item height a → 1 ≤ (cell_at a c).left → 1 ≤ height
    object_there item height stocked h = let b = bounded in let k = stocked.counted in omega arith

    -- and as many pages of the volume serve nothing as it has records left
    pub pages_there : (item : ℕ → ℕ) (height m : ℕ) → Served n item height a → m ≤ (cell_at a c).left → m ≤ height
    pages_there item height m served h =
        let b = bounded in
        let k = served.counted in
        let r = sum_le 257 (λ i. flag (is_live (a i).body)) (λ i. cond (eqb i 0) 1 0) (λ i _. root_counts i (ℕ_discrete i 0)) in
        let o = sum_one 257 (λ i. cond (eqb i 0) 1 0) 0 (omega arith) (λ i _ ne. ap (λ t. cond t 1 0) (ne_eqb i 0 ne)) ∙ ap (λ t. cond t 1 0) (eq-eqb 0 0 refl) in
        omega arith
      where
        root_counts : (i : ℕ) → Dec (i ≡ 0) → cond (eqb i 0) 1 0 ≤ flag (is_live (a i).body)
        root_counts i (yes q) =
            let e : cond {A = ℕ} (eqb i 0) 1 0 ≡ 1 = ap (λ t. cond t 1 0) (eq-eqb i 0 q) in
            let f = ap (λ (j : ℕ). flag (is_live (a j).body)) q in
            let g = live_flag (a 0).body (root_live a s) in
            omega arith
        root_counts i (no q) = let e : cond {A = ℕ} (eqb i 0) 1 0 ≡ 0 = ap (λ t. cond t 1 0) (ne_eqb i 0 q) in omega arith
