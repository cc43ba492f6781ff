-- Sums over places.
use Rattle.std.proofs.Common.{◌≡◌, ℕ, zero, suc, ◌+◌, ◌<◌, ◌≤◌, Bool, true, false, cond, eqb, refl, ap, arith, eqb-true}
use mathlib.Core.Path.{fun_ext}
use borrow.Author.Tests.{eqb-false}
use Rattle.rules.specs.Indexed.{sum, assign}
use Rattle.rules.proofs.Assign.{assign_other}

pub sum_ext : (n : ℕ) {f g : ℕ → ℕ} → ((i : ℕ) → f i ≡ g i) → sum n f ≡ sum n g
unfolding sum
sum_ext n h = ap (sum n) (fun_ext h)

pub sum_add : (n : ℕ) (f g : ℕ → ℕ) → sum n (λ i. f i + g i) ≡ sum n f + sum n g
unfolding sum
sum_add zero f g = refl
sum_add (suc n) f g = let ih = sum_add n f g in omega arith

pub sum_zero : (n : ℕ) → sum n (λ i. 0) ≡ 0
unfolding sum
sum_zero zero = refl
sum_zero (suc n) = let ih = sum_zero n in omega arith

module _ {A : Type 0} (g : A → ℕ) (f : ℕ → A) (e : ℕ) (x : A) where
  -- the place lies past the sum
  sum_past : (n : ℕ) → n ≤ e → sum n (λ i. g (assign f e x i)) ≡ sum n (λ i. g (f i))
  unfolding sum
  sum_past zero h = refl
  sum_past (suc n) h =
      let here : g (assign f e x n) ≡ g (f n) = ap g (assign_other f e n x (λ p. omega arith)) in
      let ih = sum_past n (omega arith) in
      omega arith

  pub sum_assign : (n : ℕ) → e < n → sum n (λ i. g (assign f e x i)) + g (f e) ≡ sum n (λ i. g (f i)) + g x
  unfolding sum
  sum_assign zero h = absurd (omega arith)
  sum_assign (suc n) h = go (eqb n e) refl (sum_assign n)
    where
      go : (b : Bool) → eqb n e ≡ b → (e < n → sum n (λ i. g (assign f e x i)) + g (f e) ≡ sum n (λ i. g (f i)) + g x)
          → g (assign f e x n) + sum n (λ i. g (assign f e x i)) + g (f e) ≡ g (f n) + sum n (λ i. g (f i)) + g x
      go true p ih =
          let ne : n ≡ e = eqb-true n e p in
          let here : g (assign f e x n) ≡ g x = ap (λ b. g (cond b x (f n))) p in
          let rest = sum_past n (omega arith) in
          let there : g (f n) ≡ g (f e) = ap (λ k. g (f k)) ne in
          omega arith
      go false p ih =
          let ne : (n ≡ e → ⊥) = eqb-false n e p in
          let here : g (assign f e x n) ≡ g (f n) = ap (λ b. g (cond b x (f n))) p in
          let ih' = ih (omega arith) in
          omega arith
