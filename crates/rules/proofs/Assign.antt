-- A function changed at one index.
use Rattle.std.proofs.Common.{◌≡◌, ℕ, Bool, true, false, cond, eqb, sym, refl, ap, ◌∙◌, eq-eqb, ne_eqb, eqb-true}
use mathlib.Core.Path.{fun_ext}
use Rattle.rules.specs.Indexed.{assign}
use Rattle.rules.proofs.Choices.{by_cases}

pub assign_cases : {A : Type 0} (P : A → Type 0) (f : ℕ → A) (i : ℕ) (x : A) (j : ℕ) → (j ≡ i → P x) → P (f j) → P (assign f i x j)
assign_cases P f i x j h k = by_cases P (eqb j i) x (f j) (λ e. h (eqb-true j i e)) (λ e. k)

pub assign_same : {A : Type 0} (f : ℕ → A) (i : ℕ) (x : A) → assign f i x i ≡ x
assign_same f i x = ap (λ b. cond b x (f i)) (eq-eqb i i refl)

pub assign_other : {A : Type 0} (f : ℕ → A) (i j : ℕ) (x : A) → (j ≡ i → ⊥) → assign f i x j ≡ f j
assign_other f i j x ne = ap (λ b. cond b x (f j)) (ne_eqb j i ne)

pub assign_self : {A : Type 0} (f : ℕ → A) (i : ℕ) → assign f i (f i) ≡ f
assign_self f i = fun_ext (λ k. assign_cases (λ x. x ≡ f k) f i (f i) k (λ e. ap f (sym e)) refl)

pub assign_twice : {A : Type 0} (f : ℕ → A) (i : ℕ) (x y : A) → assign (assign f i x) i y ≡ assign f i y
assign_twice f i x y = fun_ext (λ k. go k (eqb k i))
  where
    go : (k : ℕ) (b : Bool) → cond b y (cond b x (f k)) ≡ cond b y (f k)
    go k true = refl
    go k false = refl

pub assign_commute : {A : Type 0} (f : ℕ → A) (i j : ℕ) (x y : A) → (j ≡ i → ⊥) → assign (assign f i x) j y ≡ assign (assign f j y) i x
assign_commute f i j x y ne = fun_ext (λ k. go k (eqb k i) refl (eqb k j) refl)
  where
    go : (k : ℕ) (b : Bool) → eqb k i ≡ b → (d : Bool) → eqb k j ≡ d → cond d y (cond b x (f k)) ≡ cond b x (cond d y (f k))
    go k true e true e' = absurd (ne (sym (eqb-true k j e') ∙ eqb-true k i e))
    go k true e false e' = refl
    go k false e true e' = refl
    go k false e false e' = refl
