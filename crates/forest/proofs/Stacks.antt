-- A stack of free numbers: one is taken from its top, or one that was in use is put onto it.
use Rattle.std.proofs.Common.{◌≡◌, ℕ, suc, ◌<◌, sym, ap, ◌∙◌, subst, arith}
use native.Mathlib.Decide.{ℕ_discrete}
use Rattle.rules.specs.Indexed.{assign}
use Rattle.rules.proofs.Assign.{assign_same, assign_other}
use Rattle.forest.specs.Spares.{Spare}

-- what is free after was free before, and is not the top
pub popped : (P Q : ℕ → Type 0) (item : ℕ → ℕ) (n : ℕ) → ((v : ℕ) → (v ≡ item n → ⊥) → P v → Q v) → Spare P item (suc n) → Spare Q item n
popped P Q item n keeps s = record {
  free = λ x l. keeps (item x) (λ e. let q : x ≡ n = s.distinct x n (omega arith) (omega arith) e in omega arith) (s.free x (omega arith));
  distinct = λ x y lx ly e. s.distinct x y (omega arith) (omega arith) e;
}

module _ (P Q : ℕ → Type 0) (item : ℕ → ℕ) (n v : ℕ) (keeps : (u : ℕ) → P u → Q u) (new : Q v) (was : P v → ⊥) (s : Spare P item n) where
  after : ℕ → ℕ
  after = assign item n v

  below : (x : ℕ) → x < n → assign item n v x ≡ item x
  below x l = assign_other item n x v (λ e. omega arith)

  -- what was not free is free now
  pub pushed : Spare Q (assign item n v) (suc n)
  pushed = record { free = λ x l. free x l (ℕ_discrete x n); distinct = λ x y lx ly e. distinct x y lx ly e (ℕ_discrete x n) (ℕ_discrete y n) }
    where
      free : (x : ℕ) → x < suc n → Dec (x ≡ n) → Q (assign item n v x)
      free x l (yes q) = subst (λ (z : ℕ). Q (assign item n v z)) (sym q) (subst Q (sym (assign_same item n v)) new)
      free x l (no q) = subst Q (sym (below x (omega arith))) (keeps (item x) (s.free x (omega arith)))

      top : (x y : ℕ) → x ≡ n → y < n → assign item n v x ≡ assign item n v y → ⊥
      top x y q l e = was (subst P (sym (below y l) ∙ sym e ∙ ap (assign item n v) q ∙ assign_same item n v) (s.free y l))

      distinct : (x y : ℕ) → x < suc n → y < suc n → assign item n v x ≡ assign item n v y → Dec (x ≡ n) → Dec (y ≡ n) → x ≡ y
      distinct x y lx ly e (yes p) (yes q) = p ∙ sym q
      distinct x y lx ly e (yes p) (no q) = absurd (top x y p (omega arith) e)
      distinct x y lx ly e (no p) (yes q) = absurd (top y x q (omega arith) (sym e))
      distinct x y lx ly e (no p) (no q) =
          s.distinct x y (omega arith) (omega arith) (sym (below x (omega arith)) ∙ e ∙ below y (omega arith))
