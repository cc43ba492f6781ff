-- Arrays made by a function of the index.
use Rattle.std.proofs.Common.{◌≡◌, ℕ, ◌+◌, ◌<◌, ◌≤◌, zero, suc, List, get_or, sym, subst, arith}
use native.Mathlib.Decide.{ℕ_discrete}
use denote.Param.Members.{Mut, Called}
use Rattle.std.specs.Array.{IsFromFnResultFrom, IsFromFnResult}

-- what each call gives stands at its index, where no call changes the function
module _ {F B : Type 0} (g : Mut F (ℕ × Unit {0}) B) (f : F) (P : ℕ → B → Type 0) (calls : (i : ℕ) (y : B) (q : F) → Called g f (i, tt) y q → (q ≡ f) × P i y) (ys : List B) (d : B) where
  each_from : (n i : ℕ) (h : F) → h ≡ f → IsFromFnResultFrom g h ys i n → (k : ℕ) → i ≤ k → k < i + n → P k (get_or ys k d)
  each_from zero i h e w k low high = absurd (omega arith)
  each_from (suc n) i h e w k low high = go (ℕ_discrete k i) (each_from n (i + 1) w.0 call.0 w.4 k)
    where
      call : (w.0 ≡ f) × P i w.1
      call = calls i w.1 w.0 (subst (λ (p : F). Called g p (i, tt) w.1 w.0) e w.3)

      go : Dec (k ≡ i) → (i + 1 ≤ k → k < i + 1 + n → P k (get_or ys k d)) → P k (get_or ys k d)
      go (yes q) rest = subst (λ (x : ℕ). P x (get_or ys x d)) (sym q) (subst (P i) (sym (w.2.1 d)) call.1)
      go (no q) rest = rest (omega arith) (omega arith)

  pub each_of : (n : ℕ) → IsFromFnResult g f ys n → (k : ℕ) → k < n → P k (get_or ys k d)
  each_of n made k low = each_from n 0 f (λ _. f) made.each k (omega arith) (omega arith)
