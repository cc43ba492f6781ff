-- A loop that puts f of each item in its place, from the first on.
use Rattle.std.proofs.Common.{◌≡◌, ℕ, ◌+◌, ◌<◌, ◌≤◌, List, length, get_or, set, sym, ap, ◌∙◌, subst, arith}
use native.Mathlib.Decide.{dec_lt}
use Rattle.std.proofs.lemmas.List.{get_or_past, get_or-set_same, get_or-set_other}

-- ys is xs with f of each item below i
abbrev pub Upto : {X : Type 0} → (X → X) → X → List X → List X → ℕ → Type 0
Upto f d xs ys i = ((k : ℕ) → k < i → get_or ys k d ≡ f (get_or xs k d)) × ((k : ℕ) → i ≤ k → get_or ys k d ≡ get_or xs k d)

module _ {X : Type 0} (f : X → X) (d : X) (xs ys : List X) (i : ℕ) (u : Upto f d xs ys i) where
  pub upto_more : (v : X) → i < length ys → v ≡ f (get_or ys i d) → Upto f d xs (set ys i v) (i + 1)
  upto_more v l h =
      (λ k lt. go k lt (dec_lt k i), λ k le. get_or-set_other ys i k v d (λ e. omega arith) ∙ u.1 k (omega arith))
    where
      go : (k : ℕ) → k < i + 1 → Dec (k < i) → get_or (set ys i v) k d ≡ f (get_or xs k d)
      go k lt (yes b) = get_or-set_other ys i k v d (λ e. omega arith) ∙ u.0 k b
      go k lt (no n) =
          let e : i ≡ k = omega arith in
          subst (λ (j : ℕ). get_or (set ys i v) j d ≡ f (get_or xs j d)) e (get_or-set_same ys i v d l ∙ h ∙ ap f (u.1 i (omega arith)))

  pub upto_all : f d ≡ d → length xs ≤ i → (k : ℕ) → get_or ys k d ≡ f (get_or xs k d)
  upto_all fd l k = go (dec_lt k i)
    where
      go : Dec (k < i) → get_or ys k d ≡ f (get_or xs k d)
      go (yes b) = u.0 k b
      go (no n) = let p = get_or_past xs k d (omega arith) in u.1 k (omega arith) ∙ p ∙ sym fd ∙ ap f (sym p)
