-- A loop that clears the marked objects, from the first on.
use Rattle.std.proofs.Common.{◌≡◌, ℕ, ◌+◌, ◌<◌, ◌≤◌, Bool, true, false, cond, ◌&&◌, ltb, sym, refl, ap, ◌∙◌, subst, arith, ltb-false, ltb-true, le-ltb, lt-ltb}
use native.Mathlib.Decide.{ℕ_discrete}
use Rattle.rules.specs.Indexed.{assign}
use Rattle.rules.proofs.Assign.{assign_same, assign_other}
use Rattle.forest.specs.Nodes.{Nodes, cleared}

-- b is a with the marked objects below i cleared
abbrev pub ClearedBelow : (ℕ → Bool) → Nodes → Nodes → ℕ → Type 0
ClearedBelow m a b i = (k : ℕ) → b k ≡ cond (ltb k i && m k) (cleared (a k)) (a k)

pub cleared_none : (m : ℕ → Bool) (a : Nodes) → ClearedBelow m a a 0
cleared_none m a k = sym (ap (λ t. cond (t && m k) (cleared (a k)) (a k)) (le-ltb k 0 (omega arith)))

and_false : (t : Bool) → (t && false) ≡ false
and_false true = refl
and_false false = refl

module _ (m : ℕ → Bool) (a b : Nodes) (i : ℕ) (u : ClearedBelow m a b i) where
  -- what is not yet reached is as it was
  pub not_reached : (k : ℕ) → i ≤ k → b k ≡ a k
  not_reached k h = u k ∙ ap (λ t. cond (t && m k) (cleared (a k)) (a k)) (le-ltb k i h)

  next : (k : ℕ) → (k ≡ i → ⊥) → ltb k i ≡ ltb k (i + 1)
  next k ne = go (ltb k i) refl
    where
      go : (t : Bool) → ltb k i ≡ t → t ≡ ltb k (i + 1)
      go true q = let l = ltb-true k i q in sym (lt-ltb k (i + 1) (omega arith))
      go false q = let l = ltb-false k i q in sym (le-ltb k (i + 1) (omega arith))

  others : (k : ℕ) → (k ≡ i → ⊥) → b k ≡ cond (ltb k (i + 1) && m k) (cleared (a k)) (a k)
  others k ne = u k ∙ ap (λ t. cond (t && m k) (cleared (a k)) (a k)) (next k ne)

  pub cleared_next : (b' : Nodes) → m i ≡ true → b' ≡ assign b i (cleared (b i)) → ClearedBelow m a b' (i + 1)
  cleared_next b' h e k = ap (λ (f : Nodes). f k) e ∙ go (ℕ_discrete k i)
    where
      here : cleared (a i) ≡ cond (ltb i (i + 1) && m i) (cleared (a i)) (a i)
      here = sym (ap (λ t. cond (t && m i) (cleared (a i)) (a i)) (lt-ltb i (i + 1) (omega arith)) ∙ ap (λ t. cond t (cleared (a i)) (a i)) h)

      go : Dec (k ≡ i) → assign b i (cleared (b i)) k ≡ cond (ltb k (i + 1) && m k) (cleared (a k)) (a k)
      go (yes q) =
          subst (λ (z : ℕ). assign b i (cleared (b i)) z ≡ cond (ltb z (i + 1) && m z) (cleared (a z)) (a z)) (sym q)
          (assign_same b i _ ∙ ap cleared (not_reached i (omega arith)) ∙ here)
      go (no q) = assign_other b i k _ q ∙ others k q

  pub cleared_over : m i ≡ false → ClearedBelow m a b (i + 1)
  cleared_over h k = go (ℕ_discrete k i)
    where
      here : a i ≡ cond (ltb i (i + 1) && m i) (cleared (a i)) (a i)
      here = sym (ap (λ t. cond (ltb i (i + 1) && t) (cleared (a i)) (a i)) h ∙ ap (λ t. cond t (cleared (a i)) (a i)) (and_false (ltb i (i + 1))))

      go : Dec (k ≡ i) → b k ≡ cond (ltb k (i + 1) && m k) (cleared (a k)) (a k)
      go (yes q) = subst (λ (z : ℕ). b z ≡ cond (ltb z (i + 1) && m z) (cleared (a z)) (a z)) (sym q) (not_reached i (omega arith) ∙ here)
      go (no q) = others k q

  -- where nothing is marked past the end
  pub cleared_all : ((k : ℕ) → m k ≡ true → k < i) → (k : ℕ) → b k ≡ cond (m k) (cleared (a k)) (a k)
  cleared_all within k = u k ∙ ap (λ t. cond t (cleared (a k)) (a k)) (go (m k) refl)
    where
      go : (t : Bool) → m k ≡ t → (ltb k i && m k) ≡ m k
      go true q = ap (λ t. t && m k) (lt-ltb k i (within k q))
      go false q = ap (λ t. ltb k i && t) q ∙ and_false (ltb k i) ∙ sym q
