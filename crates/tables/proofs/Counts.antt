-- Counting the numbers that are there.
use Rattle.std.proofs.Common.{◌≡◌, ℕ, zero, suc, ◌+◌, cond, List, ◌∷◌, length, get_or, true, false, count_by, is_some, Some, None, Option, sym, refl, ap, add-one, ◌∙◌, zero-add, arith}
use Rattle.std.proofs.lemmas.List.Recursion.{is_count_by}
use Rattle.rules.specs.Indexed.{sum}
use Rattle.forest.specs.Forest.{has}

pub sum_next : (n : ℕ) (f : ℕ → ℕ) → sum (n + 1) f ≡ f n + sum n f
unfolding sum
sum_next n f = ap (λ m. sum m f) (add-one n)

pub has_some : (o : Option ℕ) → is_some o ≡ true → has o ≡ 1
has_some None h = let z : ◌≡◌ {A = ℕ} 0 1 = cc in absurd (omega arith)
has_some (Some n) h = refl

pub has_none : (o : Option ℕ) → is_some o ≡ false → has o ≡ 0
has_none None h = refl
has_none (Some n) h = let z : ◌≡◌ {A = ℕ} 0 1 = cc in absurd (omega arith)

-- a sum, the first summand apart
sum_first : (n : ℕ) (f : ℕ → ℕ) → sum (suc n) f ≡ f 0 + sum n (λ k. f (suc k))
unfolding sum
sum_first zero f = refl
sum_first (suc n) f = let rest = sum_first n f in omega arith

abbrev there : List (Option ℕ) → ℕ
there xs = sum (length xs) (λ k. has (get_or xs k None))

there_more : (x : Option ℕ) (xs : List (Option ℕ)) → there (x ∷ xs) ≡ cond (is_some x) (1 + there xs) (there xs)
there_more None xs = sum_first (length xs) (λ k. has (get_or (None ∷ xs) k None)) ∙ zero-add _
there_more (Some n) xs = sum_first (length xs) (λ k. has (get_or (Some n ∷ xs) k None))

pub count_there : (xs : List (Option ℕ)) → count_by is_some xs ≡ there xs
unfolding sum
count_there xs = sym (is_count_by there is_some refl there_more xs)
