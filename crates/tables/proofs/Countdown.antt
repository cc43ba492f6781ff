-- Numbers pushed one after the other, the largest first.
use Rattle.std.proofs.Common.{◌≡◌, ℕ, ◌+◌, ◌-◌, ◌<◌, List, [], ◌∷◌, ◌++◌, length, get_or, ap, ◌∙◌, arith}
use native.Mathlib.Decide.{dec_lt}
use Rattle.std.proofs.lemmas.List.{get_or_append_left, get_or_push}

-- the first n of the items are the largest of count numbers from low on
abbrev pub Down : ℕ → ℕ → List ℕ → ℕ → Type 0
Down low count xs n = (x : ℕ) → x < n → get_or xs x 0 ≡ low + (count - 1 - x)

pub down_more : (low count number : ℕ) (xs ys : List ℕ) (n m : ℕ) → length xs ≡ n → m ≡ n + 1 → ys ≡ xs ++ (number - 1) ∷ [] → n + number ≡ low + count → low < number → Down low count xs n → Down low count ys m
down_more low count number xs ys n m long next is sum more down x lt = ap (λ (l : List ℕ). get_or l x 0) is ∙ go (dec_lt x n)
  where
    go : Dec (x < n) → get_or (xs ++ (number - 1) ∷ []) x 0 ≡ low + (count - 1 - x)
    go (yes l) = get_or_append_left xs ((number - 1) ∷ []) 0 x (omega arith) ∙ down x l
    go (no l) = let value : number - 1 ≡ low + (count - 1 - x) = omega arith in get_or_push xs (number - 1) 0 x (omega arith) ∙ value
