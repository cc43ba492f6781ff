-- Sums over a range of indices, as chains of iterators make them.
use Rattle.std.proofs.Common.{◌≡◌, ℕ, ◌+◌, ◌-◌, ◌≤◌, Bool, cond, ltb, sum_by, is_some, not, ◌&&◌, Option, Some, None, zero, suc, List, [], ◌∷◌, refl, sym, ap, ◌∙◌, arith, le-ltb, lt-ltb, add-zero, zero-add}
use Rattle.std.specs.List.{range_with_len, filter}
use Rattle.std.proofs.lemmas.List.Sums.{sum_by-cons}
use Rattle.rules.specs.Indexed.{sum}
use Rattle.rules.specs.Segments.{touched}
use Rattle.forest.specs.Forest.{has}
use Rattle.forest.proofs.Tally.{sum_none}
use Rattle.tables.proofs.Counts.{sum_next}
use Rattle.objects.specs.Writes.{lacks}

-- the n indices from a on, after those below a
pub sum_range : (f g : ℕ → ℕ) (a n : ℕ) → ((k : ℕ) → a ≤ k → f k ≡ g k) → sum_by f (range_with_len a n) + sum a g ≡ sum (a + n) g
sum_range f g a zero is = let same = ap (λ m. sum m g) (add-zero a) in omega arith
sum_range f g a (suc n) is =
    let rest = sum_range f g (a + 1) n (λ k h. is k (omega arith)) in
    let first = sum_by-cons f a (range_with_len (a + 1) n) in
    let here = is a (omega arith) in
    let next = sum_next a g in
    let more : a + 1 + n ≡ a + suc n = omega arith in
    let same = ap (λ m. sum m g) more in
    omega arith

sum_filter : (p : ℕ → Bool) (f : ℕ → ℕ) (xs : List ℕ) → sum_by f (filter p xs) ≡ sum_by (λ x. cond (p x) (f x) 0) xs
sum_filter p f [] = refl
sum_filter p f (x ∷ xs) = here (p x) ∙ ap (λ n. cond (p x) (f x) 0 + n) (sum_filter p f xs) ∙ sym (sum_by-cons (λ k. cond (p k) (f k) 0) x xs)
  where
    here : (t : Bool) → sum_by f (cond t (x ∷ filter p xs) (filter p xs)) ≡ cond t (f x) 0 + sum_by f (filter p xs)
    here Bool.true = sum_by-cons f x (filter p xs)
    here Bool.false = sym (zero-add (sum_by f (filter p xs)))

-- what is marked of the first n
pub sum_marked : (m : ℕ → Bool) (f : ℕ → ℕ) (n : ℕ) → sum_by f (filter m (range_with_len 0 n)) ≡ sum n (λ k. cond (m k) (f k) 0)
unfolding sum
sum_marked m f n =
    let all = sum_range (λ k. cond (m k) (f k) 0) (λ k. cond (m k) (f k) 0) 0 n (λ k h. refl) in
    let is = sum_filter m f (range_with_len 0 n) in
    let same = ap (λ x. sum x (λ k. cond (m k) (f k) 0)) (let e : 0 + n ≡ n = omega arith in e) in
    omega arith

has_is : (o : Option ℕ) → cond (is_some o) 1 0 ≡ has o
has_is None = refl
has_is (Some v) = refl

-- the pages from keep on that are there
pub count_present : (ps : ℕ → Option ℕ) (keep n m : ℕ) → keep + n ≡ m → sum_by (λ k. cond (is_some (ps k)) 1 0) (range_with_len keep n) ≡ sum m (λ k. cond (ltb k keep) 0 (has (ps k)))
count_present ps keep n m end =
    let below = sum_none keep (λ k. cond (ltb k keep) 0 (has (ps k))) (λ k l. ap (λ (t : Bool). cond t 0 (has (ps k))) (lt-ltb k keep l)) in
    let all = sum_range (λ k. cond (is_some (ps k)) 1 0) (λ k. cond (ltb k keep) 0 (has (ps k))) keep n
    (λ k h. has_is (ps k) ∙ sym (ap (λ (t : Bool). cond t 0 (has (ps k))) (le-ltb k keep h))) in
    let same = ap (λ x. sum x (λ k. cond (ltb k keep) 0 (has (ps k)))) end in
    omega arith

lacks_is : (t : Bool) (o : Option ℕ) → cond (t && not (is_some o)) 1 0 ≡ cond t (1 - has o) 0
lacks_is Bool.false o = refl
lacks_is Bool.true None = refl
lacks_is Bool.true (Some v) = refl

-- the pages that lack one of the words
pub count_lacking : (first m : ℕ) (ps : ℕ → Option ℕ) (n : ℕ) → sum_by (λ k. cond (touched first m k && not (is_some (ps k))) 1 0) (range_with_len 0 n) ≡ sum n (lacks first m ps)
unfolding sum
count_lacking first m ps n =
    let all = sum_range (λ k. cond (touched first m k && not (is_some (ps k))) 1 0) (lacks first m ps) 0 n (λ k h. lacks_is (touched first m k) (ps k)) in
    let same = ap (λ x. sum x (lacks first m ps)) (let e : 0 + n ≡ n = omega arith in e) in
    omega arith

-- each index counts at most once
pub few_counted : (p : ℕ → Bool) (a n : ℕ) → sum_by (λ k. cond (p k) 1 0) (range_with_len a n) ≤ n
few_counted p a zero = omega arith
few_counted p a (suc n) =
    let rest = few_counted p (a + 1) n in
    let first = sum_by-cons (λ k. cond (p k) 1 0) a (range_with_len (a + 1) n) in
    let one = once (p a) in
    omega arith
  where
    once : (t : Bool) → cond t 1 0 ≤ 1
    once Bool.true = omega arith
    once Bool.false = omega arith
