-- What a splitter has still to give, byte by byte. Assumes nothing.
use Rattle.std.proofs.Common.{◌≡◌, ℕ, zero, suc, ◌-◌, ◌<◌, ◌≤◌, true, false, cond, eqb, leb, List, [], ◌∷◌, ◌++◌, length, take, None, vec_items, vec_len, Decides, sym, refl, ap, ◌∙◌, ⊎_elim, arith, length-append}
use Rattle.std.proofs.lemmas.List.{take_all, nil_from_length}
use Rattle.std.proofs.lemmas.Bool.{cases_Bool, leb-false, leb-true}
use Rattle.std.proofs.lemmas.Bool.Decides.{nat_tests}
use Rattle.listing.specs.declared.splitter.Splitter.{Splitter}
use Rattle.listing.specs.Lines.{line_in}
use Rattle.listing.specs.Listings.{Numbered, last_line, lines_from, numbered_from}
use Rattle.listing.specs.Pending.{begun_line, pending}

-- what is given of lines, the first of them the one after `ended` lines
abbrev given_from : ℕ → List (List ℕ) → List Numbered
given_from ended ls = numbered_from (suc ended) (take (64 - ended) ls)

over_gives_nothing : (s : Splitter) (bs : List ℕ) → 64 ≤ s.ended → pending s bs ≡ []
over_gives_nothing s bs over =
    let none : 64 - s.ended ≡ 0 = omega arith in ap (λ k. numbered_from (suc s.ended) (take k (lines_from (vec_items s.begun) bs))) none

first_is_given : (s : Splitter) (ls : List (List ℕ)) → s.ended < 64 → given_from s.ended (vec_items s.begun ∷ ls) ≡ begun_line s ∷ given_from (suc s.ended) ls
first_is_given s ls left = let more : 64 - s.ended ≡ suc (64 - suc s.ended) = omega arith in ap (λ k. numbered_from (suc s.ended) (take k (vec_items s.begun ∷ ls))) more

-- before the 64th line a newline would give one more
pub count_tells_over : (s : Splitter) → Decides (leb 64 s.ended) ((bs : List ℕ) → pending s bs ≡ [])
count_tells_over s = (
  (λ e bs. over_gives_nothing s bs (leb-true 64 s.ended e)),
  (λ h. ⊎_elim (λ e. e) (λ e. absurd (omega (arith, ap length (sym (first_is_given s [] (leb-false 64 s.ended e)) ∙ h (10 ∷ []))))) (cases_Bool (leb 64 s.ended))),
)

pub newline_ends_line : (s t : Splitter) (l : Numbered) (b : ℕ) → s.ended < 64 → b ≡ 10 → l ≡ begun_line s → t.ended ≡ suc s.ended → vec_items t.begun ≡ [] → (bs : List ℕ) → pending s (b ∷ bs) ≡ l ∷ pending t bs
newline_ends_line s t l b left newline line counted emptied bs = let first = first_is_given s (lines_from [] bs) left in cc

last_is_line : (xs : List ℕ) → 0 < length xs → last_line xs ≡ xs ∷ []
last_is_line [] h = absurd (omega arith)
last_is_line (x ∷ xs) h = refl

pub end_ends_line : (s : Splitter) (l : Numbered) → s.ended < 64 → (vec_len s.begun ≡ 0 → ⊥) → l ≡ begun_line s → pending s [] ≡ l ∷ []
end_ends_line s l left some line =
    ap (given_from s.ended) (last_is_line (vec_items s.begun) (omega arith))
    ∙ first_is_given s [] left
    ∙ (λ i. sym line i ∷ numbered_from (suc (suc s.ended)) (take_all (64 - suc s.ended) [] (omega arith) i))

pub end_gives_nothing : (s : Splitter) → vec_len s.begun ≡ 0 → pending s [] ≡ []
end_gives_nothing s none =
    ap (λ xs. given_from s.ended (last_line xs)) (nil_from_length (vec_items s.begun) (omega arith)) ∙ ap (numbered_from (suc s.ended)) (take_all (64 - s.ended) [] (omega arith))

other_byte_goes_on : (s : Splitter) (b : ℕ) → (b ≡ 10 → ⊥) → (bs : List ℕ) → pending s (b ∷ bs) ≡ given_from s.ended (lines_from (vec_items s.begun ++ b ∷ []) bs)
other_byte_goes_on s b other bs = grind (arith, nat_tests)

pub kept_byte_goes_on : (s t : Splitter) (b : ℕ) → (b ≡ 10 → ⊥) → t.ended ≡ s.ended → vec_items t.begun ≡ vec_items s.begun ++ b ∷ [] → (bs : List ℕ) → pending s (b ∷ bs) ≡ pending t bs
kept_byte_goes_on s t b other counted kept bs = other_byte_goes_on s b other bs ∙ sym (λ i. given_from (counted i) (lines_from (kept i) bs))

pub long_line_says_nothing : (xs : List ℕ) → 200 < length xs → line_in xs ≡ None
long_line_says_nothing xs h = grind (arith, nat_tests)

long_firsts_alike : (n k : ℕ) (xs ys : List ℕ) (ls : List (List ℕ)) → 200 < length xs → 200 < length ys → numbered_from n (take k (xs ∷ ls)) ≡ numbered_from n (take k (ys ∷ ls))
long_firsts_alike n zero xs ys ls h l = refl
long_firsts_alike n (suc k) xs ys ls h l = ap (λ o. record { number = n; call = o } ∷ numbered_from (suc n) (take k ls)) (long_line_says_nothing xs h ∙ sym (long_line_says_nothing ys l))

-- two lines that are too long say the same, whatever follows
long_lines_alike : (n k : ℕ) (bs xs ys : List ℕ) → 200 < length xs → 200 < length ys → numbered_from n (take k (lines_from xs bs)) ≡ numbered_from n (take k (lines_from ys bs))
long_lines_alike n k [] (x ∷ xs) (y ∷ ys) h l = long_firsts_alike n k (x ∷ xs) (y ∷ ys) [] h l
long_lines_alike n k [] [] ys h l = absurd (omega arith)
long_lines_alike n k [] xs [] h l = absurd (omega arith)
long_lines_alike n k (b ∷ bs) xs ys h l =
    let longer : (zs : List ℕ) → 200 < length zs → 200 < length (zs ++ b ∷ []) = λ zs m. omega (arith, length-append zs (b ∷ [])) in
    elim (eqb b 10) as (λ t. numbered_from n (take k (cond t (xs ∷ lines_from [] bs) (lines_from (xs ++ b ∷ []) bs))) ≡ numbered_from n (take k (cond t (ys ∷ lines_from [] bs) (lines_from (ys ++ b ∷ []) bs))))
    [ true ↦ long_firsts_alike n k xs ys (lines_from [] bs) h l | false ↦ long_lines_alike n k bs (xs ++ b ∷ []) (ys ++ b ∷ []) (longer xs h) (longer ys l) ]

pub long_line_goes_on : (s : Splitter) (b : ℕ) → (b ≡ 10 → ⊥) → 200 < vec_len s.begun → (bs : List ℕ) → pending s (b ∷ bs) ≡ pending s bs
long_line_goes_on s b other long bs =
    let begun = vec_items s.begun in
    other_byte_goes_on s b other bs ∙ long_lines_alike (suc s.ended) (64 - s.ended) bs (begun ++ b ∷ []) begun (omega (arith, length-append begun (b ∷ []))) (omega arith)

-- what a byte does
pub ruleset byte_by_byte = (newline_ends_line, long_line_goes_on)
