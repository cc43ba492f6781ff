-- Digits, and the numbers that they spell. Assumes nothing.
use Rattle.std.proofs.Common.{◌≡◌, ℕ, zero, suc, ◌+◌, ◌*◌, ◌/◌, ◌%◌, ◌^◌, ◌<◌, ◌≤◌, List, [], ◌∷◌, length, get_or, drop, Some, None, sym, refl, ap, ◌∙◌, mod-lt, mul_assoc, mul_comm, div-lt_iff_lt-mul, add-mul, pow-suc, div-add-mod', arith, lit<, pow_mono, pow-add}
use Rattle.std.proofs.Math.Nat.{one-le-pow, pow-le-pow_right}
use Rattle.std.proofs.Math.Arith.{digits_div, digits_mod, digits_lt}
use Rattle.std.proofs.lemmas.List.{at_drop_more, at_drop_all}
use Rattle.std.proofs.lemmas.Option.{option_and_then_some, same_Some}
use Rattle.std.specs.Option.{option_and_then}
use Rattle.std.proofs.lemmas.Bool.Decides.{nat_tests}
use Rattle.listing.specs.Lines.{decimal_digit, hex_digit, hex_from}
use Rattle.listing.specs.Text.{hex_char, hex_text}

pub decimal_is_read : (n : ℕ) → n < 10 → decimal_digit (48 + n) ≡ Some n
decimal_is_read n h = grind (arith, nat_tests)

pub decimal_is_text : (b n : ℕ) → decimal_digit b ≡ Some n → (n < 10) × (b ≡ 48 + n)
decimal_is_text b n e = (grind (arith, nat_tests), grind (arith, nat_tests))

digit_is_read : (d : ℕ) → d < 16 → hex_digit (hex_char d) ≡ Some d
digit_is_read d h = grind (arith, nat_tests)

pub digit_is_text : (b d : ℕ) → hex_digit b ≡ Some d → (d < 16) × (b ≡ hex_char d)
digit_is_text b d e = (grind (arith, nat_tests), grind (arith, nat_tests))

pub seven_digits_are_most : (i : ℕ) → i < 8 → 16 ^ i ≤ 16 ^ 7
seven_digits_are_most i few = pow-le-pow_right {n = 16} (lit< tt) {i = i} {j = 7} (omega arith)

-- i digits take 4 bits each
pub one_more_digit_fits : (n i d : ℕ) → n < 2 ^ (4 * i) → d < 16 → n * 16 + d < 2 ^ (4 * (i + 1))
one_more_digit_fits n i d h l =
    let more : 4 * (i + 1) ≡ 4 * i + 4 = omega arith in
    let step : 2 ^ (4 * (i + 1)) ≡ 2 ^ (4 * i) * 16 = ap (λ k. 2 ^ k) more ∙ pow-add 2 (4 * i) 4 in
    omega arith

pub eight_digits_fit : (n i d : ℕ) → n < 2 ^ (4 * i) → i < 8 → d < 16 → n * 16 + d < 2 ^ 32
eight_digits_fit n i d h k l =
    let few : 4 * (i + 1) ≤ 32 = omega arith in omega (arith, one_more_digit_fits n i d h l, pow_mono {i = 4 * (i + 1)} {j = 32} few)

-- the first i digits spell n
module _ (ds : List ℕ) (i n : ℕ) (so : hex_from n (drop i ds) ≡ hex_from 0 ds) where
  digit_leads_on : i < length ds → option_and_then (λ d. hex_from (n * 16 + d) (drop (i + 1) ds)) (hex_digit (get_or ds i 0)) ≡ hex_from 0 ds
  digit_leads_on lt = sym (at_drop_more (hex_from n) ds i 0 lt) ∙ so

  pub next_digit_spells_on : i < length ds → (d : ℕ) → hex_digit (get_or ds i 0) ≡ Some d → hex_from (n * 16 + d) (drop (i + 1) ds) ≡ hex_from 0 ds
  next_digit_spells_on lt d e = ap (option_and_then (λ x. hex_from (n * 16 + x) (drop (i + 1) ds))) (sym e) ∙ digit_leads_on lt

  pub no_digit_spells_nothing : i < length ds → hex_digit (get_or ds i 0) ≡ None → None ≡ hex_from 0 ds
  no_digit_spells_nothing lt e = ap (option_and_then (λ x. hex_from (n * 16 + x) (drop (i + 1) ds))) (sym e) ∙ digit_leads_on lt

  pub all_digits_spell_number : length ds ≤ i → Some n ≡ hex_from 0 ds
  all_digits_spell_number past = sym (at_drop_all (hex_from n) ds i past) ∙ so

-- a digit d in front of k digits that spell w
front_digit_adds : (n k d w : ℕ) → (n * 16 + d) * 16 ^ k + w ≡ n * 16 ^ suc k + (d * 16 ^ k + w)
front_digit_adds n k d w =
    omega (arith, add-mul (n * 16) d (16 ^ k), mul_assoc n 16 (16 ^ k), ap (λ m. n * m) (pow-suc 16 k), ap (λ m. n * m) (mul_comm (16 ^ k) 16))

front_digit_fits : (k d w : ℕ) → d < 16 → w < 16 ^ k → d * 16 ^ k + w < 16 ^ suc k
front_digit_fits k d w h l = omega (arith, digits_lt h l, pow-suc 16 k)

front_digit_is_text : (k d w : ℕ) → w < 16 ^ k → hex_char d ∷ hex_text k w ≡ hex_text (suc k) (d * 16 ^ k + w)
front_digit_is_text k d w h = let first = digits_div d h in let rest = digits_mod d h in cc

pub number_is_read : (k n w : ℕ) → w < 16 ^ k → hex_from n (hex_text k w) ≡ Some (n * 16 ^ k + w)
number_is_read zero n w h = ap (λ m. Some m) (let e : n ≡ n * 1 + w = omega arith in e)
number_is_read (suc k) n w h =
    let some : 0 < 16 ^ k = one-le-pow k 16 (lit< tt) in
    let d = w / 16 ^ k in
    let wide : w < 16 * 16 ^ k = omega (arith, pow-suc 16 k) in
    let small : d < 16 = (div-lt_iff_lt-mul {k = 16 ^ k} {x = w} {y = 16} some).1 wide in
    ap (option_and_then (λ x. hex_from (n * 16 + x) (hex_text k (w % 16 ^ k)))) (digit_is_read d small)
    ∙ number_is_read k (n * 16 + d) (w % 16 ^ k) (mod-lt w some)
    ∙ ap (λ m. Some m) (front_digit_adds n k d (w % 16 ^ k) ∙ ap (λ m. n * 16 ^ suc k + m) (div-add-mod' w (16 ^ k)))

-- digits that spell m behind those that spelled n are the text of what they add
pub number_is_text : (n : ℕ) (ds : List ℕ) (m : ℕ) → hex_from n ds ≡ Some m → (w : ℕ) × (w < 16 ^ length ds) × (m ≡ n * 16 ^ length ds + w) × (ds ≡ hex_text (length ds) w)
number_is_text n [] m e = let same = same_Some n m e in (0, lit< tt, omega arith, refl)
number_is_text n (b ∷ ds) m e =
    option_and_then_some (λ x. hex_from (n * 16 + x) ds) (hex_digit b) m e (λ d is_digit is_rest.
    let digit = digit_is_text b d is_digit in
    let rest = number_is_text (n * 16 + d) ds m is_rest in
    let k = length ds in
    let w = rest.0 in
    (d * 16 ^ k + w, front_digit_fits k d w digit.0 rest.1, rest.2 ∙ front_digit_adds n k d w, (λ i. digit.1 i ∷ rest.3 i) ∙ front_digit_is_text k d w rest.1))
