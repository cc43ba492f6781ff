-- A line says a call exactly where it is the text of that call. Assumes nothing.
use Rattle.std.proofs.Common.{◌≡◌, ℕ, zero, suc, ◌+◌, ◌*◌, ◌/◌, ◌^◌, ◌<◌, ◌≤◌, List, [], ◌∷◌, ◌++◌, length, take, drop, All, Some, None, Option, sym, refl, ap, ◌∙◌, subst, arith}
use Rattle.std.proofs.lemmas.List.{take-append-drop, nil_from_length}
use Rattle.std.proofs.lemmas.List.Elements.{All-nil, All-cons, All-head, All-tail}
use Rattle.std.proofs.lemmas.Bool.Decides.{nat_tests}
use Rattle.std.proofs.lemmas.Option.{none-some, same_Some, option_and_then_some}
use Rattle.std.specs.Option.{option_map}
use Rattle.listing.specs.Lines.{Submitted, decimal_digit, hex_from, word_in, words_by, words_in, submitted_in, line_in}
use Rattle.listing.specs.Text.{hex_text, words_text, line_text, Writable, OneLineEach}
use Rattle.listing.proofs.Digits.{decimal_is_read, decimal_is_text, number_is_read, number_is_text}

option_map_some : {X Y P : Type 0} (f : X → Y) (o : Option X) (y : Y) → option_map f o ≡ Some y → ((x : X) → o ≡ Some x → f x ≡ y → P) → P
option_map_some f None y e k = absurd (none-some y e)
option_map_some f (Some x) y e k = k x refl (same_Some (f x) y e)

abbrev IsWord : ℕ → Type 0
IsWord w = w < 2 ^ 32

text_has_nine_each : (ws : List ℕ) → length (words_text ws) ≡ 9 * length ws
text_has_nine_each [] = refl
text_has_nine_each (w ∷ ws) = omega (arith, text_has_nine_each ws)

word_is_read : (w : ℕ) → w < 2 ^ 32 → word_in (32 ∷ hex_text 8 w) ≡ Some w
word_is_read w h = let read = number_is_read 8 0 w h in let same : 0 * 16 ^ 8 + w ≡ w = omega arith in cc

words_are_read : (ws : List ℕ) → All IsWord ws → words_by (length ws) (words_text ws) ≡ Some ws
words_are_read [] h = refl
words_are_read (w ∷ ws) h = rw (word_is_read w (All-head IsWord w ws h), words_are_read ws (All-tail IsWord w ws h))

line_is_read : (s : Submitted) → Writable s → line_in (line_text s) ≡ Some s
line_is_read s h =
    let ws = s.frame in
    let many : length (words_text ws) / 9 ≡ length ws = omega (arith, text_has_nine_each ws) in
    let short : length (line_text s) ≤ 200 = omega (arith, text_has_nine_each ws, h.few) in
    let words : words_in (words_text ws) ≡ Some ws = rw many (words_are_read ws h.words) in
    let digit = decimal_is_read s.process h.digit in
    grind (arith, nat_tests)

word_has_parts : (b : ℕ) (ds : List ℕ) (w : ℕ) → word_in (b ∷ ds) ≡ Some w → (length ds ≡ 8) × (b ≡ 32) × (hex_from 0 ds ≡ Some w)
word_has_parts b ds w e = (grind (arith, nat_tests), grind (arith, nat_tests), grind (arith, nat_tests))

word_is_text : (bs : List ℕ) (w : ℕ) → word_in bs ≡ Some w → (w < 2 ^ 32) × (bs ≡ 32 ∷ hex_text 8 w)
word_is_text [] w e = absurd (none-some w e)
word_is_text (b ∷ ds) w e =
    let parts = word_has_parts b ds w e in
    let spelled = number_is_text 0 ds w parts.2 in
    let same : spelled.0 ≡ w = omega arith in
    let wide : 16 ^ length ds ≡ 16 ^ 8 = ap (λ k. 16 ^ k) parts.0 in
    (omega arith, cc)

words_are_text : (k : ℕ) (bs ws : List ℕ) → words_by k bs ≡ Some ws → All IsWord ws × (bs ≡ words_text ws)
words_are_text zero bs ws e =
    let none : length bs ≡ 0 = grind (arith, nat_tests) in
    let empty : [] ≡ ws = grind (arith, nat_tests) in
    subst (λ us. All IsWord us × (bs ≡ words_text us)) empty (All-nil IsWord, nil_from_length bs none)
words_are_text (suc k) bs ws e =
    option_and_then_some (λ x. option_map (λ xs. x ∷ xs) (words_by k (drop 9 bs))) (word_in (take 9 bs)) ws e (λ first is_first others.
    option_map_some (λ xs. first ∷ xs) (words_by k (drop 9 bs)) ws others (λ rest is_rest all.
    let word = word_is_text (take 9 bs) first is_first in
    let words = words_are_text k (drop 9 bs) rest is_rest in
    subst (λ us. All IsWord us × (bs ≡ words_text us)) all (All-cons IsWord first rest word.0 words.0, sym (take-append-drop 9 bs) ∙ (λ i. word.1 i ++ words.1 i))))

line_is_text : (bs : List ℕ) (s : Submitted) → line_in bs ≡ Some s → Writable s × (bs ≡ line_text s)
line_is_text [] s e = absurd (none-some s e)
line_is_text (b ∷ bs) s e =
    let short : length (b ∷ bs) ≤ 200 = grind (arith, nat_tests) in
    let said : submitted_in (b ∷ bs) ≡ Some s = grind (arith, nat_tests) in
    option_and_then_some (λ n. option_map (λ ws. record { process = n; frame = ws }) (words_in bs)) (decimal_digit b) s said (λ n is_digit others.
    option_map_some (λ ws. record { process = n; frame = ws }) (words_in bs) s others (λ ws are_words all.
    let digit = decimal_is_text b n is_digit in
    let words = words_are_text (length bs / 9) bs ws are_words in
    let few : length ws ≤ 22 = omega (arith, text_has_nine_each ws, ap length words.1) in
    subst (λ c. Writable c × (b ∷ bs ≡ line_text c)) all (record { digit = digit.0; words = words.0; few = few }, λ i. digit.1 i ∷ words.1 i)))

pub one_line_each : OneLineEach
one_line_each = record { reads_back = line_is_read; only_text = line_is_text }
