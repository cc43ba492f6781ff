-- Words one behind the other, as the code cuts and collects them. Assumes nothing.
use Rattle.std.proofs.Common.{◌≡◌, ℕ, suc, ◌-◌, ◌/◌, ◌<◌, ◌≤◌, min, List, [], ◌∷◌, ◌++◌, length, get_or, take, drop, Some, None, Option, option_map, sym, refl, ap, ◌∙◌, ⊎_elim, append_assoc, arith, length-append}
use Rattle.std.proofs.lemmas.List.{take_at, take_rest, drop_at}
use Rattle.std.proofs.lemmas.Bool.{cases_lt}
use Rattle.std.proofs.lemmas.Bool.Decides.{nat_tests}
use Rattle.listing.specs.Lines.{hex_from, before, word_in, words_in}

short_is_no_word : (bs : List ℕ) → length bs < 9 → word_in bs ≡ None
short_is_no_word [] l = refl
short_is_no_word (b ∷ ds) l = grind (arith, nat_tests)

-- a piece is the first nine bytes, or all of fewer
module _ (piece rest : List ℕ) (long : length piece ≡ min 9 (length (piece ++ rest))) (some : 0 < length (piece ++ rest)) where
  few_bytes_are_no_words : length (piece ++ rest) < 9 → words_in (piece ++ rest) ≡ before (word_in piece) (words_in rest)
  few_bytes_are_no_words few =
      let none : length (piece ++ rest) / 9 ≡ 0 = omega arith in
      let short = short_is_no_word piece (omega arith) in
      grind (arith, nat_tests)

  nine_bytes_are_first_word : 9 ≤ length (piece ++ rest) → words_in (piece ++ rest) ≡ before (word_in piece) (words_in rest)
  nine_bytes_are_first_word enough =
      let nine : length piece ≡ 9 = omega arith in
      let one : length (piece ++ rest) / 9 ≡ suc (length rest / 9) = omega (arith, length-append piece rest) in
      let first = take_at piece rest 9 nine in
      let others = drop_at piece rest 9 nine in
      cc

  pub piece_is_first_word : words_in (piece ++ rest) ≡ before (word_in piece) (words_in rest)
  piece_is_first_word = ⊎_elim few_bytes_are_no_words nine_bytes_are_first_word (cases_lt (length (piece ++ rest)) 9)

-- words in front of words that may be none
abbrev pub behind : List ℕ → Option (List ℕ) → Option (List ℕ)
behind ws o = option_map (λ vs. ws ++ vs) o

pub behind_one_more : (ws : List ℕ) (w : ℕ) (o : Option (List ℕ)) → behind (ws ++ w ∷ []) o ≡ behind ws (before (Some w) o)
behind_one_more ws w None = refl
behind_one_more ws w (Some vs) = ap (λ us. Some us) (append_assoc ws (w ∷ []) vs)

-- xs is what is left, behind the words ws, of all, and its next piece is cut off
module _ (ws xs all : List ℕ) (so : behind ws (words_in xs) ≡ words_in all) (size : ℕ) (nine : size ≡ 9) (piece rest : List ℕ) (cut : (xs ≡ piece ++ rest) × (length piece ≡ min size (length xs)) × (0 < length xs)) where
  piece_leads_on : behind ws (before (word_in piece) (words_in rest)) ≡ words_in all
  piece_leads_on =
      let same : length xs ≡ length (piece ++ rest) = ap length cut.0 in
      sym (ap (behind ws) (ap words_in cut.0 ∙ piece_is_first_word piece rest (omega arith) (omega arith))) ∙ so

  pub next_word_adds : (w : ℕ) → word_in piece ≡ Some w → (us : List ℕ) → us ≡ ws ++ w ∷ [] → behind us (words_in rest) ≡ words_in all
  next_word_adds w e us pushed =
      ap (λ vs. behind vs (words_in rest)) pushed ∙ behind_one_more ws w (words_in rest) ∙ ap (λ o. behind ws (before o (words_in rest))) (sym e) ∙ piece_leads_on

  pub no_word_leaves_none : word_in piece ≡ None → words_in all ≡ None
  no_word_leaves_none e = sym piece_leads_on ∙ ap (λ o. behind ws (before o (words_in rest))) e

-- a turn of the loop over the pieces
pub ruleset word_by_word = (piece_is_first_word, behind_one_more)

-- all of a list but its first element, as a pattern `[first, rest @ ..]` cuts it
abbrev pub tail : List ℕ → List ℕ
tail xs = take (length xs - 1) (drop 1 xs)

pub tail_is_rest : (x : ℕ) (xs : List ℕ) → tail (x ∷ xs) ≡ xs
tail_is_rest x xs = take_rest (x ∷ xs) 1

pub tail_spells_word : (xs : List ℕ) → length (tail xs) ≡ 8 → get_or xs 0 0 ≡ 32 → hex_from 0 (tail xs) ≡ word_in xs
tail_spells_word [] e f = absurd (omega arith)
tail_spells_word (x ∷ xs) e f = let eight : length xs ≡ 8 = sym (ap length (tail_is_rest x xs)) ∙ e in ap (hex_from 0) (tail_is_rest x xs) ∙ grind (arith, nat_tests)
