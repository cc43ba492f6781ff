-- A list of words that is part of another, page by page. Assumes nothing.
use Rattle.std.specs.Prelude.{◌≡◌, ℕ, Bool, true, List, Some, None, Option, slice_index, slice_set}
use Rattle.std.proofs.Common.{sym, ap, ◌∙◌}
use Rattle.std.proofs.lemmas.Bool.{cond_both}
use Rattle.volumes.specs.Pages.{inside, word_index, word_at, written}
use Rattle.volumes.specs.Insides.{inside_read, outside_read, inside_written, outside_written}

-- page p of a part is page q of the whole that holds it
pub record PartPage (whole : List ℕ → List ℕ) (part : List ℕ) (p q : ℕ) : Type 0 where
  pub same_inside : (word : ℕ) → inside part p word ≡ inside (whole part) q word
  pub same_word : (word : ℕ) → inside part p word ≡ true → slice_index part (word_index p word) ≡ slice_index (whole part) (word_index q word)
  pub same_change : (word value : ℕ) → inside part p word ≡ true → whole (slice_set part (word_index p word) value) ≡ slice_set (whole part) (word_index q word) value

-- what is answered and done at the part's page is answered and done at the whole's
module _ (whole : List ℕ → List ℕ) (part : List ℕ) (p q : ℕ) (page : PartPage whole part p q) (word : ℕ) where
  pub part_read : (r : Option ℕ) → r ≡ word_at part p word → r ≡ word_at (whole part) q word
  part_read r is =
      is
      ∙ cond_both (inside part p word) (Some (slice_index part (word_index p word))) None (λ o. o ≡ word_at (whole part) q word)
      (λ h. ap Some (page.same_word word h) ∙ inside_read (whole part) q word (sym (page.same_inside word) ∙ h))
      (λ h. outside_read (whole part) q word (sym (page.same_inside word) ∙ h))

  pub part_inside : (r : Bool) → r ≡ inside part p word → r ≡ inside (whole part) q word
  part_inside r is = is ∙ page.same_inside word

  pub part_written : (value : ℕ) (after : List ℕ) → after ≡ written part p word value → whole after ≡ written (whole part) q word value
  part_written value after is =
      ap whole is
      ∙ cond_both (inside part p word) (slice_set part (word_index p word) value) part (λ l. whole l ≡ written (whole part) q word value)
      (λ h. page.same_change word value h ∙ inside_written (whole part) q word value (sym (page.same_inside word) ∙ h))
      (λ h. outside_written (whole part) q word value (sym (page.same_inside word) ∙ h))
