-- Words inside and outside the pages of a value. Assumes nothing.
use Rattle.std.specs.Prelude.{◌≡◌, ℕ, ◌<◌, ◌≤◌, true, false, List, length, Some, None, slice_index, slice_set, refl}
use Rattle.std.proofs.Common.{sym, ap, ◌∙◌, arith, length-set}
use Rattle.std.proofs.lemmas.Bool.{and_left, cond-true, cond-false, cond_both, le-ltb}
use Rattle.std.proofs.lemmas.Bool.Decides.{nat_tests}
use Rattle.volumes.specs.Pages.{page_words, pages_in, inside, word_index, word_at, written}

module _ (ws : List ℕ) (page word : ℕ) where
  pub word_in_page : inside ws page word ≡ true → word < page_words
  word_in_page h = grind (arith, nat_tests)

  pub index_inside : inside ws page word ≡ true → word_index page word < length ws
  index_inside h = grind (arith, nat_tests)

  pub past_pages : pages_in ws ≤ page → inside ws page word ≡ false
  past_pages h = and_left _ _ (le-ltb page (pages_in ws) h)

  pub inside_read : inside ws page word ≡ true → Some (slice_index ws (word_index page word)) ≡ word_at ws page word
  inside_read h = sym (cond-true (inside ws page word) _ None h)

  pub outside_read : inside ws page word ≡ false → None ≡ word_at ws page word
  outside_read h = sym (cond-false (inside ws page word) _ None h)

  module _ (value : ℕ) where
    pub inside_written : inside ws page word ≡ true → slice_set ws (word_index page word) value ≡ written ws page word value
    inside_written h = sym (cond-true (inside ws page word) _ ws h)

    pub outside_written : inside ws page word ≡ false → ws ≡ written ws page word value
    outside_written h = sym (cond-false (inside ws page word) _ ws h)

    pub written_keeps_pages : (after : List ℕ) → after ≡ written ws page word value → pages_in after ≡ pages_in ws
    written_keeps_pages after is =
        ap pages_in is
        ∙ cond_both (inside ws page word) (slice_set ws (word_index page word) value) ws (λ l. pages_in l ≡ pages_in ws) (λ _. simp length-set) (λ _. refl)
