-- The pages of two joined volumes. Assumes nothing.
use Rattle.std.specs.Prelude.{◌≡◌, ℕ, ◌+◌, ◌-◌, ◌*◌, ◌<◌, ◌≤◌, min, false, List, ◌++◌, length, slice_index, slice_set, refl}
use Rattle.std.proofs.Common.{sym, ap, ◌∙◌, arith, length-take, length-append, get_or-take}
use Rattle.std.proofs.Math.Seq.{take-set-lt}
use Rattle.std.proofs.lemmas.List.{get_or_append_left, get_or-append_right, set-append_left, set-append_right}
use Rattle.std.proofs.lemmas.Bool.Decides.{nat_tests}
use Rattle.volumes.specs.Pages.{page_words, max_pages, pages_in, Whole, inside, word_index, written}
use Rattle.volumes.specs.Volumes.{cut, joined, written_behind}
use Rattle.volumes.specs.Insides.{word_in_page, index_inside, past_pages}
use Rattle.volumes.specs.Parts.{PartPage}

cut_word : (ws : List ℕ) (i : ℕ) → i < max_pages * page_words → slice_index (cut ws) i ≡ slice_index ws i
cut_word ws i h = get_or-take (max_pages * page_words) ws i 0 h

cut_change : (ws : List ℕ) (i value : ℕ) → i < max_pages * page_words → cut (slice_set ws i value) ≡ slice_set (cut ws) i value
cut_change ws i value h = take-set-lt (max_pages * page_words) ws i value h

module _ (xs ys : List ℕ) (first : Whole xs) (second : Whole ys) where
  pub joined_pages : pages_in (joined xs ys) ≡ min (pages_in xs + pages_in ys) max_pages
  joined_pages = simp (length-take, length-append) (omega arith)

  pub joined_whole : Whole (joined xs ys)
  joined_whole = record { paged = simp (length-take, length-append) (omega arith); bounded = omega (arith, joined_pages) }

  pub past_joined : (page word : ℕ) → max_pages ≤ page → inside (joined xs ys) page word ≡ false
  past_joined page word h = past_pages (joined xs ys) page word (omega (arith, joined_pages))

  pub first_page : (page : ℕ) → page < pages_in xs → PartPage (λ l. joined l ys) xs page page
  first_page page low = record {
    same_inside = λ word. let n = joined_pages in grind (arith, nat_tests);
    same_word = λ word h.
        let i : word_index page word < length xs = index_inside xs page word h in
        sym (cut_word (xs ++ ys) (word_index page word) (omega arith) ∙ get_or_append_left xs ys 0 (word_index page word) i);
    same_change = λ word value h.
        let i : word_index page word < length xs = index_inside xs page word h in
        ap cut (sym (set-append_left xs ys (word_index page word) value i)) ∙ cut_change (xs ++ ys) (word_index page word) value (omega arith);
  }

  module _ (page behind : ℕ) (count : behind ≡ pages_in xs) (past : behind ≤ page) where
    index_behind : (word : ℕ) → word_index page word - length xs ≡ word_index (page - behind) word
    index_behind word = omega arith

    pub second_page : page < max_pages → PartPage (joined xs) ys (page - behind) page
    second_page low = record {
      same_inside = λ word. let n = joined_pages in grind (arith, nat_tests);
      same_word = λ word h.
          let small : word < page_words = word_in_page ys (page - behind) word h in
          sym (cut_word (xs ++ ys) (word_index page word) (omega arith)
          ∙ get_or-append_right xs ys (length xs) (word_index page word) 0 refl (omega arith)
          ∙ ap (λ j. slice_index ys j) (index_behind word));
      same_change = λ word value h.
          let small : word < page_words = word_in_page ys (page - behind) word h in
          ap (λ j. joined xs (slice_set ys j value)) (sym (index_behind word))
          ∙ ap cut (sym (set-append_right xs ys (length xs) (word_index page word) value refl (omega arith)))
          ∙ cut_change (xs ++ ys) (word_index page word) value (omega arith);
    }

-- how the second volume of two changes
module _ (n : ℕ) (ys : List ℕ) (page word value : ℕ) where
  pub kept_before : page < n → ys ≡ written_behind n ys page word value
  kept_before h = grind (arith, nat_tests)

  pub kept_past : max_pages ≤ page → ys ≡ written_behind n ys page word value
  kept_past h = grind (arith, nat_tests)

  pub changed_behind : (behind : ℕ) (after : List ℕ) → behind ≡ n → behind ≤ page → page < max_pages → after ≡ written ys (page - behind) word value → after ≡ written_behind n ys page word value
  changed_behind behind after count past low is = grind (arith, nat_tests)
