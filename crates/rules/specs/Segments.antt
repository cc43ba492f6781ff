-- The pages and words of a segment. Assumes nothing.
use Rattle.std.specs.Prelude.{ℕ, ◌+◌, ◌-◌, ◌*◌, ◌/◌, ◌%◌, Bool, cond, ◌&&◌, List, length, nat_le, nat_lt, slice_index}
use Rattle.rules.specs.Indexed.{sum, tabulate}

-- a page is absent, or present with its 16 words
pub data Page : Type 0 where
  absent : Page
  present : (words : List ℕ) → Page

-- the pages of a segment, by number
abbrev pub Pages : Type 0
Pages = ℕ → Page

-- 1 for a present page
abbrev pub presence : Page → ℕ
presence absent = 0
presence (present ws) = 1

-- how many pages of a segment are present
abbrev pub present_pages : Pages → ℕ
present_pages ps = sum 16 (λ k. presence (ps k))

-- a word of a page; an absent page reads as zeros
abbrev pub word_of_page : Page → ℕ → ℕ
word_of_page absent j = 0
word_of_page (present ws) j = slice_index ws j

-- the i-th word of a segment
abbrev pub segment_word : Pages → ℕ → ℕ
segment_word ps i = word_of_page (ps (i / 16)) (i % 16)

-- Writing

-- page k has one of the n words from first on
abbrev pub touched : ℕ → ℕ → ℕ → Bool
touched first n k = nat_le (first / 16) k && nat_lt (16 * k) (first + n)

-- the i-th word of a segment after the words ws were written from first on
abbrev pub word_after : Pages → ℕ → List ℕ → ℕ → ℕ
word_after ps first ws i = cond (nat_le first i && nat_lt i (first + length ws)) (slice_index ws (i - first)) (segment_word ps i)

-- the pages after that write: those touched are present, the others as they were
abbrev pub pages_written : Pages → ℕ → List ℕ → Pages
pages_written ps first ws k =
    cond (touched first (length ws) k) (present (tabulate 16 (λ j. word_after ps first ws (16 * k + j)))) (ps k)

-- how many pages that write makes present
abbrev pub made_present : Pages → ℕ → List ℕ → ℕ
made_present ps first ws = sum 16 (λ k. cond (touched first (length ws) k) (1 - presence (ps k)) 0)

-- Truncating

-- the pages after those numbered n and up became absent
abbrev pub pages_truncated : Pages → ℕ → Pages
pages_truncated ps n k = cond (nat_lt k n) (ps k) absent

-- how many present pages that makes absent
abbrev pub made_absent : Pages → ℕ → ℕ
made_absent ps n = sum 16 (λ k. cond (nat_lt k n) 0 (presence (ps k)))
