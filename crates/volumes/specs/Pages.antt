-- Words in pages of 16, the value of a volume. Assumes nothing.
use Rattle.std.specs.Prelude.{◌≡◌, ℕ, ◌+◌, ◌*◌, ◌/◌, ◌≤◌, Bool, cond, ◌&&◌, List, length, Some, None, Option, nat_lt, slice_index, slice_set}

-- a page has so many words
abbrev pub page_words : ℕ
page_words = 16

-- and a volume at most so many pages
abbrev pub max_pages : ℕ
max_pages = 65536

-- how many whole pages there are
abbrev pub pages_in : List ℕ → ℕ
pages_in ws = length ws / page_words

-- what the value of every volume obeys: no part page, and no more pages than a volume may have
pub record Whole (ws : List ℕ) : Type 0 where
  pub paged : length ws ≡ pages_in ws * page_words
  pub bounded : pages_in ws ≤ max_pages

-- whether there is such a page, and such a word in it
abbrev pub inside : List ℕ → ℕ → ℕ → Bool
inside ws page word = nat_lt page (pages_in ws) && nat_lt word page_words

-- which of all words it is
abbrev pub word_index : ℕ → ℕ → ℕ
word_index page word = page * page_words + word

-- what a read answers: that word, and nothing outside
abbrev pub word_at : List ℕ → ℕ → ℕ → Option ℕ
word_at ws page word = cond (inside ws page word) (Some (slice_index ws (word_index page word))) None

-- the value after a write: that word only is changed, and none where it is outside
abbrev pub written : List ℕ → ℕ → ℕ → ℕ → List ℕ
written ws page word value = cond (inside ws page word) (slice_set ws (word_index page word) value) ws
