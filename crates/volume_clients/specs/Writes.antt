-- What reads tell of a write. Assumes nothing.
use Rattle.std.specs.Prelude.{◌≡◌, ℕ, cond, List, Some, None, Option}
use Rattle.volumes.specs.Pages.{inside, word_at}

-- the word that was written reads as the value, and nothing where it is outside
abbrev pub read_back : List ℕ → ℕ → ℕ → ℕ → Option ℕ
read_back ws page word value = cond (inside ws page word) (Some value) None

-- every other word reads as before
abbrev pub OthersStay : List ℕ → List ℕ → ℕ → ℕ → Type 0
OthersStay before after page word = (p w : ℕ) → ((p ≡ page) × (w ≡ word) → ⊥) → word_at after p w ≡ word_at before p w
