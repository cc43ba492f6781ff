-- What a write makes of the pages of a segment, page by page. Assumes nothing.
use Rattle.std.specs.Prelude.{ℕ, ◌+◌, ◌-◌, ◌*◌, cond, List, length, Option, slice_index}
use Rattle.rules.specs.Indexed.{assign, tabulate}
use Rattle.rules.specs.Segments.{Pages, present, touched, word_after}
use Rattle.forest.specs.Forest.{has}

-- every word of a volume; zeros past its end
abbrev pub told : List ℕ → ℕ → ℕ
told ws x = slice_index ws x

-- 1 where page k is absent and has one of the n words from first on
abbrev pub lacks : ℕ → ℕ → (ℕ → Option ℕ) → ℕ → ℕ
lacks first n ps k = cond (touched first n k) (1 - has (ps k)) 0

-- the pages after the words that fall into page k were written
abbrev pub one_written : Pages → ℕ → List ℕ → ℕ → Pages
one_written ps first ws k =
    cond (touched first (length ws) k) (assign ps k (present (tabulate 16 (λ j. word_after ps first ws (16 * k + j))))) ps
