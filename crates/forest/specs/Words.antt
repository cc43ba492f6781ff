-- The words of one volume page, after words were written into the page that it serves. Assumes nothing.

use Rattle.std.specs.Prelude.{ℕ, ◌+◌, ◌-◌, ◌*◌, Bool, cond, ◌&&◌, List, length, nat_le, nat_lt, slice_index}

-- the word at a segment's word, of the data from first on, or else what was there
abbrev pub word_over : ℕ → List ℕ → ℕ → ℕ → ℕ
word_over first ds at old = cond (nat_le first at && nat_lt at (first + length ds)) (slice_index ds (at - first)) old

-- word q of page k, which the volume page v serves; a fresh page had zeros
abbrev pub new_word : (ℕ → ℕ) → ℕ → Bool → ℕ → ℕ → List ℕ → ℕ → ℕ
new_word w v fresh k first ds q = word_over first ds (16 * k + q) (cond fresh 0 (w (v * 16 + q)))

-- every word, after the first n words of that page were written
abbrev pub page_written : (ℕ → ℕ) → ℕ → Bool → ℕ → ℕ → List ℕ → ℕ → ℕ → ℕ
page_written w v fresh k first ds n x = cond (nat_le (v * 16) x && nat_lt x (v * 16 + n)) (new_word w v fresh k first ds (x - v * 16)) (w x)
