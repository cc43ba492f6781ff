-- One page is written word by word, and then holds what the rules say. Assumes nothing.
use Rattle.std.proofs.Common.{◌≡◌, ℕ, zero, suc, ◌+◌, ◌-◌, ◌*◌, ◌/◌, ◌%◌, ◌<◌, ◌≤◌, Bool, true, false, cond, ◌&&◌, eqb, ltb, leb, List, ◌∷◌, get_or, Some, Option, sym, refl, ap, ◌∙◌, ap₂, arith, le-ltb, lt-ltb, eq-eqb, ne_eqb, le-leb}
use native.Mathlib.Decide.{dec_lt, ℕ_discrete}
use borrow.Author.Tests.{lt-leb}
use Rattle.std.proofs.lemmas.Bool.{and_from, and_left, and_right}
use Rattle.rules.specs.Indexed.{tabulate}
use Rattle.rules.specs.Segments.{Pages, absent, present, word_after, segment_word, word_of_page}
use Rattle.forest.specs.Forest.{content, page_of, pages_of}
use Rattle.forest.specs.Words.{word_over, new_word, page_written}

module _ (w : ℕ → ℕ) (v : ℕ) (fresh : Bool) (k first : ℕ) (ds : List ℕ) where
  pub page_start : (x : ℕ) → page_written w v fresh k first ds 0 x ≡ w x
  page_start x = go (dec_lt x (v * 16))
    where
      out : (leb (v * 16) x && ltb x (v * 16 + 0)) ≡ false → page_written w v fresh k first ds 0 x ≡ w x
      out q = ap (λ t. cond t (new_word w v fresh k first ds (x - v * 16)) (w x)) q

      go : Dec (x < v * 16) → page_written w v fresh k first ds 0 x ≡ w x
      go (yes l) = out (and_left (leb (v * 16) x) _ (lt-leb (v * 16) x l))
      go (no l) = out (and_right (leb (v * 16) x) _ (le-ltb x (v * 16 + 0) (omega arith)))

  pub page_inside : (n q : ℕ) → q < n → page_written w v fresh k first ds n (v * 16 + q) ≡ new_word w v fresh k first ds q
  page_inside n q l =
      ap (λ t. cond t (new_word w v fresh k first ds ((v * 16 + q) - v * 16)) (w (v * 16 + q))) (and_from _ _ (le-leb (v * 16) (v * 16 + q) (omega arith)) (lt-ltb (v * 16 + q) (v * 16 + n) (omega arith)))
      ∙ ap (new_word w v fresh k first ds) (let e : (v * 16 + q) - v * 16 ≡ q = omega arith in e)

  pub page_past : (n q : ℕ) → n ≤ q → page_written w v fresh k first ds n (v * 16 + q) ≡ w (v * 16 + q)
  page_past n q l = ap (λ t. cond t (new_word w v fresh k first ds ((v * 16 + q) - v * 16)) (w (v * 16 + q))) (and_right (leb (v * 16) (v * 16 + q)) _ (le-ltb (v * 16 + q) (v * 16 + n) (omega arith)))

  -- other pages keep their words
  pub page_other : (u q : ℕ) → (u ≡ v → ⊥) → q < 16 → page_written w v fresh k first ds 16 (u * 16 + q) ≡ w (u * 16 + q)
  page_other u q ne l = go (dec_lt u v)
    where
      out : (leb (v * 16) (u * 16 + q) && ltb (u * 16 + q) (v * 16 + 16)) ≡ false → page_written w v fresh k first ds 16 (u * 16 + q) ≡ w (u * 16 + q)
      out h = ap (λ t. cond t (new_word w v fresh k first ds ((u * 16 + q) - v * 16)) (w (u * 16 + q))) h

      go : Dec (u < v) → page_written w v fresh k first ds 16 (u * 16 + q) ≡ w (u * 16 + q)
      go (yes h) = out (and_left (leb (v * 16) (u * 16 + q)) _ (lt-leb (v * 16) (u * 16 + q) (omega arith)))
      go (no h) = out (and_right (leb (v * 16) (u * 16 + q)) _ (le-ltb (u * 16 + q) (v * 16 + 16) (omega arith)))

  -- and so do all words past the page
  pub page_beyond : (x : ℕ) → v * 16 + 16 ≤ x → page_written w v fresh k first ds 16 x ≡ w x
  page_beyond x l = ap (λ t. cond t (new_word w v fresh k first ds (x - v * 16)) (w x)) (and_right (leb (v * 16) x) _ (le-ltb x (v * 16 + 16) l))

  -- one word more
  pub page_next : (n x : ℕ) → cond (eqb x (v * 16 + n)) (new_word w v fresh k first ds n) (page_written w v fresh k first ds n x) ≡ page_written w v fresh k first ds (n + 1) x
  page_next n x = go (ℕ_discrete x (v * 16 + n))
    where
      val : ℕ
      val = new_word w v fresh k first ds n

      same : (s t : Bool) → s ≡ t → cond s (new_word w v fresh k first ds (x - v * 16)) (w x) ≡ cond t (new_word w v fresh k first ds (x - v * 16)) (w x)
      same s t e = ap (λ b. cond b (new_word w v fresh k first ds (x - v * 16)) (w x)) e

      low : (x ≡ v * 16 + n → ⊥) → Dec (x < v * 16 + n) → ltb x (v * 16 + n) ≡ ltb x (v * 16 + (n + 1))
      low ne (yes l) = lt-ltb x (v * 16 + n) l ∙ sym (lt-ltb x (v * 16 + (n + 1)) (omega arith))
      low ne (no l) = le-ltb x (v * 16 + n) (omega arith) ∙ sym (le-ltb x (v * 16 + (n + 1)) (omega arith))

      go : Dec (x ≡ v * 16 + n) → cond (eqb x (v * 16 + n)) (new_word w v fresh k first ds n) (page_written w v fresh k first ds n x) ≡ page_written w v fresh k first ds (n + 1) x
      go (yes e) =
          ap (λ t. cond t (new_word w v fresh k first ds n) (page_written w v fresh k first ds n x)) (eq-eqb x (v * 16 + n) e)
          ∙ sym (ap (page_written w v fresh k first ds (n + 1)) e ∙ page_inside (n + 1) n (omega arith))
      go (no e) =
          ap (λ t. cond t (new_word w v fresh k first ds n) (page_written w v fresh k first ds n x)) (ne_eqb x (v * 16 + n) e)
          ∙ same _ _ (ap (λ t. leb (v * 16) x && t) (low e (dec_lt x (v * 16 + n))))

pub row_below : (n : ℕ) (f g : ℕ → ℕ) → ((j : ℕ) → j < n → f j ≡ g j) → tabulate n f ≡ tabulate n g
row_below zero f g h = refl
row_below (suc n) f g h = ap₂ (λ x xs. x ∷ xs) (h 0 (omega arith)) (row_below n (λ j. f (suc j)) (λ j. g (suc j)) (λ j l. h (suc j) (omega arith)))

pub row_get_or : (n : ℕ) (f : ℕ → ℕ) (j : ℕ) → j < n → get_or (tabulate n f) j 0 ≡ f j
row_get_or zero f j l = absurd (omega arith)
row_get_or (suc n) f zero l = refl
row_get_or (suc n) f (suc j) l = row_get_or n (λ i. f (suc i)) j (omega arith)

-- the words that were in the page: zeros in one that was absent
old_word : (w : ℕ → ℕ) (ps : Pages) (v k q : ℕ) (fresh : Bool) → q < 16 → ps k ≡ cond fresh absent (present (content w v)) → segment_word ps (16 * k + q) ≡ cond fresh 0 (w (v * 16 + q))
old_word w ps v k q fresh l h =
    let d : (16 * k + q) / 16 ≡ k = omega arith in
    let r : (16 * k + q) % 16 ≡ q = omega arith in
    ap₂ (λ i j. word_of_page (ps i) j) d r ∙ ap (λ p. word_of_page p q) h ∙ go fresh
  where
    go : (t : Bool) → word_of_page (cond t absent (present (content w v))) q ≡ cond t 0 (w (v * 16 + q))
    go true = refl
    go false = row_get_or 16 (λ j. w (v * 16 + j)) q l

-- a page that was written holds what the rules say
pub page_content : (w w' : ℕ → ℕ) (ps : Pages) (v k first : ℕ) (ds : List ℕ) (fresh : Bool) → ps k ≡ cond fresh absent (present (content w v)) → ((x : ℕ) → w' x ≡ page_written w v fresh k first ds 16 x)
    → content w' v ≡ tabulate 16 (λ j. word_after ps first ds (16 * k + j))
page_content w w' ps v k first ds fresh h f =
    row_below 16 _ _ (λ j l. f (v * 16 + j) ∙ page_inside w v fresh k first ds 16 j l ∙ ap (word_over first ds (16 * k + j)) (sym (old_word w ps v k j fresh l h)))

pub content_other : (w w' : ℕ → ℕ) (v k first : ℕ) (ds : List ℕ) (fresh : Bool) → ((x : ℕ) → w' x ≡ page_written w v fresh k first ds 16 x) → (u : ℕ) → (u ≡ v → ⊥) → content w' u ≡ content w u
content_other w w' v k first ds fresh f u ne = row_below 16 _ _ (λ j l. f (u * 16 + j) ∙ page_other w v fresh k first ds u j ne l)

-- a word of a segment, where its page is present
pub word_present : (w : ℕ → ℕ) (P : ℕ → Option ℕ) (i v : ℕ) → P (i / 16) ≡ Some v → segment_word (pages_of w P) i ≡ w (v * 16 + i % 16)
word_present w P i v h = ap (λ (o : Option ℕ). word_of_page (page_of w o) (i % 16)) h ∙ row_get_or 16 (λ j. w (v * 16 + j)) (i % 16) (omega arith)
