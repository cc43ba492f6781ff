-- The used and the unused words of a plain volume. Assumes nothing.
use Rattle.std.proofs.Common.{◌≡◌, ℕ, ◌<◌, true, cond, List, get_or, take, drop, set, Some, None, sym, ap, ◌∙◌, arith, length-set, length-take, get_or-take, drop-set-lt}
use lib.Seq.{take-set-lt}
use Rattle.std.proofs.lemmas.List.{get_or_read}
use Rattle.std.proofs.lemmas.Option.{cond_some}
use Rattle.volumes.specs.Pages.{inside, word_index, word_at, written}
use Rattle.volumes.specs.Volumes.{used_count, used, unused}
use Rattle.volumes.specs.Insides.{index_inside, inside_read, inside_written}

-- what is read and written among the used words
pub ruleset found = (index_inside, get_or_read, get_or-take, length-set, take-set-lt, drop-set-lt)

-- i is the index of a word inside
module _ (ws : List ℕ) (page word i : ℕ) (found : Some i ≡ cond (inside (used ws) page word) (Some (word_index page word)) None) where
  pub found_inside : inside (used ws) page word ≡ true
  found_inside = (cond_some _ (word_index page word) i (sym found)).0

  found_index : i ≡ word_index page word
  found_index = sym (cond_some _ (word_index page word) i (sym found)).1

  found_used : i < used_count ws
  found_used = omega (arith, found_index, index_inside (used ws) page word found_inside, length-take (used_count ws) ws)

  pub found_read : (x : ℕ) → x ≡ get_or ws i x → Some x ≡ word_at (used ws) page word
  found_read x read =
      ap Some (get_or_read ws i x (omega (arith, found_used)) read 0 ∙ sym (get_or-take (used_count ws) ws i 0 found_used) ∙ ap (λ j. get_or (used ws) j 0) found_index)
      ∙ inside_read (used ws) page word found_inside

  pub found_written : (value : ℕ) → used (set ws i value) ≡ written (used ws) page word value
  found_written value =
      ap (λ n. take n (set ws i value)) (simp length-set)
      ∙ take-set-lt (used_count ws) ws i value found_used
      ∙ ap (λ j. set (used ws) j value) found_index
      ∙ inside_written (used ws) page word value found_inside

  pub found_keeps_unused : (value : ℕ) → unused (set ws i value) ≡ unused ws
  found_keeps_unused value = ap (λ n. drop n (set ws i value)) (simp length-set) ∙ drop-set-lt (used_count ws) ws i value found_used
