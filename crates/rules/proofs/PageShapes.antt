-- A segment has sixteen pages, and a present page sixteen words.
use Rattle.std.proofs.lemmas.Grind.{common_steps}
use Rattle.std.proofs.lemmas.Bool.Decides.{nat_tests}
use Rattle.std.proofs.Common.{◌≡◌, ℕ, ◌+◌, ◌*◌, ◌/◌, ◌≤◌, true, ltb, leb, List, [], ◌∷◌, length, ℤ, Some, None, Ok, Err, Option, Result, refl, subst, arith, ltb-true}
use Rattle.labels.specs.declared.label.Label.{Label}
use Rattle.frames.specs.Faults.{FrameFault}
use Rattle.frames.specs.Requests.{Request}
use Rattle.frames.specs.Decode.{decode}
use Rattle.labels.specs.Labels.{Orders}
use Rattle.frames.specs.Ranges.{InRange}
use Rattle.rules.specs.Indexed.{tabulate}
use Rattle.rules.specs.Segments.{Page, absent, present, Pages, touched, word_after}
use Rattle.rules.specs.Tree.{Cell, Tree, empty, segment, directory, Path, at}
use Rattle.rules.specs.Cells.{charge}
use Rattle.rules.specs.KnownNumbers.{Known}
use Rattle.rules.specs.Changes.{PlaceChange, create, remove, regrant, Change, change_place, write_words, keep_pages, with_grant, place_after, places_after, pages_after, changed, Effect, no_change, set_number, free_number, change, Store, tree_after}
use Rattle.rules.specs.Calls.{Subject, subject, judge_move, judge, first_number}
use Rattle.rules.specs.Setup.{Setup, opened, nth}
use Rattle.rules.specs.Responses.{RawCall, effect_of, path_of, verdict, left_by, after}
use Rattle.rules.specs.Histories.{after_all}
use Rattle.rules.proofs.Assign.{assign_cases}
use Rattle.rules.proofs.Updates.{updated, paid_at_once}
use Rattle.rules.proofs.Choices.{and_right, by_cases}
use Rattle.rules.proofs.Outcomes.{Holds, holds}
use Rattle.frames.proofs.Frames.{decodes_in_range}

abbrev Full : Page → Type 0
Full absent = Unit {0}
Full (present ws) = length ws ≡ 16

abbrev ShapedPages : Pages → Type 0
ShapedPages ps = (k : ℕ) → Full (ps k) × (16 ≤ k → ps k ≡ absent)

abbrev pub Shaped : Tree → Type 0
Shaped empty = Unit {0}
Shaped (segment ps) = ShapedPages ps
Shaped (directory l c places) = (i : ℕ) → Shaped (places i)

-- a change that keeps this
abbrev ShapingPlace : PlaceChange → Type 0
ShapingPlace (create t) = Shaped t
ShapingPlace remove = Unit {0}
ShapingPlace (regrant a b) = Unit {0}

abbrev Shaping : Change → Type 0
Shaping (change_place e x) = ShapingPlace x
Shaping (write_words first ds) = first + length ds ≤ 256
Shaping (keep_pages n) = Unit {0}

abbrev ShapingEffect : Effect → Type 0
ShapingEffect no_change = Unit {0}
ShapingEffect (set_number n e) = Unit {0}
ShapingEffect (free_number n) = Unit {0}
ShapingEffect (change x a b) = Shaping x

-- no page past 15 is touched
untouched : (first n k : ℕ) → first + n ≤ 256 → 16 ≤ k → touched first n k ≡ true → ⊥
untouched first n k h b e = let x = ltb-true (16 * k) (first + n) (and_right (leb (first / 16) k) _ e) in omega arith

shaped_pages_after : (x : Change) (ps : Pages) → Shaping x → ShapedPages ps → ShapedPages (pages_after x ps)
shaped_pages_after (change_place e y) ps h s k = s k
shaped_pages_after (write_words first ds) ps h s k = (
  by_cases Full (touched first (length ds) k) (present (tabulate 16 (λ j. word_after ps first ds (16 * k + j)))) (ps k) (λ e. refl) (λ e. (s k).0),
  λ b. by_cases (λ y. y ≡ absent) (touched first (length ds) k) (present (tabulate 16 (λ j. word_after ps first ds (16 * k + j)))) (ps k)
      (λ e. absurd (untouched first (length ds) k h b e)) (λ e. (s k).1 b),
)
shaped_pages_after (keep_pages n) ps h s k = (
  by_cases Full (ltb k n) (ps k) absent (λ e. (s k).0) (λ e. tt),
  λ b. by_cases (λ y. y ≡ absent) (ltb k n) (ps k) absent (λ e. (s k).1 b) (λ e. refl),
)

shaped_granted : (a b : ℕ) (t : Tree) → Shaped t → Shaped (with_grant a b t)
shaped_granted a1 a2 a3 a4 = grind (arith, common_steps, nat_tests)

shaped_place : (x : PlaceChange) (t : Tree) → ShapingPlace x → Shaped t → Shaped (place_after x t)
shaped_place a1 a2 a3 a4 = grind (arith, common_steps, nat_tests)

shaped_places : (x : Change) (places : ℕ → Tree) → Shaping x → ((i : ℕ) → Shaped (places i)) → (i : ℕ) → Shaped (places_after x places i)
shaped_places a1 a2 a3 a4 a5 = grind (arith, common_steps, nat_tests)

shaped_updated : (x : Change) (a b : ℕ) (q : Path) (t : Tree) → Shaping x → Shaped t → Shaped (updated (charge a b) (changed x) q t)
shaped_updated x a b [] empty h s = tt
shaped_updated x a b [] (segment ps) h s = shaped_pages_after x ps h s
shaped_updated x a b [] (directory l c places) h s = shaped_places x places h s
shaped_updated x a b (i ∷ q) empty h s = tt
shaped_updated x a b (i ∷ q) (segment ps) h s = s
shaped_updated x a b (i ∷ q) (directory l c places) h s =
    λ j. assign_cases Shaped places i (updated (charge a b) (changed x) q (places i)) j (λ p. shaped_updated x a b q (places i) h (s i)) (s j)

move_shaping : (l : Label) (c : Cell) (e : ℕ) (y : Tree) (a : ℤ) → Holds ShapingEffect (judge_move l c e y a)
move_shaping a1 a2 a3 a4 a5 = grind (arith, common_steps, nat_tests)

shaping : (o : Orders) (me : Label) (known : ℕ → Known) (x : Subject) (r : Request) → InRange r → Holds ShapingEffect (judge o me known x r)
unfolding judge
shaping a1 a2 a3 a4 a5 a6 = grind (arith, common_steps, nat_tests)

shaped_tree : (q : Path) (x : Effect) (t : Tree) → ShapingEffect x → Shaped t → Shaped (tree_after q x t)
shaped_tree q no_change t h s = s
shaped_tree q (set_number n e) t h s = s
shaped_tree q (free_number n) t h s = s
shaped_tree q (change x a b) t h s = subst Shaped (paid_at_once (charge a b) (changed x) q t) (shaped_updated x a b q t h s)

shaped_left : (s : Setup) (w : Store) (m : Option Label) (p : ℕ) (d : Result Request FrameFault) → ((r : Request) → d ≡ Ok r → InRange r) → Shaped w.tree → Shaped (left_by s w m p d).tree
shaped_left s w None p d i z = z
shaped_left s w (Some me) p (Err f) i z = z
shaped_left s w (Some me) p (Ok r) i z =
    let x = subject s.root (w.numbers p (first_number r)) w.tree in
    shaped_tree (path_of (w.numbers p (first_number r))) (effect_of (verdict s w me p r)) w.tree
    (holds ShapingEffect tt (judge s.orders me (w.numbers p) x r) (shaping s.orders me (w.numbers p) x r (i r refl))) z

shaped_run : (s : Setup) (cs : List RawCall) (w : Store) → Shaped w.tree → Shaped (after_all s w cs).tree
shaped_run s [] w z = z
shaped_run s (c ∷ cs) w z =
    shaped_run s cs (after s w c) (shaped_left s w (nth s.admitted c.process) c.process (decode c.frame c.room) (λ r e. (decodes_in_range c.frame c.room r e).0) z)

shaped_at : (q : Path) (t : Tree) → Shaped t → Shaped (at q t)
shaped_at [] t s = s
shaped_at (i ∷ q) empty s = tt
shaped_at (i ∷ q) (segment ps) s = tt
shaped_at (i ∷ q) (directory l c places) s = shaped_at q (places i) (s i)

module _ (s : Setup) (cs : List RawCall) (q : Path) (ps : Pages) (e : at q (after_all s (opened s) cs).tree ≡ segment ps) where
  shaped_segment : ShapedPages ps
  shaped_segment = subst Shaped e (shaped_at q (after_all s (opened s) cs).tree (shaped_run s cs (opened s) (λ i. tt)))

  pub sixteen_pages_reached : (k : ℕ) → 16 ≤ k → ps k ≡ absent
  sixteen_pages_reached k h = (shaped_segment k).1 h

  pub sixteen_words_reached : (k : ℕ) (ws : List ℕ) → ps k ≡ present ws → length ws ≡ 16
  sixteen_words_reached k ws h = let f : Full (present ws) = subst Full h (shaped_segment k).0 in f
