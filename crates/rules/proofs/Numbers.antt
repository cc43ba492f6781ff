-- Number 0 of each process always means the root, and there are no numbers past 15.
use Rattle.std.proofs.lemmas.Grind.{common_steps}
use Rattle.std.proofs.lemmas.Bool.Decides.{nat_tests}
use Rattle.std.proofs.Common.{◌≡◌, ℕ, ◌<◌, ◌≤◌, true, cond, List, [], ◌∷◌, ◌++◌, ℤ, Some, None, Ok, Err, Option, Result, sym, refl, ap, ◌∙◌, subst, true≢false, arith, ne_eqb}
use Rattle.labels.specs.declared.label.Label.{Label}
use Rattle.frames.specs.Faults.{FrameFault}
use Rattle.frames.specs.Requests.{Request}
use Rattle.frames.specs.Decode.{decode}
use Rattle.labels.specs.Labels.{Orders}
use Rattle.frames.specs.Ranges.{InRange}
use Rattle.rules.specs.Indexed.{assign}
use Rattle.rules.specs.Tree.{Cell, Tree, Path}
use Rattle.rules.specs.KnownNumbers.{Known, free, means, is_free, new_numbers}
use Rattle.rules.specs.Changes.{create, remove, regrant, Change, change_place, write_words, keep_pages, after_change, Effect, no_change, set_number, free_number, change, Store, store_after}
use Rattle.rules.specs.Calls.{Subject, subject, judge_move, judge, first_number}
use Rattle.rules.specs.Setup.{Setup, opened, nth}
use Rattle.rules.specs.Responses.{RawCall, effect_of, path_of, verdict, left_by, after}
use Rattle.rules.specs.Histories.{after_all}
use Rattle.rules.proofs.Assign.{assign_cases}
use Rattle.rules.proofs.Outcomes.{Holds, holds}
use Rattle.frames.proofs.Frames.{decodes_in_range}
use Rattle.rules.proofs.Exchange.{free_after}

-- what a call may do to the known numbers of its process: set one below 16 that is free, or free one that is not number 0
abbrev Careful : (ℕ → Known) → Effect → Type 0
Careful known no_change = Unit {0}
Careful known (set_number n e) = (is_free (known n) ≡ true) × (n < 16)
Careful known (free_number n) = 1 ≤ n
Careful known (change x a b) = Unit {0}

move_careful : (known : ℕ → Known) (l : Label) (c : Cell) (e : ℕ) (y : Tree) (a : ℤ) → Holds (Careful known) (judge_move l c e y a)
move_careful a1 a2 a3 a4 a5 a6 = grind (arith, common_steps, nat_tests)

careful : (o : Orders) (me : Label) (known : ℕ → Known) (x : Subject) (r : Request) → InRange r → Holds (Careful known) (judge o me known x r)
unfolding judge
careful a1 a2 a3 a4 a5 a6 = grind (arith, common_steps, nat_tests)

pub record Numbered (w : Store) : Type 0 where
  pub zero_is_root : (p : ℕ) → w.numbers p 0 ≡ means []
  pub sixteen : (p n : ℕ) → 16 ≤ n → w.numbers p n ≡ free

-- the root is not removed
root_stays : (q : Path) (x : Change) → after_change q x (means []) ≡ means []
root_stays q (change_place e (create t)) = refl
root_stays [] (change_place e remove) = refl
root_stays (i ∷ q) (change_place e remove) = refl
root_stays q (change_place e (regrant a b)) = refl
root_stays q (write_words first ds) = refl
root_stays q (keep_pages n) = refl

module _ (w : Store) (p : ℕ) (z : Numbered w) where
  -- one number of the process p set, which is not number 0, and below 16 or set free
  numbered_assign : (n : ℕ) (k : Known) → (0 ≡ n → ⊥) → (16 ≤ n → k ≡ free) → Numbered (record { tree = w.tree; numbers = assign w.numbers p (assign (w.numbers p) n k) })
  numbered_assign n k ne out = record {
    zero_is_root = λ p'.
        assign_cases (λ row. row 0 ≡ means []) w.numbers p (assign (w.numbers p) n k) p'
        (λ e. assign_cases (λ y. y ≡ means []) (w.numbers p) n k 0 (λ e'. absurd (ne e')) (z.zero_is_root p)) (z.zero_is_root p');
    sixteen = λ p' m h.
        assign_cases (λ row. row m ≡ free) w.numbers p (assign (w.numbers p) n k) p'
        (λ e. assign_cases (λ y. y ≡ free) (w.numbers p) n k m (λ e'. out (subst (λ j. 16 ≤ j) e' h)) (z.sixteen p m h)) (z.sixteen p' m h);
  }

  not_free : (n : ℕ) → is_free (w.numbers p n) ≡ true → 0 ≡ n → ⊥
  not_free n h e = true≢false (sym (subst (λ m. is_free (w.numbers p m) ≡ true) (sym e) h) ∙ ap is_free (z.zero_is_root p))

  numbered_effect : (q : Path) (x : Effect) → Careful (w.numbers p) x → Numbered (store_after p q x w)
  numbered_effect q no_change h = z
  numbered_effect q (set_number n e) h =
      let lt : n < 16 = h.1 in
      let s = numbered_assign n (means (q ++ (e ∷ []))) (not_free n h.0) (λ k. absurd (omega arith)) in
      record { zero_is_root = s.zero_is_root; sixteen = s.sixteen }
  numbered_effect q (free_number n) h =
      let s = numbered_assign n free (λ e. omega arith) (λ k. refl) in
      record { zero_is_root = s.zero_is_root; sixteen = s.sixteen }
  numbered_effect q (change x a b) h = record {
    zero_is_root = λ p'. ap (after_change q x) (z.zero_is_root p') ∙ root_stays q x;
    sixteen = λ p' n k. ap (after_change q x) (z.sixteen p' n k) ∙ free_after q x;
  }

numbered_left : (s : Setup) (w : Store) (m : Option Label) (p : ℕ) (d : Result Request FrameFault) → ((r : Request) → d ≡ Ok r → InRange r) → Numbered w → Numbered (left_by s w m p d)
numbered_left s w None p d i z = z
numbered_left s w (Some me) p (Err f) i z = z
numbered_left s w (Some me) p (Ok r) i z =
    let x = subject s.root (w.numbers p (first_number r)) w.tree in
    numbered_effect w p z (path_of (w.numbers p (first_number r))) (effect_of (verdict s w me p r))
    (holds (Careful (w.numbers p)) tt (judge s.orders me (w.numbers p) x r) (careful s.orders me (w.numbers p) x r (i r refl)))

numbered_run : (s : Setup) (cs : List RawCall) (w : Store) → Numbered w → Numbered (after_all s w cs)
numbered_run s [] w z = z
numbered_run s (c ∷ cs) w z =
    numbered_run s cs (after s w c) (numbered_left s w (nth s.admitted c.process) c.process (decode c.frame c.room) (λ r e. (decodes_in_range c.frame c.room r e).0) z)

new_beyond : (n : ℕ) → 16 ≤ n → new_numbers n ≡ free
new_beyond n h = ap (λ b. cond b (means []) free) (ne_eqb n 0 (λ e. omega arith))

pub numbered_reached : (s : Setup) (cs : List RawCall) → Numbered (after_all s (opened s) cs)
numbered_reached s cs = numbered_run s cs (opened s) (record { zero_is_root = λ p. refl; sixteen = λ p n h. new_beyond n h })
