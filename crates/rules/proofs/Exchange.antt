-- Neighbouring calls of processes with incomparable labels may change places.
use Rattle.std.proofs.lemmas.Grind.{common_steps}
use Rattle.std.proofs.lemmas.Bool.Decides.{nat_tests}
use Rattle.std.proofs.Common.{arith, ◌≡◌, ℕ, zero, suc, Bool, true, false, cond, not, eqb, List, [], ◌∷◌, ◌++◌, Some, None, Ok, Err, Option, Result, sym, refl, ap, ◌∙◌, subst, ap₂, true≢false}
use mathlib.Core.Path.{fun_ext}
use borrow.Author.Tests.{not-true}
use Rattle.labels.specs.declared.label.Label.{Label}
use Rattle.frames.specs.Faults.{FrameFault}
use Rattle.frames.specs.Requests.{Request}
use Rattle.frames.specs.Decode.{decode}
use Rattle.labels.specs.Labels.{LawfulOrders, below}
use Rattle.rules.specs.Indexed.{assign}
use Rattle.rules.specs.Tree.{Path}
use Rattle.rules.specs.Cells.{find, no_cell, charge}
use Rattle.rules.specs.KnownNumbers.{Known, free, means, gone, through, after_removal}
use Rattle.rules.specs.Changes.{Change, changed, paid_change, after_change, Effect, no_change, set_number, free_number, change, Store, tree_after, numbers_after, store_after}
use Rattle.rules.specs.Calls.{first_number}
use Rattle.rules.specs.Setup.{Setup, opened, nth}
use Rattle.rules.specs.Responses.{RawCall, judged, effect_of, path_of, verdict, response_to, left_by, response, after}
use Rattle.rules.specs.Histories.{responses, after_all}
use Rattle.rules.specs.Isolation.{at_or_below}
use Rattle.rules.specs.Exchange.{both_incomparable, swap_at, IncomparableAt, Exchanged}
use Rattle.rules.proofs.Updates.{updated, paid_at_once}
use Rattle.rules.proofs.Assign.{assign_other, assign_commute}
use Rattle.rules.proofs.Choices.{and_left, and_right, and_both, clash}
use Rattle.rules.proofs.Admissions.{Tested}
use Rattle.rules.proofs.Grown.{below_refl, labelled_below, Legit, legit}
use Rattle.rules.proofs.Sound.{Sound, sound_left, sound_after, Above, nth_above, sound_fresh}
use Rattle.rules.proofs.Isolation.{SameView, own, same_verdict, unchanged_number, view_high}
use Rattle.rules.proofs.Forks.{commute, forks}

-- Changes of known numbers commute

removal_cond : (r p : Path) (b : Bool) → after_removal r (cond b gone (means p)) ≡ cond b gone (cond (through r p) gone (means p))
removal_cond a1 a2 a3 = grind (arith, common_steps, nat_tests)

cond_commute : (b d : Bool) (x y : Known) → cond b x (cond d x y) ≡ cond d x (cond b x y)
cond_commute a1 a2 a3 a4 = grind (arith, common_steps, nat_tests)

removals_commute : (r r' : Path) (k : Known) → after_removal r (after_removal r' k) ≡ after_removal r' (after_removal r k)
removals_commute a1 a2 a3 = grind (arith, common_steps, nat_tests)

changes_commute : (q q' : Path) (x x' : Change) (k : Known) → after_change q x (after_change q' x' k) ≡ after_change q' x' (after_change q x k)
changes_commute a1 a2 a3 a4 a5 = grind (arith, common_steps, nat_tests)

pub free_after : (q : Path) (x : Change) → after_change q x free ≡ free
free_after a1 a2 = grind (arith, common_steps, nat_tests)

-- one known number set
abbrev with_known : ℕ → ℕ → Known → (ℕ → ℕ → Known) → ℕ → ℕ → Known
with_known p n k known = assign known p (assign (known p) n k)

-- two numbers of two processes
set_set : (p p' n n' : ℕ) (k k' : Known) (known : ℕ → ℕ → Known) → (p' ≡ p → ⊥)
    → with_known p' n' k' (with_known p n k known) ≡ with_known p n k (with_known p' n' k' known)
set_set p p' n n' k k' known ne =
    ap (λ row. assign (with_known p n k known) p' (assign row n' k')) (assign_other known p p' (assign (known p) n k) ne)
    ∙ assign_commute known p p' (assign (known p) n k) (assign (known p') n' k') ne
    ∙ ap (λ row. assign (with_known p' n' k' known) p (assign row n k)) (sym (assign_other known p' p (assign (known p') n' k') (λ e. ne (sym e))))

-- a change that spares the number that is set
set_after : (p n : ℕ) (k : Known) (q : Path) (x : Change) (known : ℕ → ℕ → Known) → after_change q x k ≡ k
    → (λ z m. after_change q x (with_known p n k known z m)) ≡ with_known p n k (λ z m. after_change q x (known z m))
set_after p n k q x known e = fun_ext (λ z. fun_ext (λ m. go (eqb z p) (eqb m n) z m))
  where
    go : (b d : Bool) (z m : ℕ) → after_change q x ((cond {A = ℕ → Known} b (λ j. cond (eqb j n) k (known p j)) (known z)) m) ≡ (cond {A = ℕ → Known} b (λ j. cond (eqb j n) k (after_change q x (known p j))) (λ j. after_change q x (known z j))) m
    go true d z m = inner (eqb m n)
      where
        inner : (c : Bool) → after_change q x (cond c k (known p m)) ≡ cond c k (after_change q x (known p m))
        inner true = e
        inner false = refl
    go false d z m = refl

module _ (s : Setup) (laws : LawfulOrders s.orders) (a b : Label) (p p' : ℕ) (pa : nth s.admitted p ≡ Some a) (pb : nth s.admitted p' ≡ Some b)
    (aa : below s.orders a a ≡ true) (bb : below s.orders b b ≡ true) (ab : below s.orders a b ≡ false) (ba : below s.orders b a ≡ false) where
  apart : p' ≡ p → ⊥
  apart e = clash _ (subst (λ m. below s.orders a m ≡ true) (some_is (sym pa ∙ ap (nth s.admitted) (sym e) ∙ pb)) aa) ab
    where
      some_is : Some a ≡ Some b → a ≡ b
      some_is h = cc

  module _ (w : Store) (h : Sound s w) where
    abbrev May : Label → Path → Effect → Type 0
    May me q x = Legit s.orders me (find s.root no_cell q w.tree) x

    trees_commute : (q q' : Path) (x x' : Effect) → May a q x → May b q' x' → tree_after q' x' (tree_after q x w.tree) ≡ tree_after q x (tree_after q' x' w.tree)
    trees_commute q q' no_change x' g g' = refl
    trees_commute q q' (set_number n e) x' g g' = refl
    trees_commute q q' (free_number n) x' g g' = refl
    trees_commute q q' (change x u v) no_change g g' = refl
    trees_commute q q' (change x u v) (set_number n e) g g' = refl
    trees_commute q q' (change x u v) (free_number n) g g' = refl
    trees_commute q q' (change x u v) (change x' u' v') g g' =
        let pay = paid_at_once (charge u v) (changed x) q in
        let pay' = paid_at_once (charge u' v') (changed x') q' in
        ap (paid_change (charge u' v') (changed x') q') (sym (pay w.tree))
        ∙ sym (pay' (updated (charge u v) (changed x) q w.tree))
        ∙ commute (charge u v) (charge u' v') (changed x) (changed x') q q' w.tree
        (forks s.orders laws a b aa bb ab ba q q' w.tree s.root h.grown
        (own s laws a (λ m. a ≡ m) a refl x u v q w.tree g) (own s laws b (λ m. b ≡ m) b refl x' u' v' q' w.tree g'))
        ∙ pay (updated (charge u' v') (changed x') q' w.tree)
        ∙ ap (paid_change (charge u v) (changed x) q) (pay' w.tree)

    -- what one makes known, the other does not remove
    spare_b : (q q' : Path) (x : Change) (u v n e : ℕ) → May a q (change x u v) → May b q' (set_number n e) → after_change q x (means (q' ++ (e ∷ []))) ≡ means (q' ++ (e ∷ []))
    spare_b q q' x u v n e g g' =
        unchanged_number s laws b a p pa ab w h b bb q x (means (q' ++ (e ∷ [])))
        (labelled_below (λ m. below s.orders m b ≡ true) e q' w.tree s.root no_cell g')
        (own s laws b (λ m. below s.orders m b ≡ false) a ab x u v q w.tree g)

    spare_a : (q q' : Path) (x : Change) (u v n e : ℕ) → May a q (set_number n e) → May b q' (change x u v) → after_change q' x (means (q ++ (e ∷ []))) ≡ means (q ++ (e ∷ []))
    spare_a q q' x u v n e g g' =
        unchanged_number s laws a b p' pb ba w h a aa q' x (means (q ++ (e ∷ [])))
        (labelled_below (λ m. below s.orders m a ≡ true) e q w.tree s.root no_cell g)
        (own s laws a (λ m. below s.orders m a ≡ false) b ba x u v q' w.tree g')

    numbers_commute : (q q' : Path) (x x' : Effect) → May a q x → May b q' x'
        → numbers_after p' q' x' (numbers_after p q x w.numbers) ≡ numbers_after p q x (numbers_after p' q' x' w.numbers)
    numbers_commute q q' no_change x' g g' = refl
    numbers_commute q q' (set_number n e) no_change g g' = refl
    numbers_commute q q' (set_number n e) (set_number n' e') g g' = set_set p p' n n' _ _ w.numbers apart
    numbers_commute q q' (set_number n e) (free_number n') g g' = set_set p p' n n' _ _ w.numbers apart
    numbers_commute q q' (set_number n e) (change x' u v) g g' = set_after p n (means (q ++ (e ∷ []))) q' x' w.numbers (spare_a q q' x' u v n e g g')
    numbers_commute q q' (free_number n) no_change g g' = refl
    numbers_commute q q' (free_number n) (set_number n' e') g g' = set_set p p' n n' _ _ w.numbers apart
    numbers_commute q q' (free_number n) (free_number n') g g' = set_set p p' n n' _ _ w.numbers apart
    numbers_commute q q' (free_number n) (change x' u v) g g' = set_after p n free q' x' w.numbers (free_after q' x')
    numbers_commute q q' (change x u v) no_change g g' = refl
    numbers_commute q q' (change x u v) (set_number n e) g g' = sym (set_after p' n (means (q' ++ (e ∷ []))) q x w.numbers (spare_b q q' x u v n e g g'))
    numbers_commute q q' (change x u v) (free_number n) g g' = sym (set_after p' n free q x w.numbers (free_after q x))
    numbers_commute q q' (change x u v) (change x' u' v') g g' = fun_ext (λ z. fun_ext (λ m. changes_commute q' q x' x (w.numbers z m)))

    -- Two calls

    module _ (c c' : Request) where
      abbrev wa : Store
      wa = left_by s w (Some a) p (Ok c)

      abbrev wb : Store
      wb = left_by s w (Some b) p' (Ok c')

      sound_a : Sound s wa
      sound_a = sound_left s w p (Some a) pa (Ok c) h

      sound_b : Sound s wb
      sound_b = sound_left s w p' (Some b) pb (Ok c') h

      -- neither shows at the other's label
      view_a : SameView s laws a wb w
      view_a = view_high s laws a b p' pb ba w h c'

      view_b : SameView s laws b wa w
      view_b = view_high s laws b a p pa ab w h c

      verdict_a : verdict s wb a p c ≡ verdict s w a p c
      verdict_a = same_verdict s laws a a p pa aa c wb w sound_b h view_a

      verdict_b : verdict s wa b p' c' ≡ verdict s w b p' c'
      verdict_b = same_verdict s laws b b p' pb bb c' wa w sound_a h view_b

      row_a : wb.numbers p ≡ w.numbers p
      row_a = view_a.numbers p (ap (at_or_below s.orders a) pa ∙ aa)

      row_b : wa.numbers p' ≡ w.numbers p'
      row_b = view_b.numbers p' (ap (at_or_below s.orders b) pb ∙ bb)

      pub answer_a : response_to s wb (Some a) p (Ok c) ≡ response_to s w (Some a) p (Ok c)
      answer_a = ap judged verdict_a

      pub answer_b : response_to s wa (Some b) p' (Ok c') ≡ response_to s w (Some b) p' (Ok c')
      answer_b = ap judged verdict_b

      pub stores : left_by s wa (Some b) p' (Ok c') ≡ left_by s wb (Some a) p (Ok c)
      stores =
          let q = path_of (w.numbers p (first_number c)) in
          let q' = path_of (w.numbers p' (first_number c')) in
          let x = effect_of (verdict s w a p c) in
          let x' = effect_of (verdict s w b p' c') in
          let g = legit s.orders a (w.numbers p) c (w.numbers p (first_number c)) w.tree s.root in
          let g' = legit s.orders b (w.numbers p') c' (w.numbers p' (first_number c')) w.tree s.root in
          let t = trees_commute q q' x x' g g' in
          let k = numbers_commute q q' x x' g g' in
          let mid : store_after p' q' x' wa ≡ store_after p q x wb = λ i. record { tree = t i; numbers = k i } in
          ap₂ (λ row z. store_after p' (path_of (row (first_number c'))) (effect_of z) wa) row_b verdict_b
          ∙ mid
          ∙ sym (ap₂ (λ row z. store_after p (path_of (row (first_number c))) (effect_of z) wb) row_a verdict_a)

-- Runs

some_below : (s : Setup) → Tested s → (p : ℕ) (m : Label) → nth s.admitted p ≡ Some m → below s.orders m m ≡ true
some_below s ts p m e =
    let h : below s.orders s.root m ≡ true = subst (Above s.orders s.root) e (nth_above s.orders s.root s.admitted ts.processes p) in
    below_refl s.orders ts.lawful m
    (and_both _ _ (ts.lawful.security.high _ _ (and_left _ _ h)) (ts.lawful.integrity.high _ _ (and_right (s.orders.security.below s.root.security m.security) _ h)))

pair : (s : Setup) → Tested s → (w : Store) → Sound s w → (p p' : ℕ) (m m' : Option Label)
    → nth s.admitted p ≡ m → nth s.admitted p' ≡ m' → both_incomparable s.orders m m' ≡ true → (d d' : Result Request FrameFault)
    → (response_to s (left_by s w m' p' d') m p d ≡ response_to s w m p d)
    × (response_to s (left_by s w m p d) m' p' d' ≡ response_to s w m' p' d')
    × (left_by s (left_by s w m p d) m' p' d' ≡ left_by s (left_by s w m' p' d') m p d)
pair s ts w h p p' None m' e e' i d d' = absurd (true≢false (sym i))
pair s ts w h p p' (Some a) None e e' i d d' = absurd (true≢false (sym i))
pair s ts w h p p' (Some a) (Some b) e e' i (Err f) (Err f') = (refl, refl, refl)
pair s ts w h p p' (Some a) (Some b) e e' i (Err f) (Ok r') = (refl, refl, refl)
pair s ts w h p p' (Some a) (Some b) e e' i (Ok r) (Err f') = (refl, refl, refl)
pair s ts w h p p' (Some a) (Some b) e e' i (Ok r) (Ok r') =
    let aa = some_below s ts p a e in
    let bb = some_below s ts p' b e' in
    let ab = not-true (below s.orders a b) (and_left _ _ i) in
    let ba = not-true (below s.orders b a) (and_right (not (below s.orders a b)) _ i) in (
      answer_a s ts.lawful a b p p' e e' aa bb ab ba w h r r',
      answer_b s ts.lawful a b p p' e e' aa bb ab ba w h r r',
      stores s ts.lawful a b p p' e e' aa bb ab ba w h r r',
    )

exchanged_from : (s : Setup) → Tested s → (cs : List RawCall) (n : ℕ) (w : Store) → Sound s w → IncomparableAt s n cs
    → (responses s w (swap_at n cs) ≡ swap_at n (responses s w cs)) × (after_all s w (swap_at n cs) ≡ after_all s w cs)
exchanged_from s ts [] n w h i = absurd i
exchanged_from s ts (c ∷ []) zero w h i = absurd i
exchanged_from s ts (c ∷ c' ∷ cs) zero w h i =
    let t = pair s ts w h c.process c'.process (nth s.admitted c.process) (nth s.admitted c'.process) refl refl i (decode c.frame c.room) (decode c'.frame c'.room) in
    (ap₂ (λ x y. x ∷ y) (sym t.1) (ap₂ (λ x v. x ∷ responses s v cs) t.0 (sym t.2)), ap (λ v. after_all s v cs) (sym t.2))
exchanged_from s ts (c ∷ cs) (suc n) w h i =
    let ih = exchanged_from s ts cs n (after s w c) (sound_after s w c h) i in
    (ap (λ x. response s w c ∷ x) ih.0, ih.1)

pub exchanged : (s : Setup) → Tested s → Exchanged s
exchanged s ts cs n i = exchanged_from s ts cs n (opened s) (sound_fresh s ts) i
