-- Calls above a label, or beside it, are not seen at or below it.
use Rattle.std.proofs.lemmas.Grind.{common_steps}
use Rattle.std.proofs.lemmas.Bool.Decides.{nat_tests}
use Rattle.std.proofs.Common.{arith, ◌≡◌, ℕ, Bool, true, false, cond, eqb, List, [], ◌∷◌, ◌++◌, Some, None, Ok, Err, Option, Result, sym, refl, ap, ◌∙◌, subst, ap₂, true≢false}
use mathlib.Core.Path.{fun_ext}
use Rattle.labels.specs.declared.label.Label.{Label}
use Rattle.frames.specs.Faults.{FrameFault}
use Rattle.frames.specs.Requests.{Request}
use Rattle.frames.specs.Decode.{decode}
use Rattle.labels.specs.Labels.{Orders, LawfulOrders, below}
use Rattle.rules.specs.Indexed.{assign}
use Rattle.rules.specs.Tree.{Tree, Path, at}
use Rattle.rules.specs.Cells.{find, no_cell, charge}
use Rattle.rules.specs.KnownNumbers.{Known, free, means, gone, through}
use Rattle.rules.specs.Changes.{create, remove, regrant, Change, change_place, write_words, keep_pages, changed, after_change, Effect, no_change, set_number, free_number, change, Store, tree_after, numbers_after}
use Rattle.rules.specs.Calls.{subject, judge, first_number, settled}
use Rattle.rules.specs.Setup.{Setup, opened, nth}
use Rattle.rules.specs.Responses.{RawCall, Response, judged, effect_of, path_of, verdict, response_to, left_by, response, after}
use Rattle.rules.specs.Histories.{responses, after_all}
use Rattle.rules.specs.Isolation.{at_or_below, low_process, shows, keep_if, low_calls, low_responses, Isolated}
use Rattle.rules.proofs.Assign.{assign_cases}
use Rattle.rules.proofs.Updates.{updated, paid_at_once}
use Rattle.rules.proofs.Choices.{clash, by_cases}
use Rattle.rules.proofs.Admissions.{Tested}
use Rattle.rules.proofs.Grown.{below_trans, Grown, Labelled, on_labelled, labelled_map, not_through, Proper, Legit, legit}
use Rattle.rules.proofs.Sound.{Seen, Knows, IsDirectory, Sound, sound_after, sound_run, sound_fresh}
use Rattle.rules.proofs.View.{view, Covered, path_seen, revised_low, revised_high, shown_seen}

module _ (s : Setup) (laws : LawfulOrders s.orders) (bound : Label) where
  abbrev o : Orders
  o = s.orders

  abbrev look : Tree → Tree
  look = view o bound

  abbrev Low : Label → Type 0
  Low m = below o m bound ≡ true

  abbrev High : Label → Type 0
  High m = below o m bound ≡ false

  pub record SameView (w w' : Store) : Type 0 where
    pub tree : look w.tree ≡ look w'.tree
    pub numbers : (p : ℕ) → low_process s bound p ≡ true → w.numbers p ≡ w'.numbers p

  -- Calls of processes at or below the bound

  -- what a call of a process at or below the bound comes to, in the view and in the tree
  pub subject_seen : (me : Label) (row : ℕ → Known) (r : Request) (k : Known) (t : Tree) → Low me → Grown o s.root t → Seen o s.root me t k
      → settled (judge o me row (subject s.root k (look t)) r) ≡ settled (judge o me row (subject s.root k t) r)
  subject_seen me row r free t lo g h = refl
  subject_seen me row r gone t lo g h = refl
  subject_seen me row r (means q) t lo g h =
      path_seen o laws bound me row r q t s.root no_cell g
      (labelled_map (λ m. below o m me ≡ true) Low (λ m k. below_trans o laws m me bound k lo) q t s.root h)

  -- a legitimate change is at the process's own label
  pub own : (P : Label → Type 0) (me : Label) → P me → (x : Change) (a b : ℕ) (q : Path) (t : Tree) → Legit o me (find s.root no_cell q t) (change x a b) → Labelled P s.root q t
  own P me pm x a b q t h = on_labelled (λ m pay y. (me ≡ m) × Proper o x m y) P (λ m pay y e. subst P e.0 pm) q t s.root no_cell h

  tree_low : (me : Label) → Low me → (q : Path) (x : Effect) (t t' : Tree) → Grown o s.root t → Grown o s.root t'
      → Legit o me (find s.root no_cell q t) x → Legit o me (find s.root no_cell q t') x → look t ≡ look t' → look (tree_after q x t) ≡ look (tree_after q x t')
  tree_low me lo q no_change t t' g g' h h' e = e
  tree_low me lo q (set_number n i) t t' g g' h h' e = e
  tree_low me lo q (free_number n) t t' g g' h h' e = e
  tree_low me lo q (change x a b) t t' g g' h h' e =
      ap look (sym (paid_at_once (charge a b) (changed x) q t))
      ∙ revised_low o laws bound x a b q t s.root g (own Low me lo x a b q t h)
      ∙ ap (λ z. look (updated (charge a b) (changed x) q z)) e
      ∙ sym (revised_low o laws bound x a b q t' s.root g' (own Low me lo x a b q t' h'))
      ∙ ap look (paid_at_once (charge a b) (changed x) q t')

  known_low : (p p' : ℕ) (q : Path) (x : Effect) (known known' : ℕ → ℕ → Known) → known p ≡ known' p → known p' ≡ known' p'
      → numbers_after p q x known p' ≡ numbers_after p q x known' p'
  known_low p p' q no_change known known' e e' = e'
  known_low p p' q (set_number n i) known known' e e' = ap₂ (λ f g. cond (eqb p' p) (assign f n (means (q ++ (i ∷ [])))) g) e e'
  known_low p p' q (free_number n) known known' e e' = ap₂ (λ f g. cond (eqb p' p) (assign f n free) g) e e'
  known_low p p' q (change x a b) known known' e e' = ap (λ row n. after_change q x (row n)) e'

  module _ (me : Label) (p : ℕ) (pm : nth s.admitted p ≡ Some me) (lo : Low me) (c : Request) (w w' : Store) (h : Sound s w) (h' : Sound s w') (al : SameView w w') where
    abbrev pk : low_process s bound p ≡ true
    pk = ap (at_or_below o bound) pm ∙ lo

    abbrev k : Known
    k = w.numbers p (first_number c)

    abbrev k' : Known
    k' = w'.numbers p (first_number c)

    kk : k ≡ k'
    kk = ap (λ row. row (first_number c)) (al.numbers p pk)

    seen : (v : Store) → Sound s v → Seen o s.root me v.tree (v.numbers p (first_number c))
    seen v hv = subst (λ m. Knows o s.root v.tree m (v.numbers p)) pm (hv.knows p) (first_number c)

    pub same_verdict : verdict s w me p c ≡ verdict s w' me p c
    same_verdict =
        sym (subject_seen me (w.numbers p) c k w.tree lo h.grown (seen w h))
        ∙ ap₂ (λ row t. settled (judge o me row (subject s.root (row (first_number c)) t) c)) (al.numbers p pk) al.tree
        ∙ subject_seen me (w'.numbers p) c k' w'.tree lo h'.grown (seen w' h')

    pub view_low : SameView (left_by s w (Some me) p (Ok c)) (left_by s w' (Some me) p (Ok c))
    view_low =
        let x = effect_of (verdict s w me p c) in
        let x' = effect_of (verdict s w' me p c) in
        let q = path_of k in
        let q' = path_of k' in
        let ex : x ≡ x' = ap effect_of same_verdict in
        let eq : q ≡ q' = ap path_of kk in
        let lg = legit o me (w.numbers p) c k w.tree s.root in
        let lg' : Legit o me (find s.root no_cell q' w'.tree) x' = legit o me (w'.numbers p) c k' w'.tree s.root in
        let lg'' : Legit o me (find s.root no_cell q w'.tree) x =
        subst (λ z. Legit o me (find s.root no_cell z w'.tree) x) (sym eq) (subst (λ z. Legit o me (find s.root no_cell q' w'.tree) z) (sym ex) lg') in
        record {
          tree = tree_low me lo q x w.tree w'.tree h.grown h'.grown lg lg'' al.tree ∙ ap₂ (λ a b. look (tree_after a b w'.tree)) eq ex;
          numbers = λ p' lp. known_low p p' q x w.numbers w'.numbers (al.numbers p pk) (al.numbers p' lp) ∙ ap₂ (λ a b. numbers_after p a b w'.numbers p') eq ex;
        }

  -- Calls of others

  -- the process does not stand at or below the bound
  module _ (me : Label) (p : ℕ) (pm : nth s.admitted p ≡ Some me) (hi : High me) (w : Store) (h : Sound s w) where
    covered_top : (t : Tree) → IsDirectory t → Covered o laws bound s.root t
    covered_top a1 a2 = grind (arith, common_steps, nat_tests)

    tree_high : (q : Path) (x : Effect) → Legit o me (find s.root no_cell q w.tree) x → look (tree_after q x w.tree) ≡ look w.tree
    tree_high q no_change lg = refl
    tree_high q (set_number n e) lg = refl
    tree_high q (free_number n) lg = refl
    tree_high q (change x a b) lg =
        ap look (sym (paid_at_once (charge a b) (changed x) q w.tree))
        ∙ revised_high o laws bound x a b q w.tree s.root (covered_top w.tree h.top) h.grown (own High me hi x a b q w.tree lg)

    other : (p' : ℕ) → low_process s bound p' ≡ true → p' ≡ p → ⊥
    other p' lp e = clash _ (subst (λ z. low_process s bound z ≡ true) e lp) (ap (at_or_below o bound) pm ∙ hi)

    -- what a process at or below the bound knows is not removed
    pub unchanged_number : (me' : Label) → Low me' → (q : Path) (x : Change) (k : Known) → Seen o s.root me' w.tree k → Labelled High s.root q w.tree → after_change q x k ≡ k
    unchanged_number me' lo q (change_place e (create y)) k sn ow = refl
    unchanged_number me' lo q (change_place e (regrant u v)) k sn ow = refl
    unchanged_number me' lo q (write_words first ds) k sn ow = refl
    unchanged_number me' lo q (keep_pages n) k sn ow = refl
    unchanged_number me' lo q (change_place e remove) free sn ow = refl
    unchanged_number me' lo q (change_place e remove) gone sn ow = refl
    unchanged_number me' lo q (change_place e remove) (means r) sn ow =
        by_cases (λ z. z ≡ means r) (through (q ++ (e ∷ [])) r) gone (means r)
        (λ i. absurd (not_through o laws bound q r e w.tree s.root h.grown ow
        (labelled_map (λ m. below o m me' ≡ true) Low (λ m k. below_trans o laws m me' bound k lo) r w.tree s.root sn) i))
        (λ i. refl)

    unchanged_row : (m : Option Label) → at_or_below o bound m ≡ true → (q : Path) (x : Change) (row : ℕ → Known) → Knows o s.root w.tree m row → Labelled High s.root q w.tree
        → (λ n. after_change q x (row n)) ≡ row
    unchanged_row None lo q x row kn ow = absurd (true≢false (sym lo))
    unchanged_row (Some me') lo q x row kn ow = fun_ext (λ n. unchanged_number me' lo q x (row n) (kn n) ow)

    known_high : (q : Path) (x : Effect) → Legit o me (find s.root no_cell q w.tree) x → (p' : ℕ) → low_process s bound p' ≡ true → numbers_after p q x w.numbers p' ≡ w.numbers p'
    known_high q no_change lg p' lp = refl
    known_high q (set_number n e) lg p' lp = assign_cases (λ row. row ≡ w.numbers p') w.numbers p _ p' (λ i. absurd (other p' lp i)) refl
    known_high q (free_number n) lg p' lp = assign_cases (λ row. row ≡ w.numbers p') w.numbers p _ p' (λ i. absurd (other p' lp i)) refl
    known_high q (change x a b) lg p' lp =
        unchanged_row (nth s.admitted p') lp q x (w.numbers p') (h.knows p') (own High me hi x a b q w.tree lg)

    pub view_high : (c : Request) → SameView (left_by s w (Some me) p (Ok c)) w
    view_high c =
        let q = path_of (w.numbers p (first_number c)) in
        let lg = legit o me (w.numbers p) c (w.numbers p (first_number c)) w.tree s.root in
        record { tree = tree_high q (effect_of (verdict s w me p c)) lg; numbers = known_high q (effect_of (verdict s w me p c)) lg }

  -- Runs

  abbrev view_trans : {u v w : Store} → SameView u v → SameView v w → SameView u w
  view_trans a b = record { tree = a.tree ∙ b.tree; numbers = λ p h. a.numbers p h ∙ b.numbers p h }

  pub view_sym : {u v : Store} → SameView u v → SameView v u
  view_sym a = record { tree = sym a.tree; numbers = λ p h. sym (a.numbers p h) }

  -- a call that is not of a process at or below the bound changes nothing there
  pub skipped_as : (w : Store) (p : ℕ) (m : Option Label) → nth s.admitted p ≡ m → (d : Result Request FrameFault) → Sound s w → at_or_below o bound m ≡ false
      → SameView (left_by s w m p d) w
  skipped_as w p None pm d h e = record { tree = refl; numbers = λ p k. refl }
  skipped_as w p (Some me) pm (Err f) h e = record { tree = refl; numbers = λ p k. refl }
  skipped_as w p (Some me) pm (Ok r) h e = view_high me p pm e w h r

  skipped : (w : Store) (c : RawCall) → Sound s w → low_process s bound c.process ≡ false → SameView (after s w c) w
  skipped w c h e = skipped_as w c.process (nth s.admitted c.process) refl (decode c.frame c.room) h e

  -- a call of a process at or below the bound is answered alike, and leaves the same
  pub made_as : (w w' : Store) (p : ℕ) (m : Option Label) → nth s.admitted p ≡ m → (d : Result Request FrameFault) → Sound s w → Sound s w' → SameView w w'
      → at_or_below o bound m ≡ true → (response_to s w m p d ≡ response_to s w' m p d) × SameView (left_by s w m p d) (left_by s w' m p d)
  made_as w w' p None pm d h h' al e = absurd (true≢false (sym e))
  made_as w w' p (Some me) pm (Err f) h h' al e = (refl, al)
  made_as w w' p (Some me) pm (Ok r) h h' al e =
      (ap judged (same_verdict me p pm e r w w' h h' al), view_low me p pm e r w w' h h' al)

  made : (w w' : Store) (c : RawCall) → Sound s w → Sound s w' → SameView w w' → low_process s bound c.process ≡ true
      → (response s w c ≡ response s w' c) × SameView (after s w c) (after s w' c)
  made w w' c h h' al e = made_as w w' c.process (nth s.admitted c.process) refl (decode c.frame c.room) h h' al e

  -- a run, and the run of its low calls alone
  low_run : (rs : List RawCall) (w w' : Store) → Sound s w → Sound s w' → SameView w w'
      → (low_responses s bound w rs ≡ responses s w' (low_calls s bound rs)) × SameView (after_all s w rs) (after_all s w' (low_calls s bound rs))
  low_run [] w w' h h' al = (refl, al)
  low_run (r ∷ rs) w w' h h' al =
      go (low_process s bound r.process) refl
      (λ a. low_run rs (after s w r) w' (sound_after s w r h) h' a)
      (λ a. low_run rs (after s w r) (after s w' r) (sound_after s w r h) (sound_after s w' r h') a)
    where
      Ends : Store → List Response → List RawCall → Type 0
      Ends v vs ls = (vs ≡ responses s v ls) × SameView (after_all s (after s w r) rs) (after_all s v ls)

      go : (b : Bool) → low_process s bound r.process ≡ b
          → (SameView (after s w r) w' → Ends w' (low_responses s bound (after s w r) rs) (low_calls s bound rs))
          → (SameView (after s w r) (after s w' r) → Ends (after s w' r) (low_responses s bound (after s w r) rs) (low_calls s bound rs))
          → Ends w' (keep_if b (response s w r) (low_responses s bound (after s w r) rs)) (keep_if b r (low_calls s bound rs))
      go true e skip keeps =
          let m = made w w' r h h' al e in
          let ih = keeps m.1 in
          (ap₂ (λ a vs. a ∷ vs) m.0 ih.0, ih.1)
      go false e skip keeps = skip (view_trans (skipped w r h e) al)

pub isolated : (s : Setup) → Tested s → Isolated s s
isolated s ts bound rs rs' e =
    let laws = ts.lawful in
    let f = sound_fresh s ts in
    let al : SameView s laws bound (opened s) (opened s) = record { tree = refl; numbers = λ p h. refl } in
    let a = low_run s laws bound rs (opened s) (opened s) f f al in
    let b = low_run s laws bound rs' (opened s) (opened s) f f al in
    let fin : SameView s laws bound (after_all s (opened s) rs) (after_all s (opened s) rs') =
    view_trans s laws bound (subst (λ ls. SameView s laws bound (after_all s (opened s) rs) (after_all s (opened s) ls)) e a.1) (view_sym s laws bound b.1) in (
      a.0 ∙ ap (responses s (opened s)) e ∙ sym b.0,
      record {
        tree = λ q.
            sym (shown_seen s.orders laws bound q (after_all s (opened s) rs).tree s.root (sound_run s rs (opened s) f).grown)
            ∙ ap (λ t. shows s.orders bound (at q t)) fin.tree
            ∙ shown_seen s.orders laws bound q (after_all s (opened s) rs').tree s.root (sound_run s rs' (opened s) f).grown;
        numbers = λ p n h. ap (λ row. row n) (fin.numbers p h);
      },
    )
