-- Labels grow along the tree, and calls keep this.
use Rattle.std.proofs.lemmas.Grind.{common_steps}
use Rattle.std.proofs.lemmas.Bool.Decides.{nat_tests}
use Rattle.std.proofs.Common.{arith, ◌≡◌, ℕ, Bool, true, false, not, ◌||◌, eqb, [], ◌∷◌, ◌++◌, ℤ, Some, None, Option, sym, refl, ◌∙◌, subst, true≢false, eq-eqb, eqb-true}
use Rattle.labels.specs.declared.label.Label.{Label}
use Rattle.frames.specs.Requests.{Request}
use Rattle.labels.specs.Labels.{same_label, Orders, LawfulOrders, valid, below}
use Rattle.rules.specs.Segments.{Pages}
use Rattle.rules.specs.Tree.{Cell, Tree, empty, segment, directory, Path, new_cell, is_empty, label_in}
use Rattle.rules.specs.Cells.{cell_used, Found, nothing, found, find, no_cell, charge}
use Rattle.rules.specs.KnownNumbers.{Known, free, means, gone, through}
use Rattle.rules.specs.Changes.{PlaceChange, create, remove, regrant, Change, change_place, write_words, keep_pages, with_grant, place_after, places_after, changed, map_cell, Effect, no_change, set_number, free_number, change}
use Rattle.rules.specs.Calls.{is_free_number, is_gone, is_segment, is_directory, found_subject, subject, judge_move, judge, settled}
use Rattle.rules.specs.Responses.{effect_of, path_of}
use Rattle.rules.proofs.Assign.{assign_cases}
use Rattle.rules.proofs.Updates.{cell_on_path, updated}
use Rattle.rules.proofs.Choices.{and_left, and_right, and_both, clash, by_cases}
use Rattle.rules.proofs.Outcomes.{Holds, holds, free_holds, gone_holds}
use Rattle.rules.proofs.Places.{On}

-- Labels

pub same_eq : (l m : Label) → same_label l m ≡ true → l ≡ m
same_eq a1 a2 a3 = grind (arith, common_steps, nat_tests)

module _ (o : Orders) (laws : LawfulOrders o) where
  pub below_trans : (a b c : Label) → below o a b ≡ true → below o b c ≡ true → below o a c ≡ true
  below_trans a b c h k =
      and_both _ _
      (laws.security.transitive _ _ _ (and_left _ _ h) (and_left _ _ k))
      (laws.integrity.transitive _ _ _
      (and_right (o.security.below a.security b.security) _ h) (and_right (o.security.below b.security c.security) _ k))

  pub below_refl : (a : Label) → valid o a ≡ true → below o a a ≡ true
  below_refl a h = and_both _ _ (laws.security.reflexive _ (and_left _ _ h)) (laws.integrity.reflexive _ (and_right (o.security.valid a.security) _ h))

-- Labels along the tree

-- a directory without a cell has its parent's label
abbrev pub Tied : Option Cell → Label → Label → Type 0
Tied None l m = m ≡ l
Tied (Some c) l m = Unit {0}

abbrev pub Grown : Orders → Label → Tree → Type 0
Grown o l empty = Unit {0}
Grown o l (segment ps) = Unit {0}
Grown o l (directory m c places) = (below o l m ≡ true) × Tied c l m × ((i : ℕ) → Grown o m (places i))

-- an object stands at the path, and P holds of its label
abbrev pub Labelled : (Label → Type 0) → Label → Path → Tree → Type 0
Labelled P l [] empty = ⊥
Labelled P l [] (segment ps) = P l
Labelled P l [] (directory m c places) = P m
Labelled P l (i ∷ q) empty = ⊥
Labelled P l (i ∷ q) (segment ps) = ⊥
Labelled P l (i ∷ q) (directory m c places) = Labelled P m q (places i)

pub on_labelled : (P : Label → Cell → Tree → Type 0) (Q : Label → Type 0) → ((l : Label) (c : Cell) (t : Tree) → P l c t → Q l)
    → (q : Path) (t : Tree) (l : Label) (c : Cell) → On P (find l c q t) → Labelled Q l q t
on_labelled P Q f [] empty l c h = h
on_labelled P Q f [] (segment ps) l c h = f _ _ _ h
on_labelled P Q f [] (directory m c' places) l c h = f _ _ _ h
on_labelled P Q f (i ∷ q) empty l c h = h
on_labelled P Q f (i ∷ q) (segment ps) l c h = h
on_labelled P Q f (i ∷ q) (directory m c' places) l c h = on_labelled P Q f q (places i) m (cell_used c' c) h

pub labelled_map : (P Q : Label → Type 0) → ((l : Label) → P l → Q l) → (q : Path) (t : Tree) (l : Label) → Labelled P l q t → Labelled Q l q t
labelled_map P Q f [] empty l h = h
labelled_map P Q f [] (segment ps) l h = f _ h
labelled_map P Q f [] (directory m c' places) l h = f _ h
labelled_map P Q f (i ∷ q) empty l h = h
labelled_map P Q f (i ∷ q) (segment ps) l h = h
labelled_map P Q f (i ∷ q) (directory m c' places) l h = labelled_map P Q f q (places i) m h

-- where no cell stands on the path, the label is that of the directory above
pub no_cell_between : (o : Orders) (P : Label → Type 0) (q : Path) (t : Tree) (l : Label) → Grown o l t → cell_on_path q t ≡ false → Labelled P l q t → P l
no_cell_between o P [] empty l g e h = absurd h
no_cell_between o P [] (segment ps) l g e h = h
no_cell_between o P [] (directory m None places) l g e h = subst P g.1 h
no_cell_between o P [] (directory m (Some c) places) l g e h = absurd (true≢false e)
no_cell_between o P (i ∷ q) empty l g e h = absurd h
no_cell_between o P (i ∷ q) (segment ps) l g e h = absurd h
no_cell_between o P (i ∷ q) (directory m None places) l g e h =
    subst P g.1 (no_cell_between o P q (places i) m (g.2 i) (by_cases (λ b. b ≡ false → cell_on_path q (places i) ≡ false) (cell_on_path q (places i)) true false (λ k z. absurd (true≢false z)) (λ k z. k) e) h)
no_cell_between o P (i ∷ q) (directory m (Some c) places) l g e h =
    absurd (true≢false (by_cases (λ b. b ≡ false → true ≡ false) (cell_on_path q (places i)) true true (λ k z. z) (λ k z. z) e))

module _ (o : Orders) (laws : LawfulOrders o) (bound : Label) where
  -- the label above a path is below the label at it
  pub above : (q : Path) (t : Tree) (l : Label) → Grown o l t → Labelled (λ m. below o m bound ≡ true) l q t → below o l bound ≡ true
  above [] empty l g h = absurd h
  above [] (segment ps) l g h = h
  above [] (directory m c places) l g h = below_trans o laws l m bound g.0 h
  above (i ∷ q) empty l g h = absurd h
  above (i ∷ q) (segment ps) l g h = absurd h
  above (i ∷ q) (directory m c places) l g h = below_trans o laws l m bound g.0 (above q (places i) m (g.2 i) h)

  -- nothing at or below the bound stands below what does not
  pub not_through : (q r : Path) (e : ℕ) (t : Tree) (l : Label) → Grown o l t
      → Labelled (λ m. below o m bound ≡ false) l q t → Labelled (λ m. below o m bound ≡ true) l r t → through (q ++ (e ∷ [])) r ≡ true → ⊥
  not_through [] r e empty l g h k z = h
  not_through [] [] e (segment ps) l g h k z = true≢false (sym z)
  not_through [] (j ∷ r) e (segment ps) l g h k z = k
  not_through [] [] e (directory m c places) l g h k z = true≢false (sym z)
  not_through [] (j ∷ r) e (directory m c places) l g h k z = clash _ (above r (places j) m (g.2 j) k) h
  not_through (i ∷ q) r e empty l g h k z = h
  not_through (i ∷ q) r e (segment ps) l g h k z = h
  not_through (i ∷ q) [] e (directory m c places) l g h k z = true≢false (sym z)
  not_through (i ∷ q) (j ∷ r) e (directory m c places) l g h k z =
      let p : i ≡ j = eqb-true i j (and_left _ _ z) in
      not_through q r e (places i) m (g.2 i) h (subst (λ n. Labelled (λ m'. below o m' bound ≡ true) m r (places n)) (sym p) k)
      (and_right (eqb i j) _ z)

-- Changes

-- a new object comes to an empty place, with a label that may stand there
abbrev pub ProperTurn : Orders → Label → Tree → PlaceChange → Type 0
ProperTurn o m y (create t) = (y ≡ empty) × Grown o m t
ProperTurn o m y remove = Unit {0}
ProperTurn o m y (regrant a b) = Unit {0}

abbrev pub Proper : Orders → Change → Label → Tree → Type 0
Proper o x m empty = Unit {0}
Proper o x m (segment ps) = Unit {0}
Proper o (change_place e t) m (directory n c places) = ProperTurn o m (places e) t
Proper o (write_words first ds) m (directory n c places) = Unit {0}
Proper o (keep_pages k) m (directory n c places) = Unit {0}

pub grown_regranted : (o : Orders) (l : Label) (a b : ℕ) (y : Tree) → Grown o l y → Grown o l (with_grant a b y)
grown_regranted a1 a2 a3 a4 a5 a6 = grind (arith, common_steps, nat_tests)

grown_turn : (o : Orders) (m : Label) (y : Tree) (t : PlaceChange) → Grown o m y → ProperTurn o m y t → Grown o m (place_after t y)
grown_turn a1 a2 a3 a4 a5 a6 = grind (arith, common_steps, nat_tests)

grown_places : (o : Orders) (x : Change) (l m : Label) (c : Option Cell) (places : ℕ → Tree) → ((i : ℕ) → Grown o m (places i)) → Proper o x m (directory m c places)
    → (i : ℕ) → Grown o m (places_after x places i)
grown_places o (change_place e t) l m c places g h i = assign_cases (Grown o m) places e (place_after t (places e)) i (λ p. grown_turn o m (places e) t (g e) h) (g i)
grown_places o (write_words first ds) l m c places g h i = g i
grown_places o (keep_pages k) l m c places g h i = g i

tied_charged : (a b : ℕ) (c : Option Cell) (l m : Label) → Tied c l m → Tied (map_cell (charge a b) c) l m
tied_charged a1 a2 a3 a4 a5 a6 = grind (arith, common_steps, nat_tests)

-- What stood at a path still stands there with its label, if it is not removed

-- the path r' is not removed with what stands at r
abbrev pub SparedTurn : PlaceChange → Path → Path → Type 0
SparedTurn (create t) r r' = Unit {0}
SparedTurn remove r r' = through r r' ≡ false
SparedTurn (regrant u v) r r' = Unit {0}

abbrev pub Spared : Change → Path → Path → Type 0
Spared (change_place e t) q r = SparedTurn t (q ++ (e ∷ [])) r
Spared (write_words first ds) q r = Unit {0}
Spared (keep_pages k) q r = Unit {0}

pub labelled_below : (P : Label → Type 0) (e : ℕ) (q : Path) (t : Tree) (l : Label) (c : Cell) → On (λ m pay y. Labelled P m (e ∷ []) y) (find l c q t) → Labelled P l (q ++ (e ∷ [])) t
labelled_below P e [] empty l c h = h
labelled_below P e [] (segment ps) l c h = h
labelled_below P e [] (directory m c' places) l c h = h
labelled_below P e (i ∷ q) empty l c h = h
labelled_below P e (i ∷ q) (segment ps) l c h = h
labelled_below P e (i ∷ q) (directory m c' places) l c h = labelled_below P e q (places i) m (cell_used c' c) h

module _ (o : Orders) (x : Change) (a b : ℕ) where
  abbrev new : Path → Tree → Tree
  new = updated (charge a b) (changed x)

  pub grown_revised : (q : Path) (t : Tree) (l : Label) (c : Cell) → Grown o l t → On (λ m pay y. Proper o x m y) (find l c q t) → Grown o l (new q t)
  grown_revised [] empty l c g h = g
  grown_revised [] (segment ps) l c g h = tt
  grown_revised [] (directory m c' places) l c g h =
      (g.0, tied_charged a b c' l m g.1, grown_places o x l m c' places g.2 h)
  grown_revised (i ∷ q) empty l c g h = g
  grown_revised (i ∷ q) (segment ps) l c g h = g
  grown_revised (i ∷ q) (directory m c' places) l c g h = (
    g.0,
    by_cases (λ z. Tied z l m) (cell_on_path q (places i)) c' (map_cell (charge a b) c') (λ e. g.1) (λ e. tied_charged a b c' l m g.1),
    λ j. assign_cases (Grown o m) places i (new q (places i)) j (λ p. grown_revised q (places i) m (cell_used c' c) (g.2 i) h) (g.2 j),
  )

  module _ (P : Label → Type 0) where
    labelled_regranted : (u v : ℕ) (r : Path) (l : Label) (y : Tree) → Labelled P l r y → Labelled P l r (with_grant u v y)
    labelled_regranted u v r l empty h = h
    labelled_regranted u v r l (segment ps) h = h
    labelled_regranted u v r l (directory m None places) h = h
    labelled_regranted u v [] l (directory m (Some c) places) h = h
    labelled_regranted u v (i ∷ r) l (directory m (Some c) places) h = h

    nothing_labelled : (r : Path) (l : Label) → Labelled P l r empty → ⊥
    nothing_labelled [] l h = h
    nothing_labelled (i ∷ r) l h = h

    labelled_turn : (e : ℕ) (m : Label) (r : Path) (y : Tree) (t : PlaceChange) → Labelled P m r y → ProperTurn o m y t → SparedTurn t (e ∷ []) (e ∷ r) → Labelled P m r (place_after t y)
    labelled_turn e m r y (create t) h pr sp = absurd (nothing_labelled r m (subst (λ z. Labelled P m r z) pr.0 h))
    labelled_turn e m r y remove h pr sp = absurd (true≢false (sym (and_both _ _ (eq-eqb e e refl) refl) ∙ sp))
    labelled_turn e m r y (regrant u v) h pr sp = labelled_regranted u v r m y h

    labelled_places : (z : Change) (m : Label) (c : Option Cell) (r : Path) (places : ℕ → Tree) (j : ℕ) → Labelled P m r (places j) → Proper o z m (directory m c places) → Spared z [] (j ∷ r)
        → Labelled P m r (places_after z places j)
    labelled_places (change_place e t) m c r places j h pr sp =
        assign_cases (Labelled P m r) places e (place_after t (places e)) j
        (λ p. labelled_turn e m r (places e) t (subst (λ n. Labelled P m r (places n)) p h) pr (subst (λ n. SparedTurn t (e ∷ []) (n ∷ r)) p sp)) h
    labelled_places (write_words first ds) m c r places j h pr sp = h
    labelled_places (keep_pages k) m c r places j h pr sp = h

    spared_down : (z : Change) (i j : ℕ) (q r : Path) → j ≡ i → Spared z (i ∷ q) (j ∷ r) → Spared z q r
    spared_down a1 a2 a3 a4 a5 a6 a7 = grind (arith, common_steps, nat_tests)

    pub labelled_revised : (q r : Path) (t : Tree) (l : Label) (c : Cell) → Labelled P l r t → On (λ m pay y. Proper o x m y) (find l c q t) → Spared x q r
        → Labelled P l r (new q t)
    labelled_revised [] r empty l c h pr sp = h
    labelled_revised [] [] (segment ps) l c h pr sp = h
    labelled_revised [] (j ∷ r) (segment ps) l c h pr sp = h
    labelled_revised [] [] (directory m c' places) l c h pr sp = h
    labelled_revised [] (j ∷ r) (directory m c' places) l c h pr sp = labelled_places x m c' r places j h pr sp
    labelled_revised (i ∷ q) r empty l c h pr sp = h
    labelled_revised (i ∷ q) r (segment ps) l c h pr sp = h
    labelled_revised (i ∷ q) [] (directory m c' places) l c h pr sp = h
    labelled_revised (i ∷ q) (j ∷ r) (directory m c' places) l c h pr sp =
        assign_cases (Labelled P m r) places i (new q (places i)) j
        (λ p. labelled_revised q r (places i) m (cell_used c' c) (subst (λ n. Labelled P m r (places n)) p h) pr (spared_down x i j q r p sp)) h

-- What a call may do

abbrev pub Legit : Orders → Label → Found → Effect → Type 0
Legit o me f no_change = Unit {0}
Legit o me f (set_number n e) = On (λ m pay y. Labelled (λ z. below o z me ≡ true) m (e ∷ []) y) f
Legit o me f (free_number n) = Unit {0}
Legit o me f (change x a b) = On (λ m pay y. (me ≡ m) × Proper o x m y) f

or_false : (b : Bool) → (b || false) ≡ true → b ≡ true
or_false a1 a2 = grind (arith, common_steps, nat_tests)

tied_new : (g : ℕ) (m n : Label) → (same_label m n || not (eqb g 0)) ≡ true → Tied (new_cell g) m n
tied_new a1 a2 a3 a4 = grind (arith, common_steps, nat_tests)

module _ (o : Orders) (me : Label) (known : ℕ → Known) where
  label_in_labelled : (m : Label) (y : Tree) → not (is_empty y) ≡ true → below o (label_in m y) me ≡ true → Labelled (λ z. below o z me ≡ true) m [] y
  label_in_labelled a1 a2 a3 a4 = grind (arith, common_steps, nat_tests)

  module _ (l : Label) (c : Option Cell) (places : ℕ → Tree) (pay : Cell) where
    abbrev Here : Found
    Here = found l pay (directory l c places)

    move_legit : me ≡ l → (e : ℕ) (y : Tree) (a : ℤ) → Holds (Legit o me Here) (judge_move l pay e y a)
    move_legit a1 a2 a3 a4 = grind (arith, common_steps, nat_tests)

    directory_legit : (r : Request) → Holds (Legit o me Here) (judge o me known (is_directory l pay places) r)
    unfolding judge
    directory_legit a1 = grind (arith, common_steps, nat_tests)

  segment_legit : (l : Label) (ps : Pages) (pay : Cell) (r : Request) → Holds (Legit o me (found l pay (segment ps))) (judge o me known (is_segment l pay ps) r)
  unfolding judge
  segment_legit a1 a2 a3 a4 = grind (arith, common_steps, nat_tests)

  found_legit : (r : Request) (q : Path) (t : Tree) (l : Label) (c : Cell) → Holds (Legit o me (find l c q t)) (judge o me known (found_subject (find l c q t)) r)
  found_legit r [] empty l c = gone_holds (Legit o me nothing) (λ n. tt) o me known r
  found_legit r [] (segment ps) l c = segment_legit l ps c r
  found_legit r [] (directory m c' places) l c = directory_legit m c' places (cell_used c' c) r
  found_legit r (i ∷ q) empty l c = gone_holds (Legit o me nothing) (λ n. tt) o me known r
  found_legit r (i ∷ q) (segment ps) l c = gone_holds (Legit o me nothing) (λ n. tt) o me known r
  found_legit r (i ∷ q) (directory m c' places) l c = found_legit r q (places i) m (cell_used c' c)

  -- the effect_of of a call, through any known number
  pub legit : (r : Request) (k : Known) (t : Tree) (root : Label) → Legit o me (find root no_cell (path_of k) t) (effect_of (settled (judge o me known (subject root k t) r)))
  legit r free t root = let f = find root no_cell [] t in holds (Legit o me f) tt (judge o me known is_free_number r) (free_holds (Legit o me f) (λ n. tt) o me known r)
  legit r gone t root = let f = find root no_cell [] t in holds (Legit o me f) tt (judge o me known is_gone r) (gone_holds (Legit o me f) (λ n. tt) o me known r)
  legit r (means q) t root = let f = find root no_cell q t in holds (Legit o me f) tt (judge o me known (found_subject f) r) (found_legit r q t root no_cell)
