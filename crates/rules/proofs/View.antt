-- The part of the tree that stands at or below a label, and what calls do to it.
use Rattle.std.proofs.lemmas.Grind.{common_steps}
use Rattle.std.proofs.lemmas.Bool.Decides.{nat_tests}
use Rattle.std.proofs.Common.{arith, ◌≡◌, ℕ, suc, ◌+◌, ◌-◌, Bool, true, false, cond, not, ◌&&◌, ◌||◌, eqb, ltb, leb, [], ◌∷◌, ℤ, Some, None, Err, Option, sym, refl, ap, ◌∙◌, subst, ap₂}
use mathlib.Core.Path.{fun_ext}
use Rattle.labels.specs.declared.label.Label.{Label}
use Rattle.frames.specs.Requests.{Request, create_segment, create_directory, make_known, terminate, read, write, truncate, delete, move_quota, status, quota}
use Rattle.rules.specs.declared.denial.Denial.TheVariants.{OtherLabel, WrongPlace, WrongLabel, NumberTaken, WrongGrant, TooFewLeft}
use Rattle.rules.specs.Denials.{fault}
use Rattle.labels.specs.Labels.{same_label, Orders, LawfulOrders, valid, below}
use Rattle.rules.specs.Indexed.{assign}
use Rattle.rules.specs.Tree.{Cell, Tree, empty, segment, directory, Path, at, new_segment, new_directory, is_empty, label_in, sort_of, grant_of}
use Rattle.rules.specs.Cells.{cost, cell_used, find, charge, has_cell}
use Rattle.rules.specs.KnownNumbers.{Known, is_free}
use Rattle.rules.specs.Changes.{PlaceChange, create, remove, regrant, Change, change_place, write_words, keep_pages, with_grant, place_after, places_after, changed, map_cell, no_change, set_number, change}
use Rattle.rules.specs.Calls.{Judgement, done, require, is_directory, found_subject, flag, values, status_values, judge_move, judge, settled}
use Rattle.rules.specs.Isolation.{entry, not_shown, shown, shows}
use Rattle.rules.proofs.Assign.{assign_cases}
use Rattle.rules.proofs.Updates.{cell_on_path, updated}
use Rattle.rules.proofs.Choices.{clash, by_cases}
use Rattle.rules.proofs.Sums.{sum_ext}
use Rattle.rules.proofs.Grown.{below_trans, Grown, Labelled, no_cell_between, above}

abbrev pub stub : Cell → Cell
stub c = record { granted = c.granted; left = 0 }

-- a directory that does not stand at or below the bound is told only by its label and grant
abbrev pub view : Orders → Label → Tree → Tree
view o bound empty = empty
view o bound (segment ps) = segment ps
view o bound (directory l c places) = cond (below o l bound) (directory l c (λ i. view o bound (places i))) (directory l (map_cell stub c) (λ i. empty))

stub_stub : (c : Option Cell) → map_cell stub (map_cell stub c) ≡ map_cell stub c
stub_stub a1 = grind (arith, common_steps, nat_tests)

stub_charge : (a b : ℕ) (c : Option Cell) → map_cell stub (map_cell (charge a b) c) ≡ map_cell stub c
stub_charge a1 a2 a3 = grind (arith, common_steps, nat_tests)

-- a move of suc a records from the cell z at the place e, once the labels were compared
abbrev lowered : ℕ → ℕ → Cell → Judgement
lowered a e z =
    require (ltb (suc a) z.granted) WrongGrant 3
    (require (leb (suc a) z.left) TooFewLeft 0
    (done (values (z.granted - suc a) 0 0 0) [] (change (change_place e (regrant 0 (suc a))) 0 (suc a))))

module _ (o : Orders) (bound : Label) where
  abbrev see : Tree → Tree
  see = view o bound

  pub seen_low : (l : Label) (c : Option Cell) (places : ℕ → Tree) → below o l bound ≡ true → see (directory l c places) ≡ directory l c (λ i. see (places i))
  seen_low l c places h = ap (λ b. cond b (directory l c (λ i. see (places i))) (directory l (map_cell stub c) (λ i. empty))) h

  pub seen_high : (l : Label) (c : Option Cell) (places : ℕ → Tree) → below o l bound ≡ false → see (directory l c places) ≡ directory l (map_cell stub c) (λ i. empty)
  seen_high l c places h = ap (λ b. cond b (directory l c (λ i. see (places i))) (directory l (map_cell stub c) (λ i. empty))) h

  pub twice : (t : Tree) → see (see t) ≡ see t
  twice empty = refl
  twice (segment ps) = refl
  twice (directory l c places) =
      by_cases (λ t. see t ≡ t) (below o l bound) (directory l c (λ i. see (places i))) (directory l (map_cell stub c) (λ i. empty))
      (λ e. seen_low l c (λ i. see (places i)) e ∙ ap (directory l c) (fun_ext (λ i. twice (places i))))
      (λ e. seen_high l (map_cell stub c) (λ i. empty) e ∙ ap (λ z. directory l z (λ i. empty)) (stub_stub c))

  -- Entries

  pub cost_seen : (t : Tree) (l : Label) → below o l bound ≡ true → Grown o l t → cost (see t) ≡ cost t
  cost_seen empty l lo g = refl
  cost_seen (segment ps) l lo g = refl
  cost_seen (directory m None places) l lo g =
      let hm : below o m bound ≡ true = subst (λ z. below o z bound ≡ true) (sym g.1) lo in
      ap cost (seen_low m None places hm) ∙ ap (λ n. 1 + n) (sum_ext 16 (λ i. cost_seen (places i) m hm (g.2 i)))
  cost_seen (directory m (Some c) places) l lo g =
      by_cases (λ t. cost t ≡ 1 + c.granted) (below o m bound) (directory m (Some c) (λ i. see (places i))) (directory m (Some (stub c)) (λ i. empty)) (λ e. refl) (λ e. refl)

  -- what a call asks of a place is told by the view

  pub is_empty_seen : (t : Tree) → is_empty (see t) ≡ is_empty t
  is_empty_seen a1 = grind (arith, common_steps, nat_tests)

  label_in_seen : (l : Label) (t : Tree) → label_in l (see t) ≡ label_in l t
  label_in_seen a1 a2 = grind (arith, common_steps, nat_tests)

  sort_of_seen : (t : Tree) → sort_of (see t) ≡ sort_of t
  sort_of_seen a1 = grind (arith, common_steps, nat_tests)

  grant_of_stub : (c : Option Cell) → grant_of (map_cell stub c) ≡ grant_of c
  grant_of_stub a1 = grind (arith, common_steps, nat_tests)

  status_seen : (l : Label) (t : Tree) → status_values l (see t) ≡ status_values l t
  status_seen a1 a2 = grind (arith, common_steps, nat_tests)

  -- a label that is not below the bound is not one that is
  apart : (l m : Label) → below o l bound ≡ true → below o m bound ≡ false → (b : Bool) → same_label l m ≡ b → b ≡ false
  apart a1 a2 a3 a4 a5 a6 = grind (arith, common_steps, nat_tests)

  -- a cell above the bound is never asked what it has left
  move_seen : (l : Label) (c : Cell) (e : ℕ) (t : Tree) (a : ℤ) → below o l bound ≡ true → settled (judge_move l c e (see t) a) ≡ settled (judge_move l c e t a)
  move_seen a1 a2 a3 a4 a5 a6 = grind (arith, common_steps, nat_tests)

  module _ (me : Label) (known : ℕ → Known) where
    -- a call on a directory at or below the bound comes to the same in the view
    pub judge_seen : (l : Label) (c : Cell) (places : ℕ → Tree) → below o l bound ≡ true → ((i : ℕ) → Grown o l (places i)) → (r : Request)
        → settled (judge o me known (is_directory l c (λ i. see (places i))) r) ≡ settled (judge o me known (is_directory l c places) r)
    unfolding judge
    judge_seen l c places lo g (create_segment d e) =
        ap (λ b. settled (require (same_label me l) OtherLabel 1 (require b WrongPlace 2 (require (leb 1 c.left) TooFewLeft 0
        (done (values 1 0 0 0) [] (change (change_place e (create new_segment)) 1 0)))))) (is_empty_seen (places e))
    judge_seen l c places lo g (create_directory d e s i n) =
        let m : Label = record { security = s; integrity = i } in
        ap (λ b. settled (require (same_label me l) OtherLabel 1 (require b WrongPlace 2 (require (valid o m && below o l m) WrongLabel 3
        (require (same_label l m || not (eqb n 0)) WrongGrant 5 (require (leb (1 + n) c.left) TooFewLeft 0
        (done (values (1 + n) 0 0 0) [] (change (change_place e (create (new_directory m n))) (1 + n) 0)))))))) (is_empty_seen (places e))
    judge_seen l c places lo g (make_known d e n) =
        ap₂ (λ b m. settled (require (not b) WrongPlace 2 (require (below o m me) WrongLabel 2 (require (is_free (known n)) NumberTaken 3
        (done (values (sort_of (see (places e))) (flag (same_label m me)) 0 0) [] (set_number n e)))))) (is_empty_seen (places e)) (label_in_seen l (places e))
        ∙ ap (λ k. settled (require (not (is_empty (places e))) WrongPlace 2 (require (below o (label_in l (places e)) me) WrongLabel 2 (require (is_free (known n)) NumberTaken 3
        (done (values k (flag (same_label (label_in l (places e)) me)) 0 0) [] (set_number n e)))))) (sort_of_seen (places e))
    judge_seen l c places lo g (terminate n) = refl
    judge_seen l c places lo g (read s first n) = refl
    judge_seen l c places lo g (write s first ds) = refl
    judge_seen l c places lo g (truncate s n) = refl
    judge_seen l c places lo g (delete d e) =
        ap₂ (λ b k. settled (require (same_label me l) OtherLabel 1 (require (not b) WrongPlace 2
        (done (values k 0 0 0) [] (change (change_place e remove) 0 k))))) (is_empty_seen (places e)) (cost_seen (places e) l lo (g e))
    judge_seen l c places lo g (move_quota d e a) =
        ap (λ v. cond (same_label me l) v (Err (fault OtherLabel 1))) (move_seen l c e (places e) a lo)
    judge_seen l c places lo g (status d e) = ap (λ vs. settled (done vs [] no_change)) (status_seen l (places e))
    judge_seen l c places lo g (quota d) = refl

module _ (o : Orders) (laws : LawfulOrders o) (bound : Label) where
  abbrev look : Tree → Tree
  look = view o bound

  abbrev Low : Label → Type 0
  Low m = below o m bound ≡ true

  abbrev High : Label → Type 0
  High m = below o m bound ≡ false

  -- a segment stands in a directory at or below the bound
  abbrev pub Covered : Label → Tree → Type 0
  Covered l empty = Unit {0}
  Covered l (segment ps) = Low l
  Covered l (directory m c places) = Unit {0}

  covered : (l : Label) (t : Tree) → Low l → Covered l t
  covered a1 a2 a3 = grind (arith, common_steps, nat_tests)

  -- a call through a path at or below the bound comes to the same in the view
  pub path_seen : (me : Label) (known : ℕ → Known) (r : Request) (q : Path) (t : Tree) (l : Label) (c : Cell) → Grown o l t → Labelled Low l q t
      → settled (judge o me known (found_subject (find l c q (look t))) r) ≡ settled (judge o me known (found_subject (find l c q t)) r)
  path_seen me known r [] empty l c g h = refl
  path_seen me known r [] (segment ps) l c g h = refl
  path_seen me known r [] (directory m c' places) l c g h =
      ap (λ t. settled (judge o me known (found_subject (find l c [] t)) r)) (seen_low o bound m c' places h)
      ∙ judge_seen o bound me known m (cell_used c' c) places h g.2 r
  path_seen me known r (i ∷ q) empty l c g h = refl
  path_seen me known r (i ∷ q) (segment ps) l c g h = refl
  path_seen me known r (i ∷ q) (directory m c' places) l c g h =
      ap (λ t. settled (judge o me known (found_subject (find l c (i ∷ q) t)) r)) (seen_low o bound m c' places (above o laws bound q (places i) m (g.2 i) h))
      ∙ path_seen me known r q (places i) m (cell_used c' c) (g.2 i) h

  cell_on_path_seen : (q : Path) (t : Tree) (l : Label) → Grown o l t → Labelled Low l q t → cell_on_path q (look t) ≡ cell_on_path q t
  cell_on_path_seen [] empty l g h = refl
  cell_on_path_seen [] (segment ps) l g h = refl
  cell_on_path_seen [] (directory m c' places) l g h = ap (cell_on_path []) (seen_low o bound m c' places h)
  cell_on_path_seen (i ∷ q) empty l g h = refl
  cell_on_path_seen (i ∷ q) (segment ps) l g h = refl
  cell_on_path_seen (i ∷ q) (directory m c' places) l g h =
      ap (cell_on_path (i ∷ q)) (seen_low o bound m c' places (above o laws bound q (places i) m (g.2 i) h))
      ∙ ap (λ b. cond b true (has_cell c')) (cell_on_path_seen q (places i) m (g.2 i) h)

  -- Changes at or below the bound

  regranted_low : (u v : ℕ) (m : Label) (c : Option Cell) (places : ℕ → Tree) → Low m → look (with_grant u v (directory m c places)) ≡ look (with_grant u v (directory m c (λ i. look (places i))))
  regranted_low u v m None places e =
      seen_low o bound m None places e ∙ ap (directory m None) (fun_ext (λ i. sym (twice o bound (places i)))) ∙ sym (seen_low o bound m None (λ i. look (places i)) e)
  regranted_low u v m (Some c) places e =
      let c' : Option Cell = Some (record { granted = (c.granted + u) - v; left = (c.left + u) - v }) in
      seen_low o bound m c' places e ∙ ap (directory m c') (fun_ext (λ i. sym (twice o bound (places i)))) ∙ sym (seen_low o bound m c' (λ i. look (places i)) e)

  regranted_high : (u v : ℕ) (m : Label) (c : Option Cell) (places : ℕ → Tree) → High m → look (with_grant u v (directory m c places)) ≡ look (with_grant u v (directory m (map_cell stub c) (λ i. empty)))
  regranted_high a1 a2 a3 a4 a5 a6 = grind (arith, common_steps, nat_tests)

  turn_seen : (t : PlaceChange) (y : Tree) → look (place_after t y) ≡ look (place_after t (look y))
  turn_seen (create x) y = refl
  turn_seen remove y = refl
  turn_seen (regrant u v) empty = refl
  turn_seen (regrant u v) (segment ps) = refl
  turn_seen (regrant u v) (directory m c places) =
      by_cases (λ t. look (with_grant u v (directory m c places)) ≡ look (with_grant u v t)) (below o m bound) (directory m c (λ i. look (places i))) (directory m (map_cell stub c) (λ i. empty))
      (regranted_low u v m c places) (regranted_high u v m c places)

  -- the places with another object at one, seen
  assign_seen : (places : ℕ → Tree) (i : ℕ) (y y' : Tree) → look y ≡ look y' → (j : ℕ) → look (assign places i y j) ≡ look (assign (λ k. look (places k)) i y' j)
  assign_seen places i y y' e j = go (eqb j i)
    where
      go : (b : Bool) → look (cond b y (places j)) ≡ look (cond b y' (look (places j)))
      go true = e
      go false = sym (twice o bound (places j))

  places_seen : (x : Change) (places : ℕ → Tree) (i : ℕ) → look (places_after x places i) ≡ look (places_after x (λ k. look (places k)) i)
  places_seen (change_place e t) places i = assign_seen places e (place_after t (places e)) (place_after t (look (places e))) (turn_seen t (places e)) i
  places_seen (write_words first ds) places i = sym (twice o bound (places i))
  places_seen (keep_pages k) places i = sym (twice o bound (places i))

  same_places : (m : Label) (c : Option Cell) (places places' : ℕ → Tree) → ((i : ℕ) → look (places i) ≡ look (places' i)) → look (directory m c places) ≡ look (directory m c places')
  same_places m c places places' h = ap (λ k. cond (below o m bound) (directory m c k) (directory m (map_cell stub c) (λ i. empty))) (fun_ext h)

  module _ (x : Change) (a b : ℕ) where
    abbrev new : Path → Tree → Tree
    new = updated (charge a b) (changed x)

    pub revised_low : (q : Path) (t : Tree) (l : Label) → Grown o l t → Labelled Low l q t → look (new q t) ≡ look (new q (look t))
    revised_low [] empty l g h = refl
    revised_low [] (segment ps) l g h = refl
    revised_low [] (directory m c places) l g h =
        same_places m (map_cell (charge a b) c) (places_after x places) (places_after x (λ i. look (places i))) (places_seen x places)
        ∙ ap (λ t. look (new [] t)) (sym (seen_low o bound m c places h))
    revised_low (i ∷ q) empty l g h = refl
    revised_low (i ∷ q) (segment ps) l g h = refl
    revised_low (i ∷ q) (directory m c places) l g h =
        let hm = above o laws bound q (places i) m (g.2 i) h in
        same_places m _ (assign places i (new q (places i))) (assign (λ k. look (places k)) i (new q (look (places i)))) (assign_seen places i (new q (places i)) (new q (look (places i))) (revised_low q (places i) m (g.2 i) h))
        ∙ ap (λ d. look (directory m (cond d c (map_cell (charge a b) c)) (assign (λ k. look (places k)) i (new q (look (places i)))))) (sym (cell_on_path_seen q (places i) m (g.2 i) h))
        ∙ ap (λ t. look (new (i ∷ q) t)) (sym (seen_low o bound m c places hm))

    -- a change elsewhere is not seen
    pub revised_high : (q : Path) (t : Tree) (l : Label) → Covered l t → Grown o l t → Labelled High l q t → look (new q t) ≡ look t
    revised_high [] empty l lo g h = refl
    revised_high [] (segment ps) l lo g h = absurd (clash _ lo h)
    revised_high [] (directory m c places) l lo g h =
        seen_high o bound m (map_cell (charge a b) c) (places_after x places) h ∙ ap (λ z. directory m z (λ i. empty)) (stub_charge a b c) ∙ sym (seen_high o bound m c places h)
    revised_high (i ∷ q) empty l lo g h = refl
    revised_high (i ∷ q) (segment ps) l lo g h = refl
    revised_high (i ∷ q) (directory m c places) l lo g h = go (below o m bound) refl (λ e. revised_high q (places i) m (covered m (places i) e) (g.2 i) h)
      where
        pays : Low m → (d : Bool) → cell_on_path q (places i) ≡ d → d ≡ true
        pays e true f = refl
        pays e false f = absurd (clash _ e (no_cell_between o High q (places i) m (g.2 i) f h))

        other : look (new q (places i)) ≡ look (places i) → (j : ℕ) → look (assign places i (new q (places i)) j) ≡ look (places j)
        other e j = assign_cases (λ t. look t ≡ look (places j)) places i (new q (places i)) j (λ p. e ∙ ap (λ k. look (places k)) (sym p)) refl

        go : (d : Bool) → below o m bound ≡ d → (Low m → look (new q (places i)) ≡ look (places i)) → look (new (i ∷ q) (directory m c places)) ≡ look (directory m c places)
        go true e rest =
            ap (λ d. look (directory m (cond d c (map_cell (charge a b) c)) (assign places i (new q (places i))))) (pays e (cell_on_path q (places i)) refl)
            ∙ same_places m c (assign places i (new q (places i))) places (other (rest e))
        go false e rest =
            seen_high o bound m _ (assign places i (new q (places i))) e
            ∙ ap (λ z. directory m z (λ j. empty)) (by_cases (λ z. map_cell stub z ≡ map_cell stub c) (cell_on_path q (places i)) c (map_cell (charge a b) c) (λ f. refl) (λ f. stub_charge a b c))
            ∙ sym (seen_high o bound m c places e)

  -- What is shown

  item_seen : (t : Tree) → entry (look t) ≡ entry t
  item_seen a1 = grind (arith, common_steps, nat_tests)

  higher : (m n : Label) → below o m n ≡ true → High m → High n
  higher m n h k = go (below o n bound) refl
    where
      go : (b : Bool) → below o n bound ≡ b → b ≡ false
      go true e = absurd (clash _ (below_trans o laws m n bound h e) k)
      go false e = refl

  hidden_below : (q : Path) (t : Tree) (l : Label) → High l → Grown o l t → shows o bound (at q t) ≡ not_shown
  hidden_below [] empty l hi g = refl
  hidden_below [] (segment ps) l hi g = refl
  hidden_below [] (directory m c places) l hi g = ap (λ b. cond b (shown m c (λ i. entry (places i))) not_shown) (higher l m g.0 hi)
  hidden_below (i ∷ q) empty l hi g = refl
  hidden_below (i ∷ q) (segment ps) l hi g = refl
  hidden_below (i ∷ q) (directory m c places) l hi g = hidden_below q (places i) m (higher l m g.0 hi) (g.2 i)

  hidden_empty : (q : Path) → shows o bound (at q empty) ≡ not_shown
  hidden_empty [] = refl
  hidden_empty (i ∷ q) = refl

  pub shown_seen : (q : Path) (t : Tree) (l : Label) → Grown o l t → shows o bound (at q (look t)) ≡ shows o bound (at q t)
  shown_seen [] empty l g = refl
  shown_seen [] (segment ps) l g = refl
  shown_seen [] (directory m c places) l g = go (below o m bound) refl
    where
      go : (b : Bool) → below o m bound ≡ b → shows o bound (look (directory m c places)) ≡ shows o bound (directory m c places)
      go true e =
          ap (shows o bound) (seen_low o bound m c places e) ∙ ap (λ f. cond (below o m bound) (shown m c f) not_shown) (fun_ext (λ i. item_seen (places i)))
      go false e =
          ap (shows o bound) (seen_high o bound m c places e)
          ∙ ap (λ b. cond b (shown m (map_cell stub c) (λ i. entry empty)) not_shown) e ∙ sym (ap (λ b. cond b (shown m c (λ i. entry (places i))) not_shown) e)
  shown_seen (i ∷ q) empty l g = refl
  shown_seen (i ∷ q) (segment ps) l g = refl
  shown_seen (i ∷ q) (directory m c places) l g = go (below o m bound) refl (shown_seen q (places i) m (g.2 i))
    where
      go : (b : Bool) → below o m bound ≡ b → shows o bound (at q (look (places i))) ≡ shows o bound (at q (places i))
          → shows o bound (at (i ∷ q) (look (directory m c places))) ≡ shows o bound (at q (places i))
      go true e ih = ap (λ t. shows o bound (at (i ∷ q) t)) (seen_low o bound m c places e) ∙ ih
      go false e ih = ap (λ t. shows o bound (at (i ∷ q) t)) (seen_high o bound m c places e) ∙ hidden_empty q ∙ sym (hidden_below q (places i) m e (g.2 i))
