-- Records balance after each call.
use Rattle.std.proofs.lemmas.Grind.{common_steps}
use Rattle.std.proofs.lemmas.Bool.Decides.{nat_tests}
use Rattle.std.proofs.Common.{◌≡◌, ℕ, zero, suc, ◌+◌, ◌-◌, ◌<◌, ◌≤◌, Bool, true, false, cond, eqb, ltb, List, [], ◌∷◌, length, take, ℤ, pos, negsuc, Some, None, Ok, Err, Option, Result, sym, refl, ap, ◌∙◌, subst, true≢false, arith, ltb-false, ltb-true, eqb-true, leb-true}
use Rattle.labels.specs.declared.label.Label.{Label}
use Rattle.frames.specs.Faults.{FrameFault}
use Rattle.frames.specs.Requests.{Request, create_segment, create_directory, make_known, terminate, read, write, truncate, delete, move_quota, status, quota}
use Rattle.frames.specs.Decode.{decode}
use Rattle.labels.specs.Labels.{Orders}
use Rattle.frames.specs.Ranges.{InRange}
use Rattle.rules.specs.Indexed.{sum, assign}
use Rattle.rules.specs.Segments.{Page, absent, present, Pages, presence, present_pages, touched, pages_written, made_present, pages_truncated, made_absent}
use Rattle.rules.specs.Tree.{Cell, Tree, empty, segment, directory, Path, at, new_segment, new_directory}
use Rattle.rules.specs.Cells.{cost, cell_used, Found, nothing, found, find, no_cell, charge, has_cell}
use Rattle.rules.specs.KnownNumbers.{Known, free, means, gone}
use Rattle.rules.specs.Changes.{PlaceChange, create, remove, regrant, Change, change_place, with_grant, place_after, places_after, pages_after, changed, map_cell, Effect, no_change, set_number, free_number, change, Store, tree_after}
use Rattle.rules.specs.Calls.{is_free_number, is_gone, is_segment, is_directory, found_subject, subject, judge_move, judge, first_number, settled}
use Rattle.rules.specs.Setup.{Setup, opened, nth}
use Rattle.rules.specs.Responses.{RawCall, effect_of, path_of, verdict, left_by, after}
use Rattle.rules.specs.Histories.{after_all}
use Rattle.rules.specs.Balance.{records_left, all_pages, all_objects, in_and_below, Balances}
use Rattle.rules.proofs.Updates.{cell_on_path, updated, paid_at_once}
use Rattle.rules.proofs.Sums.{sum_ext, sum_add, sum_zero, sum_assign}
use Rattle.rules.proofs.Outcomes.{Holds, holds, free_holds, gone_holds}
use Rattle.rules.proofs.Places.{On, is_empty_true}
use Rattle.frames.proofs.Frames.{decodes_in_range}
use Rattle.rules.proofs.Grown.{above}

below_sixteen : (e : ℕ) → e ≤ 15 → e < 16
below_sixteen e h = omega arith

-- a cell and what its directory has given out
abbrev pub Fits : Option Cell → ℕ → Type 0
Fits None n = Unit {0}
Fits (Some c) n = c.left + n ≡ c.granted

-- each cell of the tree fits
abbrev pub Fit : Tree → Type 0
Fit empty = Unit {0}
Fit (segment ps) = Unit {0}
Fit (directory l c places) = Fits c (sum 16 (λ i. cost (places i))) × ((i : ℕ) → Fit (places i) × (16 ≤ i → places i ≡ empty))

-- a records taken and b given back are what a change of the object moves, and the cell pay has enough
abbrev pub Fair : Change → ℕ → ℕ → Cell → Tree → Type 0
Fair x a b pay empty = ⊥
Fair x a b pay (segment ps) = (a ≤ pay.left + b) × (present_pages (pages_after x ps) + b ≡ present_pages ps + a)
Fair x a b pay (directory l c places) =
    (a ≤ pay.left + b)
    × (sum 16 (λ i. cost (places_after x places i)) + b ≡ sum 16 (λ i. cost (places i)) + a)
    × ((i : ℕ) → Fit (places_after x places i) × (16 ≤ i → places_after x places i ≡ empty))

abbrev pub Shift : ℕ → ℕ → Bool → ℕ → ℕ → Type 0
Shift a b true m n = n ≡ m
Shift a b false m n = n + b ≡ m + a

cond-false : (b d : Bool) → cond b true d ≡ false → b ≡ false
cond-false a1 a2 a3 = grind (arith, common_steps, nat_tests)

cond-true : (b : Bool) → cond b true true ≡ true
cond-true a1 = grind (arith, common_steps, nat_tests)

module _ (x : Change) (a b : ℕ) where
  abbrev Paid : Found → Type 0
  Paid = On (λ l c t. Fair x a b c t)

  abbrev new : Path → Tree → Tree
  new = updated (charge a b) (changed x)

  -- where no cell stands on the path, the cell above pays
  enough : (q : Path) (t : Tree) (l : Label) (c : Cell) → Paid (find l c q t) → cell_on_path q t ≡ false → a ≤ c.left + b
  enough [] empty l c h e = absurd h
  enough [] (segment ps) l c h e = h.0
  enough [] (directory m None places) l c h e = h.0
  enough [] (directory m (Some c') places) l c h e = absurd (true≢false e)
  enough (i ∷ q) empty l c h e = absurd h
  enough (i ∷ q) (segment ps) l c h e = absurd h
  enough (i ∷ q) (directory m None places) l c h e = enough q (places i) m c h (cond-false (cell_on_path q (places i)) false e)
  enough (i ∷ q) (directory m (Some c') places) l c h e = absurd (true≢false (sym (cond-true (cell_on_path q (places i))) ∙ e))

  nothing_there : (q : Path) (l : Label) (c : Cell) → Paid (find l c q empty) → ⊥
  nothing_there [] l c h = h
  nothing_there (i ∷ q) l c h = h

  -- a path goes through places below 16
  within : (q : Path) (i : ℕ) (places : ℕ → Tree) (l : Label) (c : Cell) → (16 ≤ i → places i ≡ empty) → Paid (find l c q (places i)) → i < 16
  within q i places l c out h = go (ltb i 16) refl
    where
      go : (d : Bool) → ltb i 16 ≡ d → i < 16
      go true e = ltb-true i 16 e
      go false e = absurd (nothing_there q l c (subst (λ t. Paid (find l c q t)) (out (ltb-false i 16 e)) h))

  -- the places with another object at one
  places_fit : (places : ℕ → Tree) (i : ℕ) (y : Tree) → i < 16 → ((j : ℕ) → Fit (places j) × (16 ≤ j → places j ≡ empty)) → Fit y
      → (j : ℕ) → Fit (assign places i y j) × (16 ≤ j → assign places i y j ≡ empty)
  places_fit places i y lt f fy j = go (eqb j i) refl
    where
      go : (d : Bool) → eqb j i ≡ d → Fit (cond d y (places j)) × (16 ≤ j → cond d y (places j) ≡ empty)
      go true e = (fy, λ h. let p : j ≡ i = eqb-true j i e in absurd (omega arith))
      go false e = f j

  one_up : (places : ℕ → Tree) (i : ℕ) (y : Tree) (d : Bool) (m : Label) (c : Option Cell) (above : Cell)
      → i < 16 → Fit (directory m c places) → Fit y → Shift a b d (cost (places i)) (cost y) → (d ≡ false → a ≤ (cell_used c above).left + b)
      → Fit (directory m (cond d c (map_cell (charge a b) c)) (assign places i y))
      × Shift a b (cond d true (has_cell c)) (cost (directory m c places)) (cost (directory m (cond d c (map_cell (charge a b) c)) (assign places i y)))
  one_up places i y true m None above lt f fy sh en =
      let s = sum_assign cost places i y 16 lt in
      ((tt, places_fit places i y lt f.1 fy), omega arith)
  one_up places i y true m (Some c) above lt f fy sh en =
      let s = sum_assign cost places i y 16 lt in
      ((omega arith, places_fit places i y lt f.1 fy), refl)
  one_up places i y false m None above lt f fy sh en =
      let s = sum_assign cost places i y 16 lt in
      ((tt, places_fit places i y lt f.1 fy), omega arith)
  one_up places i y false m (Some c) above lt f fy sh en =
      let s = sum_assign cost places i y 16 lt in
      let g = en refl in
      ((omega arith, places_fit places i y lt f.1 fy), refl)

  balanced : (q : Path) (t : Tree) (l : Label) (c : Cell) → Fit t → Paid (find l c q t) → Fit (new q t) × Shift a b (cell_on_path q t) (cost t) (cost (new q t))
  balanced [] empty l c f h = absurd h
  balanced [] (segment ps) l c f h = (tt, omega arith)
  balanced [] (directory m None places) l c f h = ((tt, h.2), omega arith)
  balanced [] (directory m (Some c') places) l c f h = ((omega arith, h.2), refl)
  balanced (i ∷ q) empty l c f h = absurd h
  balanced (i ∷ q) (segment ps) l c f h = absurd h
  balanced (i ∷ q) (directory m c' places) l c f h =
      let ih = balanced q (places i) m (cell_used c' c) (f.1 i).0 h in
      one_up places i (new q (places i)) (cell_on_path q (places i)) m c' c (within q i places m (cell_used c' c) (f.1 i).1 h) f ih.0 ih.1
      (enough q (places i) m (cell_used c' c) h)

-- Pages

written_presence : (b : Bool) (p : Page) (ws : List ℕ) → presence (cond b (present ws) p) ≡ presence p + cond b (1 - presence p) 0
written_presence a1 a2 a3 = grind (arith, common_steps, nat_tests)

pub count_written : (ps : Pages) (first : ℕ) (ds : List ℕ) → present_pages (pages_written ps first ds) ≡ present_pages ps + made_present ps first ds
count_written ps first ds =
    sum_ext 16 (λ k. written_presence (touched first (length ds) k) (ps k) _)
    ∙ sum_add 16 (λ k. presence (ps k)) (λ k. cond (touched first (length ds) k) (1 - presence (ps k)) 0)

cut_presence : (b : Bool) (p : Page) → presence p ≡ presence (cond b p absent) + cond b 0 (presence p)
cut_presence a1 a2 = grind (arith, common_steps, nat_tests)

pub count_cut : (ps : Pages) (kp : ℕ) → present_pages ps ≡ present_pages (pages_truncated ps kp) + made_absent ps kp
count_cut ps kp =
    sum_ext 16 (λ k. cut_presence (ltb k kp) (ps k))
    ∙ sum_add 16 (λ k. presence (cond (ltb k kp) (ps k) absent)) (λ k. cond (ltb k kp) 0 (presence (ps k)))

-- What a call does is paid for

abbrev pub Allowed : Found → Effect → Type 0
Allowed f no_change = Unit {0}
Allowed f (set_number n e) = Unit {0}
Allowed f (free_number n) = Unit {0}
Allowed f (change x a b) = On (λ l c t. Fair x a b c t) f

pub fair_place : (l : Label) (c : Option Cell) (places : ℕ → Tree) (pay : Cell) (e : ℕ) (t : PlaceChange) (a b : ℕ)
    → e < 16 → Fit (directory l c places) → Fit (place_after t (places e)) → cost (place_after t (places e)) + b ≡ cost (places e) + a → a ≤ pay.left + b
    → Fair (change_place e t) a b pay (directory l c places)
fair_place l c places pay e t a b lt f ft eq en =
    let s = sum_assign cost places e (place_after t (places e)) 16 lt in
    (en, omega arith, places_fit (change_place e t) a b places e (place_after t (places e)) lt f.1 ft)

pub cost_segment : cost new_segment ≡ 1
cost_segment = ap (λ n. 1 + n) (sum_zero 16)

pub cost_directory : (m : Label) (g : ℕ) → cost (new_directory m g) ≡ 1 + g
cost_directory m zero = ap (λ n. 1 + n) (sum_zero 16)
cost_directory m (suc g) = refl

pub fit_directory : (m : Label) (g : ℕ) → Fit (new_directory m g)
fit_directory m zero = (tt, λ i. (tt, λ h. refl))
fit_directory m (suc g) = (ap (λ n. suc g + n) (sum_zero 16) ∙ omega arith, λ i. (tt, λ h. refl))

module _ (l : Label) (c : Option Cell) (places : ℕ → Tree) (pay : Cell) (f : Fit (directory l c places)) where
  abbrev Here : Found
  Here = found l pay (directory l c places)

  created_fair : (e : ℕ) (t : Tree) (a : ℕ) → e < 16 → places e ≡ empty → Fit t → cost t ≡ a → a ≤ pay.left → Fair (change_place e (create t)) a 0 pay (directory l c places)
  created_fair e t a lt p ft ct en =
      let z : cost (places e) ≡ 0 = ap cost p in
      fair_place l c places pay e (create t) a 0 lt f ft (omega arith) (omega arith)

  move_fair : (e : ℕ) (y : Tree) → places e ≡ y → Fit y → (a : ℤ) → e < 16 → Holds (Allowed Here) (judge_move l pay e y a)
  move_fair e empty p fy a lt = tt
  move_fair e (segment ps) p fy a lt = tt
  move_fair e (directory m None ks) p fy a lt = tt
  move_fair e (directory m (Some c') ks) p fy (pos a) lt =
      λ h.
      let en = leb-true a pay.left h in
      fair_place l c places pay e (regrant a 0) a 0 lt f
      (subst (λ z. Fit (with_grant a 0 z)) (sym p) (omega arith, fy.1))
      (subst (λ z. cost (with_grant a 0 z) + 0 ≡ cost z + a) (sym p) (omega arith))
      (omega arith)
  move_fair e (directory m (Some c') ks) p fy (negsuc a) lt =
      λ h₁. λ h₂. λ h₃.
      let k₂ = ltb-true (suc a) c'.granted h₂ in
      let k₃ = leb-true (suc a) c'.left h₃ in
      fair_place l c places pay e (regrant 0 (suc a)) 0 (suc a) lt f
      (subst (λ z. Fit (with_grant 0 (suc a) z)) (sym p) (omega arith, fy.1))
      (subst (λ z. cost (with_grant 0 (suc a) z) + suc a ≡ cost z + 0) (sym p) (omega arith))
      (omega arith)

  module _ (o : Orders) (me : Label) (known : ℕ → Known) where
    directory_fair : (x : Request) → InRange x → Holds (Allowed Here) (judge o me known (is_directory l pay places) x)
    unfolding judge
    directory_fair (create_segment d e) r =
        λ h₁. λ h₂. λ h₃.
        created_fair e new_segment 1 (below_sixteen e r.1) (is_empty_true (places e) h₂) tt cost_segment (leb-true 1 pay.left h₃)
    directory_fair (create_directory d e s i g) r =
        λ h₁. λ h₂. λ h₃. λ h₄. λ h₅.
        let m : Label = record { security = s; integrity = i } in
        created_fair e (new_directory m g) (1 + g) (below_sixteen e r.1) (is_empty_true (places e) h₂) (fit_directory m g) (cost_directory m g) (leb-true (1 + g) pay.left h₅)
    directory_fair (make_known d e n) r = λ h₁. λ h₂. λ h₃. tt
    directory_fair (terminate n) r = λ h₁. tt
    directory_fair (read n first m) r = tt
    directory_fair (write n first ds) r = tt
    directory_fair (truncate n k) r = tt
    directory_fair (delete d e) r =
        λ h₁. λ h₂. fair_place l c places pay e remove 0 (cost (places e)) (below_sixteen e r.1) f tt (omega arith) (omega arith)
    directory_fair (move_quota d e a) r = λ h₁. move_fair e (places e) refl (f.1 e).0 a (below_sixteen e r.1)
    directory_fair (status d e) r = tt
    directory_fair (quota d) r = tt

module _ (l : Label) (ps : Pages) (pay : Cell) (o : Orders) (me : Label) (known : ℕ → Known) where
  abbrev There : Found
  There = found l pay (segment ps)

  segment_fair : (x : Request) → Holds (Allowed There) ((judge o me known (is_segment l pay ps) x))
  unfolding judge
  segment_fair (create_segment d e) = tt
  segment_fair (create_directory d e s i g) = tt
  segment_fair (make_known d e n) = tt
  segment_fair (terminate n) = λ h₁. tt
  segment_fair (read n first m) = tt
  segment_fair (write n first ds) =
      λ h₁. λ h₂.
      let en = leb-true (made_present ps first ds) pay.left h₂ in
      let eq = count_written ps first ds in
      (omega arith, omega arith)
  segment_fair (truncate n k) = λ h₁. let eq = count_cut ps k in (omega arith, omega arith)
  segment_fair (delete d e) = tt
  segment_fair (move_quota d e a) = tt
  segment_fair (status d e) = tt
  segment_fair (quota d) = tt

-- A step, and a run

fit_found : (q : Path) (t : Tree) (l : Label) (c : Cell) (o : Orders) (me : Label) (known : ℕ → Known) (x : Request) → InRange x → Fit t
    → Holds (Allowed (find l c q t)) (judge o me known (found_subject (find l c q t)) x)
fit_found [] empty l c o me known x r f = gone_holds (Allowed nothing) (λ n. tt) o me known x
fit_found [] (segment ps) l c o me known x r f = segment_fair l ps c o me known x
fit_found [] (directory m c' places) l c o me known x r f = directory_fair m c' places (cell_used c' c) f o me known x r
fit_found (i ∷ q) empty l c o me known x r f = gone_holds (Allowed nothing) (λ n. tt) o me known x
fit_found (i ∷ q) (segment ps) l c o me known x r f = gone_holds (Allowed nothing) (λ n. tt) o me known x
fit_found (i ∷ q) (directory m c' places) l c o me known x r f = fit_found q (places i) m (cell_used c' c) o me known x r (f.1 i).0

pub fit_tree : (q : Path) (t : Tree) (l : Label) (c : Cell) (x : Effect) → Fit t → Allowed (find l c q t) x → Fit (tree_after q x t)
fit_tree q t l c no_change f h = f
fit_tree q t l c (set_number n e) f h = f
fit_tree q t l c (free_number n) f h = f
fit_tree q t l c (change x a b) f h = subst Fit (paid_at_once (charge a b) (changed x) q t) (balanced x a b q t l c f h).0

fit_step : (s : Setup) (w : Store) (me : Label) (p : ℕ) (x : Request) (k : Known) → InRange x → Fit w.tree
    → Fit (tree_after (path_of k) (effect_of (settled (judge s.orders me (w.numbers p) (subject s.root k w.tree) x))) w.tree)
fit_step s w me p x free r f =
    let g = find s.root no_cell [] w.tree in
    fit_tree [] w.tree s.root no_cell _ f
    (holds (Allowed g) tt (judge s.orders me (w.numbers p) is_free_number x) (free_holds (Allowed g) (λ n. tt) s.orders me (w.numbers p) x))
fit_step s w me p x gone r f =
    let g = find s.root no_cell [] w.tree in
    fit_tree [] w.tree s.root no_cell _ f
    (holds (Allowed g) tt (judge s.orders me (w.numbers p) is_gone x) (gone_holds (Allowed g) (λ n. tt) s.orders me (w.numbers p) x))
fit_step s w me p x (means q) r f =
    let g = find s.root no_cell q w.tree in
    fit_tree q w.tree s.root no_cell _ f
    (holds (Allowed g) tt (judge s.orders me (w.numbers p) (found_subject g) x) (fit_found q w.tree s.root no_cell s.orders me (w.numbers p) x r f))

fit_left : (s : Setup) (w : Store) (m : Option Label) (p : ℕ) (d : Result Request FrameFault) → ((r : Request) → d ≡ Ok r → InRange r) → Fit w.tree → Fit (left_by s w m p d).tree
fit_left s w None p d r f = f
fit_left s w (Some me) p (Err e) r f = f
fit_left s w (Some me) p (Ok x) r f = fit_step s w me p x (w.numbers p (first_number x)) (r x refl) f

fit_after : (s : Setup) (w : Store) (c : RawCall) → Fit w.tree → Fit (after s w c).tree
fit_after s w c f = fit_left s w (nth s.admitted c.process) c.process (decode c.frame c.room) (λ r e. (decodes_in_range c.frame c.room r e).0) f

fit_run : (s : Setup) (w : Store) (cs : List RawCall) → Fit w.tree → Fit (after_all s w cs).tree
fit_run s w [] f = f
fit_run s w (c ∷ cs) f = fit_run s (after s w c) cs (fit_after s w c f)

-- The root keeps its grant

abbrev pub Rooted : ℕ → Label → Tree → Type 0
Rooted n r empty = ⊥
Rooted n r (segment ps) = ⊥
Rooted n r (directory l None places) = ⊥
Rooted n r (directory l (Some c) places) = (c.granted ≡ n) × (l ≡ r)

cell_kept : (n : ℕ) (r : Label) (l : Label) (c : Cell) (a b : ℕ) (d : Bool) (places places' : ℕ → Tree) → Rooted n r (directory l (Some c) places)
    → Rooted n r (directory l (cond d (Some c) (Some (charge a b c))) places')
cell_kept n r l c a b true places places' h = h
cell_kept n r l c a b false places places' h = h

rooted_revised : (n : ℕ) (r : Label) (x : Change) (a b : ℕ) (q : Path) (t : Tree) → Rooted n r t → Rooted n r (updated (charge a b) (changed x) q t)
rooted_revised n r x a b q empty h = absurd h
rooted_revised n r x a b q (segment ps) h = absurd h
rooted_revised n r x a b q (directory l None places) h = absurd h
rooted_revised n r x a b [] (directory l (Some c) places) h = h
rooted_revised n r x a b (i ∷ q) (directory l (Some c) places) h = cell_kept n r l c a b (cell_on_path q (places i)) places (assign places i (updated (charge a b) (changed x) q (places i))) h

pub rooted_tree : (n : ℕ) (r : Label) (q : Path) (x : Effect) (t : Tree) → Rooted n r t → Rooted n r (tree_after q x t)
rooted_tree n r q no_change t h = h
rooted_tree n r q (set_number k e) t h = h
rooted_tree n r q (free_number k) t h = h
rooted_tree n r q (change x a b) t h = subst (Rooted n r) (paid_at_once (charge a b) (changed x) q t) (rooted_revised n r x a b q t h)

rooted_left : (n : ℕ) (r : Label) (s : Setup) (w : Store) (m : Option Label) (p : ℕ) (d : Result Request FrameFault) → Rooted n r w.tree → Rooted n r (left_by s w m p d).tree
rooted_left n r s w None p d h = h
rooted_left n r s w (Some me) p (Err e) h = h
rooted_left n r s w (Some me) p (Ok x) h = rooted_tree n r _ (effect_of (verdict s w me p x)) w.tree h

pub rooted_run : (n : ℕ) (r : Label) (s : Setup) (w : Store) (cs : List RawCall) → Rooted n r w.tree → Rooted n r (after_all s w cs).tree
rooted_run n r s w [] h = h
rooted_run n r s w (c ∷ cs) h =
    rooted_run n r s (after s w c) cs (rooted_left n r s w (nth s.admitted c.process) c.process (decode c.frame c.room) h)

-- The count

pub census : (t : Tree) → Fit t → records_left t + all_pages t + all_objects t ≡ cost t
census empty f = refl
census (segment ps) f = omega arith
census (directory l None places) f =
    let e : sum 16 (λ i. records_left (places i) + all_pages (places i) + all_objects (places i)) ≡ sum 16 (λ i. cost (places i)) = sum_ext 16 (λ i. census (places i) (f.1 i).0) in
    let s₁ = sum_add 16 (λ i. records_left (places i) + all_pages (places i)) (λ i. all_objects (places i)) in
    let s₂ = sum_add 16 (λ i. records_left (places i)) (λ i. all_pages (places i)) in
    omega arith
census (directory l (Some c) places) f =
    let e : sum 16 (λ i. records_left (places i) + all_pages (places i) + all_objects (places i)) ≡ sum 16 (λ i. cost (places i)) = sum_ext 16 (λ i. census (places i) (f.1 i).0) in
    let s₁ = sum_add 16 (λ i. records_left (places i) + all_pages (places i)) (λ i. all_objects (places i)) in
    let s₂ = sum_add 16 (λ i. records_left (places i)) (λ i. all_pages (places i)) in
    let g = f.0 in
    omega arith

counted : (l : Label) (c : Cell) (places : ℕ → Tree) → Fit (directory l (Some c) places) → in_and_below (directory l (Some c) places) ≡ c.granted
counted l c places f = let h = census (directory l (Some c) places) f in omega arith

pub fit_at : (q : Path) (t : Tree) → Fit t → Fit (at q t)
fit_at [] t f = f
fit_at (i ∷ q) empty f = tt
fit_at (i ∷ q) (segment ps) f = tt
fit_at (i ∷ q) (directory l c places) f = fit_at q (places i) (f.1 i).0

pub root_counted : (n : ℕ) (r : Label) (t : Tree) → Fit t → Rooted n r t → in_and_below t ≡ n
root_counted n r empty f h = absurd h
root_counted n r (segment ps) f h = absurd h
root_counted n r (directory l None places) f h = absurd h
root_counted n r (directory l (Some c) places) f h = counted l c places f ∙ h.0

pub fit_formatted : (s : Setup) → Fit (opened s).tree
fit_formatted s = (ap (λ n. s.records + n) (sum_zero 16) ∙ omega arith, λ i. (tt, λ h. refl))

pub fit_reached : (s : Setup) (cs : List RawCall) → Fit (after_all s (opened s) cs).tree
fit_reached s cs = fit_run s (opened s) cs (fit_formatted s)

pub rooted_reached : (s : Setup) (cs : List RawCall) → Rooted s.records s.root (after_all s (opened s) cs).tree
rooted_reached s cs = rooted_run s.records s.root s (opened s) cs (refl, refl)

pub balances : (s : Setup) → Balances s s.records
balances s cs k =
    let t = (after_all s (opened s) (take k cs)).tree in
    let f = fit_reached s (take k cs) in
    record {
      whole = root_counted s.records s.root t f (rooted_reached s (take k cs));
      each_grant = λ q l c places e.
          let g : Fit (directory l (Some c) places) = subst Fit e (fit_at q t f) in
          ap in_and_below e ∙ counted l c places g;
      not_more = λ q l c places e.
          let g : Fit (directory l (Some c) places) = subst Fit e (fit_at q t f) in
          let fits = g.0 in
          omega arith;
    }
