-- What holds of each store of a run.
use Rattle.std.proofs.lemmas.Grind.{common_steps}
use Rattle.std.proofs.lemmas.Bool.Decides.{nat_tests}
use Rattle.std.proofs.Common.{◌≡◌, ℕ, ◌≤◌, true, false, List, [], ◌∷◌, length, Some, None, Option, refl, subst, arith}
use Rattle.labels.specs.declared.label.Label.{Label}
use Rattle.labels.specs.Labels.{Orders, below}
use Rattle.rules.specs.Tree.{Cell, Tree, empty, segment, directory, Path, at, is_empty}
use Rattle.rules.specs.Cells.{cell_used, found, find, no_cell}
use Rattle.rules.specs.Setup.{Setup, opened}
use Rattle.rules.specs.Responses.{RawCall}
use Rattle.rules.specs.Histories.{after_all}
use Rattle.rules.specs.Balance.{objects_below}
use Rattle.rules.specs.Invariants.{Invariants}
use Rattle.rules.proofs.Admissions.{Tested}
use Rattle.rules.proofs.Grown.{Grown, Labelled}
use Rattle.rules.proofs.Sound.{Seen, Knows, sound_run, sound_fresh}
use Rattle.rules.proofs.Balance.{Fit, Rooted, fit_at, root_counted, fit_reached, rooted_reached}
use Rattle.rules.proofs.Depth.{depth_in, paying}
use Rattle.rules.proofs.Payment.{nearest_there}
use Rattle.rules.proofs.Numbers.{numbered_reached}
use Rattle.rules.proofs.PageShapes.{sixteen_pages_reached, sixteen_words_reached}

-- an object that stands at a path is found there
labelled_found : (P : Label → Type 0) (q : Path) (t : Tree) (l : Label) (c : Cell) → Labelled P l q t → (m : Label) × (pay : Cell) × (x : Tree) × (find l c q t ≡ found m pay x) × P m
labelled_found P [] empty l c h = absurd h
labelled_found P [] (segment ps) l c h = (l, c, segment ps, refl, h)
labelled_found P [] (directory m c' places) l c h = (m, cell_used c' c, directory m c' places, refl, h)
labelled_found P (i ∷ q) empty l c h = absurd h
labelled_found P (i ∷ q) (segment ps) l c h = absurd h
labelled_found P (i ∷ q) (directory m c' places) l c h = labelled_found P q (places i) m (cell_used c' c) h

-- what holds of a directory's places, where labels grow
grown_places_at : (o : Orders) (q : Path) (t : Tree) (l m : Label) (c : Option Cell) (places : ℕ → Tree) → Grown o l t → at q t ≡ directory m c places → (i : ℕ) → Grown o m (places i)
grown_places_at o q t l m c places g e i = go q t l g e
  where
    not_empty : empty ≡ directory m c places → Grown o m (places i)
    not_empty e = let n : ◌≡◌ {A = ℕ} 0 1 = cc in let y : ⊥ = omega arith in absurd y

    whole : (l : Label) (x : Tree) → Grown o l x → x ≡ directory m c places → Grown o m (places i)
    whole l x g e = let h : Grown o l (directory m c places) = subst (Grown o l) e g in h.2 i

    go : (q : Path) (t : Tree) (l : Label) → Grown o l t → at q t ≡ directory m c places → Grown o m (places i)
    go [] t l g e = whole l t g e
    go (j ∷ q) empty l g e = not_empty e
    go (j ∷ q) (segment ps) l g e = not_empty e
    go (j ∷ q) (directory l' c' places') l g e = go q (places' j) l' (g.2 j) e

root_is : (n : ℕ) (r : Label) (t : Tree) → Rooted n r t → (c : Cell) × (places : ℕ → Tree) × (t ≡ directory r (Some c) places) × (c.granted ≡ n)
root_is a1 a2 a3 a4 = grind (arith, common_steps, nat_tests)

-- an object is no deeper than there are objects below the root
depth_below : (n : ℕ) (r : Label) (q : Path) (t : Tree) → Rooted n r t → Fit t → is_empty (at q t) ≡ false → length q ≤ objects_below t
depth_below n r q empty h f e = absurd h
depth_below n r q (segment ps) h f e = absurd h
depth_below n r q (directory l None places) h f e = absurd h
depth_below n r q (directory l (Some c) places) h f e = let d = depth_in q (directory l (Some c) places) f e in omega arith

pub invariants : (s : Setup) → Tested s → (cs : List RawCall) → Invariants s (after_all s (opened s) cs)
invariants s ts cs =
    let w = after_all s (opened s) cs in
    let sd = sound_run s cs (opened s) (sound_fresh s ts) in
    let rt = rooted_reached s cs in
    let ft = fit_reached s cs in
    record {
      root = root_is s.records s.root w.tree rt;
      number_zero = (numbered_reached s cs).zero_is_root;
      sixteen_numbers = (numbered_reached s cs).sixteen;
      known = λ p n me q pm k.
          labelled_found (λ m. below s.orders m me ≡ true) q w.tree s.root no_cell
          (subst (Seen s.orders s.root me w.tree) k (subst (λ m. Knows s.orders s.root w.tree m (w.numbers p)) pm (sd.knows p) n));
      labels = λ q l c places e i m c' places' e'.
          let g : Grown s.orders l (directory m c' places') = subst (Grown s.orders l) e' (grown_places_at s.orders q w.tree s.root l c places sd.grown e i) in
          g.0;
      no_cell_labels = λ q l c places e i m places' e'.
          let g : Grown s.orders l (directory m None places') = subst (Grown s.orders l) e' (grown_places_at s.orders q w.tree s.root l c places sd.grown e i) in
          g.1;
      sixteen_places = λ q l c places e i h.
          let f : Fit (directory l c places) = subst Fit e (fit_at q w.tree ft) in
          (f.1 i).1 h;
      sixteen_pages = sixteen_pages_reached s cs;
      sixteen_words = sixteen_words_reached s cs;
      few_objects = let b = root_counted s.records s.root w.tree ft rt in omega arith;
      depth = λ q e. depth_below s.records s.root q w.tree rt ft e;
      paying_cell = λ q l c t e. nearest_there q w.tree c (paying s.records s.root q w.tree s.root no_cell l c t rt e);
    }
