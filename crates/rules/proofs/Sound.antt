-- What each store of a run keeps: labels grow, and each process knows only what it may see.
use Rattle.std.proofs.Common.{◌≡◌, ℕ, zero, suc, true, eqb, List, [], ◌∷◌, ◌++◌, Some, None, Ok, Err, Option, Result, sym, refl, subst}
use Rattle.labels.specs.declared.label.Label.{Label}
use Rattle.frames.specs.Faults.{FrameFault}
use Rattle.frames.specs.Requests.{Request}
use Rattle.frames.specs.Decode.{decode}
use Rattle.labels.specs.Labels.{Orders, below}
use Rattle.rules.specs.Indexed.{assign}
use Rattle.rules.specs.Tree.{Cell, Tree, empty, segment, directory, Path}
use Rattle.rules.specs.Cells.{Found, nothing, found, find, no_cell, charge}
use Rattle.rules.specs.KnownNumbers.{Known, free, means, gone, new_numbers, through}
use Rattle.rules.specs.Changes.{create, remove, regrant, Change, change_place, write_words, keep_pages, changed, after_change, Effect, no_change, set_number, free_number, change, Store, tree_after, numbers_after}
use Rattle.rules.specs.Calls.{first_number}
use Rattle.rules.specs.Setup.{Setup, opened, nth}
use Rattle.rules.specs.Responses.{RawCall, effect_of, path_of, verdict, left_by, after}
use Rattle.rules.specs.Histories.{after_all}
use Rattle.rules.proofs.Assign.{assign_cases}
use Rattle.rules.proofs.Updates.{updated, paid_at_once}
use Rattle.rules.proofs.Choices.{by_cases}
use Rattle.rules.proofs.Places.{On}
use Rattle.rules.proofs.Admissions.{AllAbove, Tested}
use Rattle.rules.proofs.Grown.{below_refl, Grown, Labelled, Proper, Spared, labelled_below, grown_revised, labelled_revised, Legit, legit}

abbrev pub Seen : Orders → Label → Label → Tree → Known → Type 0
Seen o r me t free = Unit {0}
Seen o r me t gone = Unit {0}
Seen o r me t (means q) = Labelled (λ m. below o m me ≡ true) r q t

abbrev pub Knows : Orders → Label → Tree → Option Label → (ℕ → Known) → Type 0
Knows o r t None row = Unit {0}
Knows o r t (Some me) row = (n : ℕ) → Seen o r me t (row n)

abbrev pub IsDirectory : Tree → Type 0
IsDirectory empty = ⊥
IsDirectory (segment ps) = ⊥
IsDirectory (directory m c places) = Unit {0}

directory_revised : (x : Change) (a b : ℕ) (q : Path) (t : Tree) → IsDirectory t → IsDirectory (updated (charge a b) (changed x) q t)
directory_revised x a b q empty h = absurd h
directory_revised x a b q (segment ps) h = absurd h
directory_revised x a b [] (directory m c places) h = tt
directory_revised x a b (i ∷ q) (directory m c places) h = tt

pub record Sound (s : Setup) (w : Store) : Type 0 where
  pub top : IsDirectory w.tree
  pub grown : Grown s.orders s.root w.tree
  pub knows : (p : ℕ) → Knows s.orders s.root w.tree (nth s.admitted p) (w.numbers p)

-- the part of Legit that the tree needs
on_proper : (o : Orders) (me : Label) (x : Change) (q : Path) (t : Tree) (l : Label) (c : Cell)
    → On (λ m pay y. (me ≡ m) × Proper o x m y) (find l c q t) → On (λ m pay y. Proper o x m y) (find l c q t)
on_proper o me x q t l c h = go (find l c q t) h
  where
    go : (f : Found) → On (λ m pay y. (me ≡ m) × Proper o x m y) f → On (λ m pay y. Proper o x m y) f
    go nothing h = h
    go (found m pay y) h = h.1

module _ (o : Orders) (r : Label) (x : Change) (a b : ℕ) (q : Path) (t : Tree) (pr : On (λ m pay y. Proper o x m y) (find r no_cell q t)) where
  abbrev new : Tree
  new = updated (charge a b) (changed x) q t

  seen_after : (me : Label) (k : Known) (z : Change) → z ≡ x → Seen o r me t k → Seen o r me new (after_change q z k)
  seen_after me free (change_place e (create y)) zx h = tt
  seen_after me free (change_place e remove) zx h = tt
  seen_after me free (change_place e (regrant u v)) zx h = tt
  seen_after me free (write_words first ds) zx h = tt
  seen_after me free (keep_pages j) zx h = tt
  seen_after me gone (change_place e (create y)) zx h = tt
  seen_after me gone (change_place e remove) zx h = tt
  seen_after me gone (change_place e (regrant u v)) zx h = tt
  seen_after me gone (write_words first ds) zx h = tt
  seen_after me gone (keep_pages j) zx h = tt
  seen_after me (means p) (change_place e (create y)) zx h = labelled_revised o x a b _ q p t r no_cell h pr (subst (λ z. Spared z q p) zx tt)
  seen_after me (means p) (change_place e remove) zx h =
      by_cases (Seen o r me new) (through (q ++ (e ∷ [])) p) gone (means p) (λ i. tt)
      (λ i. labelled_revised o x a b _ q p t r no_cell h pr (subst (λ z. Spared z q p) zx i))
  seen_after me (means p) (change_place e (regrant u v)) zx h = labelled_revised o x a b _ q p t r no_cell h pr (subst (λ z. Spared z q p) zx tt)
  seen_after me (means p) (write_words first ds) zx h = labelled_revised o x a b _ q p t r no_cell h pr (subst (λ z. Spared z q p) zx tt)
  seen_after me (means p) (keep_pages j) zx h = labelled_revised o x a b _ q p t r no_cell h pr (subst (λ z. Spared z q p) zx tt)

  knows_after : (m : Option Label) (row : ℕ → Known) → Knows o r t m row → Knows o r new m (λ n. after_change q x (row n))
  knows_after None row h = tt
  knows_after (Some me) row h = λ n. seen_after me (row n) x refl (h n)

module _ (s : Setup) (me : Label) (p : ℕ) (pm : nth s.admitted p ≡ Some me) (q : Path) where
  row_assign : (t : Tree) (known : ℕ → ℕ → Known) (n : ℕ) (k : Known)
      → ((p' : ℕ) → Knows s.orders s.root t (nth s.admitted p') (known p')) → Seen s.orders s.root me t k
      → (p' : ℕ) → Knows s.orders s.root t (nth s.admitted p') (assign known p (assign (known p) n k) p')
  row_assign t known n k h hk p' =
      assign_cases (λ row. Knows s.orders s.root t (nth s.admitted p') row) known p (assign (known p) n k) p'
      (λ e. subst (λ z. Knows s.orders s.root t (nth s.admitted z) (assign (known p) n k)) (sym e)
      (subst (λ m. Knows s.orders s.root t m (assign (known p) n k)) (sym pm)
      (λ j. assign_cases (Seen s.orders s.root me t) (known p) n k j (λ i. hk) (subst (λ m. Knows s.orders s.root t m (known p)) pm (h p) j))))
      (h p')

  sound_effect : (w : Store) (x : Effect) → Sound s w → Legit s.orders me (find s.root no_cell q w.tree) x
      → Sound s (record { tree = tree_after q x w.tree; numbers = numbers_after p q x w.numbers })
  sound_effect w no_change h lg = h
  sound_effect w (set_number n e) h lg = record {
    top = h.top;
    grown = h.grown;
    knows = row_assign w.tree w.numbers n (means (q ++ (e ∷ []))) h.knows (labelled_below _ e q w.tree s.root no_cell lg);
  }
  sound_effect w (free_number n) h lg = record { top = h.top; grown = h.grown; knows = row_assign w.tree w.numbers n free h.knows tt }
  sound_effect w (change x a b) h lg =
      let pr = on_proper s.orders me x q w.tree s.root no_cell lg in
      let kept : (t : Tree) → Type 0 = λ t. Sound s (record { tree = t; numbers = numbers_after p q (change x a b) w.numbers }) in
      subst kept (paid_at_once (charge a b) (changed x) q w.tree)
      (record {
        top = directory_revised x a b q w.tree h.top;
        grown = grown_revised s.orders x a b q w.tree s.root no_cell h.grown pr;
        knows = λ p'. knows_after s.orders s.root x a b q w.tree pr (nth s.admitted p') (w.numbers p') (h.knows p');
      })

-- a call keeps all this: one of a process that is not admitted, one that is not decoded, and one that is judged
pub sound_left : (s : Setup) (w : Store) (p : ℕ) (m : Option Label) → nth s.admitted p ≡ m → (d : Result Request FrameFault) → Sound s w → Sound s (left_by s w m p d)
sound_left s w p None e d h = h
sound_left s w p (Some me) e (Err f) h = h
sound_left s w p (Some me) e (Ok r) h =
    sound_effect s me p e (path_of (w.numbers p (first_number r))) w (effect_of (verdict s w me p r)) h
    (legit s.orders me (w.numbers p) r (w.numbers p (first_number r)) w.tree s.root)

pub sound_after : (s : Setup) (w : Store) (c : RawCall) → Sound s w → Sound s (after s w c)
sound_after s w c h = sound_left s w c.process (nth s.admitted c.process) refl (decode c.frame c.room) h

pub sound_run : (s : Setup) (cs : List RawCall) (w : Store) → Sound s w → Sound s (after_all s w cs)
sound_run s [] w h = h
sound_run s (c ∷ cs) w h = sound_run s cs (after s w c) (sound_after s w c h)

abbrev pub Above : Orders → Label → Option Label → Type 0
Above o r None = Unit {0}
Above o r (Some m) = below o r m ≡ true

pub nth_above : (o : Orders) (r : Label) (ms : List Label) → AllAbove o r ms → (p : ℕ) → Above o r (nth ms p)
nth_above o r [] h p = tt
nth_above o r (m ∷ ms) h zero = h.0
nth_above o r (m ∷ ms) h (suc p) = nth_above o r ms h.1 p

pub sound_fresh : (s : Setup) → Tested s → Sound s (opened s)
sound_fresh s ts = record {
  top = tt;
  grown = (below_refl s.orders ts.lawful s.root ts.root, tt, λ i. tt);
  knows = λ p. go (nth s.admitted p) (nth_above s.orders s.root s.admitted ts.processes p);
}
  where
    go : (m : Option Label) → Above s.orders s.root m → Knows s.orders s.root (opened s).tree m new_numbers
    go None h = tt
    go (Some me) h = λ n. by_cases (Seen s.orders s.root me (opened s).tree) (eqb n 0) (means []) free (λ e. h) (λ e. tt)
