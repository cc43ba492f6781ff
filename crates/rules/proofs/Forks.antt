-- Changes at paths that part, with cells of their own, commute.
use Rattle.std.proofs.lemmas.Grind.{common_steps}
use Rattle.std.proofs.lemmas.Bool.Decides.{nat_tests}
use Rattle.std.proofs.Common.{arith, ◌≡◌, ℕ, Bool, true, false, cond, eqb, [], ◌∷◌, Option, sym, refl, ap, ◌∙◌, subst, ap₂, eqb-true}
use borrow.Author.Tests.{eqb-false}
use Rattle.labels.specs.declared.label.Label.{Label}
use Rattle.labels.specs.Labels.{Orders, LawfulOrders, below}
use Rattle.rules.specs.Indexed.{assign}
use Rattle.rules.specs.Tree.{Cell, Tree, empty, segment, directory, Path}
use Rattle.rules.specs.Cells.{has_cell}
use Rattle.rules.specs.Changes.{map_cell}
use Rattle.rules.proofs.Assign.{assign_twice, assign_commute, assign_cases, assign_same, assign_other}
use Rattle.rules.proofs.Updates.{cell_on_path, updated}
use Rattle.rules.proofs.Choices.{clash}
use Rattle.rules.proofs.Grown.{Grown, Labelled, labelled_map, no_cell_between, above}

-- the paths part, and each has a cell behind the fork
abbrev pub Fork : Path → Path → Tree → Type 0
Fork [] r t = ⊥
Fork (i ∷ q) [] t = ⊥
Fork (i ∷ q) (j ∷ r) empty = ⊥
Fork (i ∷ q) (j ∷ r) (segment ps) = ⊥
Fork (i ∷ q) (j ∷ r) (directory m c places) = (cell_on_path q (places i) ≡ true) × (cell_on_path r (places j) ≡ true) × (j ≡ i → Fork q r (places i))

pub fork_sym : (q r : Path) (t : Tree) → Fork q r t → Fork r q t
fork_sym [] r t h = absurd h
fork_sym (i ∷ q) [] t h = absurd h
fork_sym (i ∷ q) (j ∷ r) empty h = h
fork_sym (i ∷ q) (j ∷ r) (segment ps) h = h
fork_sym (i ∷ q) (j ∷ r) (directory m c places) h = (h.1, h.0, λ e. subst (λ n. Fork r q (places n)) e (fork_sym q r (places i) (h.2 (sym e))))

has_cell_kept : (g : Cell → Cell) (c : Option Cell) (d : Bool) → has_cell (cond d c (map_cell g c)) ≡ has_cell c
has_cell_kept a1 a2 a3 = grind (arith, common_steps, nat_tests)

module _ (g : Cell → Cell) (f : Tree → Tree) where
  cell_on_path_kept : (q r : Path) (t : Tree) → Fork q r t → cell_on_path r (updated g f q t) ≡ cell_on_path r t
  cell_on_path_kept [] r t h = absurd h
  cell_on_path_kept (i ∷ q) [] t h = absurd h
  cell_on_path_kept (i ∷ q) (j ∷ r) empty h = absurd h
  cell_on_path_kept (i ∷ q) (j ∷ r) (segment ps) h = absurd h
  cell_on_path_kept (i ∷ q) (j ∷ r) (directory m c places) h =
      ap₂ (λ b d. cond b true d)
      (assign_cases (λ t. cell_on_path r t ≡ cell_on_path r (places j)) places i (updated g f q (places i)) j (λ e. cell_on_path_kept q r (places i) (h.2 e) ∙ ap (λ n. cell_on_path r (places n)) (sym e)) refl)
      (has_cell_kept g c (cell_on_path q (places i)))

  -- behind the fork, the cell here stays
  pub revised_behind : (i : ℕ) (q : Path) (m : Label) (c : Option Cell) (places : ℕ → Tree) → cell_on_path q (places i) ≡ true
      → updated g f (i ∷ q) (directory m c places) ≡ directory m c (assign places i (updated g f q (places i)))
  revised_behind i q m c places e = ap (λ d. directory m (cond d c (map_cell g c)) (assign places i (updated g f q (places i)))) e

module _ (g g' : Cell → Cell) (f f' : Tree → Tree) where
  pub commute : (q r : Path) (t : Tree) → Fork q r t → updated g' f' r (updated g f q t) ≡ updated g f q (updated g' f' r t)
  commute [] r t h = absurd h
  commute (i ∷ q) [] t h = absurd h
  commute (i ∷ q) (j ∷ r) empty h = absurd h
  commute (i ∷ q) (j ∷ r) (segment ps) h = absurd h
  commute (i ∷ q) (j ∷ r) (directory m c places) h = go (eqb j i) refl (λ e. commute q r (places i) (h.2 e))
    where
      y : Tree
      y = updated g f q (places i)

      z : Tree
      z = updated g' f' r (places j)

      go : (d : Bool) → eqb j i ≡ d → (j ≡ i → updated g' f' r (updated g f q (places i)) ≡ updated g f q (updated g' f' r (places i)))
          → updated g' f' (j ∷ r) (updated g f (i ∷ q) (directory m c places)) ≡ updated g f (i ∷ q) (updated g' f' (j ∷ r) (directory m c places))
      go true e ih =
          let p : j ≡ i = eqb-true j i e in
          let fk : Fork q r (places i) = h.2 p in
          let first : assign places i y j ≡ y = ap (assign places i y) p ∙ assign_same places i y in
          let second : assign places j z i ≡ z = ap (assign places j z) (sym p) ∙ assign_same places j z in
          let fy : cell_on_path r (assign places i y j) ≡ true = ap (cell_on_path r) first ∙ cell_on_path_kept g f q r (places i) fk ∙ ap (λ n. cell_on_path r (places n)) (sym p) ∙ h.1 in
          let zi : z ≡ updated g' f' r (places i) = ap (λ n. updated g' f' r (places n)) p in
          let fz : cell_on_path q (assign places j z i) ≡ true = ap (cell_on_path q) (second ∙ zi) ∙ cell_on_path_kept g' f' r q (places i) (fork_sym q r (places i) fk) ∙ h.0 in
          ap (updated g' f' (j ∷ r)) (revised_behind g f i q m c places h.0)
          ∙ revised_behind g' f' j r m c (assign places i y) fy
          ∙ ap (λ t. directory m c (assign (assign places i y) j (updated g' f' r t))) first
          ∙ ap (λ n. directory m c (assign (assign places i y) n (updated g' f' r y))) p
          ∙ ap (directory m c) (assign_twice places i y (updated g' f' r y))
          ∙ ap (λ t. directory m c (assign places i t)) (ih p)
          ∙ ap (λ t. directory m c (assign places i (updated g f q t))) (sym (second ∙ zi))
          ∙ ap (directory m c) (sym (assign_twice places i z (updated g f q (assign places j z i))))
          ∙ ap (λ n. directory m c (assign (assign places n z) i (updated g f q (assign places j z i)))) (sym p)
          ∙ sym (revised_behind g f i q m c (assign places j z) fz)
          ∙ sym (ap (updated g f (i ∷ q)) (revised_behind g' f' j r m c places h.1))
      go false e ih =
          let ne : (j ≡ i → ⊥) = eqb-false j i e in
          let first : assign places i y j ≡ places j = assign_other places i j y ne in
          let second : assign places j z i ≡ places i = assign_other places j i z (λ p. ne (sym p)) in
          ap (updated g' f' (j ∷ r)) (revised_behind g f i q m c places h.0)
          ∙ revised_behind g' f' j r m c (assign places i y) (ap (cell_on_path r) first ∙ h.1)
          ∙ ap (λ t. directory m c (assign (assign places i y) j (updated g' f' r t))) first
          ∙ ap (directory m c) (assign_commute places i j y z ne)
          ∙ ap (λ t. directory m c (assign (assign places j z) i (updated g f q t))) (sym second)
          ∙ sym (revised_behind g f i q m c (assign places j z) (ap (cell_on_path q) second ∙ h.0))
          ∙ sym (ap (updated g f (i ∷ q)) (revised_behind g' f' j r m c places h.1))

-- Incomparable labels stand on paths that part

module _ (o : Orders) (laws : LawfulOrders o) (a b : Label) (aa : below o a a ≡ true) (bb : below o b b ≡ true) (ab : below o a b ≡ false) (ba : below o b a ≡ false) where
  differ : (l : Label) → a ≡ l → b ≡ l → ⊥
  differ l p q = clash _ (subst (λ z. below o a z ≡ true) (p ∙ sym q) aa) ab

  up : (c : Label) → below o c c ≡ true → (q : Path) (t : Tree) (l : Label) → Grown o l t → Labelled (λ m. c ≡ m) l q t → below o l c ≡ true
  up c cc' q t l g h = above o laws c q t l g (labelled_map (λ m. c ≡ m) (λ m. below o m c ≡ true) (λ m e. subst (λ z. below o z c ≡ true) e cc') q t l h)

  pub forks : (q r : Path) (t : Tree) (l : Label) → Grown o l t → Labelled (λ m. a ≡ m) l q t → Labelled (λ m. b ≡ m) l r t → Fork q r t
  forks [] r empty l g h k = h
  forks [] [] (segment ps) l g h k = differ l h k
  forks [] (j ∷ r) (segment ps) l g h k = k
  forks [] [] (directory m c places) l g h k = differ m h k
  forks [] (j ∷ r) (directory m c places) l g h k = clash _ (subst (λ z. below o z b ≡ true) (sym h) (up b bb r (places j) m (g.2 j) k)) ab
  forks (i ∷ q) [] empty l g h k = h
  forks (i ∷ q) [] (segment ps) l g h k = h
  forks (i ∷ q) [] (directory m c places) l g h k = clash _ (subst (λ z. below o z a ≡ true) (sym k) (up a aa q (places i) m (g.2 i) h)) ba
  forks (i ∷ q) (j ∷ r) empty l g h k = h
  forks (i ∷ q) (j ∷ r) (segment ps) l g h k = h
  forks (i ∷ q) (j ∷ r) (directory m c places) l g h k = (
    paid q (places i) a b ab h (g.2 i) (up b bb r (places j) m (g.2 j) k) (cell_on_path q (places i)) refl,
    paid r (places j) b a ba k (g.2 j) (up a aa q (places i) m (g.2 i) h) (cell_on_path r (places j)) refl,
    λ e. forks q r (places i) m (g.2 i) h (subst (λ n. Labelled (λ m'. b ≡ m') m r (places n)) e k),
  )
    where
      paid : (q : Path) (t : Tree) (u v : Label) → below o u v ≡ false → Labelled (λ m'. u ≡ m') m q t → Grown o m t → below o m v ≡ true → (d : Bool) → cell_on_path q t ≡ d → d ≡ true
      paid q t u v uv h g mv true e = refl
      paid q t u v uv h g mv false e = absurd (clash _ (subst (λ z. below o z v ≡ true) (sym (no_cell_between o (λ m'. u ≡ m') q t m g e h)) mv) uv)
