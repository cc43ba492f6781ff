-- Places, depth and the cell that pays, in a tree whose cells fit.
use Rattle.std.proofs.Common.{◌≡◌, ℕ, zero, suc, ◌+◌, ◌<◌, ◌≤◌, Bool, true, false, eqb, ltb, [], ◌∷◌, length, Some, None, Option, sym, refl, ap, ◌∙◌, true≢false, arith, ltb-false, ltb-true, eqb-true}
use borrow.Author.Tests.{eqb-false}
use Rattle.labels.specs.declared.label.Label.{Label}
use Rattle.rules.specs.Indexed.{sum}
use Rattle.rules.specs.Tree.{Cell, Tree, empty, segment, directory, Path, at, is_empty}
use Rattle.rules.specs.Cells.{cell_used, found, find}
use Rattle.rules.specs.Balance.{all_objects}
use Rattle.rules.proofs.Choices.{clash}
use Rattle.rules.proofs.Balance.{Fit, Rooted}

sum_has : (n : ℕ) (f : ℕ → ℕ) (i : ℕ) → i < n → f i ≤ sum n f
unfolding sum
sum_has zero f i h = let y : ⊥ = omega arith in absurd y
sum_has (suc n) f i h = go (eqb i n) refl (sum_has n f i)
  where
    go : (b : Bool) → eqb i n ≡ b → (i < n → f i ≤ sum n f) → f i ≤ f n + sum n f
    go true e ih = let s : f i ≡ f n = ap f (eqb-true i n e) in omega arith
    go false e ih = let ne : (i ≡ n → ⊥) = eqb-false i n e in let k = ih (omega arith) in omega arith

empty_at : (q : Path) → at q empty ≡ empty
empty_at [] = refl
empty_at (i ∷ q) = refl

-- what stands at a path lies in places below 16
low_place : (q : Path) (i : ℕ) (places : ℕ → Tree) → (16 ≤ i → places i ≡ empty) → is_empty (at q (places i)) ≡ false → i < 16
low_place q i places out h = go (ltb i 16) refl
  where
    go : (b : Bool) → ltb i 16 ≡ b → i < 16
    go true e = ltb-true i 16 e
    go false e = absurd (clash (is_empty (at q (places i))) (ap (λ t. is_empty (at q t)) (out (ltb-false i 16 e)) ∙ ap is_empty (empty_at q)) h)

pub depth_in : (q : Path) (t : Tree) → Fit t → is_empty (at q t) ≡ false → 1 + length q ≤ all_objects t
depth_in [] empty f h = absurd (true≢false h)
depth_in [] (segment ps) f h = omega arith
depth_in [] (directory l c places) f h = omega arith
depth_in (i ∷ q) empty f h = absurd (true≢false h)
depth_in (i ∷ q) (segment ps) f h = absurd (true≢false h)
depth_in (i ∷ q) (directory l c places) f h =
    let ih = depth_in q (places i) (f.1 i).0 h in
    let s = sum_has 16 (λ j. all_objects (places j)) i (low_place q i places (f.1 i).1 h) in
    omega arith

-- the first cell, and if there is none the second
abbrev pub or_else : Option Cell → Option Cell → Option Cell
or_else None c = c
or_else (Some c') c = Some c'

-- the cell of the nearest directory on the path that has one
abbrev pub nearest_cell : Path → Tree → Option Cell
nearest_cell [] empty = None
nearest_cell [] (segment ps) = None
nearest_cell [] (directory l c places) = c
nearest_cell (i ∷ q) empty = None
nearest_cell (i ∷ q) (segment ps) = None
nearest_cell (i ∷ q) (directory l c places) = or_else (nearest_cell q (places i)) c

-- the cell that an object uses is the nearest on its path, or the one above
used_is_nearest : (q : Path) (t : Tree) (l : Label) (c : Cell) (m : Label) (pay : Cell) (x : Tree) → find l c q t ≡ found m pay x → pay ≡ cell_used (nearest_cell q t) c
used_is_nearest [] empty l c m pay x e = let n : ◌≡◌ {A = ℕ} 0 1 = cc in let y : ⊥ = omega arith in absurd y
used_is_nearest [] (segment ps) l c m pay x e = cc
used_is_nearest [] (directory l' c' places) l c m pay x e = cc
used_is_nearest (i ∷ q) empty l c m pay x e = let n : ◌≡◌ {A = ℕ} 0 1 = cc in let y : ⊥ = omega arith in absurd y
used_is_nearest (i ∷ q) (segment ps) l c m pay x e = let n : ◌≡◌ {A = ℕ} 0 1 = cc in let y : ⊥ = omega arith in absurd y
used_is_nearest (i ∷ q) (directory l' c' places) l c m pay x e =
    used_is_nearest q (places i) l' (cell_used c' c) m pay x e ∙ go (nearest_cell q (places i))
  where
    go : (z : Option Cell) → cell_used z (cell_used c' c) ≡ cell_used (or_else z c') c
    go None = refl
    go (Some z) = refl

is_some : (z : Option Cell) (c : Cell) → (y : Cell) × (or_else z (Some c) ≡ Some y)
is_some None c = (c, refl)
is_some (Some z) c = (z, refl)

-- below a root with a cell there is always one
pub paying : (n : ℕ) (r : Label) (q : Path) (t : Tree) (l : Label) (c : Cell) (m : Label) (pay : Cell) (x : Tree) → Rooted n r t → find l c q t ≡ found m pay x → nearest_cell q t ≡ Some pay
paying n r q empty l c m pay x h e = absurd h
paying n r q (segment ps) l c m pay x h e = absurd h
paying n r q (directory l' None places) l c m pay x h e = absurd h
paying n r [] (directory l' (Some c') places) l c m pay x h e = ap Some (sym (used_is_nearest [] (directory l' (Some c') places) l c m pay x e))
paying n r (i ∷ q) (directory l' (Some c') places) l c m pay x h e =
    let y = is_some (nearest_cell q (places i)) c' in
    let u = used_is_nearest (i ∷ q) (directory l' (Some c') places) l c m pay x e in
    y.1 ∙ ap Some (sym (u ∙ ap (λ z. cell_used z c) y.1))
