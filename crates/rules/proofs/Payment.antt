-- A paid change in two steps, and the directory that pays.
use Rattle.std.proofs.Common.{◌≡◌, ℕ, [], ◌∷◌, Some, None, Option, refl, ap, ◌∙◌, ap₂, arith}
use Rattle.labels.specs.declared.label.Label.{Label}
use Rattle.rules.specs.Tree.{Cell, Tree, empty, segment, directory, Path, at}
use Rattle.rules.specs.Cells.{below_or_here, paying_path}
use Rattle.rules.proofs.Depth.{or_else, nearest_cell}

-- the path of the nearest cell leads to the directory that has it
pub nearest_there : (q : Path) (t : Tree) (c : Cell) → nearest_cell q t ≡ Some c
    → (r : Path) × (m : Label) × (places : ℕ → Tree) × (paying_path q t ≡ Some r) × (at r t ≡ directory m (Some c) places)
nearest_there [] empty c e = let n : ◌≡◌ {A = ℕ} 0 1 = cc in let y : ⊥ = omega arith in absurd y
nearest_there [] (segment ps) c e = let n : ◌≡◌ {A = ℕ} 0 1 = cc in let y : ⊥ = omega arith in absurd y
nearest_there [] (directory l None places) c e = let n : ◌≡◌ {A = ℕ} 0 1 = cc in let y : ⊥ = omega arith in absurd y
nearest_there [] (directory l (Some c') places) c e = ([], l, places, refl, ap (λ z. directory l z places) e)
nearest_there (i ∷ q) empty c e = let n : ◌≡◌ {A = ℕ} 0 1 = cc in let y : ⊥ = omega arith in absurd y
nearest_there (i ∷ q) (segment ps) c e = let n : ◌≡◌ {A = ℕ} 0 1 = cc in let y : ⊥ = omega arith in absurd y
nearest_there (i ∷ q) (directory l c' places) c e = go (nearest_cell q (places i)) refl e (nearest_there q (places i) c)
  where
    none_there : (q : Path) (t : Tree) → nearest_cell q t ≡ None → paying_path q t ≡ None
    none_there [] empty e = refl
    none_there [] (segment ps) e = refl
    none_there [] (directory l None places) e = refl
    none_there [] (directory l (Some c) places) e = let n : ◌≡◌ {A = ℕ} 0 1 = cc in let y : ⊥ = omega arith in absurd y
    none_there (i ∷ q) empty e = refl
    none_there (i ∷ q) (segment ps) e = refl
    none_there (i ∷ q) (directory l c places) e = inner (nearest_cell q (places i)) refl c e (none_there q (places i))
      where
        inner : (z : Option Cell) → nearest_cell q (places i) ≡ z → (c : Option Cell) → or_else z c ≡ None → (nearest_cell q (places i) ≡ None → paying_path q (places i) ≡ None)
            → below_or_here i (paying_path q (places i)) c ≡ None
        inner None k None e f = ap (λ r. below_or_here i r None) (f k)
        inner None k (Some c) e f = let n : ◌≡◌ {A = ℕ} 0 1 = cc in let y : ⊥ = omega arith in absurd y
        inner (Some z) k c e f = let n : ◌≡◌ {A = ℕ} 0 1 = cc in let y : ⊥ = omega arith in absurd y

    here : (c' : Option Cell) → nearest_cell q (places i) ≡ None → c' ≡ Some c
        → (r : Path) × (m : Label) × (places' : ℕ → Tree) × (below_or_here i (paying_path q (places i)) c' ≡ Some r) × (at r (directory l c' places) ≡ directory m (Some c) places')
    here c' k e =
        ([], l, places, ap₂ (below_or_here i) (none_there q (places i) k) e, ap (λ z. directory l z places) e)

    go : (z : Option Cell) → nearest_cell q (places i) ≡ z → or_else z c' ≡ Some c
        → (nearest_cell q (places i) ≡ Some c → (r : Path) × (m : Label) × (places' : ℕ → Tree) × (paying_path q (places i) ≡ Some r) × (at r (places i) ≡ directory m (Some c) places'))
        → (r : Path) × (m : Label) × (places' : ℕ → Tree) × (below_or_here i (paying_path q (places i)) c' ≡ Some r) × (at r (directory l c' places) ≡ directory m (Some c) places')
    go None k e f = here c' k e
    go (Some z) k e f = let x = f (k ∙ e) in (i ∷ x.0, x.1, x.2, ap (λ r. below_or_here i r c') x.3, x.4)
