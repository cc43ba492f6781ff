-- A paid change in one walk along the path, for inductions: charging the nearest cell and changing the object at once.
use Rattle.std.proofs.Common.{◌≡◌, Bool, true, false, cond, [], ◌∷◌, Some, None, Option, sym, refl, ap, ◌∙◌, ap₂}
use Rattle.rules.specs.Indexed.{assign}
use Rattle.rules.specs.Tree.{Cell, Tree, empty, segment, directory, Path}
use Rattle.rules.specs.Cells.{has_cell, below_or_here, paying_path}
use Rattle.rules.specs.Changes.{modified, map_cell, map_own_cell, charged, paid_change}
use Rattle.rules.proofs.Assign.{assign_same, assign_twice}

-- whether a directory on the path has a cell
abbrev pub cell_on_path : Path → Tree → Bool
cell_on_path [] empty = false
cell_on_path [] (segment ps) = false
cell_on_path [] (directory l c places) = has_cell c
cell_on_path (i ∷ q) empty = false
cell_on_path (i ∷ q) (segment ps) = false
cell_on_path (i ∷ q) (directory l c places) = cond (cell_on_path q (places i)) true (has_cell c)

-- the tree with the object at the path changed by f, and the nearest cell on the path by g
abbrev pub updated : (Cell → Cell) → (Tree → Tree) → Path → Tree → Tree
updated g f [] t = f (map_own_cell g t)
updated g f (i ∷ q) empty = empty
updated g f (i ∷ q) (segment ps) = segment ps
updated g f (i ∷ q) (directory l c places) =
    directory l (cond (cell_on_path q (places i)) c (map_cell g c)) (assign places i (updated g f q (places i)))

-- whether there is a path
abbrev has_path : Option Path → Bool
has_path None = false
has_path (Some r) = true

cell_on_path_is : (q : Path) (t : Tree) → cell_on_path q t ≡ has_path (paying_path q t)
cell_on_path_is [] empty = refl
cell_on_path_is [] (segment ps) = refl
cell_on_path_is [] (directory l None places) = refl
cell_on_path_is [] (directory l (Some c) places) = refl
cell_on_path_is (i ∷ q) empty = refl
cell_on_path_is (i ∷ q) (segment ps) = refl
cell_on_path_is (i ∷ q) (directory l c places) = ap (λ b. cond b true (has_cell c)) (cell_on_path_is q (places i)) ∙ go (paying_path q (places i)) c
  where
    go : (r : Option Path) (c : Option Cell) → cond (has_path r) true (has_cell c) ≡ has_path (below_or_here i r c)
    go None None = refl
    go None (Some c) = refl
    go (Some r) c = refl

module _ (g : Cell → Cell) (f : Tree → Tree) where
  pub paid_at_once : (q : Path) (t : Tree) → updated g f q t ≡ paid_change g f q t
  paid_at_once [] empty = refl
  paid_at_once [] (segment ps) = refl
  paid_at_once [] (directory l None places) = refl
  paid_at_once [] (directory l (Some c) places) = refl
  paid_at_once (i ∷ q) empty = refl
  paid_at_once (i ∷ q) (segment ps) = refl
  paid_at_once (i ∷ q) (directory l c places) =
      ap₂ (λ b t. directory l (cond b c (map_cell g c)) (assign places i t)) (cell_on_path_is q (places i)) (paid_at_once q (places i))
      ∙ go (paying_path q (places i)) c
    where
      go : (r : Option Path) (c : Option Cell)
          → directory l (cond (has_path r) c (map_cell g c)) (assign places i (modified f q (charged g r (places i)))) ≡ modified f (i ∷ q) (charged g (below_or_here i r c) (directory l c places))
      go None None = refl
      go None (Some c) = refl
      go (Some r) c =
          let x = modified (map_own_cell g) r (places i) in
          ap (directory l c)
          (ap (λ y. assign places i (modified f q y)) (sym (assign_same places i x)) ∙ sym (assign_twice places i x (modified f q (assign places i x i))))
