-- The path of the cell that an object uses, by what stands at the object's path. Assumes nothing.
use Rattle.std.proofs.Common.{◌≡◌, ℕ, Bool, true, false, cond, [], ◌∷◌, ◌++◌, Some, None, sym, refl, ap, true≢false}
use Rattle.rules.specs.Tree.{Tree, empty, segment, directory, Path, at}
use Rattle.rules.specs.Cells.{has_cell, below_or_here, paying_path}

abbrev pub holds_cell : Tree → Bool
holds_cell empty = false
holds_cell (segment ps) = false
holds_cell (directory l c places) = has_cell c

abbrev pub is_directory : Tree → Bool
is_directory empty = false
is_directory (segment ps) = false
is_directory (directory l c places) = true

-- an object with a cell uses it
pub paying_own : (p : Path) (t : Tree) → holds_cell (at p t) ≡ true → paying_path p t ≡ Some p
paying_own [] empty h = absurd (true≢false (sym h))
paying_own [] (segment ps) h = absurd (true≢false (sym h))
paying_own [] (directory l c places) h = ap (λ b. cond b (Some []) None) h
paying_own (i ∷ q) empty h = absurd (true≢false (sym h))
paying_own (i ∷ q) (segment ps) h = absurd (true≢false (sym h))
paying_own (i ∷ q) (directory l c places) h = ap (λ r. below_or_here i r c) (paying_own q (places i) h)

-- an object without a cell uses the one that its directory uses
pub paying_up : (p : Path) (x : ℕ) (t : Tree) → is_directory (at p t) ≡ true → holds_cell (at (p ++ (x ∷ [])) t) ≡ false
    → paying_path (p ++ (x ∷ [])) t ≡ paying_path p t
paying_up [] x empty d h = absurd (true≢false (sym d))
paying_up [] x (segment ps) d h = absurd (true≢false (sym d))
paying_up [] x (directory l c places) d h = ap (λ r. below_or_here x r c) (without (places x) h)
  where
    without : (t : Tree) → holds_cell t ≡ false → paying_path [] t ≡ None
    without empty q = refl
    without (segment ps) q = refl
    without (directory m c' ks) q = ap (λ b. cond b (Some []) None) q
paying_up (i ∷ q) x empty d h = absurd (true≢false (sym d))
paying_up (i ∷ q) x (segment ps) d h = absurd (true≢false (sym d))
paying_up (i ∷ q) x (directory l c places) d h = ap (λ r. below_or_here i r c) (paying_up q x (places i) d h)
