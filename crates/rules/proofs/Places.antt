-- What stands at a path, and at a place.
use Rattle.std.proofs.lemmas.Grind.{common_steps}
use Rattle.std.proofs.lemmas.Bool.Decides.{nat_tests}
use Rattle.std.proofs.Common.{arith, ◌≡◌, true}
use Rattle.labels.specs.declared.label.Label.{Label}
use Rattle.rules.specs.Tree.{Cell, Tree, empty, is_empty}
use Rattle.rules.specs.Cells.{Found, nothing, found}

-- an object was found, and P holds of its label, the cell that it uses and itself
abbrev pub On : (Label → Cell → Tree → Type 0) → Found → Type 0
On P nothing = ⊥
On P (found l c t) = P l c t

-- a place that tests as empty is empty
pub is_empty_true : (t : Tree) → is_empty t ≡ true → t ≡ empty
is_empty_true a1 a2 = grind (arith, common_steps, nat_tests)
