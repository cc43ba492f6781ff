-- Inclusion bit by bit: the lowest, and those above it. Assumes nothing.
use Rattle.std.specs.Prelude.{◌≡◌, ℕ, ◌+◌, ◌/◌, ◌%◌, min}
use Rattle.std.proofs.Common.{arith}
use Rattle.std.proofs.lemmas.Nat.{shr-shr}
use Rattle.labels.specs.PartOrders.{Included}

pub lowest : (a b : ℕ) → Included a b → min (a % 2) (b % 2) ≡ a % 2
lowest a b s = let first : a % 2 ≡ 1 → b % 2 ≡ 1 = λ h. omega (arith, s 0 (omega arith)) in grind (arith, first)

pub halved : (a b : ℕ) → Included a b → Included (a / 2) (b / 2)
halved a b s k h = omega (arith, shr-shr b 1 k, s (1 + k) (omega (arith, shr-shr a 1 k)))
