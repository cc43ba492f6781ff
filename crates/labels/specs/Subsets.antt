-- A set is a number's bits, and is included in another where the bits that they share are all of its own. Assumes nothing.
use Rattle.std.specs.Prelude.{◌≡◌, ℕ, bit_and}
use Rattle.std.specs.Int.{bit_at}
use Rattle.std.proofs.Common.{ap, ◌∙◌, arith}
use Rattle.std.proofs.lemmas.Nat.Bits.{bit_at_and, same_from_bits}
use Rattle.labels.specs.PartOrders.{Included}

pub members : (a b : ℕ) → bit_and a b ≡ a → Included a b
members a b e k h =
    let shared : bit_at (bit_and a b) k ≡ 1 = ap (λ (x : ℕ). bit_at x k) e ∙ h in
    omega (arith, bit_at_and a b k)

pub from_members : (a b : ℕ) → Included a b → bit_and a b ≡ a
from_members a b s = same_from_bits (bit_and a b) a (λ k. grind (arith, bit_at_and a b k, s k))

pub subset_transitive : (a b c : ℕ) → bit_and a b ≡ a → bit_and b c ≡ b → bit_and a c ≡ a
subset_transitive a b c p q = from_members a c (λ k h. members b c q k (members a b p k h))
