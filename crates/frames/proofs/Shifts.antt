-- A number beside another, by a shift and an or, as the code writes it at 32 bits. Assumes nothing.
use Rattle.std.proofs.Common.{◌≡◌, ℕ, ◌+◌, ◌*◌, ◌%◌, ◌^◌, ◌<◌, ◌≤◌, ap, ◌∙◌}
use lib.Bits.{bit_or}
use Rattle.std.proofs.lemmas.Nat.{or_shifted, shl_whole}

pub beside : (a j k b : ℕ) → a < 2 ^ j → j + k ≤ 32 → b < 2 ^ k → bit_or ((a * 2 ^ k) % 2 ^ 32) b ≡ a * 2 ^ k + b
beside a j k b ha h hb = ap (λ x. bit_or x b) (shl_whole a j k 32 ha h) ∙ or_shifted a k b hb
