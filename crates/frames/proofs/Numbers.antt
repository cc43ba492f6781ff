-- What holds of each of the eleven calls holds of every number from 1 to 11. Assumes nothing.
use Rattle.std.proofs.Common.{ℕ, zero, suc, ◌≤◌, arith}

pub each_call : (P : ℕ → Type 0) → P 1 → P 2 → P 3 → P 4 → P 5 → P 6 → P 7 → P 8 → P 9 → P 10 → P 11 → (n : ℕ) → 1 ≤ n → n ≤ 11 → P n
each_call P a b c d e f g h i j k zero l m = let z : ⊥ = omega arith in absurd z
each_call P a b c d e f g h i j k (suc zero) l m = a
each_call P a b c d e f g h i j k (suc (suc zero)) l m = b
each_call P a b c d e f g h i j k (suc (suc (suc zero))) l m = c
each_call P a b c d e f g h i j k (suc (suc (suc (suc zero)))) l m = d
each_call P a b c d e f g h i j k (suc (suc (suc (suc (suc zero))))) l m = e
each_call P a b c d e f g h i j k (suc (suc (suc (suc (suc (suc zero)))))) l m = f
each_call P a b c d e f g h i j k (suc (suc (suc (suc (suc (suc (suc zero))))))) l m = g
each_call P a b c d e f g h i j k (suc (suc (suc (suc (suc (suc (suc (suc zero)))))))) l m = h
each_call P a b c d e f g h i j k (suc (suc (suc (suc (suc (suc (suc (suc (suc zero))))))))) l m = i
each_call P a b c d e f g h i j k (suc (suc (suc (suc (suc (suc (suc (suc (suc (suc zero)))))))))) l m = j
each_call P a b c d e f g h i j k (suc (suc (suc (suc (suc (suc (suc (suc (suc (suc (suc zero))))))))))) l m = k
each_call P a b c d e f g h i j k (suc (suc (suc (suc (suc (suc (suc (suc (suc (suc (suc (suc n)))))))))))) l m = let z : ⊥ = omega arith in absurd z
