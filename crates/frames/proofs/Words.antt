-- Words and heads, put together and taken apart again. Assumes nothing.
use Rattle.std.proofs.Common.{◌≡◌, ℕ, ◌^◌, ◌<◌, ◌≤◌, true, ℤ, arith}
use Rattle.std.proofs.lemmas.Bool.Decides.{nat_tests}
use Rattle.frames.specs.Words.{kind_of, value_of, word_of, number_in, count_in, head_of, signed, unsigned}
use Rattle.frames.specs.Table.{within, amount}

pub kind_of_word : (k v : ℕ) → kind_of (word_of k v) ≡ k
kind_of_word k v = omega arith

pub value_of_word : (k v : ℕ) → v < 2 ^ 28 → value_of (word_of k v) ≡ v
value_of_word k v h = omega arith

pub word_again : (k w : ℕ) → kind_of w ≡ k → word_of k (value_of w) ≡ w
word_again k w e = omega arith

pub kind_of_head : (n k : ℕ) → n ≤ 11 → k < 2 ^ 16 → kind_of (head_of n k) ≡ 8
kind_of_head n k h l = omega arith

pub number_of_head : (n k : ℕ) → n ≤ 11 → k < 2 ^ 16 → number_in (head_of n k) ≡ n
number_of_head n k h l = omega arith

pub count_of_head : (n k : ℕ) → n ≤ 11 → k < 2 ^ 16 → count_in (head_of n k) ≡ k
count_of_head n k h l = omega arith

pub head_again : (h n k : ℕ) → kind_of h ≡ 8 → number_in h ≡ n → count_in h ≡ k → head_of n k ≡ h
head_again h n k a b c = omega arith

pub unsigned_signed : (v : ℕ) → v < 2 ^ 28 → unsigned (signed v) ≡ v
unsigned_signed v h = grind (arith, nat_tests)

pub signed_unsigned : (z : ℤ) → within amount (unsigned z) ≡ true → signed (unsigned z) ≡ z
signed_unsigned z e = grind (arith, nat_tests)
