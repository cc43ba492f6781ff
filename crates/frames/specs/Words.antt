-- The layout of a frame's words of 32 bits. Assumes nothing.
use Rattle.std.specs.Prelude.{ℕ, suc, ◌+◌, ◌-◌, ◌*◌, ◌/◌, ◌%◌, ◌^◌, min, cond, ℤ, pos, negsuc, nat_lt}

-- the top 4 bits are the kind
abbrev pub kind_of : ℕ → ℕ
kind_of w = w / 2 ^ 28

-- and the low 28 the value
abbrev pub value_of : ℕ → ℕ
value_of w = w % 2 ^ 28

-- a word of a kind and a value
abbrev pub word_of : ℕ → ℕ → ℕ
word_of kind value = kind * 2 ^ 28 + value_of value

-- in a head the 12 bits below the kind are the call
abbrev pub number_in : ℕ → ℕ
number_in h = h / 2 ^ 16 % 2 ^ 12

-- and the low 16 the count of words that follow
abbrev pub count_in : ℕ → ℕ
count_in h = h % 2 ^ 16

-- the head of a call with so many words to follow: its kind is 8
abbrev pub head_of : ℕ → ℕ → ℕ
head_of number count = 8 * 2 ^ 28 + (number * 2 ^ 16 + count)

-- 28 bits as a signed amount, in two's complement
abbrev pub signed : ℕ → ℤ
signed v = cond (nat_lt v (2 ^ 27)) (pos v) (negsuc (2 ^ 28 - suc v))

-- a signed amount in 28 bits; one that they cannot hold becomes 2 ^ 27, which no call admits
abbrev pub unsigned : ℤ → ℕ
unsigned (pos n) = min n (2 ^ 27)
unsigned (negsuc n) = 2 ^ 28 - min (suc n) (2 ^ 27)
