-- Three orders of words: levels with categories, another order reversed, and the word 0 alone. Assumes nothing.
use Rattle.std.specs.Prelude.{◌≡◌, ℕ, ◌/◌, ◌%◌, ◌^◌, Bool, ◌&&◌, ◌==◌, bit_and, nat_le, nat_lt}
use Rattle.labels.specs.Orders.{Order}

-- bits 0 to 15 are the categories
abbrev pub categories : ℕ → ℕ
categories w = w % 2 ^ 16

-- bits 16 to 18 the level
abbrev pub level : ℕ → ℕ
level w = w / 2 ^ 16 % 2 ^ 3

-- and higher bits are zero
abbrev pub level_valid : ℕ → Bool
level_valid w = nat_lt w (2 ^ 19)

-- whether the bits of a are all bits of b
abbrev pub subset : ℕ → ℕ → Bool
subset a b = bit_and a b == a

-- category k is in a set where bit k is 1
abbrev pub In : ℕ → ℕ → Type 0
In k set = set / 2 ^ k % 2 ≡ 1

-- each category in a is in b; this is what `subset` decides
abbrev pub Included : ℕ → ℕ → Type 0
Included a b = (k : ℕ) → In k a → In k b

-- b dominates a: the level of a is no greater, and its categories are a subset
abbrev pub dominated : ℕ → ℕ → Bool
dominated a b = nat_le (level a) (level b) && subset (categories a) (categories b)

-- the order of levels with categories: both words are valid, and the second dominates the first
abbrev pub level_category : Order ℕ
level_category = record { valid = level_valid; below = λ a b. level_valid a && level_valid b && dominated a b }

-- the same words are valid, and a is below b where b was below a
abbrev pub reversed : {T : Type 0} → Order T → Order T
reversed o = record { valid = o.valid; below = λ a b. o.below b a }

-- the word 0 is valid, and no other
abbrev pub single : Order ℕ
single = record { valid = λ w. (w == 0); below = λ a b. (a == 0) && (b == 0) }
