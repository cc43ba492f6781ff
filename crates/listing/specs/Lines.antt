-- A line: a decimal digit, then for each word a space and eight capital hexadecimal digits. Assumes nothing.
use Rattle.std.specs.Prelude.{ℕ, zero, suc, ◌+◌, ◌-◌, ◌*◌, ◌/◌, cond, ◌&&◌, List, [], ◌∷◌, length, take, drop, Some, None, vec_items, Option, ◌==◌, nat_le}
use Rattle.std.specs.Option.{option_and_then, option_map}
use Rattle.listing.specs.declared.line.Submission.{Submission}

-- a process number and the words of its frame
pub record Submitted : Type 0 where
  pub process : ℕ
  pub frame : List ℕ

abbrev pub submitted : Submission → Submitted
submitted s = record { process = s.process; frame = vec_items s.frame }

-- the codes 48 to 57 are the decimal digits
abbrev pub decimal_digit : ℕ → Option ℕ
decimal_digit b = cond (nat_le 48 b && nat_le b 57) (Some (b - 48)) None

-- and 65 to 70 the letters A to F, which stand for 10 to 15
abbrev pub hex_digit : ℕ → Option ℕ
hex_digit b = cond (nat_le 48 b && nat_le b 57) (Some (b - 48)) (cond (nat_le 65 b && nat_le b 70) (Some (b - 55)) None)

-- what digits spell behind those that spelled n
abbrev pub hex_from : ℕ → List ℕ → Option ℕ
hex_from n [] = Some n
hex_from n (b ∷ bs) = option_and_then (λ d. hex_from (n * 16 + d) bs) (hex_digit b)

-- a word: a space and eight digits
abbrev pub word_in : List ℕ → Option ℕ
word_in [] = None
word_in (b ∷ digits) = cond (length digits == 8 && b == 32) (hex_from 0 digits) None

-- one word more in front
abbrev pub before : Option ℕ → Option (List ℕ) → Option (List ℕ)
before w ws = option_and_then (λ x. option_map (λ xs. x ∷ xs) ws) w

-- k words, nine bytes each, and nothing behind them
abbrev pub words_by : ℕ → List ℕ → Option (List ℕ)
words_by zero bs = cond (length bs == 0) (Some []) None
words_by (suc k) bs = before (word_in (take 9 bs)) (words_by k (drop 9 bs))

-- words, and nothing but words
abbrev pub words_in : List ℕ → Option (List ℕ)
words_in bs = words_by (length bs / 9) bs

-- a digit, then words
abbrev pub submitted_in : List ℕ → Option Submitted
submitted_in [] = None
submitted_in (b ∷ bs) = option_and_then (λ n. option_map (λ ws. record { process = n; frame = ws }) (words_in bs)) (decimal_digit b)

-- what a line says, without its newline: nothing where it has over 200 bytes
abbrev pub line_in : List ℕ → Option Submitted
line_in bs = cond (nat_le (length bs) 200) (submitted_in bs) None
