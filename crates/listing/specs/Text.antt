-- How a call is written as a line, and that its line is the one that says it. Assumes nothing.
use Rattle.std.specs.Prelude.{◌≡◌, ℕ, zero, suc, ◌+◌, ◌/◌, ◌%◌, ◌^◌, ◌<◌, ◌≤◌, cond, List, [], ◌∷◌, ◌++◌, length, All, Some, nat_lt}
use Rattle.listing.specs.Lines.{Submitted, line_in}

-- the capital hexadecimal digit of a number below 16
abbrev pub hex_char : ℕ → ℕ
hex_char d = cond (nat_lt d 10) (48 + d) (55 + d)

-- the last k hexadecimal digits of w
abbrev pub hex_text : ℕ → ℕ → List ℕ
hex_text zero w = []
hex_text (suc k) w = hex_char (w / 16 ^ k) ∷ hex_text k (w % 16 ^ k)

-- a space and eight digits for each word
abbrev pub words_text : List ℕ → List ℕ
words_text [] = []
words_text (w ∷ ws) = 32 ∷ (hex_text 8 w ++ words_text ws)

-- the process's digit, then the words of the frame
abbrev pub line_text : Submitted → List ℕ
line_text s = (48 + s.process) ∷ words_text s.frame

-- a call that has a line: one digit for the process, and words of 32 bits, at most 22 in 200 bytes
pub record Writable (s : Submitted) : Type 0 where
  pub digit : s.process < 10
  pub words : All (λ w. w < 2 ^ 32) s.frame
  pub few : length s.frame ≤ 22

-- a line says a call exactly where it is the text of that call
pub record OneLineEach : Type 0 where
  pub reads_back : (s : Submitted) → Writable s → line_in (line_text s) ≡ Some s
  pub only_text : (bs : List ℕ) (s : Submitted) → line_in bs ≡ Some s → Writable s × (bs ≡ line_text s)
