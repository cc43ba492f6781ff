-- A line, as a digit and what is behind it. Assumes nothing.
use Rattle.std.proofs.Common.{◌≡◌, ℕ, ◌≤◌, nat_le, List, [], ◌∷◌, length, get_or, Some, None, Option, option_map, sym, ap, ◌∙◌, arith}
use Rattle.std.proofs.lemmas.Bool.Decides.{nat_tests}
use Rattle.std.specs.Option.{option_and_then}
use Rattle.listing.specs.Lines.{Submitted, decimal_digit, words_in, submitted_in, line_in}
use Rattle.listing.proofs.Words.{tail, tail_is_rest}

-- a process number, and words that may be none
abbrev call_by : ℕ → Option (List ℕ) → Option Submitted
call_by n o = option_map (λ ws. record { process = n; frame = ws }) o

pub digit_and_words_are_line : (xs : List ℕ) (n : ℕ) (o : Option (List ℕ)) → length xs ≤ 200 → decimal_digit (get_or xs 0 0) ≡ Some n → o ≡ words_in (tail xs) → call_by n o ≡ line_in xs
digit_and_words_are_line [] n o h e f = grind (arith, nat_tests, e)
digit_and_words_are_line (x ∷ xs) n o h e f =
    let rest = f ∙ ap words_in (tail_is_rest x xs) in
    ap (call_by n) rest ∙ grind (arith, nat_tests, e)
