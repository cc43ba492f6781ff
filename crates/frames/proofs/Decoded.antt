-- What the steps of the decoder found is what the frame means. Assumes nothing.
use Rattle.std.proofs.lemmas.Bool.Decides.{nat_tests}
use Rattle.std.proofs.Common.{◌≡◌, ℕ, ◌+◌, List, ◌++◌, map, length, get_or, take, drop, replicate, Ok, Option, sym, ap, ◌∙◌, ap₂, arith}
use Rattle.std.proofs.lemmas.Grind.{common_steps}
use Rattle.frames.specs.Faults.{FrameFault}
use Rattle.frames.specs.declared.table.Parameter.{Parameter}
use Rattle.frames.specs.Words.{value_of}
use Rattle.frames.specs.Table.{parameters_of, arity}
use Rattle.frames.specs.Requests.{Request}
use Rattle.frames.specs.Decode.{bind, unless, argument_fault, call_in, request_of, request_in, spelled, past_end, past_room, decode}
use Rattle.frames.specs.Walks.{Walked}

-- zeros behind a list change none of its values
zeros : (k i : ℕ) → ◌≡◌ {A = ℕ} (get_or (replicate k 0) i 0) 0
zeros k i = grind (arith, common_steps)

behind_zeros : (xs : List ℕ) (k i : ℕ) → get_or (xs ++ replicate k 0) i 0 ≡ get_or xs i 0
behind_zeros xs k i = grind (arith, common_steps)

-- what the decoder knows when it has read the words of a call q of number n: the reader began at place a of the frame b,
-- and is now at place at of the frame g
module _ (f b g : List ℕ) (n a at : ℕ) (ps : List Parameter) (vs ds : List ℕ) (q : Request) (named : Ok n ≡ call_in f) (shaped : ps ≡ parameters_of n) (lent : b ≡ f) (behind_head : a ≡ 1) (walked : Walked a ps (drop a b) (Ok vs)) (same : g ≡ b) (here : at ≡ a + length ps) (rest : ds ≡ drop at g) (asked : q ≡ request_of n (λ i. get_or vs i 0) ds) where
  walked_so : Walked 1 (parameters_of n) (drop 1 f) (Ok vs)
  walked_so = grind (arith, common_steps, nat_tests)

  data_words : ds ≡ drop (arity n) (drop 1 f)
  data_words = grind (arith, common_steps, nat_tests)

  values : (i : ℕ) → get_or vs i 0 ≡ get_or (map value_of (take (arity n) (drop 1 f))) i 0
  values i = ap (λ (xs : List ℕ). get_or xs i 0) walked_so.1 ∙ behind_zeros (map value_of (take (arity n) (drop 1 f))) _ i

  asks : q ≡ request_in n (drop 1 f)
  asks = asked ∙ ap₂ (λ (v : ℕ → ℕ) (ws : List ℕ). request_of n v ws) (λ j i. values i j) data_words

  pub spells : Ok q ≡ spelled f
  spells =
      ap Ok asks
      ∙ ap (λ (o : Option FrameFault). unless o (request_in n (drop 1 f))) (sym walked_so.0)
      ∙ ap (λ r. bind r (λ m. unless (argument_fault 1 (parameters_of m) (drop 1 f)) (request_in m (drop 1 f)))) named

-- a call that passes the last two tests is granted
pub granted : (f : List ℕ) (room : ℕ) (q : Request) → Ok q ≡ spelled f → Ok tt ≡ unless {A = Unit {0}} (past_end q) tt → Ok tt ≡ unless {A = Unit {0}} (past_room q room) tt → decode f room ≡ Ok q
granted f room q s e r = grind (arith, common_steps, nat_tests)
