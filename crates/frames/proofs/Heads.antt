-- What is known of a frame whose head names a call. Assumes nothing.
use Rattle.std.proofs.Common.{◌≡◌, ℕ, ◌-◌, ◌≤◌, true, cond, ◌&&◌, ltb, leb, List, length, get_or, Ok, Err, Result, arith}
use Rattle.std.proofs.lemmas.Grind.{common_steps}
use Rattle.std.proofs.lemmas.Bool.Decides.{nat_tests}
use Rattle.frames.specs.declared.fault.Flaw.TheVariants.{WrongCount}
use Rattle.frames.specs.Words.{kind_of, number_in, count_in}
use Rattle.frames.specs.Faults.{FrameFault, blame}
use Rattle.frames.specs.Table.{arity, data_of, takes_data, takes}
use Rattle.frames.specs.Decode.{call_in, is_head, is_counted}

-- the number is one from 1 to 11
pub number_low : (f : List ℕ) (n : ℕ) → call_in f ≡ Ok n → 1 ≤ n
number_low f n named = grind (arith, common_steps, nat_tests)

pub number_high : (f : List ℕ) (n : ℕ) → call_in f ≡ Ok n → n ≤ 11
number_high f n named = grind (arith, common_steps, nat_tests)

-- two Ok that are the same hold the same
same_ok : {A : Type 0} (x y : A) → ◌≡◌ {A = Result A FrameFault} (Ok x) (Ok y) → x ≡ y
same_ok x y e = cc

-- the head says a call, its number and its count, and these fit the frame's length
module _ (f : List ℕ) (n : ℕ) (named : call_in f ≡ Ok n) where
  head : ℕ
  head = get_or f 0 0

  headed : (((ltb 0 (length f) && is_head head) ≡ true) × (cond (is_counted head (length f - 1)) (Ok (number_in head)) (Err (blame WrongCount 0)) ≡ Ok n))
  unfolding head
  headed = grind (arith, common_steps, nat_tests)

  counted : ((is_counted head (length f - 1) ≡ true) × (◌≡◌ {A = Result ℕ FrameFault} (Ok (number_in head)) (Ok n)))
  unfolding head
  counted = grind (arith, common_steps, nat_tests)

  head_holds : is_head head ≡ true
  unfolding head
  head_holds = grind (arith, common_steps, nat_tests)

  in_calls : (leb 1 (number_in head) && leb (number_in head) 11) ≡ true
  unfolding head
  in_calls = grind (arith, common_steps, nat_tests)

  pub number_is : number_in (get_or f 0 0) ≡ n
  number_is = grind (arith, common_steps, nat_tests)

  pub kind_is : kind_of (get_or f 0 0) ≡ 8
  kind_is = grind (arith, common_steps, nat_tests)

  pub count_is : count_in (get_or f 0 0) ≡ length f - 1
  count_is = grind (arith, common_steps, nat_tests)

  taken : takes (arity n) (data_of n) (length f - 1) ≡ true
  taken = grind (arith, common_steps, nat_tests)

  pub arguments_there : arity n ≤ length f - 1
  arguments_there = grind (arith, common_steps, nat_tests)

  pub data_taken : takes_data (data_of n) (length f - 1 - arity n) ≡ true
  data_taken = grind (arith, common_steps, nat_tests)
