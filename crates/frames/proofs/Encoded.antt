-- What the steps of the writer did is what the call's frame is. Assumes nothing.
use Rattle.std.proofs.lemmas.Grind.{common_steps}
use Rattle.std.proofs.lemmas.Bool.Decides.{nat_tests}
use Rattle.std.proofs.Common.{arith, ◌≡◌, ℕ, ◌+◌, ◌-◌, ◌≤◌, true, List, length, take, Some, None, Ok, Err, Option, Result, sym, ap, ◌∙◌, subst}
use Rattle.std.proofs.lemmas.List.{take_at}
use Rattle.frames.specs.declared.table.Parameter.{Parameter}
use Rattle.frames.specs.Faults.{FrameFault}
use Rattle.frames.specs.Table.{parameters_of, arity, data_of, takes_data}
use Rattle.frames.specs.Requests.{Request, call_number, arguments_of, data_in, reply_words}
use Rattle.frames.specs.Decode.{unless, past_end, decode}
use Rattle.frames.specs.Walks.{padded, TakenApart}
use Rattle.frames.specs.Encode.{frame_of, encode, value_fault, refusal, put, buffer_after}
use Rattle.frames.proofs.Outcomes.{none_from_ok}
use Rattle.frames.proofs.Ranges.{Passes, not_refused}
use Rattle.frames.proofs.RoundTrip.{regular, encode_length, decodes}

-- what the writer promises where it writes: n words of a frame, in the buffer `after`
pub record Encoded (c : Request) (before after : List ℕ) (n : ℕ) : Type 0 where
  pub value : Ok n ≡ unless (refusal c (length before)) (length (encode c))
  pub buffer : after ≡ buffer_after (refusal c (length before)) (encode c) before
  pub reads_back : (room : ℕ) → reply_words c ≤ room → decode (take n after) room ≡ Ok c

encoded_so : (c : Request) (before after : List ℕ) (n : ℕ) → Passes c → n ≡ length (encode c) → n ≤ length before → after ≡ put 0 (encode c) before → Encoded c before after n
encoded_so c before after n p long fits is =
    let r : refusal c (length before) ≡ None = not_refused c (length before) p (subst (λ (k : ℕ). k ≤ length before) long fits) in
    record {
      value = ap Ok long ∙ ap (λ (o : Option FrameFault). unless o (length (encode c))) (sym r);
      buffer = is ∙ ap (λ (o : Option FrameFault). buffer_after o (encode c) before) (sym r);
      reads_back = λ room room_enough.
          ap (λ (xs : List ℕ). decode xs room) (ap (take n) is ∙ take_at (encode c) _ n (sym long)) ∙ decodes c p room room_enough;
    }

-- what the writer promises where it answers r and leaves the buffer as it was
pub record Refused (c : Request) (buffer : List ℕ) (r : Result ℕ FrameFault) : Type 0 where
  pub value : r ≡ unless (refusal c (length buffer)) (length (encode c))
  pub same : buffer ≡ buffer_after (refusal c (length buffer)) (encode c) buffer

pub refused : (c : Request) (buffer : List ℕ) (r : Result ℕ FrameFault) (x : FrameFault) → r ≡ Err x → refusal c (length buffer) ≡ Some x → Refused c buffer r
refused c buffer r x e d = grind (arith, common_steps, nat_tests)

-- the parts of a call c: its number n, the values in the order of the frame, and the data words
module _ {c : Request} {n : ℕ} {vs ds : List ℕ} (taken : TakenApart n vs ds c) where
  same_count : takes_data (data_of n) (length ds) ≡ takes_data (data_of (call_number c)) (length (data_in c))
  same_count = grind (arith, common_steps, nat_tests)

  same_fault : value_fault 1 (parameters_of n) vs ≡ value_fault 1 (parameters_of (call_number c)) (arguments_of c)
  same_fault = grind (arith, common_steps, nat_tests)

  same_length : (1 + arity n) + length ds ≡ length (encode c)
  same_length = grind (arith, common_steps, nat_tests)

  same_frame : frame_of n (parameters_of n) vs ds ≡ encode c
  same_frame = grind (arith, common_steps, nat_tests)

  -- a value out of its range is the fault, where the data words are as they should be
  pub denied_value : (room : ℕ) (x : FrameFault) → takes_data (data_of n) (length ds) ≡ true → Err x ≡ unless {A = Unit {0}} (value_fault 1 (parameters_of n) vs) tt → refusal c room ≡ Some x
  denied_value room x t v = grind (arith, common_steps, nat_tests)

  -- and the end of its segment, where the values are too
  pub denied_end : (room : ℕ) (x : FrameFault) → takes_data (data_of n) (length ds) ≡ true → Ok tt ≡ unless {A = Unit {0}} (value_fault 1 (parameters_of n) vs) tt → Err x ≡ unless {A = Unit {0}} (past_end c) tt → refusal c room ≡ Some x
  denied_end room x t v e = grind (arith, common_steps, nat_tests)

  pub encoded : (before after : List ℕ) (long : ℕ) → takes_data (data_of n) (length ds) ≡ true → Ok tt ≡ unless {A = Unit {0}} (value_fault 1 (parameters_of n) vs) tt → Ok tt ≡ unless {A = Unit {0}} (past_end c) tt → long ≡ (1 + arity n) + length ds → long ≤ length before → after ≡ put 0 (frame_of n (parameters_of n) vs ds) before → Encoded c before after long
  encoded before after long t v e is_long fits is =
      encoded_so c before after long
      (record { counted = sym same_count ∙ t; valued = sym same_fault ∙ none_from_ok _ v; ended = none_from_ok (past_end c) e })
      (is_long ∙ same_length) fits (is ∙ ap (λ (f : List ℕ). put 0 f before) same_frame)

-- the same of parts with the row of n in the table, and with the call's own values, no zeros behind them
module _ (c : Request) (n payload : ℕ) (ps : List Parameter) (vs ds : List ℕ) (number : n ≡ call_number c) (parameters : ps ≡ parameters_of n) (most : payload ≡ data_of n) (values : vs ≡ arguments_of c) (words : ds ≡ data_in c) where
  same_parameters : ps ≡ parameters_of (call_number c)
  same_parameters = cc

  same_count_by_row : takes_data payload (length ds) ≡ takes_data (data_of (call_number c)) (length (data_in c))
  same_count_by_row = grind (arith, common_steps, nat_tests)

  same_fault_by_row : value_fault 1 ps vs ≡ value_fault 1 (parameters_of (call_number c)) (arguments_of c)
  same_fault_by_row = cc

  same_length_by_row : (1 + length ps) + length ds ≡ length (encode c)
  same_length_by_row = let e = encode_length c in cc

  same_frame_by_row : frame_of n ps vs ds ≡ encode c
  same_frame_by_row = cc

  -- a value out of its range is the fault, where the data words are as they should be
  pub denied_value_by_row : (room : ℕ) (x : FrameFault) → takes_data payload (length ds) ≡ true → Err x ≡ unless {A = Unit {0}} (value_fault 1 ps vs) tt → refusal c room ≡ Some x
  denied_value_by_row room x t v = grind (arith, common_steps, nat_tests)

  pub encoded_by_row : (before after : List ℕ) → takes_data payload (length ds) ≡ true → Ok tt ≡ unless {A = Unit {0}} (value_fault 1 ps vs) tt → Ok tt ≡ unless {A = Unit {0}} (past_end c) tt → (1 + length ps) + length ds ≤ length before → after ≡ put 0 (frame_of n ps vs ds) before → Encoded c before after ((1 + length ps) + length ds)
  encoded_by_row before after t v e fits is =
      encoded_so c before after ((1 + length ps) + length ds)
      (record { counted = sym same_count_by_row ∙ t; valued = sym same_fault_by_row ∙ none_from_ok _ v; ended = none_from_ok (past_end c) e })
      same_length_by_row fits (is ∙ ap (λ (f : List ℕ). put 0 f before) same_frame_by_row)

-- as many of the padded values as the row has parameters are the values of the arguments
pub values_are : (c : Request) (n : ℕ) (ps : List Parameter) (vs : List ℕ) → n ≡ call_number c → ps ≡ parameters_of n → vs ≡ padded (arguments_of c) → take (length ps - 0) vs ≡ arguments_of c
values_are c n ps vs number parameters values =
    let r = (regular c).same in
    let k : length ps - 0 ≡ length (arguments_of c) = omega (arith, ap length (parameters ∙ ap parameters_of number)) in
    grind (arith, common_steps, nat_tests)
