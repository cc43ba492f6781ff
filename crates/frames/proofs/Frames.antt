-- A frame that asks for a call is the frame of that call, and the call passes the tests of the writer. Assumes nothing.
use Rattle.std.proofs.lemmas.Grind.{common_steps}
use Rattle.std.proofs.lemmas.Bool.Decides.{nat_tests}
use Rattle.std.proofs.Common.{◌≡◌, ℕ, suc, ◌+◌, ◌-◌, ◌≤◌, true, leb, List, [], ◌∷◌, ◌++◌, map, length, get_or, take, drop, None, Ok, sym, refl, ap, ◌∙◌, subst, ap₂, arith}
use Rattle.std.proofs.lemmas.List.{take-append-drop}
use Rattle.std.proofs.lemmas.Bool.{leb-true}
use Rattle.frames.specs.declared.fault.Flaw.TheVariants.{OutOfRange}
use Rattle.frames.specs.declared.table.Parameter.{Parameter}
use Rattle.frames.specs.Words.{kind_of, value_of, head_of}
use Rattle.frames.specs.Faults.{blame}
use Rattle.frames.specs.Table.{kind_code, within, parameters_of, arity, data_of, takes_data}
use Rattle.frames.specs.Requests.{Request, call_number, arguments_of, data_in, reply_words}
use Rattle.frames.specs.Decode.{unless, argument, argument_fault, call_in, request_in, spelled, or_else, past_end, past_room, decode}
use Rattle.frames.specs.Encode.{argument_words, frame_of, encode, value_fault}
use Rattle.frames.proofs.Words.{word_again}
use Rattle.frames.proofs.Outcomes.{bind_ok, unless_ok, or_else_none, err_or_none, test_passed}
use Rattle.frames.proofs.Heads.{number_low, number_high}
use Rattle.frames.specs.Ranges.{InRange}
use Rattle.frames.proofs.Ranges.{Passes, Within, no_fault, in_range}
use Rattle.frames.proofs.Parts.{listed_again, value_small, parts_are}

-- an argument without a fault has its parameter's kind, and a value within the bounds
kind_right : (place : ℕ) (p : Parameter) (w v : ℕ) → argument place p w ≡ Ok v → kind_of w ≡ kind_code p.kind
kind_right place p w v e = grind (arith, common_steps, nat_tests)

value_right : (place : ℕ) (p : Parameter) (w v : ℕ) → argument place p w ≡ Ok v → within p (value_of w) ≡ true
value_right place p w v e = grind (arith, common_steps, nat_tests)

words_again : (place : ℕ) (ps : List Parameter) (ws : List ℕ) → length ps ≤ length ws → argument_fault place ps ws ≡ None → argument_words ps (map value_of (take (length ps) ws)) ≡ take (length ps) ws
words_again place [] ws l e = refl
words_again place (p ∷ ps) [] l e = let y : ⊥ = omega arith in absurd y
words_again place (p ∷ ps) (w ∷ ws) l e =
    let r = err_or_none (argument place p w) (argument_fault (suc place) ps ws) e in
    ap₂ (λ (x : ℕ) (xs : List ℕ). x ∷ xs) (word_again (kind_code p.kind) w (kind_right place p w r.0 r.1)) (words_again (suc place) ps ws (omega arith) r.2)

values_within : (place : ℕ) (ps : List Parameter) (ws : List ℕ) → length ps ≤ length ws → argument_fault place ps ws ≡ None → Within ps (map value_of (take (length ps) ws))
values_within place [] ws l e = tt
values_within place (p ∷ ps) [] l e = let y : ⊥ = omega arith in absurd y
values_within place (p ∷ ps) (w ∷ ws) l e =
    let r = err_or_none (argument place p w) (argument_fault (suc place) ps ws) e in
    (value_right place p w r.0 r.1, values_within (suc place) ps ws (omega arith) r.2)

-- a head and the words behind it, whose arguments have no fault
module _ (h : ℕ) (ws : List ℕ) (n : ℕ) (named : call_in (h ∷ ws) ≡ Ok n) (faultless : argument_fault 1 (parameters_of n) ws ≡ None) where
  long : length (h ∷ ws) - 1 ≡ length ws
  long = omega arith

  covers : arity n ≤ length ws
  covers = grind (arith, common_steps, nat_tests)

  values_long : length (map value_of (take (arity n) ws)) ≡ arity n
  values_long = grind (arith, common_steps, nat_tests)

  counted : takes_data (data_of n) (length (drop (arity n) ws)) ≡ true
  counted = grind (arith, common_steps, nat_tests)

  parts_in : (call_number (request_in n ws) ≡ n) × (arguments_of (request_in n ws) ≡ map value_of (take (arity n) ws)) × (data_in (request_in n ws) ≡ drop (arity n) ws)
  parts_in =
      let p = parts_are (λ i. get_or (map value_of (take (arity n) ws)) i 0) (drop (arity n) ws) (value_small (take (arity n) ws) 2) n (number_low (h ∷ ws) n named) (number_high (h ∷ ws) n named) counted in
      (p.0, p.1 ∙ listed_again (arity n) (map value_of (take (arity n) ws)) values_long, p.2)

  head_right : head_of n (arity n + length (drop (arity n) ws)) ≡ h
  head_right = grind (arith, common_steps, nat_tests)

  pub own_frame : encode (request_in n ws) ≡ h ∷ ws
  own_frame =
      ap₂ (λ (k : ℕ) (vs : List ℕ). frame_of k (parameters_of k) vs (data_in (request_in n ws))) parts_in.0 parts_in.1
      ∙ ap (λ (ds : List ℕ). frame_of n (parameters_of n) (map value_of (take (arity n) ws)) ds) parts_in.2
      ∙ ap₂ (λ (x : ℕ) (xs : List ℕ). x ∷ (xs ++ drop (arity n) ws)) head_right (words_again 1 (parameters_of n) ws covers faultless)
      ∙ ap (λ (xs : List ℕ). h ∷ xs) (take-append-drop (arity n) ws)

  pub own_passes : past_end (request_in n ws) ≡ None → Passes (request_in n ws)
  own_passes ended =
      record {
        counted = ap₂ (λ (k : ℕ) (ds : List ℕ). takes_data (data_of k) (length ds)) parts_in.0 parts_in.2 ∙ counted;
        valued = ap₂ (λ (k : ℕ) (vs : List ℕ). value_fault 1 (parameters_of k) vs) parts_in.0 parts_in.1
            ∙ no_fault 1 (parameters_of n) (map value_of (take (arity n) ws)) (values_within 1 (parameters_of n) ws covers faultless);
        ended = ended;
      }

-- what is known of a call that was decoded
pub record Decoded (f : List ℕ) (room : ℕ) (c : Request) : Type 0 where
  pub frame : encode c ≡ f
  pub passes : Passes c
  pub fits : reply_words c ≤ room

pub decoded : (f : List ℕ) (room : ℕ) (c : Request) → decode f room ≡ Ok c → Decoded f room c
decoded [] room c e = cc
decoded (h ∷ ws) room c e =
    let d = bind_ok (spelled (h ∷ ws)) (λ q. unless (or_else (past_end q) (past_room q room)) q) c e in
    let b = bind_ok (call_in (h ∷ ws)) (λ n. unless (argument_fault 1 (parameters_of n) ws) (request_in n ws)) d.0 d.1 in
    let a = unless_ok (argument_fault 1 (parameters_of b.0) ws) (request_in b.0 ws) d.0 b.2 in
    let u = unless_ok (or_else (past_end d.0) (past_room d.0 room)) d.0 c d.2 in
    let s : request_in b.0 ws ≡ c = a.1 ∙ u.1 in
    let r = or_else_none (past_end d.0) (past_room d.0 room) u.0 in
    record {
      frame = ap encode (sym s) ∙ own_frame h ws b.0 b.1 a.0;
      passes = subst Passes s (own_passes h ws b.0 b.1 a.0 (ap past_end a.1 ∙ r.0));
      fits = leb-true (reply_words c) room (test_passed (leb (reply_words c) room) (blame OutOfRange 3) (ap (λ (q : Request). past_room q room) (sym u.1) ∙ r.1));
    }

pub decodes_in_range : (f : List ℕ) (room : ℕ) (c : Request) → decode f room ≡ Ok c → InRange c × (reply_words c ≤ room)
decodes_in_range f room c e = let d = decoded f room c e in (in_range c d.passes, d.fits)

pub one_frame : (f g : List ℕ) (room room' : ℕ) (c : Request) → decode f room ≡ Ok c → decode g room' ≡ Ok c → f ≡ g
one_frame f g room room' c p q = sym (decoded f room c p).frame ∙ (decoded g room' c q).frame
