-- A call is in range exactly where the tests of the writer pass. Assumes nothing.
use Rattle.std.proofs.lemmas.Grind.{common_steps}
use Rattle.std.proofs.Common.{◌≡◌, ℕ, suc, ◌≤◌, Bool, true, ◌&&◌, leb, List, [], ◌∷◌, length, ℤ, None, Option, refl, ap₂, arith}
use Rattle.std.proofs.lemmas.Bool.Decides.{nat_tests}
use Rattle.frames.specs.declared.fault.Flaw.TheVariants.{WrongCount, OutOfRange}
use Rattle.frames.specs.Faults.{FrameFault, blame}
use Rattle.frames.specs.declared.table.Parameter.{Parameter}
use Rattle.frames.specs.Words.{unsigned}
use Rattle.frames.specs.Table.{within, amount, parameters_of, data_of, takes_data}
use Rattle.frames.specs.Requests.{Request, call_number, arguments_of, data_in}
use Rattle.frames.specs.Decode.{or_else, deny_unless, past_end}
use Rattle.frames.specs.Encode.{encode, value_fault, refusal}
use Rattle.frames.specs.Ranges.{Movable, InRange}
use Rattle.frames.proofs.Outcomes.{or_else_none, test_passed}

-- what the writer tests of a call, whatever the buffer
pub record Passes (c : Request) : Type 0 where
  pub counted : takes_data (data_of (call_number c)) (length (data_in c)) ≡ true
  pub valued : value_fault 1 (parameters_of (call_number c)) (arguments_of c) ≡ None
  pub ended : past_end c ≡ None

-- the values within their bounds, one by one
abbrev pub Within : List Parameter → List ℕ → Type 0
Within [] vs = Unit {0}
Within (p ∷ ps) [] = Unit {0}
Within (p ∷ ps) (v ∷ vs) = (within p v ≡ true) × Within ps vs

pub all_within : (n : ℕ) (ps : List Parameter) (vs : List ℕ) → value_fault n ps vs ≡ None → Within ps vs
all_within n [] vs e = tt
all_within n (p ∷ ps) [] e = tt
all_within n (p ∷ ps) (v ∷ vs) e =
    let b = or_else_none (deny_unless (within p v) (blame OutOfRange n)) (value_fault (suc n) ps vs) e in
    (test_passed (within p v) (blame OutOfRange n) b.0, all_within (suc n) ps vs b.1)

pub no_fault : (n : ℕ) (ps : List Parameter) (vs : List ℕ) → Within ps vs → value_fault n ps vs ≡ None
no_fault n [] vs w = refl
no_fault n (p ∷ ps) [] w = refl
no_fault n (p ∷ ps) (v ∷ vs) w =
    ap₂ (λ (b : Bool) (o : Option FrameFault). or_else (deny_unless b (blame OutOfRange n)) o) w.0 (no_fault (suc n) ps vs w.1)

bounds : (a v b : ℕ) → (leb a v && leb v b) ≡ true → (a ≤ v) × (v ≤ b)
bounds a v b e = grind (arith, common_steps, nat_tests)

inside : (a v b : ℕ) → a ≤ v → v ≤ b → (leb a v && leb v b) ≡ true
inside a v b l h = grind (arith, common_steps, nat_tests)

at_most : (v b : ℕ) → v ≤ b → (leb 0 v && leb v b) ≡ true
at_most v b h = inside 0 v b (omega arith) h

movable : (z : ℤ) → within amount (unsigned z) ≡ true → Movable z
movable z e = grind (arith, common_steps, nat_tests)

amount_within : (z : ℤ) → Movable z → within amount (unsigned z) ≡ true
amount_within z m = grind (arith, common_steps, nat_tests)

ends : (a b : ℕ) (f : FrameFault) → deny_unless (leb a b) f ≡ None → a ≤ b
ends a b f e = grind (arith, common_steps, nat_tests)

ends_so : (a b : ℕ) (f : FrameFault) → a ≤ b → deny_unless (leb a b) f ≡ None
ends_so a b f h = grind (arith, common_steps, nat_tests)

-- each argument that the writer admits is in its range
ranged : (c : Request) → takes_data (data_of (call_number c)) (length (data_in c)) ≡ true → Within (parameters_of (call_number c)) (arguments_of c) → past_end c ≡ None → InRange c
ranged c t w p = grind (arith, common_steps, nat_tests)

-- and each in its range is admitted
admitted : (c : Request) → InRange c → (takes_data (data_of (call_number c)) (length (data_in c)) ≡ true) × Within (parameters_of (call_number c)) (arguments_of c) × (past_end c ≡ None)
admitted c r = grind (arith, common_steps, nat_tests)

pub in_range : (c : Request) → Passes c → InRange c
in_range c p = grind (arith, common_steps, nat_tests)

pub passes : (c : Request) → InRange c → Passes c
passes c r = grind (arith, common_steps, nat_tests)

pub not_refused : (c : Request) (room : ℕ) → Passes c → length (encode c) ≤ room → refusal c room ≡ None
not_refused c room p fits = grind (arith, common_steps, nat_tests)

pub passes_both : (c : Request) (room : ℕ) → refusal c room ≡ None → Passes c × (length (encode c) ≤ room)
passes_both c room e =
    let a = or_else_none (deny_unless (takes_data (data_of (call_number c)) (length (data_in c))) (blame WrongCount 0)) _ e in
    let b = or_else_none (value_fault 1 (parameters_of (call_number c)) (arguments_of c)) _ a.1 in
    let d = or_else_none (past_end c) _ b.1 in
    (record { counted = test_passed _ (blame WrongCount 0) a.0; valued = b.0; ended = d.0 }, ends (length (encode c)) room (blame WrongCount 0) d.1)
