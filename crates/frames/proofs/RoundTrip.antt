-- The frame of a call that passes the tests of the writer reads back as that call. Assumes nothing.
use Rattle.std.proofs.lemmas.Grind.{common_steps}
use Rattle.std.proofs.Common.{◌≡◌, ℕ, suc, ◌+◌, ◌-◌, ◌^◌, ◌<◌, ◌≤◌, Bool, true, cond, ◌&&◌, ltb, List, [], ◌∷◌, ◌++◌, map, length, ℤ, None, Ok, Err, Option, Result, sym, refl, ap, ◌∙◌, ap₂, arith}
use Rattle.std.proofs.lemmas.Bool.{and_from, eq-eqb, le-leb, lt-ltb}
use Rattle.std.proofs.lemmas.Bool.Decides.{nat_tests}
use Rattle.frames.specs.declared.fault.Flaw.TheVariants.{NotACall, WrongCount, OutOfRange}
use Rattle.frames.specs.Faults.{FrameFault, blame}
use Rattle.frames.specs.declared.table.Parameter.{Parameter}
use Rattle.frames.specs.Words.{value_of, word_of, number_in, count_in, head_of, unsigned}
use Rattle.frames.specs.Table.{kind_code, within, parameters_of, arity, data_of, takes_data, takes}
use Rattle.frames.specs.Requests.{Request, call_number, arguments_of, data_in, reply_words}
use Rattle.frames.specs.Decode.{bind, unless, or_else, deny_unless, argument, err_or, argument_fault, is_head, is_counted, call_in, request_in, spelled, past_end, past_room, decode}
use Rattle.frames.specs.Encode.{argument_words, encode}
use Rattle.frames.specs.Ranges.{InRange}
use Rattle.frames.proofs.Words.{value_of_word, count_of_head}
use Rattle.frames.proofs.Parts.{made_again}
use Rattle.frames.proofs.Ranges.{in_range, Passes, Within, passes}

-- each value has 28 bits
abbrev Small : List ℕ → Type 0
Small [] = Unit {0}
Small (v ∷ vs) = (v < 2 ^ 28) × Small vs

unsigned_small : (z : ℤ) → unsigned z < 2 ^ 28
unsigned_small z = grind (arith, nat_tests)

all_small : (c : Request) → InRange c → Small (arguments_of c)
all_small c r = grind (arith, common_steps, nat_tests)

-- the table has a row for each call, with as many arguments as the call has, and few words
pub record Regular (c : Request) : Type 0 where
  pub low : 1 ≤ call_number c
  pub high : call_number c ≤ 11
  pub same : length (arguments_of c) ≡ length (parameters_of (call_number c))
  pub few : arity (call_number c) ≤ 5
  pub few_data : data_of (call_number c) ≤ 16

pub regular : (c : Request) → Regular c
regular c = record { low = grind arith; high = grind arith; same = grind arith; few = grind arith; few_data = grind arith }

at_most : (most n : ℕ) → takes_data most n ≡ true → n ≤ most
at_most most n e = grind (arith, nat_tests)

-- each word that is written of a value in bounds is an argument, and holds that value
passed : (place : ℕ) (p : Parameter) (v : ℕ) → v < 2 ^ 28 → within p v ≡ true → argument place p (word_of (kind_code p.kind) v) ≡ Ok v
passed place p v s e = grind (arith, common_steps, nat_tests)

no_argument_fault : (place : ℕ) (ps : List Parameter) (vs ds : List ℕ) → Small vs → Within ps vs → length vs ≡ length ps → argument_fault place ps (argument_words ps vs ++ ds) ≡ None
no_argument_fault place [] vs ds s w l = refl
no_argument_fault place (p ∷ ps) [] ds s w l = let z : ⊥ = omega arith in absurd z
no_argument_fault place (p ∷ ps) (v ∷ vs) ds s w l =
    ap (λ (r : Result ℕ FrameFault). err_or r (argument_fault (suc place) ps (argument_words ps vs ++ ds))) (passed place p v s.0 w.0)
    ∙ no_argument_fault (suc place) ps vs ds s.1 w.1 (omega arith)

values_back : (ps : List Parameter) (vs : List ℕ) → Small vs → length vs ≡ length ps → map value_of (argument_words ps vs) ≡ vs
values_back [] [] s l = refl
values_back [] (v ∷ vs) s l = let z : ⊥ = omega arith in absurd z
values_back (p ∷ ps) [] s l = let z : ⊥ = omega arith in absurd z
values_back (p ∷ ps) (v ∷ vs) s l =
    ap₂ (λ (x : ℕ) (xs : List ℕ). x ∷ xs) (value_of_word (kind_code p.kind) v s.0) (values_back ps vs s.1 (omega arith))

-- a call has as many argument words as the table says
arguments_count : (c : Request) → length (argument_words (parameters_of (call_number c)) (arguments_of c)) ≡ arity (call_number c)
arguments_count c = grind arith

-- and its frame has a head, these and the data words
pub encode_length : (c : Request) → length (encode c) ≡ (1 + arity (call_number c)) + length (data_in c)
encode_length c = grind (arith, common_steps, nat_tests)

module _ (c : Request) (p : Passes c) where
  words : List ℕ
  words = argument_words (parameters_of (call_number c)) (arguments_of c) ++ data_in c

  word_count : length words ≡ arity (call_number c) + length (data_in c)
  unfolding words
  word_count = grind (arith, common_steps, nat_tests)

  short : arity (call_number c) + length (data_in c) < 2 ^ 16
  short = grind (arith, common_steps, nat_tests)

  small : Small (arguments_of c)
  small = all_small c (in_range c p)

  inside : Within (parameters_of (call_number c)) (arguments_of c)
  inside = grind (arith, common_steps, nat_tests)

  head : ℕ
  head = head_of (call_number c) (arity (call_number c) + length (data_in c))

  head_number : number_in head ≡ call_number c
  unfolding head
  head_number = grind (arith, common_steps, nat_tests)

  head_count : count_in head ≡ length words
  unfolding head
  head_count = count_of_head (call_number c) _ (regular c).high short ∙ sym word_count

  named : is_head head ≡ true
  unfolding head
  named = grind (arith, common_steps, nat_tests)

  counted : is_counted head (length words) ≡ true
  counted =
      let n : arity (call_number c) ≤ length words = omega (arith, word_count) in
      let m : length words - arity (call_number c) ≡ length (data_in c) = omega (arith, word_count) in
      and_from _ _ (eq-eqb _ _ head_count)
      (ap (λ (k : ℕ). takes (arity k) (data_of k) (length words)) head_number
      ∙ and_from _ _ (le-leb _ _ n) (ap (takes_data (data_of (call_number c))) m ∙ p.counted))

  headed : call_in (head ∷ words) ≡ Ok (call_number c)
  headed =
      let n : length (head ∷ words) - 1 ≡ length words = omega arith in
      let a : (ltb 0 (length (head ∷ words)) && is_head head) ≡ true = and_from _ _ (lt-ltb 0 (length (head ∷ words)) (omega arith)) named in
      let b : is_counted head (length (head ∷ words) - 1) ≡ true = ap (is_counted head) n ∙ counted in
      ap₂ (λ (x y : Bool). cond x (cond y (Ok (number_in head)) (Err (blame WrongCount 0))) (Err (blame NotACall 0))) a b
      ∙ ap Ok head_number

  faultless : argument_fault 1 (parameters_of (call_number c)) words ≡ None
  unfolding words
  faultless = no_argument_fault 1 (parameters_of (call_number c)) (arguments_of c) (data_in c) small inside (regular c).same

  asked : request_in (call_number c) words ≡ c
  unfolding words
  asked = let m = made_again c inside in grind arith

  spells : spelled (head ∷ words) ≡ Ok c
  spells =
      ap (λ (r : Result ℕ FrameFault). bind r (λ n. unless (argument_fault 1 (parameters_of n) words) (request_in n words))) headed
      ∙ ap₂ (λ (o : Option FrameFault) (q : Request). unless o q) faultless asked

  whole : (room : ℕ) → reply_words c ≤ room → decode (head ∷ words) room ≡ Ok c
  whole room fits =
      ap (λ (r : Result Request FrameFault). bind r (λ q. unless (or_else (past_end q) (past_room q room)) q)) spells
      ∙ ap₂ (λ (o : Option FrameFault) (b : Bool). unless (or_else o (deny_unless b (blame OutOfRange 3))) c) p.ended (le-leb (reply_words c) room fits)

  pub decodes : (room : ℕ) → reply_words c ≤ room → decode (encode c) room ≡ Ok c
  unfolding head words
  decodes room fits = whole room fits

pub reads_back : (c : Request) (room : ℕ) → InRange c → reply_words c ≤ room → decode (encode c) room ≡ Ok c
reads_back c room r fits = decodes c (passes c r) room fits
