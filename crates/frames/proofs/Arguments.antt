-- The arguments of a call that is written: their words, and the test of their values, one after the other. Assumes nothing.
use Rattle.std.proofs.Common.{◌≡◌, ℕ, zero, suc, ◌+◌, ◌<◌, ◌≤◌, ◌++◌, Bool, not, List, [], ◌∷◌, length, get_or, drop, None, sym, refl, ap, ◌∙◌, ap₂, arith, ◌⊎◌, inl, inr, set}
use Rattle.std.proofs.lemmas.Grind.{common_steps}
use Rattle.std.proofs.lemmas.Bool.Decides.{nat_tests}
use Rattle.std.proofs.lemmas.Iterator.Adapters.{position_from-zero}
use Rattle.std.specs.Option.{option_map}
use Rattle.std.specs.List.{position_from, position, zip}
use Rattle.frames.specs.declared.fault.Flaw.TheVariants.{OutOfRange}
use Rattle.frames.specs.declared.table.Parameter.{Parameter}
use Rattle.frames.specs.declared.operation.Operation.{Operation}
use Rattle.frames.specs.Operations.{operation_number}
use Rattle.frames.specs.Words.{word_of, head_of}
use Rattle.frames.specs.Faults.{blame}
use Rattle.frames.specs.Table.{kind_code, within, parameters_of, arity}
use Rattle.frames.specs.Decode.{or_else, deny_unless}
use Rattle.frames.specs.Encode.{argument_words, frame_of, value_fault, put}
use Rattle.frames.proofs.Buffers.{put_none, filled}

-- a word for each parameter that has a value
pub arguments_length : (ps : List Parameter) (vs : List ℕ) → length ps ≤ length vs → length (argument_words ps vs) ≡ length ps
arguments_length [] vs l = refl
arguments_length (p ∷ ps) [] l = let z : ⊥ = omega arith in absurd z
arguments_length (p ∷ ps) (v ∷ vs) l = ap suc (arguments_length ps vs (omega arith))

-- the word of one argument
pub argument_at : (ps : List Parameter) (vs : List ℕ) (i : ℕ) (d : Parameter) → i < length ps → i < length vs → word_of (kind_code (get_or ps i d).kind) (get_or vs i 0) ≡ get_or (argument_words ps vs) i 0
argument_at [] vs i d h k = let z : ⊥ = omega arith in absurd z
argument_at (p ∷ ps) [] i d h k = let z : ⊥ = omega arith in absurd z
argument_at (p ∷ ps) (v ∷ vs) zero d h k = refl
argument_at (p ∷ ps) (v ∷ vs) (suc i) d h k = argument_at ps vs i d (omega arith) (omega arith)

-- where no argument is left
pub none_put : (k : ℕ) (ps : List Parameter) (vs buffer : List ℕ) → (length ps ≡ 0) ⊎ (length vs ≡ 0) → put k (argument_words ps vs) buffer ≡ buffer
none_put k [] vs buffer e = put_none k buffer
none_put k (p ∷ ps) [] buffer e = put_none k buffer
none_put k (p ∷ ps) (v ∷ vs) buffer (inl e) = let z : ⊥ = omega arith in absurd z
none_put k (p ∷ ps) (v ∷ vs) buffer (inr e) = let z : ⊥ = omega arith in absurd z

few_arguments : (o : Operation) → arity (operation_number o) ≤ 5
few_arguments o = grind arith

-- head, arguments and data words, put one behind the other
pub frame_put : (o : Operation) (ps : List Parameter) (vs ws buffer argued all : List ℕ) (h : ℕ) → length vs ≡ 5 → ps ≡ parameters_of (operation_number o) → (1 + arity (operation_number o)) + length ws ≤ length buffer → h ≡ head_of (operation_number o) (length ps + length ws) → argued ≡ put 1 (argument_words (parameters_of (operation_number o)) vs) (set buffer 0 h) → all ≡ put (1 + length ps) ws argued → all ≡ put 0 (frame_of (operation_number o) (parameters_of (operation_number o)) vs ws) buffer
frame_put o ps vs ws buffer argued all h five shaped room head arguments words =
    let k = few_arguments o in
    let n = arguments_length (parameters_of (operation_number o)) vs (omega arith) in
    words
    ∙ ap₂ (λ (qs : List Parameter) (b : List ℕ). put (1 + length qs) ws b) shaped arguments
    ∙ filled h (arity (operation_number o)) (argument_words (parameters_of (operation_number o)) vs) ws buffer n room
    ∙ ap (λ (x : ℕ). put 0 (x ∷ (argument_words (parameters_of (operation_number o)) vs ++ ws)) buffer) (head ∙ ap (λ (qs : List Parameter). head_of (operation_number o) (length qs + length ws)) shaped)

-- a value out of its parameter's bounds
abbrev pub outside : Parameter × ℕ → Bool
outside x = not (within x.0 x.1)

fault_from : (n : ℕ) (ps : List Parameter) (vs : List ℕ) → option_map (λ i. blame OutOfRange (1 + i)) (position_from outside n (zip ps vs)) ≡ value_fault (1 + n) ps vs
fault_from n [] vs = refl
fault_from n (p ∷ ps) [] = refl
fault_from n (p ∷ ps) (v ∷ vs) =
    let r = fault_from (n + 1) ps vs in grind (arith, common_steps, nat_tests)

-- the fault of the values is that of the first outside
pub fault_at : (ps : List Parameter) (vs : List ℕ) → value_fault 1 ps vs ≡ option_map (λ i. blame OutOfRange (1 + i)) (position outside (zip ps vs))
fault_at ps vs =
    sym (fault_from 0 ps vs) ∙ ap (option_map (λ i. blame OutOfRange (1 + i))) (sym (position_from-zero outside (zip ps vs)))

-- one value more, with what the test answered
pub value_more : (ps : List Parameter) (vs : List ℕ) (i : ℕ) (d : Parameter) (b : Bool) → i < length ps → i < length vs → b ≡ within (get_or ps i d) (get_or vs i 0) → value_fault (1 + i) (drop i ps) (drop i vs) ≡ or_else (deny_unless b (blame OutOfRange (1 + i))) (value_fault (1 + (i + 1)) (drop (i + 1) ps) (drop (i + 1) vs))
value_more ps vs i d b h k e = grind (arith, common_steps, nat_tests)

-- at the end no value is left
pub values_done : (i : ℕ) (ps : List Parameter) (vs : List ℕ) → i ≡ length ps → value_fault (1 + i) (drop i ps) vs ≡ None
values_done i ps vs e = grind (arith, common_steps, nat_tests)
