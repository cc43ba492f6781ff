-- Calls made of their parts, and taken apart again. Assumes nothing.
use Rattle.std.proofs.lemmas.Grind.{common_steps}
use Rattle.std.proofs.lemmas.Bool.Decides.{nat_tests}
use Rattle.std.proofs.Common.{◌≡◌, ℕ, zero, suc, ◌^◌, ◌<◌, ◌≤◌, true, List, [], ◌∷◌, map, length, get_or, refl, ap, arith}
use Rattle.std.proofs.lemmas.Nat.{mod_below}
use Rattle.frames.specs.Words.{value_of}
use Rattle.frames.specs.Table.{parameters_of, arity, data_of, takes_data}
use Rattle.frames.specs.Requests.{Request, call_number, arguments_of, data_in}
use Rattle.frames.specs.Decode.{request_of}
use Rattle.frames.proofs.Numbers.{each_call}
use Rattle.frames.proofs.Words.{unsigned_signed}
use Rattle.frames.proofs.Ranges.{Within}

-- the first n values of a function
abbrev pub listed : ℕ → (ℕ → ℕ) → List ℕ
listed zero v = []
listed (suc n) v = v 0 ∷ listed n (λ i. v (suc i))

pub listed_again : (n : ℕ) (vs : List ℕ) → length vs ≡ n → listed n (λ i. get_or vs i 0) ≡ vs
listed_again zero [] e = refl
listed_again zero (v ∷ vs) e = let z : ⊥ = omega arith in absurd z
listed_again (suc n) [] e = let z : ⊥ = omega arith in absurd z
listed_again (suc n) (v ∷ vs) e = ap (λ (xs : List ℕ). v ∷ xs) (listed_again n vs (omega arith))

-- a value has 28 bits
pub value_small : (ws : List ℕ) (i : ℕ) → get_or (map value_of ws) i 0 < 2 ^ 28
value_small [] i = omega arith
value_small (w ∷ ws) zero = mod_below w (2 ^ 28) (omega arith)
value_small (w ∷ ws) (suc i) = value_small ws i

no_data : (ds : List ℕ) → takes_data 0 (length ds) ≡ true → [] ≡ ds
no_data ds t = grind (arith, common_steps, nat_tests)

-- a call that is made of a number, values and data words has these
module _ (v : ℕ → ℕ) (ds : List ℕ) (small : v 2 < 2 ^ 28) where
  Made : ℕ → Type 0
  Made n = takes_data (data_of n) (length ds) ≡ true → (call_number (request_of n v ds) ≡ n) × (arguments_of (request_of n v ds) ≡ listed (arity n) v) × (data_in (request_of n v ds) ≡ ds)

  each_made : (n : ℕ) → 1 ≤ n → n ≤ 11 → Made n
  unfolding Made
  each_made =
      each_call Made
      (λ t. (refl, refl, no_data ds t))
      (λ t. (refl, refl, no_data ds t))
      (λ t. (refl, refl, no_data ds t))
      (λ t. (refl, refl, no_data ds t))
      (λ t. (refl, refl, no_data ds t))
      (λ t. (refl, refl, refl))
      (λ t. (refl, refl, no_data ds t))
      (λ t. (refl, refl, no_data ds t))
      (λ t. (refl, ap (λ (x : ℕ). v 0 ∷ v 1 ∷ x ∷ []) (unsigned_signed (v 2) small), no_data ds t))
      (λ t. (refl, refl, no_data ds t))
      (λ t. (refl, refl, no_data ds t))

  pub parts_are : (n : ℕ) → 1 ≤ n → n ≤ 11 → takes_data (data_of n) (length ds) ≡ true → (call_number (request_of n v ds) ≡ n) × (arguments_of (request_of n v ds) ≡ listed (arity n) v) × (data_in (request_of n v ds) ≡ ds)
  unfolding Made
  parts_are = each_made

-- and the parts of a call make it again, where its amount is one that 28 bits hold
pub made_again : (c : Request) → Within (parameters_of (call_number c)) (arguments_of c) → request_of (call_number c) (λ i. get_or (arguments_of c) i 0) (data_in c) ≡ c
made_again c w = grind arith
