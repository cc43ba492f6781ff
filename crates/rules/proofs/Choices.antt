-- Tests, and choices by them.
use Rattle.std.proofs.lemmas.Grind.{common_steps}
use Rattle.std.proofs.lemmas.Bool.Decides.{nat_tests}
use Rattle.std.proofs.Common.{arith, ◌≡◌, Bool, true, false, cond, ◌&&◌, sym, ◌∙◌, true≢false}

pub and_left : (a b : Bool) → (a && b) ≡ true → a ≡ true
and_left a1 a2 a3 = grind (arith, common_steps, nat_tests)

pub and_right : (a b : Bool) → (a && b) ≡ true → b ≡ true
and_right a1 a2 a3 = grind (arith, common_steps, nat_tests)

pub and_both : (a b : Bool) → a ≡ true → b ≡ true → (a && b) ≡ true
and_both a1 a2 a3 a4 = grind (arith, common_steps, nat_tests)

pub clash : (b : Bool) → b ≡ true → b ≡ false → ⊥
clash b h k = true≢false (sym h ∙ k)

-- of a choice by a test, from both sides
pub by_cases : {A : Type 0} (P : A → Type 0) (b : Bool) (x y : A) → (b ≡ true → P x) → (b ≡ false → P y) → P (cond b x y)
by_cases a1 a2 a3 a4 a5 a6 = grind (arith, common_steps, nat_tests)
