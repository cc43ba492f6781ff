-- Faults and results, taken apart. Assumes nothing.
use Rattle.std.proofs.lemmas.Grind.{common_steps}
use Rattle.std.proofs.lemmas.Bool.Decides.{nat_tests}
use Rattle.std.proofs.Common.{arith, ◌≡◌, ℕ, Bool, true, cond, Some, None, Ok, Err, Option, Result, refl}
use Rattle.frames.specs.Faults.{FrameFault}
use Rattle.frames.specs.Decode.{bind, unless, or_else, deny_unless, err_or}

-- zero is not one
pub never : {A : Type 0} → ◌≡◌ {A = ℕ} 0 1 → A
never e = cc

pub bind_ok : {A B : Type 0} (r : Result A FrameFault) (k : A → Result B FrameFault) (y : B) → bind r k ≡ Ok y → (x : A) × (r ≡ Ok x) × (k x ≡ Ok y)
bind_ok (Ok x) k y e = (x, refl, e)
bind_ok (Err f) k y e = cc

pub unless_ok : {A : Type 0} (o : Option FrameFault) (x y : A) → unless o x ≡ Ok y → (o ≡ None) × (x ≡ y)
unless_ok o x y e = grind (arith, common_steps, nat_tests)

-- what a test answers where it answers Ok
pub cond_ok : {A : Type 0} (b : Bool) (r : Result A FrameFault) (f : FrameFault) (x : A) → cond b r (Err f) ≡ Ok x → (b ≡ true) × (r ≡ Ok x)
cond_ok b r f x e = grind (arith, common_steps, nat_tests)

pub or_else_none : (a b : Option FrameFault) → or_else a b ≡ None → (a ≡ None) × (b ≡ None)
or_else_none a b e = grind (arith, common_steps, nat_tests)

pub err_or_none : (r : Result ℕ FrameFault) (o : Option FrameFault) → err_or r o ≡ None → (v : ℕ) × (r ≡ Ok v) × (o ≡ None)
err_or_none (Ok v) o e = (v, refl, e)
err_or_none (Err f) o e = cc

pub test_passed : (b : Bool) (f : FrameFault) → deny_unless b f ≡ None → b ≡ true
test_passed b f e = grind (arith, common_steps, nat_tests)

pub none_from_ok : (o : Option FrameFault) → Ok tt ≡ unless {A = Unit {0}} o tt → o ≡ None
none_from_ok o e = grind (arith, common_steps, nat_tests)

pub some_from_err : (o : Option FrameFault) (x : FrameFault) → Err x ≡ unless {A = Unit {0}} o tt → o ≡ Some x
some_from_err o x e = grind (arith, common_steps, nat_tests)
