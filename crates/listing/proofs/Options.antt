-- What is known where an optional value is there. Assumes nothing.
use Rattle.std.proofs.Common.{◌≡◌, Bool, true, false, cond, Some, None, Option, option_and_then, refl}
use Rattle.std.proofs.lemmas.Option.{none-some}

pub both_are_there : {X Y : Type 0} (o : Option X) (f : X → Option Y) (y : Y) → option_and_then f o ≡ Some y → (x : X) × (o ≡ Some x) × (f x ≡ Some y)
both_are_there None f y e = absurd (none-some y e)
both_are_there (Some x) f y e = (x, refl, e)

pub test_was_true : {X : Type 0} (b : Bool) (o : Option X) (x : X) → cond b o None ≡ Some x → (b ≡ true) × (o ≡ Some x)
test_was_true true o x e = (refl, e)
test_was_true false o x e = absurd (none-some x e)
