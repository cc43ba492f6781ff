-- The nodes of objects that one closure makes.
use Rattle.std.proofs.Common.{◌≡◌, ℕ, zero, suc, List, [], ◌∷◌, refl}
use Rattle.std.specs.List.{FoldsTo}
use Rattle.forest.specs.Nodes.{nowhere}
use Rattle.tables.specs.declared.object.Object.{Object}
use Rattle.tables.specs.Objects.{node_of, view}

-- where no object is in use, none shows
pub none_shown : {F : Type 0} (step : F → Object → F → Type 0) → ((f g : F) (o : Object) → step f o g → node_of o ≡ nowhere) → (os : List Object) (f g : F) → FoldsTo step f os g → (k : ℕ) → view os k ≡ nowhere
none_shown step bare [] f g s k = refl
none_shown step bare (o ∷ os) f g s zero = bare f s.0 o s.1
none_shown step bare (o ∷ os) f g s (suc k) = none_shown step bare os s.0 g s.2 k
