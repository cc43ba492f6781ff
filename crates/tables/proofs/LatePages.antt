-- No object has a page past the sixteenth.
use Rattle.std.proofs.Common.{◌≡◌, ℕ, zero, suc, ◌≤◌, List, [], ◌∷◌, vec_items, None, refl, arith}
use Rattle.std.proofs.lemmas.List.{get_or_past}
use Rattle.tables.specs.declared.object.Object.{Object}
use Rattle.tables.specs.declared.table.Table.{Table}
use Rattle.tables.specs.Objects.{view, look}

none_late : (os : List Object) (i k : ℕ) → 16 ≤ k → (view os i).page k ≡ None
none_late [] i k h = refl
none_late (o ∷ os) zero k h = let full = o.pages.full in get_or_past o.pages.at.items k None (omega arith)
none_late (o ∷ os) (suc i) k h = none_late os i k h

pub short : (t : Table) (i k : ℕ) → 16 ≤ k → (look t i).page k ≡ None
short t i k h = none_late (vec_items t.objects) i k h
