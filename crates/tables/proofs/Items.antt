-- The items of a list, and sixteen values, as a function of the index.
use Rattle.std.proofs.Common.{◌≡◌, ℕ, ◌<◌, Bool, true, false, cond, eqb, List, length, get_or, set, refl, ap, ◌∙◌, eqb-true, arith}
use mathlib.Core.Path.{fun_ext}
use borrow.Author.Tests.{eqb-false}
use Rattle.std.proofs.lemmas.List.{get_or-set_same, get_or-set_other}
use Rattle.rules.specs.Indexed.{assign}
use Rattle.tables.specs.declared.sixteen.Sixteen.{Sixteen}
use Rattle.tables.specs.Sixteens.{value_at, with_value}

pub items_set : {X : Type 0} (xs : List X) (i : ℕ) (v d : X) → i < length xs → (λ k. get_or (set xs i v) k d) ≡ assign (λ k. get_or xs k d) i v
items_set {X} xs i v d h = fun_ext (λ k. go k (eqb k i) refl)
  where
    go : (k : ℕ) (t : Bool) → eqb k i ≡ t → get_or (set xs i v) k d ≡ cond t v (get_or xs k d)
    go k true q = ap (λ (n : ℕ). get_or (set xs i v) n d) (eqb-true k i q) ∙ get_or-set_same xs i v d h
    go k false q = get_or-set_other xs i k v d (eqb-false k i q)

pub value_changed : {T : Type 0} (t : Sixteen T) (n : ℕ) (v d : T) → n < 16 → value_at (with_value t n v) d ≡ assign (value_at t d) n v
value_changed t n v d h = let full = t.full in items_set t.at.items n v d (omega arith)
