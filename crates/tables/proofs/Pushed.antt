-- The nodes of a table that is being made.
use Rattle.std.proofs.Common.{◌≡◌, ℕ, zero, suc, Bool, cond, List, [], ◌∷◌, ◌++◌, sym, refl, ap, ◌∙◌, arith, ne_eqb}
use mathlib.Core.Path.{fun_ext}
use Rattle.forest.specs.Nodes.{Body, nowhere, with_body}
use Rattle.tables.specs.declared.object.Object.{Object}
use Rattle.tables.specs.Objects.{node_of, view, root_alone}

-- the first object
pub view_root : (b : Body) (xs os : List Object) (o : Object) → xs ≡ [] → os ≡ xs ++ o ∷ [] → node_of o ≡ with_body nowhere b → view os ≡ root_alone b
view_root b xs os o none is q = ap view (is ∙ ap (λ (l : List Object). l ++ o ∷ []) none) ∙ fun_ext go
  where
    go : (k : ℕ) → view (o ∷ []) k ≡ root_alone b k
    go zero = q
    go (suc k) = sym (ap (λ (t : Bool). cond t (with_body nowhere b) nowhere) (ne_eqb (suc k) 0 (λ e. omega arith)))

-- one object more, which is not in use
pub view_more : (xs os : List Object) (o : Object) → os ≡ xs ++ o ∷ [] → node_of o ≡ nowhere → view os ≡ view xs
view_more xs os o is q = ap view is ∙ fun_ext (go xs)
  where
    go : (l : List Object) (k : ℕ) → view (l ++ o ∷ []) k ≡ view l k
    go [] zero = q
    go [] (suc k) = refl
    go (x ∷ l) zero = refl
    go (x ∷ l) (suc k) = go l k
