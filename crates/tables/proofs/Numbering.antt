-- Sixteen values, told by the vector that they lie in; and numbers taken out one after the other.
use Rattle.std.proofs.Common.{◌≡◌, ℕ, ◌+◌, ◌<◌, ◌≤◌, List, length, get_or, set, None, Option, ◌∙◌, subst, arith}
use mathlib.Core.Path.{fun_ext}
use native.Mathlib.Nat.{ℕ_set}
use native.Mathlib.Decide.{dec_lt}
use Rattle.std.proofs.lemmas.List.{get_or-set_same, get_or-set_other, get_or_past}
use Rattle.arrayvec.specs.ArrayVec.{ArrayVec, array_vec_len}
use Rattle.tables.specs.declared.sixteen.Sixteen.{Sixteen}
use Rattle.tables.specs.Links.{link, no_links}

abbrev sixteen_over : {T : Type 0} (v : ArrayVec T) → array_vec_len v ≡ 16 → Sixteen T
sixteen_over v p = record { at = v; full = p }

-- they are told by their vector: a fact about numbers has one proof
pub sixteen_alike : {T : Type 0} (v : ArrayVec T) (p q : array_vec_len v ≡ 16) → sixteen_over v p ≡ sixteen_over v q
sixteen_alike v p q i = sixteen_over v (ℕ_set _ _ p q i)

-- one number more is taken out
pub clear_more : (xs : List (Option ℕ)) (e : ℕ) → e < length xs → ((x : ℕ) → x < e → get_or xs x None ≡ None) → (x : ℕ) → x < e + 1 → get_or (set xs e None) x None ≡ None
clear_more xs e h inv x lt = go (dec_lt x e)
  where
    go : Dec (x < e) → get_or (set xs e None) x None ≡ None
    go (yes l) = get_or-set_other xs e x None None (λ p. omega arith) ∙ inv x l
    go (no l) = let p : e ≡ x = omega arith in subst (λ (k : ℕ). get_or (set xs e None) k None ≡ None) p (get_or-set_same xs e None None h)

pub clear_all : (t : Sixteen (Option ℕ)) (e : ℕ) → 16 ≤ e → ((x : ℕ) → x < e → link t x ≡ None) → link t ≡ no_links
clear_all t e h inv = fun_ext (λ x. go x (dec_lt x e))
  where
    go : (x : ℕ) → Dec (x < e) → link t x ≡ None
    go x (yes l) = inv x l
    go x (no n) = let full = t.full in get_or_past t.at.items x None (omega arith)
