-- Exchange: neighbouring calls of processes with incomparable labels may change places. Assumes nothing.
use Rattle.std.specs.Prelude.{◌≡◌, ℕ, zero, suc, Bool, true, false, List, [], ◌∷◌, Some, None, Option}
use Rattle.labels.specs.declared.label.Label.{Label}
use Rattle.labels.specs.Labels.{Orders, incomparable}
use Rattle.rules.specs.Setup.{Setup, opened, process_label, Beginning, Granted, set_up}
use Rattle.rules.specs.Responses.{RawCall}
use Rattle.rules.specs.Histories.{responses, after_all}

-- both labels are there, and neither is below the other
abbrev pub both_incomparable : Orders → Option Label → Option Label → Bool
both_incomparable o None m = false
both_incomparable o (Some l) None = false
both_incomparable o (Some l) (Some m) = incomparable o l m

-- the calls at n and n + 1 of a list are of processes with incomparable labels
abbrev pub IncomparableAt : Setup → ℕ → List RawCall → Type 0
IncomparableAt s n [] = ⊥
IncomparableAt s zero (c ∷ []) = ⊥
IncomparableAt s zero (c ∷ c' ∷ cs) =
    both_incomparable s.orders (process_label s c.process) (process_label s c'.process) ≡ true
IncomparableAt s (suc n) (c ∷ cs) = IncomparableAt s n cs

-- the list with its elements at n and n + 1 in each other's place
abbrev pub swap_at {ℓ} : {A : Type ℓ} → ℕ → List A → List A
swap_at n [] = []
swap_at zero (x ∷ []) = x ∷ []
swap_at zero (x ∷ y ∷ zs) = y ∷ x ∷ zs
swap_at (suc n) (x ∷ xs) = x ∷ swap_at n xs

-- where two such neighbours change places, every call keeps its reply and words, and the store ends the same
abbrev pub Exchanged : Setup → Type 0
Exchanged s =
    (cs : List RawCall) (n : ℕ) → IncomparableAt s n cs →
    (responses s (opened s) (swap_at n cs) ≡ swap_at n (responses s (opened s) cs))
    × (after_all s (opened s) (swap_at n cs) ≡ after_all s (opened s) cs)

-- this holds of every setup
abbrev pub Exchange : Type 0
Exchange = (b : Beginning) → Granted b → Exchanged (set_up b)
