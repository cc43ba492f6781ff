-- What testing, formatting and admission let pass.
use Rattle.std.proofs.Common.{◌≡◌, ℕ, Bool, true, false, cond, ◌&&◌, leb, List, [], ◌∷◌, ◌++◌, length, Ok, Err, Result, refl, ◌∙◌, arith}
use Rattle.labels.specs.declared.label.Label.{Label}
use Rattle.rules.specs.declared.denial.Denial.TheVariants.{WrongLabel, ProcessesFull}
use Rattle.rules.specs.Denials.{StoreFault, fault}
use Rattle.labels.specs.Labels.{Orders, LawfulOrders, valid, below}
use Rattle.rules.specs.Setup.{Setup, test_root, format, admission, admitted_by, after_admissions, Beginning, Granted, set_up}
use Rattle.rules.proofs.Choices.{and_right, by_cases}

-- the root's label is below each of these
abbrev pub AllAbove : Orders → Label → List Label → Type 0
AllAbove o r [] = Unit {0}
AllAbove o r (m ∷ ms) = (below o r m ≡ true) × AllAbove o r ms

-- what testing and admission make sure of, over lawful orders: the root's label is valid, and below that of each process
pub record Tested (s : Setup) : Type 0 where
  pub lawful : LawfulOrders s.orders
  pub root : valid s.orders s.root ≡ true
  pub processes : AllAbove s.orders s.root s.admitted

above_append : (o : Orders) (r : Label) (ms : List Label) (l : Label) → AllAbove o r ms → below o r l ≡ true → AllAbove o r (ms ++ (l ∷ []))
above_append o r [] l h k = (k, tt)
above_append o r (m ∷ ms) l h k = (h.0, above_append o r ms l h.1 k)

tested_admission : (s : Setup) (l : Label) → Tested s → Tested (admitted_by s l (admission s l))
tested_admission s l ts =
    by_cases (λ d. Tested (admitted_by s l d)) (leb 8 (length s.admitted)) (Err (fault ProcessesFull 0)) _ (λ e. ts)
    (λ e. by_cases (λ d. Tested (admitted_by s l d)) (valid s.orders l && below s.orders s.root l) (Ok (length s.admitted)) (Err (fault WrongLabel 0))
    (λ h. record {
      lawful = ts.lawful;
      root = ts.root;
      processes = above_append s.orders s.root s.admitted l ts.processes (and_right (valid s.orders l) _ h);
    })
    (λ h. ts))

tested_admissions : (s : Setup) (ls : List Label) → Tested s → Tested (after_admissions s ls)
tested_admissions s [] ts = ts
tested_admissions s (l ∷ ls) ts = tested_admissions (admitted_by s l (admission s l)) ls (tested_admission s l ts)

records_admission : (s : Setup) (l : Label) (d : Result ℕ StoreFault) → (admitted_by s l d).records ≡ s.records
records_admission s l (Ok p) = refl
records_admission s l (Err f) = refl

pub records_kept : (s : Setup) (ls : List Label) → (after_admissions s ls).records ≡ s.records
records_kept s [] = refl
records_kept s (l ∷ ls) = records_kept (admitted_by s l (admission s l)) ls ∙ records_admission s l (admission s l)

root_valid : (o : Orders) (l : Label) → test_root o l ≡ Ok l → valid o l ≡ true
root_valid o l e = go (valid o l) e
  where
    go : (b : Bool) → ◌≡◌ {A = Result Label StoreFault} (cond b (Ok l) (Err (fault WrongLabel 0))) (Ok l) → b ≡ true
    go true e = refl
    go false e = let n : ◌≡◌ {A = ℕ} 0 1 = cc in let y : ⊥ = omega arith in absurd y

-- each setup that testing, formatting and admissions make
pub tested : (b : Beginning) → Granted b → Tested (set_up b)
tested b g =
    tested_admissions (format b.orders b.root b.pages) b.asked
    (record { lawful = g.lawful; root = root_valid b.orders b.root g.tested; processes = tt })
