-- Setup: testing the root label, formatting, admission and opening. Assumes nothing.
use Rattle.std.specs.Prelude.{◌≡◌, ℕ, zero, suc, min, cond, ◌&&◌, List, [], ◌∷◌, ◌++◌, length, Some, None, Ok, Err, Option, Result, nat_le}
use Rattle.labels.specs.declared.label.Label.{Label}
use Rattle.labels.specs.Labels.{Orders, LawfulOrders, valid, below}
use Rattle.rules.specs.declared.denial.Denial.TheVariants.{WrongLabel, ProcessesFull}
use Rattle.rules.specs.Denials.{StoreFault}
use Rattle.rules.specs.Denials.{fault}
use Rattle.rules.specs.Tree.{empty, directory}
use Rattle.rules.specs.KnownNumbers.{new_numbers}
use Rattle.rules.specs.Changes.{Store}

-- what opening leaves fixed: the two orders, the root's label, the number of records,
-- and the labels of the processes in order
pub record Setup : Type 0 where
  pub orders : Orders
  pub root : Label
  pub records : ℕ
  pub admitted : List Label

-- a root label is tested: it must be valid
abbrev pub test_root : Orders → Label → Result Label StoreFault
test_root o l = cond (valid o l) (Ok l) (Err (fault WrongLabel 0))

-- how many pages of a volume the store uses, and so how many records it has: 256 at most
abbrev pub used_pages : ℕ → ℕ
used_pages pages = min pages 256

-- formatting a volume of so many pages; nobody is admitted yet
abbrev pub format : Orders → Label → ℕ → Setup
format o root pages = record { orders = o; root = root; records = used_pages pages; admitted = [] }

-- admission: eight processes at most, and then a valid label that dominates the root's; the answer is the process number
abbrev pub admission : Setup → Label → Result ℕ StoreFault
admission s l =
    cond (nat_le 8 (length s.admitted)) (Err (fault ProcessesFull 0))
    (cond (valid s.orders l && below s.orders s.root l) (Ok (length s.admitted))
    (Err (fault WrongLabel 0)))

-- the setup with one more process
abbrev pub with_process : Setup → Label → Setup
with_process s l = record { orders = s.orders; root = s.root; records = s.records; admitted = s.admitted ++ (l ∷ []) }

-- the setup after an admission was answered: a denied one changes nothing
abbrev pub admitted_by : Setup → Label → Result ℕ StoreFault → Setup
admitted_by s l (Ok p) = with_process s l
admitted_by s l (Err f) = s

-- the setup after these labels asked for admission, one after the other
abbrev pub after_admissions : Setup → List Label → Setup
after_admissions s [] = s
after_admissions s (l ∷ ls) = after_admissions (admitted_by s l (admission s l)) ls

-- the store that opening leaves: the root alone with all records left, and each process's numbers new
abbrev pub opened : Setup → Store
opened s = record {
  tree = directory s.root (Some (record { granted = s.records; left = s.records })) (λ i. empty);
  numbers = λ p. new_numbers;
}

-- the p-th label of a list
abbrev pub nth : List Label → ℕ → Option Label
nth [] p = None
nth (l ∷ ls) zero = Some l
nth (l ∷ ls) (suc p) = nth ls p

-- the label of a process, if it is admitted
abbrev pub process_label : Setup → ℕ → Option Label
process_label s p = nth s.admitted p

-- Beginnings

-- how a history begins: two orders, a root label, the page count of a volume, and the labels that ask for admission
pub record Beginning : Type 0 where
  pub orders : Orders
  pub root : Label
  pub pages : ℕ
  pub asked : List Label

-- the orders keep their laws, and the root label passes its test
pub record Granted (b : Beginning) : Type 0 where
  pub lawful : LawfulOrders b.orders
  pub tested : test_root b.orders b.root ≡ Ok b.root

-- the setup that formatting and these admissions make
abbrev pub set_up : Beginning → Setup
set_up b = after_admissions (format b.orders b.root b.pages) b.asked
