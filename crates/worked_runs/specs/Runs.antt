-- What a worked run is: how it begins, what each admission is answered, and each call with its response. Assumes nothing.
-- What is expected is spelled out in numbers, so that it shares no definition with what is computed.
use Rattle.std.specs.Prelude.{◌≡◌, ℕ, List, [], ◌∷◌, map, Ok, Err, Result}
use Rattle.labels.specs.declared.label.Label.{Label}
use Rattle.labels.specs.Orders.{Order}
use Rattle.rules.specs.Denials.{StoreFault}
use Rattle.rules.specs.Denials.{denial_number, store_layer}
use Rattle.rules.specs.Setup.{Setup, test_root, format, admission, admitted_by, opened, Beginning, set_up}
use Rattle.rules.specs.Responses.{RawCall, Response}
use Rattle.rules.specs.Histories.{responses}

-- a process number, or the number, layer and place of a denial
pub data Told : Type 0 where
  process : (number : ℕ) → Told
  refused : (number layer place : ℕ) → Told

-- a label that asks for admission, and what it is told
pub record Admission : Type 0 where
  pub label : Label
  pub answer : Told

-- a call, and its response
pub record Step : Type 0 where
  pub call : RawCall
  pub response : Response

pub record Run : Type 0 where
  pub security : Order ℕ
  pub integrity : Order ℕ
  pub root : Label
  pub pages : ℕ
  pub admissions : List Admission
  pub steps : List Step

-- How runs are written down

abbrev pub label : ℕ → ℕ → Label
label security integrity = record { security = security; integrity = integrity }

abbrev pub asks : ℕ → ℕ → Told → Admission
asks security integrity answer = record { label = label security integrity; answer = answer }

-- a process, the length of its reply buffer, the frame, and the response
abbrev pub step : ℕ → ℕ → List ℕ → Response → Step
step p room frame response = record { call = record { process = p; frame = frame; room = room }; response = response }

-- granted, with four values
abbrev pub gets : ℕ → ℕ → ℕ → ℕ → Response
gets a b c d = record { reply = record { answer = 0; layer = 0; place = 0; values = a ∷ b ∷ c ∷ d ∷ [] }; words = [] }

-- granted, with so many words
abbrev pub reads : ℕ → List ℕ → Response
reads n words = record { reply = record { answer = 0; layer = 0; place = 0; values = n ∷ 0 ∷ 0 ∷ 0 ∷ [] }; words = words }

-- denied, with number, layer and place
abbrev pub denied : ℕ → ℕ → ℕ → Response
denied n layer place = record { reply = record { answer = n; layer = layer; place = place; values = 0 ∷ 0 ∷ 0 ∷ 0 ∷ [] }; words = [] }

-- What is claimed of a run

abbrev pub beginning : Run → Beginning
beginning r = record {
  orders = record { security = r.security; integrity = r.integrity };
  root = r.root;
  pages = r.pages;
  asked = map (λ a. a.label) r.admissions;
}

-- an answer of setup in numbers
abbrev pub told : {A : Type 0} → (A → ℕ) → Result A StoreFault → Told
told number (Ok x) = process (number x)
told number (Err f) = refused (denial_number f.reason) (store_layer f) f.place

-- what admission answers these labels, one after the other
abbrev pub admission_answers : Setup → List Label → List Told
admission_answers s [] = []
admission_answers s (l ∷ ls) = told (λ p. p) (admission s l) ∷ admission_answers (admitted_by s l (admission s l)) ls

-- the root label passes its test, and admissions and calls are answered as written
pub record Answered (r : Run) : Type 0 where
  pub tested : test_root (beginning r).orders r.root ≡ Ok r.root
  pub admissions : admission_answers (format (beginning r).orders r.root r.pages) (beginning r).asked ≡ map (λ a. a.answer) r.admissions
  pub responses : responses (set_up (beginning r)) (opened (set_up (beginning r))) (map (λ x. x.call) r.steps) ≡ map (λ x. x.response) r.steps
