-- What a call is answered, and the store after it, whatever is handed in. Assumes nothing.
use Rattle.std.specs.Prelude.{ℕ, List, [], Some, None, Ok, Err, Option, Result}
use Rattle.labels.specs.declared.label.Label.{Label}
use Rattle.frames.specs.declared.fault.Flaw.TheVariants.{NotAdmitted}
use Rattle.frames.specs.Faults.{FrameFault}
use Rattle.frames.specs.Faults.{flaw_number, frame_layer, blame}
use Rattle.frames.specs.Requests.{Request}
use Rattle.frames.specs.Decode.{decode}
use Rattle.rules.specs.Denials.{denial_number, store_layer}
use Rattle.rules.specs.Tree.{Path}
use Rattle.rules.specs.KnownNumbers.{Known, free, means, gone}
use Rattle.rules.specs.Changes.{Store, Effect, no_change, store_after}
use Rattle.rules.specs.Calls.{Verdict, values, subject, judge, settled, first_number}
use Rattle.rules.specs.Setup.{Setup, process_label}

-- a call as it is handed in: the process number that the machine sets, the frame, and the length of the reply buffer
pub record RawCall : Type 0 where
  pub process : ℕ
  pub frame : List ℕ
  pub room : ℕ

-- a reply: 0 or the number of the denial, its layer and place, and four values
pub record Reply : Type 0 where
  pub answer : ℕ
  pub layer : ℕ
  pub place : ℕ
  pub values : List ℕ

-- the reply, and the words that the call puts into the start of its reply buffer
pub record Response : Type 0 where
  pub reply : Reply
  pub words : List ℕ

-- a granted call: its values and words
abbrev pub grants : List ℕ → List ℕ → Response
grants vs ws = record { reply = record { answer = 0; layer = 0; place = 0; values = vs }; words = ws }

-- a denial has four zero values and no words
abbrev pub denies : ℕ → ℕ → ℕ → Response
denies n layer place = record { reply = record { answer = n; layer = layer; place = place; values = values 0 0 0 0 }; words = [] }

-- the response to a frame that is at fault
abbrev pub denies_frame : FrameFault → Response
denies_frame f = denies (flaw_number f.reason) (frame_layer f) f.place

-- the response to a call that is judged
abbrev pub judged : Verdict → Response
judged (Err f) = denies (denial_number f.reason) (store_layer f) f.place
judged (Ok y) = grants y.values y.words

-- what a judged call does
abbrev pub effect_of : Verdict → Effect
effect_of (Err f) = no_change
effect_of (Ok y) = y.effect

-- the path that a known number means
abbrev pub path_of : Known → Path
path_of free = []
path_of gone = []
path_of (means q) = q

-- what a decoded call of the process p with the label me comes to
abbrev pub verdict : Setup → Store → Label → ℕ → Request → Verdict
verdict s w me p r =
    settled (judge s.orders me (w.numbers p) (subject s.root (w.numbers p (first_number r)) w.tree) r)

-- first the process must be admitted, then the frame decoded, then the call judged
abbrev pub response_to : Setup → Store → Option Label → ℕ → Result Request FrameFault → Response
response_to s w None p d = denies_frame (blame NotAdmitted 0)
response_to s w (Some me) p (Err f) = denies_frame f
response_to s w (Some me) p (Ok r) = judged (verdict s w me p r)

-- a call that is not admitted or not decoded changes nothing
abbrev pub left_by : Setup → Store → Option Label → ℕ → Result Request FrameFault → Store
left_by s w None p d = w
left_by s w (Some me) p (Err f) = w
left_by s w (Some me) p (Ok r) =
    store_after p (path_of (w.numbers p (first_number r))) (effect_of (verdict s w me p r)) w

-- what a call is answered
abbrev pub response : Setup → Store → RawCall → Response
response s w c = response_to s w (process_label s c.process) c.process (decode c.frame c.room)

-- the store after a call
abbrev pub after : Setup → Store → RawCall → Store
after s w c = left_by s w (process_label s c.process) c.process (decode c.frame c.room)
