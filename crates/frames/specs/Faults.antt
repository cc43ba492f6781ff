-- The denials of a frame: their numbers, their layer and their place. Assumes nothing.
use Rattle.std.specs.Prelude.{ℕ}
use Rattle.frames.specs.declared.fault.Fault.{Fault}
use Rattle.frames.specs.declared.fault.Flaw.{Flaw}
use Rattle.frames.specs.declared.fault.Flaw.TheVariants.{NotAdmitted, NotACall, WrongCount, WrongKind, OutOfRange}

-- a denied frame
abbrev pub FrameFault : Type 0
FrameFault = Fault Flaw

-- the number of each denial
abbrev pub flaw_number : Flaw → ℕ
flaw_number NotAdmitted = 1
flaw_number NotACall = 2
flaw_number WrongCount = 3
flaw_number WrongKind = 4
flaw_number OutOfRange = 5

-- all of them are of layer 1, the frame
abbrev pub flaw_layer : ℕ
flaw_layer = 1

abbrev pub frame_layer : FrameFault → ℕ
frame_layer f = flaw_layer

-- a flaw, and the index of the word to blame
abbrev pub blame : Flaw → ℕ → FrameFault
blame f p = record { reason = f; place = p }
