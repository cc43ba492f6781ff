-- The denials of the store: their numbers, their layer and their place. Assumes nothing.
use Rattle.std.specs.Prelude.{ℕ}
use Rattle.frames.specs.declared.fault.Fault.{Fault}
use Rattle.rules.specs.declared.denial.Denial.{Denial}
use Rattle.rules.specs.declared.denial.Denial.TheVariants.{NumberFree, NumberGone, WrongSort, OtherLabel, WrongPlace, WrongLabel, NumberTaken, WrongGrant, TooFewLeft, ProcessesFull}

-- a denied call, root label or admission
abbrev pub StoreFault : Type 0
StoreFault = Fault Denial

-- the number of each denial
abbrev pub denial_number : Denial → ℕ
denial_number NumberFree = 6
denial_number NumberGone = 7
denial_number WrongSort = 8
denial_number OtherLabel = 9
denial_number WrongPlace = 10
denial_number WrongLabel = 11
denial_number NumberTaken = 12
denial_number WrongGrant = 13
denial_number TooFewLeft = 14
denial_number ProcessesFull = 15

-- all of them are of layer 2, the store
abbrev pub denial_layer : ℕ
denial_layer = 2

abbrev pub store_layer : StoreFault → ℕ
store_layer f = denial_layer

-- a denial, and the index of the frame's word to blame
abbrev pub fault : Denial → ℕ → StoreFault
fault d k = record { reason = d; place = k }
