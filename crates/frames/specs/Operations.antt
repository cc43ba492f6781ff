-- The eleven calls and their numbers. Assumes nothing.
use Rattle.std.specs.Prelude.{ℕ, cond, ◌&&◌, Ok, Err, Result, nat_le}
use Rattle.frames.specs.declared.fault.Flaw.{Flaw}
use Rattle.frames.specs.declared.operation.Operation.{Operation}
use Rattle.frames.specs.declared.operation.Operation.TheVariants.{CreateSegment, CreateDirectory, MakeKnown, Terminate, Read, Write, Truncate, Delete, MoveQuota, Status, Quota}

-- the number of each call
abbrev pub operation_number : Operation → ℕ
operation_number CreateSegment = 1
operation_number CreateDirectory = 2
operation_number MakeKnown = 3
operation_number Terminate = 4
operation_number Read = 5
operation_number Write = 6
operation_number Truncate = 7
operation_number Delete = 8
operation_number MoveQuota = 9
operation_number Status = 10
operation_number Quota = 11

-- a number from 1 to the last of its sort, or the flaw of any other
abbrev pub numbered : ℕ → Flaw → ℕ → Result ℕ Flaw
numbered last flaw n = cond (nat_le 1 n && nat_le n last) (Ok n) (Err flaw)
