-- The numbers before `known` are forgotten where they mean a marked object, and the others are as they were.
use Rattle.std.proofs.Common.{◌≡◌, ◌++◌, map, take, drop}
use Rattle.tables.specs.Forgotten.{forgotten}
use Rattle.tables.proofs.known_table.KnownTable.forget.Given as goal

abbrev pub invariant-loop-known : goal.invariant-loop-known
invariant-loop-known l =
    let before = l.fn.self.at.items in
    l.known-items ≡ map (forgotten l.marks) (take l.known-index before) ++ drop l.known-index before
