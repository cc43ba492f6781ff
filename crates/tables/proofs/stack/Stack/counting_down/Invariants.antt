-- The numbers from `number` on are pushed, the largest first.
use Rattle.std.proofs.Common.{◌≡◌, ◌+◌, ◌≤◌, vec_items, vec_len}
use Rattle.tables.proofs.Countdown.{Down}
use Rattle.tables.proofs.stack.Stack.counting_down.Given as goal

abbrev pub invariant-loop-number : goal.invariant-loop-number
invariant-loop-number l =
    (l.low ≤ l.number)
    × (vec_len l.at + l.number ≡ l.low + l.count)
    × Down l.low l.count (vec_items l.at) (vec_len l.at)
