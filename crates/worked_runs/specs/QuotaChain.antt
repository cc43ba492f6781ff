-- An ancestor's cell pays, cells stand in cells, moves, and what a deletion counts. Assumes nothing.
use Rattle.std.specs.Prelude.{[], ◌∷◌}
use Rattle.labels.specs.PartOrders.{level_category, single}
use Rattle.worked_runs.specs.Runs.{Run, label, asks, process, step, gets, denied}

abbrev pub quota_chain : Run
quota_chain = record {
  security = level_category;
  integrity = single;
  root = label 0x0 0x0;
  pages = 40;
  admissions =
      asks 0x0 0x0 (process 0)
      ∷ asks 0x50020 0x0 (process 1)
      ∷ [];
  steps =
      -- A, no cell; root left 39
      step 0 0 (0x80020005 ∷ 0x10000000 ∷ 0x20000001 ∷ 0x50000000 ∷ 0x60000000 ∷ 0x30000000 ∷ []) (gets 1 0 0 0)
      ∷ step 0 0 (0x80030003 ∷ 0x10000000 ∷ 0x20000001 ∷ 0x10000001 ∷ []) (gets 2 1 0 0)
      -- B in A, no cell; root left 38
      ∷ step 0 0 (0x80020005 ∷ 0x10000001 ∷ 0x20000002 ∷ 0x50000000 ∷ 0x60000000 ∷ 0x30000000 ∷ []) (gets 1 0 0 0)
      ∷ step 0 0 (0x80030003 ∷ 0x10000001 ∷ 0x20000002 ∷ 0x10000002 ∷ []) (gets 2 1 0 0)
      -- C in B, granted 10; root left 27
      ∷ step 0 0 (0x80020005 ∷ 0x10000002 ∷ 0x20000003 ∷ 0x50000000 ∷ 0x60000000 ∷ 0x3000000A ∷ []) (gets 11 0 0 0)
      ∷ step 0 0 (0x80030003 ∷ 0x10000002 ∷ 0x20000003 ∷ 0x10000003 ∷ []) (gets 2 1 0 0)
      ∷ step 0 0 (0x80010002 ∷ 0x10000002 ∷ 0x2000000B ∷ []) (gets 1 0 0 0)
      ∷ step 0 0 (0x80030003 ∷ 0x10000002 ∷ 0x2000000B ∷ 0x1000000C ∷ []) (gets 1 1 0 0)
      -- pages 2 and 3, paid by the root's cell; root left 24
      ∷ step 0 0 (0x80060004 ∷ 0x1000000C ∷ 0x3000002F ∷ 0x000000AA ∷ 0x000000BB ∷ []) (gets 2 0 0 0)
      -- D in C, no cell; C left 9
      ∷ step 0 0 (0x80020005 ∷ 0x10000003 ∷ 0x20000004 ∷ 0x50000000 ∷ 0x60000000 ∷ 0x30000000 ∷ []) (gets 1 0 0 0)
      ∷ step 0 0 (0x80030003 ∷ 0x10000003 ∷ 0x20000004 ∷ 0x10000004 ∷ []) (gets 2 1 0 0)
      -- E in D, granted 4 by C's cell; C left 4
      ∷ step 0 0 (0x80020005 ∷ 0x10000004 ∷ 0x20000005 ∷ 0x50000000 ∷ 0x60000000 ∷ 0x30000004 ∷ []) (gets 5 0 0 0)
      ∷ step 0 0 (0x80030003 ∷ 0x10000004 ∷ 0x20000005 ∷ 0x10000005 ∷ []) (gets 2 1 0 0)
      -- B uses the root's cell
      ∷ step 0 0 (0x800B0001 ∷ 0x10000002 ∷ []) (gets 40 24 0 0)
      -- D uses C's
      ∷ step 0 0 (0x800B0001 ∷ 0x10000004 ∷ []) (gets 10 4 0 0)
      ∷ step 0 0 (0x800A0002 ∷ 0x10000002 ∷ 0x2000000B ∷ []) (gets 1 0 0 2)
      -- no cell: a grant of 0
      ∷ step 0 0 (0x800A0002 ∷ 0x10000003 ∷ 0x20000004 ∷ []) (gets 2 0 0 0)
      -- from the root's cell to C's; root left 18, C 16 and 10
      ∷ step 0 0 (0x80090003 ∷ 0x10000002 ∷ 0x20000003 ∷ 0x40000006 ∷ []) (gets 16 0 0 0)
      -- C has 10 left
      ∷ step 0 0 (0x80090003 ∷ 0x10000004 ∷ 0x20000005 ∷ 0x4000000B ∷ []) (denied 14 2 0)
      ∷ step 0 0 (0x80090003 ∷ 0x10000004 ∷ 0x20000005 ∷ 0x4000000A ∷ []) (gets 14 0 0 0)
      ∷ step 0 0 (0x800B0001 ∷ 0x10000003 ∷ []) (gets 16 0 0 0)
      ∷ step 0 0 (0x800B0001 ∷ 0x10000005 ∷ []) (gets 14 14 0 0)
      -- -13, down to a grant of 1; C left 13
      ∷ step 0 0 (0x80090003 ∷ 0x10000004 ∷ 0x20000005 ∷ 0x4FFFFFF3 ∷ []) (gets 1 0 0 0)
      ∷ step 0 0 (0x80090003 ∷ 0x10000004 ∷ 0x20000005 ∷ 0x4FFFFFFF ∷ []) (denied 13 2 3)
      -- E left 0
      ∷ step 0 0 (0x80010002 ∷ 0x10000005 ∷ 0x20000000 ∷ []) (gets 1 0 0 0)
      -- F in D, higher, granted 2; C left 10
      ∷ step 0 0 (0x80020005 ∷ 0x10000004 ∷ 0x20000006 ∷ 0x50050020 ∷ 0x60000000 ∷ 0x30000002 ∷ []) (gets 3 0 0 0)
      -- C left 7
      ∷ step 0 0 (0x80090003 ∷ 0x10000004 ∷ 0x20000006 ∷ 0x40000003 ∷ []) (gets 5 0 0 0)
      ∷ step 1 0 (0x80030003 ∷ 0x10000000 ∷ 0x20000001 ∷ 0x10000009 ∷ []) (gets 2 0 0 0)
      ∷ step 1 0 (0x80030003 ∷ 0x10000009 ∷ 0x20000002 ∷ 0x10000008 ∷ []) (gets 2 0 0 0)
      ∷ step 1 0 (0x80030003 ∷ 0x10000008 ∷ 0x20000003 ∷ 0x10000007 ∷ []) (gets 2 0 0 0)
      ∷ step 1 0 (0x80030003 ∷ 0x10000007 ∷ 0x20000004 ∷ 0x10000006 ∷ []) (gets 2 0 0 0)
      ∷ step 1 0 (0x80030003 ∷ 0x10000006 ∷ 0x20000006 ∷ 0x1000000A ∷ []) (gets 2 1 0 0)
      ∷ step 1 0 (0x80010002 ∷ 0x1000000A ∷ 0x2000000D ∷ []) (gets 1 0 0 0)
      ∷ step 1 0 (0x800B0001 ∷ 0x1000000A ∷ []) (gets 5 4 0 0)
      -- status tells the grant, not what is left
      ∷ step 1 0 (0x800A0002 ∷ 0x10000006 ∷ 0x20000006 ∷ []) (gets 2 0x50020 0 5)
      ∷ step 1 0 (0x800B0001 ∷ 0x10000006 ∷ []) (gets 16 7 0 0)
      -- D 1, E 1 + 1, F 1 + 5; what is inside E and F is not counted
      ∷ step 0 0 (0x80080002 ∷ 0x10000003 ∷ 0x20000004 ∷ []) (gets 9 0 0 0)
      ∷ step 1 0 (0x800B0001 ∷ 0x1000000A ∷ []) (denied 7 2 1)
      ∷ step 1 0 (0x800B0001 ∷ 0x10000007 ∷ []) (gets 16 16 0 0)
      -- page 3 back to the root's cell; root left 19
      ∷ step 0 0 (0x80070002 ∷ 0x1000000C ∷ 0x30000003 ∷ []) (gets 1 0 0 0)
      ∷ step 0 0 (0x800B0001 ∷ 0x10000001 ∷ []) (gets 40 19 0 0)
      -- B 1, C 1 + 16, the segment 1 and its page 1
      ∷ step 0 0 (0x80080002 ∷ 0x10000001 ∷ 0x20000002 ∷ []) (gets 20 0 0 0)
      ∷ step 0 0 (0x800B0001 ∷ 0x10000001 ∷ []) (gets 40 39 0 0)
      ∷ step 0 0 (0x800A0002 ∷ 0x10000001 ∷ 0x20000002 ∷ []) (gets 0 0 0 0)
      ∷ step 0 0 (0x800B0001 ∷ 0x10000003 ∷ []) (denied 7 2 1)
      ∷ [];
}
