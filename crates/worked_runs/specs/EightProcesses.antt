-- Eight processes with labels that are equal, above, below and incomparable. Assumes nothing.
use Rattle.std.specs.Prelude.{[], ◌∷◌}
use Rattle.labels.specs.PartOrders.{level_category, single}
use Rattle.worked_runs.specs.Runs.{Run, label, asks, process, refused, step, gets, reads, denied}

abbrev pub eight_processes : Run
eight_processes = record {
  security = level_category;
  integrity = single;
  root = label 0x0 0x0;
  pages = 60;
  admissions =
      asks 0x0 0x0 (process 0)
      ∷ asks 0x80000 0x0 (refused 11 2 0)
      ∷ asks 0x10000 0x0 (process 1)
      ∷ asks 0x10002 0x0 (process 2)
      ∷ asks 0x10004 0x0 (process 3)
      ∷ asks 0x0 0x1 (refused 11 2 0)
      ∷ asks 0x10006 0x0 (process 4)
      ∷ asks 0x20006 0x0 (process 5)
      ∷ asks 0x2 0x0 (process 6)
      ∷ asks 0x10002 0x0 (process 7)
      ∷ asks 0x0 0x0 (refused 15 2 0)
      ∷ asks 0x80000 0x1 (refused 15 2 0)
      ∷ [];
  steps =
      step 0 0 (0x80020005 ∷ 0x10000000 ∷ 0x20000001 ∷ 0x50010000 ∷ 0x60000000 ∷ 0x30000014 ∷ []) (gets 21 0 0 0)
      ∷ step 0 0 (0x80020005 ∷ 0x10000000 ∷ 0x20000002 ∷ 0x50010002 ∷ 0x60000000 ∷ 0x3000000A ∷ []) (gets 11 0 0 0)
      -- the same level, an added category
      ∷ step 0 0 (0x80020005 ∷ 0x10000000 ∷ 0x20000003 ∷ 0x50000002 ∷ 0x60000000 ∷ 0x30000005 ∷ []) (gets 6 0 0 0)
      ∷ step 1 0 (0x80030003 ∷ 0x10000000 ∷ 0x20000001 ∷ 0x10000001 ∷ []) (gets 2 1 0 0)
      -- the category is missing in the process's label
      ∷ step 1 0 (0x80030003 ∷ 0x10000000 ∷ 0x20000002 ∷ 0x10000002 ∷ []) (denied 11 2 2)
      -- category 1 and category 2: incomparable
      ∷ step 3 0 (0x80030003 ∷ 0x10000000 ∷ 0x20000002 ∷ 0x10000002 ∷ []) (denied 11 2 2)
      ∷ step 2 0 (0x80030003 ∷ 0x10000000 ∷ 0x20000002 ∷ 0x10000002 ∷ []) (gets 2 1 0 0)
      ∷ step 7 0 (0x80030003 ∷ 0x10000000 ∷ 0x20000002 ∷ 0x10000005 ∷ []) (gets 2 1 0 0)
      ∷ step 4 0 (0x80030003 ∷ 0x10000000 ∷ 0x20000002 ∷ 0x10000004 ∷ []) (gets 2 0 0 0)
      -- the level is missing
      ∷ step 6 0 (0x80030003 ∷ 0x10000000 ∷ 0x20000002 ∷ 0x10000002 ∷ []) (denied 11 2 2)
      -- 0x10000 and 0x00002 are incomparable
      ∷ step 6 0 (0x80030003 ∷ 0x10000000 ∷ 0x20000001 ∷ 0x10000001 ∷ []) (denied 11 2 2)
      ∷ step 6 0 (0x80030003 ∷ 0x10000000 ∷ 0x20000003 ∷ 0x10000003 ∷ []) (gets 2 1 0 0)
      -- and so the other way round
      ∷ step 1 0 (0x80030003 ∷ 0x10000000 ∷ 0x20000003 ∷ 0x10000003 ∷ []) (denied 11 2 2)
      ∷ step 2 0 (0x80030003 ∷ 0x10000000 ∷ 0x20000003 ∷ 0x10000003 ∷ []) (gets 2 0 0 0)
      ∷ step 1 0 (0x80020005 ∷ 0x10000001 ∷ 0x20000007 ∷ 0x50010004 ∷ 0x60000000 ∷ 0x30000006 ∷ []) (gets 7 0 0 0)
      ∷ step 1 0 (0x80020005 ∷ 0x10000001 ∷ 0x20000008 ∷ 0x50010002 ∷ 0x60000000 ∷ 0x30000000 ∷ []) (denied 13 2 5)
      ∷ step 1 0 (0x80020005 ∷ 0x10000001 ∷ 0x20000008 ∷ 0x50000002 ∷ 0x60000000 ∷ 0x30000002 ∷ []) (denied 11 2 3)
      ∷ step 1 0 (0x80020005 ∷ 0x10000001 ∷ 0x20000009 ∷ 0x50020006 ∷ 0x60000000 ∷ 0x30000003 ∷ []) (gets 4 0 0 0)
      ∷ step 3 0 (0x80030003 ∷ 0x10000000 ∷ 0x20000001 ∷ 0x10000006 ∷ []) (gets 2 0 0 0)
      ∷ step 3 0 (0x80030003 ∷ 0x10000006 ∷ 0x20000007 ∷ 0x10000007 ∷ []) (gets 2 1 0 0)
      ∷ step 3 0 (0x80010002 ∷ 0x10000007 ∷ 0x20000000 ∷ []) (gets 1 0 0 0)
      ∷ step 3 0 (0x80030003 ∷ 0x10000007 ∷ 0x20000000 ∷ 0x10000008 ∷ []) (gets 1 1 0 0)
      ∷ step 3 0 (0x80060003 ∷ 0x10000008 ∷ 0x30000005 ∷ 0x00C0FFEE ∷ []) (gets 1 0 0 0)
      ∷ step 2 0 (0x80030003 ∷ 0x10000000 ∷ 0x20000001 ∷ 0x10000006 ∷ []) (gets 2 0 0 0)
      ∷ step 2 0 (0x80030003 ∷ 0x10000006 ∷ 0x20000007 ∷ 0x10000007 ∷ []) (denied 11 2 2)
      -- the entry is told by the lower directory
      ∷ step 2 0 (0x800A0002 ∷ 0x10000006 ∷ 0x20000007 ∷ []) (gets 2 0x10004 0 6)
      ∷ step 4 0 (0x80030003 ∷ 0x10000000 ∷ 0x20000001 ∷ 0x10000001 ∷ []) (gets 2 0 0 0)
      ∷ step 4 0 (0x80030003 ∷ 0x10000001 ∷ 0x20000007 ∷ 0x10000007 ∷ []) (gets 2 0 0 0)
      ∷ step 4 0 (0x80030003 ∷ 0x10000007 ∷ 0x20000000 ∷ 0x10000009 ∷ []) (gets 1 0 0 0)
      ∷ step 4 3 (0x80050003 ∷ 0x10000009 ∷ 0x30000004 ∷ 0x30000003 ∷ []) (reads 3 (0x00000000 ∷ 0x00C0FFEE ∷ 0x00000000 ∷ []))
      ∷ step 4 0 (0x80060003 ∷ 0x10000009 ∷ 0x30000005 ∷ 0x00000000 ∷ []) (denied 9 2 1)
      ∷ step 4 0 (0x80070002 ∷ 0x10000009 ∷ 0x30000000 ∷ []) (denied 9 2 1)
      ∷ step 4 0 (0x80010002 ∷ 0x10000007 ∷ 0x20000001 ∷ []) (denied 9 2 1)
      -- not even a directory of its own label
      ∷ step 4 0 (0x80020005 ∷ 0x10000007 ∷ 0x20000001 ∷ 0x50010006 ∷ 0x60000000 ∷ 0x30000001 ∷ []) (denied 9 2 1)
      ∷ step 4 0 (0x80080002 ∷ 0x10000007 ∷ 0x20000000 ∷ []) (denied 9 2 1)
      ∷ step 4 0 (0x80090003 ∷ 0x10000001 ∷ 0x20000007 ∷ 0x40000001 ∷ []) (denied 9 2 1)
      ∷ step 4 0 (0x80030003 ∷ 0x10000001 ∷ 0x20000009 ∷ 0x1000000A ∷ []) (denied 11 2 2)
      ∷ step 5 0 (0x80030003 ∷ 0x10000000 ∷ 0x20000001 ∷ 0x1000000F ∷ []) (gets 2 0 0 0)
      ∷ step 5 0 (0x80030003 ∷ 0x1000000F ∷ 0x20000009 ∷ 0x1000000E ∷ []) (gets 2 1 0 0)
      ∷ step 5 0 (0x80010002 ∷ 0x1000000E ∷ 0x2000000F ∷ []) (gets 1 0 0 0)
      ∷ step 7 0 (0x80010002 ∷ 0x10000005 ∷ 0x2000000C ∷ []) (gets 1 0 0 0)
      -- made by another process of the same label
      ∷ step 2 0 (0x80030003 ∷ 0x10000002 ∷ 0x2000000C ∷ 0x10000009 ∷ []) (gets 1 1 0 0)
      ∷ step 7 0 (0x80080002 ∷ 0x10000005 ∷ 0x2000000C ∷ []) (gets 1 0 0 0)
      ∷ step 2 1 (0x80050003 ∷ 0x10000009 ∷ 0x30000000 ∷ 0x30000001 ∷ []) (denied 7 2 1)
      ∷ step 8 0 (0x800B0001 ∷ 0x10000000 ∷ []) (denied 1 1 0)
      ∷ [];
}
