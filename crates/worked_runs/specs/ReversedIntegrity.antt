-- Integrity under levels and categories reversed. Assumes nothing.
use Rattle.std.specs.Prelude.{[], ◌∷◌}
use Rattle.labels.specs.PartOrders.{level_category, reversed}
use Rattle.worked_runs.specs.Runs.{Run, label, asks, process, refused, step, gets, reads, denied}

abbrev pub reversed_integrity : Run
reversed_integrity = record {
  security = level_category;
  integrity = reversed level_category;
  root = label 0x10000 0x6000F;
  pages = 30;
  admissions =
      asks 0x10000 0x6000F (process 0)
      ∷ asks 0x10000 0x7000F (refused 11 2 0)
      ∷ asks 0x10000 0x60010 (refused 11 2 0)
      ∷ asks 0x10000 0x50001 (process 1)
      ∷ asks 0x0 0x50001 (refused 11 2 0)
      ∷ asks 0x20000 0x50003 (process 2)
      ∷ asks 0x10000 0x80000 (refused 11 2 0)
      ∷ asks 0x30007 0x0 (process 3)
      ∷ [];
  steps =
      -- A; root left 23
      step 0 0 (0x80020005 ∷ 0x10000000 ∷ 0x20000003 ∷ 0x50010000 ∷ 0x60050003 ∷ 0x30000006 ∷ []) (gets 7 0 0 0)
      -- B; 17
      ∷ step 0 0 (0x80020005 ∷ 0x10000000 ∷ 0x20000004 ∷ 0x50010000 ∷ 0x60050001 ∷ 0x30000005 ∷ []) (gets 6 0 0 0)
      -- higher integrity is not above
      ∷ step 0 0 (0x80020005 ∷ 0x10000000 ∷ 0x20000005 ∷ 0x50010000 ∷ 0x6007000F ∷ 0x30000001 ∷ []) (denied 11 2 3)
      -- a category that the root has not
      ∷ step 0 0 (0x80020005 ∷ 0x10000000 ∷ 0x20000005 ∷ 0x50020000 ∷ 0x60060010 ∷ 0x30000001 ∷ []) (denied 11 2 3)
      ∷ step 0 0 (0x80020005 ∷ 0x10000000 ∷ 0x20000005 ∷ 0x50010000 ∷ 0x6004000F ∷ 0x30000000 ∷ []) (denied 13 2 5)
      -- C; 12
      ∷ step 0 0 (0x80020005 ∷ 0x10000000 ∷ 0x20000005 ∷ 0x50020000 ∷ 0x60050003 ∷ 0x30000004 ∷ []) (gets 5 0 0 0)
      ∷ step 0 0 (0x80030003 ∷ 0x10000000 ∷ 0x20000003 ∷ 0x10000001 ∷ []) (denied 11 2 2)
      -- 0x50003 is below 0x50001 in the reverse
      ∷ step 1 0 (0x80030003 ∷ 0x10000000 ∷ 0x20000003 ∷ 0x10000001 ∷ []) (gets 2 0 0 0)
      ∷ step 1 0 (0x80030003 ∷ 0x10000000 ∷ 0x20000004 ∷ 0x10000002 ∷ []) (gets 2 1 0 0)
      -- security too high
      ∷ step 1 0 (0x80030003 ∷ 0x10000000 ∷ 0x20000005 ∷ 0x10000003 ∷ []) (denied 11 2 2)
      -- equal integrity, higher security
      ∷ step 2 0 (0x80030003 ∷ 0x10000000 ∷ 0x20000003 ∷ 0x10000001 ∷ []) (gets 2 0 0 0)
      -- 0x50001 is not below 0x50003 in the reverse
      ∷ step 2 0 (0x80030003 ∷ 0x10000000 ∷ 0x20000004 ∷ 0x10000002 ∷ []) (denied 11 2 2)
      ∷ step 2 0 (0x80030003 ∷ 0x10000000 ∷ 0x20000005 ∷ 0x10000003 ∷ []) (gets 2 1 0 0)
      ∷ step 3 0 (0x80030003 ∷ 0x10000000 ∷ 0x20000003 ∷ 0x10000004 ∷ []) (gets 2 0 0 0)
      ∷ step 3 0 (0x80030003 ∷ 0x10000000 ∷ 0x20000004 ∷ 0x10000005 ∷ []) (gets 2 0 0 0)
      ∷ step 3 0 (0x80030003 ∷ 0x10000000 ∷ 0x20000005 ∷ 0x10000006 ∷ []) (gets 2 0 0 0)
      -- B left 2
      ∷ step 1 0 (0x80020005 ∷ 0x10000002 ∷ 0x20000008 ∷ 0x50020000 ∷ 0x60040000 ∷ 0x30000002 ∷ []) (gets 3 0 0 0)
      ∷ step 1 0 (0x80020005 ∷ 0x10000002 ∷ 0x20000009 ∷ 0x50020000 ∷ 0x60050003 ∷ 0x30000001 ∷ []) (denied 11 2 3)
      ∷ step 1 0 (0x80010002 ∷ 0x10000002 ∷ 0x2000000A ∷ []) (gets 1 0 0 0)
      ∷ step 1 0 (0x80030003 ∷ 0x10000002 ∷ 0x2000000A ∷ 0x10000007 ∷ []) (gets 1 1 0 0)
      -- B left 0
      ∷ step 1 0 (0x80060003 ∷ 0x10000007 ∷ 0x30000011 ∷ 0xDEADBEEF ∷ []) (gets 1 0 0 0)
      ∷ step 3 0 (0x80030003 ∷ 0x10000005 ∷ 0x2000000A ∷ 0x10000009 ∷ []) (gets 1 0 0 0)
      ∷ step 3 2 (0x80050003 ∷ 0x10000009 ∷ 0x30000010 ∷ 0x30000002 ∷ []) (reads 2 (0x00000000 ∷ 0xDEADBEEF ∷ []))
      ∷ step 3 0 (0x80060003 ∷ 0x10000009 ∷ 0x30000010 ∷ 0x00000001 ∷ []) (denied 9 2 1)
      ∷ step 3 0 (0x80030003 ∷ 0x10000005 ∷ 0x20000008 ∷ 0x1000000A ∷ []) (gets 2 0 0 0)
      ∷ step 2 0 (0x80010002 ∷ 0x10000001 ∷ 0x20000000 ∷ []) (denied 9 2 1)
      ∷ step 2 0 (0x80010002 ∷ 0x10000003 ∷ 0x20000000 ∷ []) (gets 1 0 0 0)
      ∷ step 0 0 (0x80090003 ∷ 0x10000000 ∷ 0x20000004 ∷ 0x4FFFFFFF ∷ []) (denied 13 2 3)
      ∷ step 0 0 (0x80090003 ∷ 0x10000000 ∷ 0x20000004 ∷ 0x40000003 ∷ []) (gets 8 0 0 0)
      ∷ step 1 0 (0x800B0001 ∷ 0x10000002 ∷ []) (gets 8 3 0 0)
      ∷ step 0 0 (0x800A0002 ∷ 0x10000000 ∷ 0x20000005 ∷ []) (gets 2 0x20000 0x50003 4)
      -- a segment has its directory's label
      ∷ step 2 0 (0x800A0002 ∷ 0x10000003 ∷ 0x20000000 ∷ []) (gets 1 0x20000 0x50003 0)
      ∷ step 0 0 (0x80080002 ∷ 0x10000000 ∷ 0x20000004 ∷ []) (gets 9 0 0 0)
      ∷ step 3 1 (0x80050003 ∷ 0x10000009 ∷ 0x30000010 ∷ 0x30000001 ∷ []) (denied 7 2 1)
      ∷ step 3 0 (0x800B0001 ∷ 0x1000000A ∷ []) (denied 7 2 1)
      ∷ step 3 0 (0x800B0001 ∷ 0x10000006 ∷ []) (gets 4 3 0 0)
      -- 30 - A 7 - C 5
      ∷ step 0 0 (0x800B0001 ∷ 0x10000000 ∷ []) (gets 30 18 0 0)
      ∷ [];
}
