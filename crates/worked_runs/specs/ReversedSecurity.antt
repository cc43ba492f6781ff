-- Security under levels and categories reversed, integrity under the one word reversed. Assumes nothing.
use Rattle.std.specs.Prelude.{[], ◌∷◌}
use Rattle.labels.specs.PartOrders.{level_category, reversed, single}
use Rattle.worked_runs.specs.Runs.{Run, label, asks, process, refused, step, gets, reads, denied}

abbrev pub reversed_security : Run
reversed_security = record {
  security = reversed level_category;
  integrity = reversed single;
  root = label 0x5000E 0x0;
  pages = 16;
  admissions =
      asks 0x5000F 0x0 (refused 11 2 0)
      ∷ asks 0x5000E 0x0 (process 0)
      ∷ asks 0x50002 0x0 (process 1)
      ∷ asks 0x5000E 0x1 (refused 11 2 0)
      ∷ asks 0x50004 0x0 (process 2)
      ∷ asks 0x60000 0x0 (refused 11 2 0)
      ∷ asks 0x0 0x0 (process 3)
      ∷ [];
  steps =
      -- root left 10
      step 0 0 (0x80020005 ∷ 0x10000000 ∷ 0x2000000F ∷ 0x50050002 ∷ 0x60000000 ∷ 0x30000005 ∷ []) (gets 6 0 0 0)
      -- 6
      ∷ step 0 0 (0x80020005 ∷ 0x10000000 ∷ 0x2000000E ∷ 0x50030004 ∷ 0x60000000 ∷ 0x30000003 ∷ []) (gets 4 0 0 0)
      ∷ step 0 0 (0x80020005 ∷ 0x10000000 ∷ 0x2000000D ∷ 0x5007FFFF ∷ 0x60000000 ∷ 0x30000001 ∷ []) (denied 11 2 3)
      -- category 0 is not among the root's
      ∷ step 0 0 (0x80020005 ∷ 0x10000000 ∷ 0x2000000D ∷ 0x50050001 ∷ 0x60000000 ∷ 0x30000001 ∷ []) (denied 11 2 3)
      -- the only valid integrity word is 0
      ∷ step 0 0 (0x80020005 ∷ 0x10000000 ∷ 0x2000000D ∷ 0x50050000 ∷ 0x60000001 ∷ 0x30000001 ∷ []) (denied 11 2 3)
      ∷ step 1 0 (0x80030003 ∷ 0x10000000 ∷ 0x2000000F ∷ 0x10000003 ∷ []) (gets 2 1 0 0)
      -- incomparable
      ∷ step 2 0 (0x80030003 ∷ 0x10000000 ∷ 0x2000000F ∷ 0x10000003 ∷ []) (denied 11 2 2)
      -- 0x30004 is above 0x50004 in the reverse
      ∷ step 2 0 (0x80030003 ∷ 0x10000000 ∷ 0x2000000E ∷ 0x10000004 ∷ []) (denied 11 2 2)
      ∷ step 3 0 (0x80030003 ∷ 0x10000000 ∷ 0x2000000E ∷ 0x10000004 ∷ []) (gets 2 0 0 0)
      ∷ step 3 0 (0x80030003 ∷ 0x10000000 ∷ 0x2000000F ∷ 0x10000005 ∷ []) (gets 2 0 0 0)
      ∷ step 0 0 (0x80030003 ∷ 0x10000000 ∷ 0x2000000F ∷ 0x10000001 ∷ []) (denied 11 2 2)
      -- 2 left of 5
      ∷ step 1 0 (0x80020005 ∷ 0x10000003 ∷ 0x20000002 ∷ 0x50000000 ∷ 0x60000000 ∷ 0x30000002 ∷ []) (gets 3 0 0 0)
      ∷ step 1 0 (0x80020005 ∷ 0x10000003 ∷ 0x20000001 ∷ 0x50050006 ∷ 0x60000000 ∷ 0x30000001 ∷ []) (denied 11 2 3)
      ∷ step 3 0 (0x80030003 ∷ 0x10000005 ∷ 0x20000002 ∷ 0x10000006 ∷ []) (gets 2 1 0 0)
      ∷ step 3 0 (0x80010002 ∷ 0x10000006 ∷ 0x20000007 ∷ []) (gets 1 0 0 0)
      ∷ step 3 0 (0x80030003 ∷ 0x10000006 ∷ 0x20000007 ∷ 0x10000007 ∷ []) (gets 1 1 0 0)
      ∷ step 3 0 (0x80060003 ∷ 0x10000007 ∷ 0x30000080 ∷ 0x00000080 ∷ []) (gets 1 0 0 0)
      ∷ step 3 0 (0x80060003 ∷ 0x10000007 ∷ 0x3000007F ∷ 0x0000007F ∷ []) (denied 14 2 0)
      ∷ step 1 0 (0x800A0002 ∷ 0x10000003 ∷ 0x20000002 ∷ []) (gets 2 0 0 2)
      ∷ step 1 0 (0x800B0001 ∷ 0x10000003 ∷ []) (gets 5 2 0 0)
      ∷ step 3 0 (0x80010002 ∷ 0x10000005 ∷ 0x20000000 ∷ []) (denied 9 2 1)
      ∷ step 1 0 (0x80090003 ∷ 0x10000003 ∷ 0x20000002 ∷ 0x40000002 ∷ []) (gets 4 0 0 0)
      ∷ step 3 0 (0x800B0001 ∷ 0x10000006 ∷ []) (gets 4 2 0 0)
      ∷ step 3 0 (0x80060003 ∷ 0x10000007 ∷ 0x3000007F ∷ 0x0000007F ∷ []) (gets 1 0 0 0)
      ∷ step 3 3 (0x80050003 ∷ 0x10000007 ∷ 0x3000007E ∷ 0x30000003 ∷ []) (reads 3 (0x00000000 ∷ 0x0000007F ∷ 0x00000080 ∷ []))
      ∷ step 1 0 (0x80080002 ∷ 0x10000003 ∷ 0x20000002 ∷ []) (gets 5 0 0 0)
      ∷ step 3 1 (0x80050003 ∷ 0x10000007 ∷ 0x30000080 ∷ 0x30000001 ∷ []) (denied 7 2 1)
      ∷ step 2 0 (0x80010002 ∷ 0x10000000 ∷ 0x20000000 ∷ []) (denied 9 2 1)
      ∷ step 0 0 (0x800B0001 ∷ 0x10000000 ∷ []) (gets 16 6 0 0)
      ∷ step 0 0 (0x800A0002 ∷ 0x10000000 ∷ 0x2000000E ∷ []) (gets 2 0x30004 0 3)
      ∷ [];
}
