-- A deletion seen by four processes at three labels. Assumes nothing.
use Rattle.std.specs.Prelude.{[], ◌∷◌}
use Rattle.labels.specs.PartOrders.{level_category, single}
use Rattle.worked_runs.specs.Runs.{Run, label, asks, process, step, gets, reads, denied}

abbrev pub deletion_seen : Run
deletion_seen = record {
  security = level_category;
  integrity = single;
  root = label 0x0 0x0;
  pages = 50;
  admissions =
      asks 0x0 0x0 (process 0)
      ∷ asks 0x10000 0x0 (process 1)
      ∷ asks 0x20000 0x0 (process 2)
      ∷ asks 0x0 0x0 (process 3)
      ∷ [];
  steps =
      -- P; root left 49
      step 0 0 (0x80020005 ∷ 0x10000000 ∷ 0x20000006 ∷ 0x50000000 ∷ 0x60000000 ∷ 0x30000000 ∷ []) (gets 1 0 0 0)
      -- Q; 44
      ∷ step 0 0 (0x80020005 ∷ 0x10000000 ∷ 0x20000009 ∷ 0x50000000 ∷ 0x60000000 ∷ 0x30000004 ∷ []) (gets 5 0 0 0)
      ∷ step 0 0 (0x80030003 ∷ 0x10000000 ∷ 0x20000006 ∷ 0x10000002 ∷ []) (gets 2 1 0 0)
      -- R in P, higher; 35
      ∷ step 0 0 (0x80020005 ∷ 0x10000002 ∷ 0x20000001 ∷ 0x50010000 ∷ 0x60000000 ∷ 0x30000008 ∷ []) (gets 9 0 0 0)
      -- the segment S in P; 34
      ∷ step 0 0 (0x80010002 ∷ 0x10000002 ∷ 0x20000002 ∷ []) (gets 1 0 0 0)
      ∷ step 0 0 (0x80030003 ∷ 0x10000002 ∷ 0x20000002 ∷ 0x10000003 ∷ []) (gets 1 1 0 0)
      -- 33
      ∷ step 0 0 (0x80060003 ∷ 0x10000003 ∷ 0x30000064 ∷ 0x5E5E5E5E ∷ []) (gets 1 0 0 0)
      ∷ step 1 0 (0x80030003 ∷ 0x10000000 ∷ 0x20000006 ∷ 0x10000004 ∷ []) (gets 2 0 0 0)
      ∷ step 1 0 (0x80030003 ∷ 0x10000004 ∷ 0x20000001 ∷ 0x10000005 ∷ []) (gets 2 1 0 0)
      -- T in R, higher still
      ∷ step 1 0 (0x80020005 ∷ 0x10000005 ∷ 0x20000003 ∷ 0x50020000 ∷ 0x60000000 ∷ 0x30000003 ∷ []) (gets 4 0 0 0)
      -- the segment M in R
      ∷ step 1 0 (0x80010002 ∷ 0x10000005 ∷ 0x20000004 ∷ []) (gets 1 0 0 0)
      ∷ step 1 0 (0x80030003 ∷ 0x10000005 ∷ 0x20000004 ∷ 0x10000006 ∷ []) (gets 1 1 0 0)
      ∷ step 1 0 (0x80030003 ∷ 0x10000004 ∷ 0x20000002 ∷ 0x10000007 ∷ []) (gets 1 0 0 0)
      ∷ step 1 0 (0x80030003 ∷ 0x10000000 ∷ 0x20000009 ∷ 0x10000008 ∷ []) (gets 2 0 0 0)
      ∷ step 2 0 (0x80030003 ∷ 0x10000000 ∷ 0x20000006 ∷ 0x10000001 ∷ []) (gets 2 0 0 0)
      ∷ step 2 0 (0x80030003 ∷ 0x10000001 ∷ 0x20000001 ∷ 0x10000002 ∷ []) (gets 2 0 0 0)
      ∷ step 2 0 (0x80030003 ∷ 0x10000002 ∷ 0x20000003 ∷ 0x10000003 ∷ []) (gets 2 1 0 0)
      ∷ step 2 0 (0x80030003 ∷ 0x10000002 ∷ 0x20000004 ∷ 0x10000004 ∷ []) (gets 1 0 0 0)
      ∷ step 2 0 (0x80030003 ∷ 0x10000001 ∷ 0x20000001 ∷ 0x1000000B ∷ []) (gets 2 0 0 0)
      ∷ step 3 0 (0x80030003 ∷ 0x10000000 ∷ 0x20000006 ∷ 0x1000000F ∷ []) (gets 2 1 0 0)
      ∷ step 3 0 (0x80030003 ∷ 0x1000000F ∷ 0x20000002 ∷ 0x1000000E ∷ []) (gets 1 1 0 0)
      -- R with T and M, by a process that cannot know them; 42
      ∷ step 0 0 (0x80080002 ∷ 0x10000002 ∷ 0x20000001 ∷ []) (gets 9 0 0 0)
      ∷ step 1 0 (0x800B0001 ∷ 0x10000005 ∷ []) (denied 7 2 1)
      ∷ step 1 1 (0x80050003 ∷ 0x10000006 ∷ 0x30000000 ∷ 0x30000001 ∷ []) (denied 7 2 1)
      -- the sibling S is not gone
      ∷ step 1 1 (0x80050003 ∷ 0x10000007 ∷ 0x30000064 ∷ 0x30000001 ∷ []) (reads 1 (0x5E5E5E5E ∷ []))
      -- nor the parent P
      ∷ step 1 0 (0x800B0001 ∷ 0x10000004 ∷ []) (gets 50 42 0 0)
      ∷ step 2 0 (0x800B0001 ∷ 0x10000003 ∷ []) (denied 7 2 1)
      ∷ step 2 0 (0x800B0001 ∷ 0x1000000B ∷ []) (denied 7 2 1)
      ∷ step 2 1 (0x80050003 ∷ 0x10000004 ∷ 0x30000000 ∷ 0x30000001 ∷ []) (denied 7 2 1)
      ∷ step 2 0 (0x800A0002 ∷ 0x10000001 ∷ 0x20000001 ∷ []) (gets 0 0 0 0)
      -- gone is not free
      ∷ step 1 0 (0x80030003 ∷ 0x10000004 ∷ 0x20000002 ∷ 0x10000005 ∷ []) (denied 12 2 3)
      -- a new R at the same place; 39
      ∷ step 0 0 (0x80020005 ∷ 0x10000002 ∷ 0x20000001 ∷ 0x50010000 ∷ 0x60000000 ∷ 0x30000002 ∷ []) (gets 3 0 0 0)
      -- the gone number does not mean it
      ∷ step 1 0 (0x800B0001 ∷ 0x10000005 ∷ []) (denied 7 2 1)
      ∷ step 1 0 (0x80040001 ∷ 0x10000005 ∷ []) (gets 0 0 0 0)
      ∷ step 1 0 (0x80030003 ∷ 0x10000004 ∷ 0x20000001 ∷ 0x10000005 ∷ []) (gets 2 1 0 0)
      ∷ step 1 0 (0x800B0001 ∷ 0x10000005 ∷ []) (gets 2 2 0 0)
      -- a new segment on the path of M
      ∷ step 1 0 (0x80010002 ∷ 0x10000005 ∷ 0x20000004 ∷ []) (gets 1 0 0 0)
      ∷ step 1 1 (0x80050003 ∷ 0x10000006 ∷ 0x30000000 ∷ 0x30000001 ∷ []) (denied 7 2 1)
      -- P 1, the new R 1 + 2, S 1 and its page 1; 45
      ∷ step 3 0 (0x80080002 ∷ 0x10000000 ∷ 0x20000006 ∷ []) (gets 6 0 0 0)
      ∷ step 0 1 (0x80050003 ∷ 0x10000003 ∷ 0x30000064 ∷ 0x30000001 ∷ []) (denied 7 2 1)
      ∷ step 1 0 (0x800A0002 ∷ 0x10000005 ∷ 0x20000004 ∷ []) (denied 7 2 1)
      ∷ step 2 0 (0x80030003 ∷ 0x10000001 ∷ 0x20000002 ∷ 0x10000005 ∷ []) (denied 7 2 1)
      -- gone for the process that deleted it as well
      ∷ step 3 0 (0x80010002 ∷ 0x1000000F ∷ 0x20000003 ∷ []) (denied 7 2 1)
      -- Q stands
      ∷ step 1 0 (0x800B0001 ∷ 0x10000008 ∷ []) (gets 4 4 0 0)
      ∷ step 0 0 (0x800B0001 ∷ 0x10000000 ∷ []) (gets 50 45 0 0)
      ∷ [];
}
