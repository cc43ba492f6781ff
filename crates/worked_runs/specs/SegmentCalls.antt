-- Reading, writing and truncating: every denial of the store, and their order. Assumes nothing.
use Rattle.std.specs.Prelude.{[], ◌∷◌}
use Rattle.labels.specs.PartOrders.{level_category, single}
use Rattle.worked_runs.specs.Runs.{Run, label, asks, process, step, gets, reads, denied}

abbrev pub segment_calls : Run
segment_calls = record {
  security = level_category;
  integrity = single;
  root = label 0x0 0x0;
  pages = 4;
  admissions =
      asks 0x0 0x0 (process 0)
      ∷ asks 0x6 0x0 (process 1)
      ∷ [];
  steps =
      step 0 0 (0x80010002 ∷ 0x10000000 ∷ 0x20000007 ∷ []) (gets 1 0 0 0)
      ∷ step 0 0 (0x80030003 ∷ 0x10000000 ∷ 0x20000007 ∷ 0x10000004 ∷ []) (gets 1 1 0 0)
      ∷ step 1 0 (0x80030003 ∷ 0x10000000 ∷ 0x20000007 ∷ 0x1000000C ∷ []) (gets 1 0 0 0)
      ∷ step 0 8 (0x80050003 ∷ 0x10000009 ∷ 0x30000021 ∷ 0x30000002 ∷ []) (denied 6 2 1)
      ∷ step 0 8 (0x80060003 ∷ 0x10000009 ∷ 0x30000021 ∷ 0x00000007 ∷ []) (denied 6 2 1)
      ∷ step 0 8 (0x80070002 ∷ 0x10000009 ∷ 0x30000003 ∷ []) (denied 6 2 1)
      ∷ step 0 8 (0x80050003 ∷ 0x10000000 ∷ 0x30000021 ∷ 0x30000002 ∷ []) (denied 8 2 1)
      ∷ step 0 8 (0x80060003 ∷ 0x10000000 ∷ 0x30000021 ∷ 0x00000007 ∷ []) (denied 8 2 1)
      ∷ step 0 8 (0x80070002 ∷ 0x10000000 ∷ 0x30000003 ∷ []) (denied 8 2 1)
      -- a directory of another label: 8 before 9
      ∷ step 1 8 (0x80060003 ∷ 0x10000000 ∷ 0x30000021 ∷ 0x00000007 ∷ []) (denied 8 2 1)
      -- 8 before 9
      ∷ step 1 8 (0x80070002 ∷ 0x10000000 ∷ 0x30000003 ∷ []) (denied 8 2 1)
      ∷ step 1 8 (0x80060003 ∷ 0x1000000C ∷ 0x30000002 ∷ 0x00000007 ∷ []) (denied 9 2 1)
      -- denied although nothing would change
      ∷ step 1 8 (0x80070002 ∷ 0x1000000C ∷ 0x30000010 ∷ []) (denied 9 2 1)
      -- reading below is granted; absent pages read as zeros
      ∷ step 1 16 (0x80050003 ∷ 0x1000000C ∷ 0x300000F0 ∷ 0x30000010 ∷ []) (reads 16 (0x00000000 ∷ 0x00000000 ∷ 0x00000000 ∷ 0x00000000 ∷ 0x00000000 ∷ 0x00000000 ∷ 0x00000000 ∷ 0x00000000 ∷ 0x00000000 ∷ 0x00000000 ∷ 0x00000000 ∷ 0x00000000 ∷ 0x00000000 ∷ 0x00000000 ∷ 0x00000000 ∷ 0x00000000 ∷ []))
      -- words 15 and 16, pages 0 and 1; 1 left
      ∷ step 0 0 (0x80060004 ∷ 0x10000004 ∷ 0x3000000F ∷ 0x11111111 ∷ 0x22222222 ∷ []) (gets 2 0 0 0)
      -- two pages with one record left
      ∷ step 0 0 (0x80060004 ∷ 0x10000004 ∷ 0x3000003F ∷ 0x33333333 ∷ 0x44444444 ∷ []) (denied 14 2 0)
      ∷ step 0 2 (0x80050003 ∷ 0x10000004 ∷ 0x3000003F ∷ 0x30000002 ∷ []) (reads 2 (0x00000000 ∷ 0x00000000 ∷ []))
      -- page 1 present, page 2 not; 0 left
      ∷ step 0 0 (0x80060004 ∷ 0x10000004 ∷ 0x3000001F ∷ 0x55555555 ∷ 0x66666666 ∷ []) (gets 1 0 0 0)
      -- page 2 present, page 3 not, nothing left
      ∷ step 0 0 (0x80060005 ∷ 0x10000004 ∷ 0x3000002E ∷ 0x77777777 ∷ 0x88888888 ∷ 0x99999999 ∷ []) (denied 14 2 0)
      -- a present page costs nothing
      ∷ step 0 0 (0x80060003 ∷ 0x10000004 ∷ 0x30000011 ∷ 0xAAAAAAAA ∷ []) (gets 0 0 0 0)
      -- other label and nothing left: 9 before 14
      ∷ step 1 0 (0x80060003 ∷ 0x1000000C ∷ 0x300000C8 ∷ 0x00000001 ∷ []) (denied 9 2 1)
      ∷ step 0 0 (0x800B0001 ∷ 0x10000000 ∷ []) (gets 4 0 0 0)
      ∷ step 0 4 (0x80050003 ∷ 0x10000004 ∷ 0x3000000F ∷ 0x30000003 ∷ []) (reads 3 (0x11111111 ∷ 0x22222222 ∷ 0xAAAAAAAA ∷ []))
      -- the denied write left nothing
      ∷ step 0 4 (0x80050003 ∷ 0x10000004 ∷ 0x3000002D ∷ 0x30000004 ∷ []) (reads 4 (0x00000000 ∷ 0x00000000 ∷ 0x00000000 ∷ 0x00000000 ∷ []))
      ∷ step 0 0 (0x80070002 ∷ 0x10000004 ∷ 0x30000002 ∷ []) (gets 1 0 0 0)
      ∷ step 0 4 (0x80050003 ∷ 0x10000004 ∷ 0x3000001E ∷ 0x30000004 ∷ []) (reads 4 (0x00000000 ∷ 0x55555555 ∷ 0x00000000 ∷ 0x00000000 ∷ []))
      -- the segment and two pages
      ∷ step 0 0 (0x80080002 ∷ 0x10000000 ∷ 0x20000007 ∷ []) (gets 3 0 0 0)
      ∷ step 0 4 (0x80050003 ∷ 0x10000004 ∷ 0x3000001E ∷ 0x30000004 ∷ []) (denied 7 2 1)
      ∷ step 0 0 (0x80060003 ∷ 0x10000004 ∷ 0x30000011 ∷ 0xAAAAAAAA ∷ []) (denied 7 2 1)
      ∷ step 0 0 (0x80070002 ∷ 0x10000004 ∷ 0x30000002 ∷ []) (denied 7 2 1)
      ∷ step 1 4 (0x80050003 ∷ 0x1000000C ∷ 0x30000001 ∷ 0x30000002 ∷ []) (denied 7 2 1)
      ∷ step 1 0 (0x80060003 ∷ 0x1000000C ∷ 0x30000002 ∷ 0x00000007 ∷ []) (denied 7 2 1)
      ∷ step 0 0 (0x800B0001 ∷ 0x10000000 ∷ []) (gets 4 4 0 0)
      ∷ [];
}
