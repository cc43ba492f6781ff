-- Every argument at the end of its range, and one past it. Assumes nothing.
use Rattle.std.specs.Prelude.{[], ◌∷◌}
use Rattle.labels.specs.PartOrders.{level_category, single}
use Rattle.worked_runs.specs.Runs.{Run, label, asks, process, step, gets, denied}

abbrev pub frame_ranges : Run
frame_ranges = record {
  security = level_category;
  integrity = single;
  root = label 0x0 0x0;
  pages = 6;
  admissions =
      asks 0x0 0x0 (process 0)
      ∷ [];
  steps =
      step 0 16 (0x80010002 ∷ 0x10000010 ∷ 0x20000001 ∷ []) (denied 5 1 1)
      ∷ step 0 16 (0x80010002 ∷ 0x10000000 ∷ 0x20000010 ∷ []) (denied 5 1 2)
      ∷ step 0 16 (0x80020005 ∷ 0x10000010 ∷ 0x20000001 ∷ 0x50000000 ∷ 0x60000000 ∷ 0x30000000 ∷ []) (denied 5 1 1)
      ∷ step 0 16 (0x80020005 ∷ 0x10000000 ∷ 0x20000010 ∷ 0x50000000 ∷ 0x60000000 ∷ 0x30000000 ∷ []) (denied 5 1 2)
      -- grant 257
      ∷ step 0 16 (0x80020005 ∷ 0x10000000 ∷ 0x20000001 ∷ 0x50000000 ∷ 0x60000000 ∷ 0x30000101 ∷ []) (denied 5 1 5)
      -- grant 256 is in range
      ∷ step 0 16 (0x80020005 ∷ 0x10000000 ∷ 0x20000001 ∷ 0x50000000 ∷ 0x60000000 ∷ 0x30000100 ∷ []) (denied 14 2 0)
      ∷ step 0 16 (0x80030003 ∷ 0x10000010 ∷ 0x20000001 ∷ 0x10000002 ∷ []) (denied 5 1 1)
      ∷ step 0 16 (0x80030003 ∷ 0x10000000 ∷ 0x20000010 ∷ 0x10000002 ∷ []) (denied 5 1 2)
      ∷ step 0 16 (0x80030003 ∷ 0x10000000 ∷ 0x20000001 ∷ 0x10000010 ∷ []) (denied 5 1 3)
      -- 15 is in range
      ∷ step 0 16 (0x80030003 ∷ 0x1000000F ∷ 0x2000000F ∷ 0x1000000F ∷ []) (denied 6 2 1)
      -- number 0 cannot be terminated
      ∷ step 0 16 (0x80040001 ∷ 0x10000000 ∷ []) (denied 5 1 1)
      ∷ step 0 16 (0x80040001 ∷ 0x10000010 ∷ []) (denied 5 1 1)
      ∷ step 0 16 (0x80040001 ∷ 0x1000000F ∷ []) (denied 6 2 1)
      ∷ step 0 16 (0x80050003 ∷ 0x10000010 ∷ 0x30000002 ∷ 0x30000003 ∷ []) (denied 5 1 1)
      -- first 256; word 2 before the end passed at place 3
      ∷ step 0 16 (0x80050003 ∷ 0x10000001 ∷ 0x30000100 ∷ 0x30000003 ∷ []) (denied 5 1 2)
      -- count 0
      ∷ step 0 16 (0x80050003 ∷ 0x10000001 ∷ 0x30000002 ∷ 0x30000000 ∷ []) (denied 5 1 3)
      -- count 17
      ∷ step 0 16 (0x80050003 ∷ 0x10000001 ∷ 0x30000002 ∷ 0x30000011 ∷ []) (denied 5 1 3)
      ∷ step 0 16 (0x80060003 ∷ 0x10000010 ∷ 0x30000002 ∷ 0x00000003 ∷ []) (denied 5 1 1)
      ∷ step 0 16 (0x80060003 ∷ 0x10000001 ∷ 0x30000100 ∷ 0x00000003 ∷ []) (denied 5 1 2)
      ∷ step 0 16 (0x80070002 ∷ 0x10000010 ∷ 0x30000002 ∷ []) (denied 5 1 1)
      -- keep 17
      ∷ step 0 16 (0x80070002 ∷ 0x10000001 ∷ 0x30000011 ∷ []) (denied 5 1 2)
      -- keep 16 is in range
      ∷ step 0 16 (0x80070002 ∷ 0x10000001 ∷ 0x30000010 ∷ []) (denied 6 2 1)
      ∷ step 0 16 (0x80080002 ∷ 0x10000010 ∷ 0x20000002 ∷ []) (denied 5 1 1)
      ∷ step 0 16 (0x80080002 ∷ 0x10000000 ∷ 0x20000010 ∷ []) (denied 5 1 2)
      ∷ step 0 16 (0x80090003 ∷ 0x10000010 ∷ 0x20000002 ∷ 0x40000003 ∷ []) (denied 5 1 1)
      ∷ step 0 16 (0x80090003 ∷ 0x10000000 ∷ 0x20000010 ∷ 0x40000003 ∷ []) (denied 5 1 2)
      -- amount 0
      ∷ step 0 16 (0x80090003 ∷ 0x10000000 ∷ 0x20000002 ∷ 0x40000000 ∷ []) (denied 5 1 3)
      -- 257
      ∷ step 0 16 (0x80090003 ∷ 0x10000000 ∷ 0x20000002 ∷ 0x40000101 ∷ []) (denied 5 1 3)
      -- -257
      ∷ step 0 16 (0x80090003 ∷ 0x10000000 ∷ 0x20000002 ∷ 0x4FFFFEFF ∷ []) (denied 5 1 3)
      -- -2^27
      ∷ step 0 16 (0x80090003 ∷ 0x10000000 ∷ 0x20000002 ∷ 0x48000000 ∷ []) (denied 5 1 3)
      -- 256 is in range
      ∷ step 0 16 (0x80090003 ∷ 0x10000000 ∷ 0x20000002 ∷ 0x40000100 ∷ []) (denied 10 2 2)
      -- -256 is in range
      ∷ step 0 16 (0x80090003 ∷ 0x10000000 ∷ 0x20000002 ∷ 0x4FFFFF00 ∷ []) (denied 10 2 2)
      ∷ step 0 16 (0x800A0002 ∷ 0x10000010 ∷ 0x20000002 ∷ []) (denied 5 1 1)
      ∷ step 0 16 (0x800A0002 ∷ 0x10000000 ∷ 0x20000010 ∷ []) (denied 5 1 2)
      ∷ step 0 16 (0x800B0001 ∷ 0x10000010 ∷ []) (denied 5 1 1)
      -- all 28 bits of the value count
      ∷ step 0 16 (0x800B0001 ∷ 0x18000000 ∷ []) (denied 5 1 1)
      ∷ step 0 16 (0x800A0002 ∷ 0x10000000 ∷ 0x20000100 ∷ []) (denied 5 1 2)
      ∷ step 0 16 (0x80010002 ∷ 0x10000000 ∷ 0x2000000F ∷ []) (gets 1 0 0 0)
      ∷ step 0 16 (0x80030003 ∷ 0x10000000 ∷ 0x2000000F ∷ 0x1000000F ∷ []) (gets 1 1 0 0)
      ∷ step 0 16 (0x80070002 ∷ 0x1000000F ∷ 0x30000010 ∷ []) (gets 0 0 0 0)
      ∷ step 0 16 (0x80040001 ∷ 0x10000000 ∷ []) (denied 5 1 1)
      ∷ step 0 16 (0x80040001 ∷ 0x1000000F ∷ []) (gets 0 0 0 0)
      ∷ [];
}
