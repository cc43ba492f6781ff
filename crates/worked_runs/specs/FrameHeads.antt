-- Frames that are no call, or of the wrong count; processes that are not admitted. Assumes nothing.
use Rattle.std.specs.Prelude.{[], ◌∷◌}
use Rattle.labels.specs.PartOrders.{level_category, single}
use Rattle.worked_runs.specs.Runs.{Run, label, asks, process, step, gets, denied}

abbrev pub frame_heads : Run
frame_heads = record {
  security = level_category;
  integrity = single;
  root = label 0x0 0x0;
  pages = 6;
  admissions =
      asks 0x0 0x0 (process 0)
      ∷ asks 0x10000 0x0 (process 1)
      ∷ [];
  steps =
      step 0 16 (0x80010002 ∷ 0x10000000 ∷ 0x20000001 ∷ []) (gets 1 0 0 0)
      ∷ step 0 16 (0x80030003 ∷ 0x10000000 ∷ 0x20000001 ∷ 0x10000001 ∷ []) (gets 1 1 0 0)
      -- two are admitted, 0 and 1
      ∷ step 2 16 (0x800B0001 ∷ 0x10000000 ∷ []) (denied 1 1 0)
      ∷ step 8 16 (0x800B0001 ∷ 0x10000000 ∷ []) (denied 1 1 0)
      -- denial 1 before denial 2
      ∷ step 1000 0 [] (denied 1 1 0)
      ∷ step 2 16 (0xFFFFFFFF ∷ 0x12345678 ∷ []) (denied 1 1 0)
      -- denial 1 before denial 3
      ∷ step 7 16 (0x80010002 ∷ 0x10000000 ∷ []) (denied 1 1 0)
      -- denial 1 before 4 and 5
      ∷ step 2 0 (0x80050003 ∷ 0x20000000 ∷ 0x30000100 ∷ 0x30000011 ∷ []) (denied 1 1 0)
      -- no word at all
      ∷ step 1 16 [] (denied 2 1 0)
      ∷ step 0 16 (0x000B0001 ∷ 0x10000000 ∷ []) (denied 2 1 0)
      ∷ step 0 16 (0x900B0001 ∷ 0x10000000 ∷ []) (denied 2 1 0)
      ∷ step 0 16 (0xC00B0001 ∷ 0x10000000 ∷ []) (denied 2 1 0)
      -- call 0
      ∷ step 0 16 (0x80000000 ∷ []) (denied 2 1 0)
      -- call 12
      ∷ step 0 16 (0x800C0001 ∷ 0x10000000 ∷ []) (denied 2 1 0)
      -- call 0x10B; the number has 12 bits
      ∷ step 0 16 (0x810B0001 ∷ 0x10000000 ∷ []) (denied 2 1 0)
      -- denial 2 before denial 3
      ∷ step 0 16 (0x8FFF0007 ∷ 0x10000000 ∷ []) (denied 2 1 0)
      -- count and words agree, but create segment takes 2
      ∷ step 0 16 (0x80010001 ∷ 0x10000000 ∷ []) (denied 3 1 0)
      ∷ step 0 16 (0x80010003 ∷ 0x10000000 ∷ 0x20000003 ∷ 0x20000004 ∷ []) (denied 3 1 0)
      -- the right count, a word too few
      ∷ step 0 16 (0x80010002 ∷ 0x10000000 ∷ []) (denied 3 1 0)
      -- the count has 16 bits
      ∷ step 0 16 (0x80010102 ∷ 0x10000000 ∷ 0x20000003 ∷ []) (denied 3 1 0)
      ∷ step 0 16 (0x80020004 ∷ 0x10000000 ∷ 0x20000003 ∷ 0x50000000 ∷ 0x60000000 ∷ []) (denied 3 1 0)
      ∷ step 0 16 (0x80020006 ∷ 0x10000000 ∷ 0x20000003 ∷ 0x50000000 ∷ 0x60000000 ∷ 0x30000000 ∷ 0x30000000 ∷ []) (denied 3 1 0)
      ∷ step 0 16 (0x80020005 ∷ 0x10000000 ∷ 0x20000003 ∷ 0x50000000 ∷ 0x60000000 ∷ []) (denied 3 1 0)
      ∷ step 0 16 (0x80030002 ∷ 0x10000000 ∷ 0x20000001 ∷ []) (denied 3 1 0)
      ∷ step 0 16 (0x80030004 ∷ 0x10000000 ∷ 0x20000001 ∷ 0x10000003 ∷ 0x10000004 ∷ []) (denied 3 1 0)
      -- the right words, a count too small
      ∷ step 0 16 (0x80030002 ∷ 0x10000000 ∷ 0x20000001 ∷ 0x10000003 ∷ []) (denied 3 1 0)
      ∷ step 0 16 (0x80040000 ∷ []) (denied 3 1 0)
      ∷ step 0 16 (0x80040002 ∷ 0x10000001 ∷ 0x10000001 ∷ []) (denied 3 1 0)
      ∷ step 0 16 (0x80040001 ∷ []) (denied 3 1 0)
      ∷ step 0 16 (0x80050002 ∷ 0x10000001 ∷ 0x30000000 ∷ []) (denied 3 1 0)
      ∷ step 0 16 (0x80050004 ∷ 0x10000001 ∷ 0x30000000 ∷ 0x30000001 ∷ 0x30000001 ∷ []) (denied 3 1 0)
      -- the right words, a count too large
      ∷ step 0 16 (0x80050004 ∷ 0x10000001 ∷ 0x30000000 ∷ 0x30000001 ∷ []) (denied 3 1 0)
      ∷ step 0 16 (0x80070001 ∷ 0x10000001 ∷ []) (denied 3 1 0)
      ∷ step 0 16 (0x80070003 ∷ 0x10000001 ∷ 0x30000000 ∷ 0x30000000 ∷ []) (denied 3 1 0)
      ∷ step 0 16 (0x80080001 ∷ 0x10000000 ∷ []) (denied 3 1 0)
      ∷ step 0 16 (0x80080003 ∷ 0x10000000 ∷ 0x20000001 ∷ 0x20000001 ∷ []) (denied 3 1 0)
      ∷ step 0 16 (0x80090002 ∷ 0x10000000 ∷ 0x20000001 ∷ []) (denied 3 1 0)
      ∷ step 0 16 (0x80090004 ∷ 0x10000000 ∷ 0x20000001 ∷ 0x40000001 ∷ 0x40000001 ∷ []) (denied 3 1 0)
      ∷ step 0 16 (0x800A0001 ∷ 0x10000000 ∷ []) (denied 3 1 0)
      ∷ step 0 16 (0x800A0003 ∷ 0x10000000 ∷ 0x20000001 ∷ 0x20000001 ∷ []) (denied 3 1 0)
      ∷ step 0 16 (0x800B0000 ∷ []) (denied 3 1 0)
      ∷ step 0 16 (0x800B0002 ∷ 0x10000000 ∷ 0x10000000 ∷ []) (denied 3 1 0)
      -- denial 3 before denial 4
      ∷ step 0 16 (0x80010001 ∷ 0xFFFFFFFF ∷ []) (denied 3 1 0)
      -- nothing of this changed the store
      ∷ step 0 16 (0x800B0001 ∷ 0x10000000 ∷ []) (gets 6 5 0 0)
      ∷ [];
}
