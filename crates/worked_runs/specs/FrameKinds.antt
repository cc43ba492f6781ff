-- Every argument with a wrong kind; kind before value, and an earlier word before a later. Assumes nothing.
use Rattle.std.specs.Prelude.{[], ◌∷◌}
use Rattle.labels.specs.PartOrders.{level_category, single}
use Rattle.worked_runs.specs.Runs.{Run, label, asks, process, step, gets, denied}

abbrev pub frame_kinds : Run
frame_kinds = record {
  security = level_category;
  integrity = single;
  root = label 0x0 0x0;
  pages = 6;
  admissions =
      asks 0x0 0x0 (process 0)
      ∷ [];
  steps =
      step 0 16 (0x80010002 ∷ 0x00000000 ∷ 0x20000001 ∷ []) (denied 4 1 1)
      ∷ step 0 16 (0x80010002 ∷ 0x10000000 ∷ 0x10000001 ∷ []) (denied 4 1 2)
      ∷ step 0 16 (0x80020005 ∷ 0x20000000 ∷ 0x20000001 ∷ 0x50000000 ∷ 0x60000000 ∷ 0x30000000 ∷ []) (denied 4 1 1)
      ∷ step 0 16 (0x80020005 ∷ 0x10000000 ∷ 0x30000001 ∷ 0x50000000 ∷ 0x60000000 ∷ 0x30000000 ∷ []) (denied 4 1 2)
      ∷ step 0 16 (0x80020005 ∷ 0x10000000 ∷ 0x20000001 ∷ 0x60000000 ∷ 0x60000000 ∷ 0x30000000 ∷ []) (denied 4 1 3)
      ∷ step 0 16 (0x80020005 ∷ 0x10000000 ∷ 0x20000001 ∷ 0x50000000 ∷ 0x50000000 ∷ 0x30000000 ∷ []) (denied 4 1 4)
      ∷ step 0 16 (0x80020005 ∷ 0x10000000 ∷ 0x20000001 ∷ 0x50000000 ∷ 0x60000000 ∷ 0x40000000 ∷ []) (denied 4 1 5)
      ∷ step 0 16 (0x80030003 ∷ 0xF0000000 ∷ 0x20000001 ∷ 0x10000002 ∷ []) (denied 4 1 1)
      -- kind 10, not 2
      ∷ step 0 16 (0x80030003 ∷ 0x10000000 ∷ 0xA0000001 ∷ 0x10000002 ∷ []) (denied 4 1 2)
      ∷ step 0 16 (0x80030003 ∷ 0x10000000 ∷ 0x20000001 ∷ 0x20000002 ∷ []) (denied 4 1 3)
      ∷ step 0 16 (0x80040001 ∷ 0x30000001 ∷ []) (denied 4 1 1)
      ∷ step 0 16 (0x80050003 ∷ 0x90000001 ∷ 0x30000002 ∷ 0x30000003 ∷ []) (denied 4 1 1)
      ∷ step 0 16 (0x80050003 ∷ 0x10000001 ∷ 0x20000002 ∷ 0x30000003 ∷ []) (denied 4 1 2)
      ∷ step 0 16 (0x80050003 ∷ 0x10000001 ∷ 0x30000002 ∷ 0x40000003 ∷ []) (denied 4 1 3)
      ∷ step 0 16 (0x80060003 ∷ 0x30000001 ∷ 0x30000002 ∷ 0x00000003 ∷ []) (denied 4 1 1)
      ∷ step 0 16 (0x80060003 ∷ 0x10000001 ∷ 0x40000002 ∷ 0x00000003 ∷ []) (denied 4 1 2)
      ∷ step 0 16 (0x80070002 ∷ 0x20000001 ∷ 0x30000002 ∷ []) (denied 4 1 1)
      ∷ step 0 16 (0x80070002 ∷ 0x10000001 ∷ 0x20000002 ∷ []) (denied 4 1 2)
      ∷ step 0 16 (0x80080002 ∷ 0x50000000 ∷ 0x20000002 ∷ []) (denied 4 1 1)
      ∷ step 0 16 (0x80080002 ∷ 0x10000000 ∷ 0x60000002 ∷ []) (denied 4 1 2)
      ∷ step 0 16 (0x80090003 ∷ 0x40000000 ∷ 0x20000002 ∷ 0x40000003 ∷ []) (denied 4 1 1)
      ∷ step 0 16 (0x80090003 ∷ 0x10000000 ∷ 0x00000002 ∷ 0x40000003 ∷ []) (denied 4 1 2)
      ∷ step 0 16 (0x80090003 ∷ 0x10000000 ∷ 0x20000002 ∷ 0x30000003 ∷ []) (denied 4 1 3)
      ∷ step 0 16 (0x800A0002 ∷ 0x80000000 ∷ 0x20000002 ∷ []) (denied 4 1 1)
      ∷ step 0 16 (0x800A0002 ∷ 0x10000000 ∷ 0x70000002 ∷ []) (denied 4 1 2)
      ∷ step 0 16 (0x800B0001 ∷ 0x60000000 ∷ []) (denied 4 1 1)
      -- kind before value in one word
      ∷ step 0 16 (0x80010002 ∷ 0x20000010 ∷ 0x2000000F ∷ []) (denied 4 1 1)
      -- kind before value
      ∷ step 0 16 (0x80010002 ∷ 0x10000000 ∷ 0x30000010 ∷ []) (denied 4 1 2)
      -- value of word 1 before kind of word 2
      ∷ step 0 16 (0x80010002 ∷ 0x10000010 ∷ 0x10000001 ∷ []) (denied 5 1 1)
      -- two wrong kinds
      ∷ step 0 16 (0x80010002 ∷ 0x20000000 ∷ 0x10000001 ∷ []) (denied 4 1 1)
      -- value of word 2 before kind of word 3
      ∷ step 0 16 (0x80020005 ∷ 0x10000000 ∷ 0x20000010 ∷ 0x60000000 ∷ 0x60000000 ∷ 0x30000101 ∷ []) (denied 5 1 2)
      -- kind of word 4 before value of word 5
      ∷ step 0 16 (0x80020005 ∷ 0x10000000 ∷ 0x20000001 ∷ 0x50000000 ∷ 0x5FFFFFFF ∷ 0x30000101 ∷ []) (denied 4 1 4)
      -- a wrong kind of count, so it is not asked whether word 255 is passed
      ∷ step 0 16 (0x80050003 ∷ 0x10000000 ∷ 0x300000FF ∷ 0x20000002 ∷ []) (denied 4 1 3)
      ∷ step 0 16 (0x80060004 ∷ 0x10000000 ∷ 0x200000FF ∷ 0x00000001 ∷ 0x00000002 ∷ []) (denied 4 1 2)
      -- place before amount
      ∷ step 0 16 (0x80090003 ∷ 0x10000000 ∷ 0x20000010 ∷ 0x40000000 ∷ []) (denied 5 1 2)
      -- the frame before the store: number 9 is free
      ∷ step 0 16 (0x80020005 ∷ 0x10000009 ∷ 0x20000003 ∷ 0x5FFFFFFF ∷ 0x6FFFFFFF ∷ 0x40000000 ∷ []) (denied 4 1 5)
      -- label words with all 28 bits pass the frame
      ∷ step 0 16 (0x80020005 ∷ 0x10000000 ∷ 0x20000003 ∷ 0x5FFFFFFF ∷ 0x60000000 ∷ 0x30000005 ∷ []) (denied 11 2 3)
      ∷ step 0 16 (0x80020005 ∷ 0x10000000 ∷ 0x20000003 ∷ 0x50000000 ∷ 0x6FFFFFFF ∷ 0x30000005 ∷ []) (denied 11 2 3)
      ∷ step 0 16 (0x800B0001 ∷ 0x10000000 ∷ []) (gets 6 6 0 0)
      ∷ [];
}
