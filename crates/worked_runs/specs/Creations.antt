-- Creating segments and directories: granted, every denial, and their order. Assumes nothing.
use Rattle.std.specs.Prelude.{[], ◌∷◌}
use Rattle.labels.specs.PartOrders.{level_category}
use Rattle.worked_runs.specs.Runs.{Run, label, asks, process, step, gets, denied}

abbrev pub creations : Run
creations = record {
  security = level_category;
  integrity = level_category;
  root = label 0x10001 0x10000;
  pages = 12;
  admissions =
      asks 0x10001 0x10000 (process 0)
      ∷ asks 0x20003 0x10004 (process 1)
      ∷ [];
  steps =
      -- root left 11
      step 0 0 (0x80010002 ∷ 0x10000000 ∷ 0x2000000F ∷ []) (gets 1 0 0 0)
      ∷ step 0 0 (0x80030003 ∷ 0x10000000 ∷ 0x2000000F ∷ 0x10000006 ∷ []) (gets 1 1 0 0)
      -- root left 3
      ∷ step 0 0 (0x80020005 ∷ 0x10000000 ∷ 0x20000005 ∷ 0x50020003 ∷ 0x60010004 ∷ 0x30000007 ∷ []) (gets 8 0 0 0)
      ∷ step 1 0 (0x80030003 ∷ 0x10000000 ∷ 0x20000005 ∷ 0x10000009 ∷ []) (gets 2 1 0 0)
      ∷ step 1 0 (0x80010002 ∷ 0x10000009 ∷ 0x2000000B ∷ []) (gets 1 0 0 0)
      ∷ step 1 0 (0x80030003 ∷ 0x10000009 ∷ 0x2000000B ∷ 0x1000000D ∷ []) (gets 1 1 0 0)
      -- same label, no cell
      ∷ step 1 0 (0x80020005 ∷ 0x10000009 ∷ 0x20000002 ∷ 0x50020003 ∷ 0x60010004 ∷ 0x30000000 ∷ []) (gets 1 0 0 0)
      -- higher in both words; 7 - 1 - 1 - 3 = 2 left
      ∷ step 1 0 (0x80020005 ∷ 0x10000009 ∷ 0x20000003 ∷ 0x5003000B ∷ 0x6005000C ∷ 0x30000002 ∷ []) (gets 3 0 0 0)
      ∷ step 1 0 (0x800B0001 ∷ 0x10000009 ∷ []) (gets 7 2 0 0)
      ∷ step 0 0 (0x80010002 ∷ 0x10000004 ∷ 0x20000001 ∷ []) (denied 6 2 1)
      -- free number before the invalid label
      ∷ step 0 0 (0x80020005 ∷ 0x10000004 ∷ 0x20000001 ∷ 0x5FFFFFFF ∷ 0x6FFFFFFF ∷ 0x30000000 ∷ []) (denied 6 2 1)
      ∷ step 0 0 (0x80010002 ∷ 0x10000006 ∷ 0x20000001 ∷ []) (denied 8 2 1)
      ∷ step 1 0 (0x80030003 ∷ 0x10000000 ∷ 0x2000000F ∷ 0x10000002 ∷ []) (gets 1 0 0 0)
      -- a segment of another label: 8 before 9
      ∷ step 1 0 (0x80010002 ∷ 0x10000002 ∷ 0x2000000F ∷ []) (denied 8 2 1)
      -- 8 before 9
      ∷ step 1 0 (0x80020005 ∷ 0x10000002 ∷ 0x20000005 ∷ 0x50020003 ∷ 0x60010004 ∷ 0x30000001 ∷ []) (denied 8 2 1)
      ∷ step 1 0 (0x80010002 ∷ 0x10000000 ∷ 0x20000004 ∷ []) (denied 9 2 1)
      -- other label and taken place: 9 before 10
      ∷ step 1 0 (0x80010002 ∷ 0x10000000 ∷ 0x2000000F ∷ []) (denied 9 2 1)
      ∷ step 1 0 (0x80020005 ∷ 0x10000000 ∷ 0x20000004 ∷ 0x50020003 ∷ 0x60010004 ∷ 0x30000002 ∷ []) (denied 9 2 1)
      -- 9 before 10
      ∷ step 1 0 (0x80020005 ∷ 0x10000000 ∷ 0x20000005 ∷ 0x50020003 ∷ 0x60010004 ∷ 0x30000002 ∷ []) (denied 9 2 1)
      ∷ step 0 0 (0x80010002 ∷ 0x10000000 ∷ 0x20000005 ∷ []) (denied 10 2 2)
      ∷ step 0 0 (0x80020005 ∷ 0x10000000 ∷ 0x2000000F ∷ 0x50020003 ∷ 0x60010004 ∷ 0x30000001 ∷ []) (denied 10 2 2)
      -- taken place and invalid label: 10 before 11
      ∷ step 0 0 (0x80020005 ∷ 0x10000000 ∷ 0x20000005 ∷ 0x50080001 ∷ 0x60010000 ∷ 0x30000002 ∷ []) (denied 10 2 2)
      -- invalid security word
      ∷ step 0 0 (0x80020005 ∷ 0x10000000 ∷ 0x2000000E ∷ 0x50080001 ∷ 0x60010000 ∷ 0x30000002 ∷ []) (denied 11 2 3)
      -- invalid integrity word, blamed at place 3 too
      ∷ step 0 0 (0x80020005 ∷ 0x10000000 ∷ 0x2000000E ∷ 0x50010001 ∷ 0x60080000 ∷ 0x30000001 ∷ []) (denied 11 2 3)
      -- lower security level
      ∷ step 0 0 (0x80020005 ∷ 0x10000000 ∷ 0x2000000E ∷ 0x50000001 ∷ 0x60010000 ∷ 0x30000001 ∷ []) (denied 11 2 3)
      -- category 0 missing
      ∷ step 0 0 (0x80020005 ∷ 0x10000000 ∷ 0x2000000E ∷ 0x50070002 ∷ 0x60070000 ∷ 0x30000001 ∷ []) (denied 11 2 3)
      -- lower integrity level
      ∷ step 0 0 (0x80020005 ∷ 0x10000000 ∷ 0x2000000E ∷ 0x50010001 ∷ 0x6000FFFF ∷ 0x30000001 ∷ []) (denied 11 2 3)
      -- all 28 bits pass the frame; 11 before 13
      ∷ step 0 0 (0x80020005 ∷ 0x10000000 ∷ 0x2000000E ∷ 0x5FFFFFFF ∷ 0x6FFFFFFF ∷ 0x30000000 ∷ []) (denied 11 2 3)
      -- 11 before 14
      ∷ step 0 0 (0x80020005 ∷ 0x10000000 ∷ 0x2000000E ∷ 0x50000000 ∷ 0x60010000 ∷ 0x30000100 ∷ []) (denied 11 2 3)
      -- differs in integrity only
      ∷ step 0 0 (0x80020005 ∷ 0x10000000 ∷ 0x2000000E ∷ 0x50010001 ∷ 0x60010001 ∷ 0x30000000 ∷ []) (denied 13 2 5)
      -- differs in security only
      ∷ step 0 0 (0x80020005 ∷ 0x10000000 ∷ 0x2000000E ∷ 0x50010003 ∷ 0x60010000 ∷ 0x30000000 ∷ []) (denied 13 2 5)
      -- 3 left, 4 asked
      ∷ step 0 0 (0x80020005 ∷ 0x10000000 ∷ 0x2000000E ∷ 0x50010001 ∷ 0x60010000 ∷ 0x30000003 ∷ []) (denied 14 2 0)
      -- 1 + grant is exactly what is left
      ∷ step 0 0 (0x80020005 ∷ 0x10000000 ∷ 0x2000000E ∷ 0x50010001 ∷ 0x60010000 ∷ 0x30000002 ∷ []) (gets 3 0 0 0)
      ∷ step 0 0 (0x800B0001 ∷ 0x10000000 ∷ []) (gets 12 0 0 0)
      ∷ step 0 0 (0x80010002 ∷ 0x10000000 ∷ 0x20000001 ∷ []) (denied 14 2 0)
      -- 10 before 14
      ∷ step 0 0 (0x80010002 ∷ 0x10000000 ∷ 0x2000000E ∷ []) (denied 10 2 2)
      ∷ step 0 0 (0x80020005 ∷ 0x10000000 ∷ 0x20000001 ∷ 0x50010001 ∷ 0x60010000 ∷ 0x30000000 ∷ []) (denied 14 2 0)
      -- differing label, grant 0 and nothing left: 13 before 14
      ∷ step 0 0 (0x80020005 ∷ 0x10000000 ∷ 0x20000001 ∷ 0x50010003 ∷ 0x60010000 ∷ 0x30000000 ∷ []) (denied 13 2 5)
      -- 9 before 14
      ∷ step 1 0 (0x80010002 ∷ 0x10000000 ∷ 0x20000001 ∷ []) (denied 9 2 1)
      ∷ step 0 0 (0x80080002 ∷ 0x10000000 ∷ 0x20000005 ∷ []) (gets 8 0 0 0)
      ∷ step 1 0 (0x80010002 ∷ 0x10000009 ∷ 0x20000007 ∷ []) (denied 7 2 1)
      -- gone before everything else
      ∷ step 1 0 (0x80020005 ∷ 0x10000009 ∷ 0x20000007 ∷ 0x50080000 ∷ 0x60080000 ∷ 0x30000000 ∷ []) (denied 7 2 1)
      -- it meant a segment, but it is gone: 7 before 8
      ∷ step 1 0 (0x80010002 ∷ 0x1000000D ∷ 0x20000007 ∷ []) (denied 7 2 1)
      ∷ step 0 0 (0x80020005 ∷ 0x10000006 ∷ 0x20000001 ∷ 0x50020003 ∷ 0x60010004 ∷ 0x30000001 ∷ []) (denied 8 2 1)
      -- the records given back serve again
      ∷ step 0 0 (0x80020005 ∷ 0x10000000 ∷ 0x20000005 ∷ 0x5001FFFF ∷ 0x6001FFFF ∷ 0x30000007 ∷ []) (gets 8 0 0 0)
      ∷ [];
}
