-- Writes that begin or end where a page does make present the pages of their words and no other. Assumes nothing.
use Rattle.std.specs.Prelude.{[], ◌∷◌}
use Rattle.labels.specs.PartOrders.{level_category, single}
use Rattle.worked_runs.specs.Runs.{Run, label, asks, process, step, gets, reads}

abbrev pub page_edges : Run
page_edges = record {
  security = level_category;
  integrity = single;
  root = label 0x0 0x0;
  pages = 20;
  admissions = asks 0x0 0x0 (process 0) ∷ [];
  steps =
      step 0 0 (0x80010002 ∷ 0x10000000 ∷ 0x20000004 ∷ []) (gets 1 0 0 0)
      ∷ step 0 0 (0x80030003 ∷ 0x10000000 ∷ 0x20000004 ∷ 0x10000002 ∷ []) (gets 1 1 0 0)
      -- word 15, the last of page 0
      ∷ step 0 0 (0x80060003 ∷ 0x10000002 ∷ 0x3000000F ∷ 0x00000007 ∷ []) (gets 1 0 0 0)
      ∷ step 0 0 (0x800A0002 ∷ 0x10000000 ∷ 0x20000004 ∷ []) (gets 1 0 0 1)
      -- words 16 to 31, all of page 1
      ∷ step 0 0 (0x80060012 ∷ 0x10000002 ∷ 0x30000010 ∷ 0x00000001 ∷ 0x00000002 ∷ 0x00000003 ∷ 0x00000004 ∷ 0x00000005 ∷ 0x00000006 ∷ 0x00000007 ∷ 0x00000008 ∷ 0x00000009 ∷ 0x0000000A ∷ 0x0000000B ∷ 0x0000000C ∷ 0x0000000D ∷ 0x0000000E ∷ 0x0000000F ∷ 0x00000010 ∷ []) (gets 1 0 0 0)
      ∷ step 0 0 (0x800A0002 ∷ 0x10000000 ∷ 0x20000004 ∷ []) (gets 1 0 0 2)
      -- words 62 and 63, the last of page 3
      ∷ step 0 0 (0x80060004 ∷ 0x10000002 ∷ 0x3000003E ∷ 0x00000008 ∷ 0x00000009 ∷ []) (gets 1 0 0 0)
      ∷ step 0 0 (0x800A0002 ∷ 0x10000000 ∷ 0x20000004 ∷ []) (gets 1 0 0 3)
      -- word 64, the first of page 4
      ∷ step 0 0 (0x80060003 ∷ 0x10000002 ∷ 0x30000040 ∷ 0x0000000A ∷ []) (gets 1 0 0 0)
      ∷ step 0 0 (0x800A0002 ∷ 0x10000000 ∷ 0x20000004 ∷ []) (gets 1 0 0 4)
      -- words 240 to 255, all of page 15
      ∷ step 0 0 (0x80060012 ∷ 0x10000002 ∷ 0x300000F0 ∷ 0x00000011 ∷ 0x00000012 ∷ 0x00000013 ∷ 0x00000014 ∷ 0x00000015 ∷ 0x00000016 ∷ 0x00000017 ∷ 0x00000018 ∷ 0x00000019 ∷ 0x0000001A ∷ 0x0000001B ∷ 0x0000001C ∷ 0x0000001D ∷ 0x0000001E ∷ 0x0000001F ∷ 0x00000020 ∷ []) (gets 1 0 0 0)
      ∷ step 0 0 (0x800A0002 ∷ 0x10000000 ∷ 0x20000004 ∷ []) (gets 1 0 0 5)
      -- one segment and five pages
      ∷ step 0 0 (0x800B0001 ∷ 0x10000000 ∷ []) (gets 20 14 0 0)
      -- pages 3, 4 and 15 go
      ∷ step 0 0 (0x80070002 ∷ 0x10000002 ∷ 0x30000003 ∷ []) (gets 3 0 0 0)
      ∷ step 0 16 (0x80050003 ∷ 0x10000002 ∷ 0x3000000F ∷ 0x30000010 ∷ []) (reads 16 (0x00000007 ∷ 0x00000001 ∷ 0x00000002 ∷ 0x00000003 ∷ 0x00000004 ∷ 0x00000005 ∷ 0x00000006 ∷ 0x00000007 ∷ 0x00000008 ∷ 0x00000009 ∷ 0x0000000A ∷ 0x0000000B ∷ 0x0000000C ∷ 0x0000000D ∷ 0x0000000E ∷ 0x0000000F ∷ []))
      ∷ step 0 16 (0x80050003 ∷ 0x10000002 ∷ 0x3000001F ∷ 0x30000002 ∷ []) (reads 2 (0x00000010 ∷ 0x00000000 ∷ []))
      ∷ step 0 0 (0x800B0001 ∷ 0x10000000 ∷ []) (gets 20 17 0 0)
      ∷ [];
}
