-- Writing, truncating and writing again, read back around. Assumes nothing.
use Rattle.std.specs.Prelude.{[], ◌∷◌}
use Rattle.labels.specs.PartOrders.{level_category, single}
use Rattle.worked_runs.specs.Runs.{Run, label, asks, process, step, gets, reads}

abbrev pub writing_again : Run
writing_again = record {
  security = level_category;
  integrity = single;
  root = label 0x0 0x0;
  pages = 20;
  admissions =
      asks 0x0 0x0 (process 0)
      ∷ asks 0x1 0x0 (process 1)
      ∷ [];
  steps =
      step 0 0 (0x80010002 ∷ 0x10000000 ∷ 0x2000000D ∷ []) (gets 1 0 0 0)
      ∷ step 0 0 (0x80030003 ∷ 0x10000000 ∷ 0x2000000D ∷ 0x10000008 ∷ []) (gets 1 1 0 0)
      ∷ step 0 0 (0x80010002 ∷ 0x10000000 ∷ 0x20000005 ∷ []) (gets 1 0 0 0)
      -- 18 left
      ∷ step 0 0 (0x80030003 ∷ 0x10000000 ∷ 0x20000005 ∷ 0x10000009 ∷ []) (gets 1 1 0 0)
      -- words 37 to 39, within page 2
      ∷ step 0 0 (0x80060005 ∷ 0x10000008 ∷ 0x30000025 ∷ 0xA1000001 ∷ 0xA2000002 ∷ 0xA3000003 ∷ []) (gets 1 0 0 0)
      ∷ step 0 5 (0x80050003 ∷ 0x10000008 ∷ 0x30000024 ∷ 0x30000005 ∷ []) (reads 5 (0x00000000 ∷ 0xA1000001 ∷ 0xA2000002 ∷ 0xA3000003 ∷ 0x00000000 ∷ []))
      -- one word in the middle of a present page
      ∷ step 0 0 (0x80060003 ∷ 0x10000008 ∷ 0x30000026 ∷ 0xB2B2B2B2 ∷ []) (gets 0 0 0 0)
      ∷ step 0 16 (0x80050003 ∷ 0x10000008 ∷ 0x30000024 ∷ 0x30000005 ∷ []) (reads 5 (0x00000000 ∷ 0xA1000001 ∷ 0xB2B2B2B2 ∷ 0xA3000003 ∷ 0x00000000 ∷ []))
      -- the other segment is untouched
      ∷ step 0 2 (0x80050003 ∷ 0x10000009 ∷ 0x30000025 ∷ 0x30000002 ∷ []) (reads 2 (0x00000000 ∷ 0x00000000 ∷ []))
      -- word 31 in absent page 1, word 32 in present page 2
      ∷ step 0 0 (0x80060004 ∷ 0x10000008 ∷ 0x3000001F ∷ 0xC1C1C1C1 ∷ 0xC2C2C2C2 ∷ []) (gets 1 0 0 0)
      ∷ step 0 8 (0x80050003 ∷ 0x10000008 ∷ 0x3000001E ∷ 0x30000008 ∷ []) (reads 8 (0x00000000 ∷ 0xC1C1C1C1 ∷ 0xC2C2C2C2 ∷ 0x00000000 ∷ 0x00000000 ∷ 0x00000000 ∷ 0x00000000 ∷ 0xA1000001 ∷ []))
      -- 16 words, 72 to 87: pages 4 and 5
      ∷ step 0 0 (0x80060012 ∷ 0x10000008 ∷ 0x30000048 ∷ 0x00000001 ∷ 0x00000002 ∷ 0x00000003 ∷ 0x00000004 ∷ 0x00000005 ∷ 0x00000006 ∷ 0x00000007 ∷ 0x00000008 ∷ 0x00000009 ∷ 0x0000000A ∷ 0x0000000B ∷ 0x0000000C ∷ 0x0000000D ∷ 0x0000000E ∷ 0x0000000F ∷ 0x00000010 ∷ []) (gets 2 0 0 0)
      ∷ step 0 16 (0x80050003 ∷ 0x10000008 ∷ 0x30000047 ∷ 0x30000010 ∷ []) (reads 16 (0x00000000 ∷ 0x00000001 ∷ 0x00000002 ∷ 0x00000003 ∷ 0x00000004 ∷ 0x00000005 ∷ 0x00000006 ∷ 0x00000007 ∷ 0x00000008 ∷ 0x00000009 ∷ 0x0000000A ∷ 0x0000000B ∷ 0x0000000C ∷ 0x0000000D ∷ 0x0000000E ∷ 0x0000000F ∷ []))
      ∷ step 0 3 (0x80050003 ∷ 0x10000008 ∷ 0x30000057 ∷ 0x30000003 ∷ []) (reads 3 (0x00000010 ∷ 0x00000000 ∷ 0x00000000 ∷ []))
      -- words 254 and 255, with high bits
      ∷ step 0 0 (0x80060004 ∷ 0x10000008 ∷ 0x300000FE ∷ 0xFFFFFFFF ∷ 0x80000000 ∷ []) (gets 1 0 0 0)
      ∷ step 0 3 (0x80050003 ∷ 0x10000008 ∷ 0x300000FD ∷ 0x30000003 ∷ []) (reads 3 (0x00000000 ∷ 0xFFFFFFFF ∷ 0x80000000 ∷ []))
      -- words 46 and 47 in present page 2, 48 in absent page 3
      ∷ step 0 0 (0x80060005 ∷ 0x10000008 ∷ 0x3000002E ∷ 0xD1D1D1D1 ∷ 0xD2D2D2D2 ∷ 0xD3D3D3D3 ∷ []) (gets 1 0 0 0)
      ∷ step 0 5 (0x80050003 ∷ 0x10000008 ∷ 0x3000002D ∷ 0x30000005 ∷ []) (reads 5 (0x00000000 ∷ 0xD1D1D1D1 ∷ 0xD2D2D2D2 ∷ 0xD3D3D3D3 ∷ 0x00000000 ∷ []))
      -- the other segment: word 63 in page 3, 64 and 65 in page 4
      ∷ step 0 0 (0x80060005 ∷ 0x10000009 ∷ 0x3000003F ∷ 0x7FFFFFFF ∷ 0x8FFFFFFF ∷ 0x10000000 ∷ []) (gets 2 0 0 0)
      -- pages 1, 2, 3, 4, 5 and 15
      ∷ step 0 0 (0x800A0002 ∷ 0x10000000 ∷ 0x2000000D ∷ []) (gets 1 0 0 6)
      -- two segments, 6 and 2 pages
      ∷ step 0 0 (0x800B0001 ∷ 0x10000000 ∷ []) (gets 20 10 0 0)
      -- to 16 pages: nothing
      ∷ step 0 0 (0x80070002 ∷ 0x10000008 ∷ 0x30000010 ∷ []) (gets 0 0 0 0)
      -- pages 5 and 15
      ∷ step 0 0 (0x80070002 ∷ 0x10000008 ∷ 0x30000005 ∷ []) (gets 2 0 0 0)
      ∷ step 0 0 (0x80070002 ∷ 0x10000008 ∷ 0x30000005 ∷ []) (gets 0 0 0 0)
      -- word 79 stays, 80 and 81 are in an absent page
      ∷ step 0 3 (0x80050003 ∷ 0x10000008 ∷ 0x3000004F ∷ 0x30000003 ∷ []) (reads 3 (0x00000008 ∷ 0x00000000 ∷ 0x00000000 ∷ []))
      -- word 85 of the truncated page 5
      ∷ step 0 0 (0x80060003 ∷ 0x10000008 ∷ 0x30000055 ∷ 0xE5E5E5E5 ∷ []) (gets 1 0 0 0)
      -- the old words do not come back
      ∷ step 0 16 (0x80050003 ∷ 0x10000008 ∷ 0x3000004F ∷ 0x30000010 ∷ []) (reads 16 (0x00000008 ∷ 0x00000000 ∷ 0x00000000 ∷ 0x00000000 ∷ 0x00000000 ∷ 0x00000000 ∷ 0xE5E5E5E5 ∷ 0x00000000 ∷ 0x00000000 ∷ 0x00000000 ∷ 0x00000000 ∷ 0x00000000 ∷ 0x00000000 ∷ 0x00000000 ∷ 0x00000000 ∷ 0x00000000 ∷ []))
      ∷ step 0 0 (0x80060003 ∷ 0x10000008 ∷ 0x300000FF ∷ 0x80000001 ∷ []) (gets 1 0 0 0)
      ∷ step 0 2 (0x80050003 ∷ 0x10000008 ∷ 0x300000FE ∷ 0x30000002 ∷ []) (reads 2 (0x00000000 ∷ 0x80000001 ∷ []))
      ∷ step 0 0 (0x80070002 ∷ 0x10000008 ∷ 0x3000000F ∷ []) (gets 1 0 0 0)
      ∷ step 1 0 (0x80030003 ∷ 0x10000000 ∷ 0x2000000D ∷ 0x10000003 ∷ []) (gets 1 0 0 0)
      ∷ step 1 4 (0x80050003 ∷ 0x10000003 ∷ 0x3000002E ∷ 0x30000003 ∷ []) (reads 3 (0xD1D1D1D1 ∷ 0xD2D2D2D2 ∷ 0xD3D3D3D3 ∷ []))
      -- pages 1 to 5
      ∷ step 0 0 (0x80070002 ∷ 0x10000008 ∷ 0x30000000 ∷ []) (gets 5 0 0 0)
      ∷ step 0 0 (0x80070002 ∷ 0x10000008 ∷ 0x30000000 ∷ []) (gets 0 0 0 0)
      ∷ step 0 0 (0x800A0002 ∷ 0x10000000 ∷ 0x2000000D ∷ []) (gets 1 0 0 0)
      ∷ step 0 0 (0x800B0001 ∷ 0x10000000 ∷ []) (gets 20 16 0 0)
      ∷ step 1 3 (0x80050003 ∷ 0x10000003 ∷ 0x3000002E ∷ 0x30000003 ∷ []) (reads 3 (0x00000000 ∷ 0x00000000 ∷ 0x00000000 ∷ []))
      ∷ step 0 0 (0x80060004 ∷ 0x10000008 ∷ 0x30000000 ∷ 0xF0F0F0F0 ∷ 0x0F0F0F0F ∷ []) (gets 1 0 0 0)
      ∷ step 0 3 (0x80050003 ∷ 0x10000008 ∷ 0x30000000 ∷ 0x30000003 ∷ []) (reads 3 (0xF0F0F0F0 ∷ 0x0F0F0F0F ∷ 0x00000000 ∷ []))
      -- the other segment kept its words all along
      ∷ step 0 4 (0x80050003 ∷ 0x10000009 ∷ 0x3000003E ∷ 0x30000004 ∷ []) (reads 4 (0x00000000 ∷ 0x7FFFFFFF ∷ 0x8FFFFFFF ∷ 0x10000000 ∷ []))
      ∷ step 0 0 (0x80080002 ∷ 0x10000000 ∷ 0x20000005 ∷ []) (gets 3 0 0 0)
      ∷ step 0 0 (0x800B0001 ∷ 0x10000000 ∷ []) (gets 20 18 0 0)
      ∷ [];
}
