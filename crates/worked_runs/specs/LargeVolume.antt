-- A volume of 300 pages, of which the store uses 256, and the largest grants and moves. Assumes nothing.
use Rattle.std.specs.Prelude.{[], ◌∷◌}
use Rattle.labels.specs.PartOrders.{level_category, single}
use Rattle.worked_runs.specs.Runs.{Run, label, asks, process, step, gets, denied}

abbrev pub large_volume : Run
large_volume = record {
  security = level_category;
  integrity = single;
  root = label 0x0 0x0;
  pages = 300;
  admissions =
      asks 0x0 0x0 (process 0)
      ∷ asks 0x40008 0x0 (process 1)
      ∷ [];
  steps =
      step 0 0 (0x800B0001 ∷ 0x10000000 ∷ []) (gets 256 256 0 0)
      -- 1 + 256 is one too many
      ∷ step 0 0 (0x80020005 ∷ 0x10000000 ∷ 0x2000000E ∷ 0x50000000 ∷ 0x60000000 ∷ 0x30000100 ∷ []) (denied 14 2 0)
      ∷ step 0 0 (0x80020005 ∷ 0x10000000 ∷ 0x2000000E ∷ 0x50000000 ∷ 0x60000000 ∷ 0x300000FF ∷ []) (gets 256 0 0 0)
      ∷ step 0 0 (0x800B0001 ∷ 0x10000000 ∷ []) (gets 256 0 0 0)
      ∷ step 0 0 (0x800A0002 ∷ 0x10000000 ∷ 0x2000000E ∷ []) (gets 2 0 0 255)
      -- -255, the grant would be 0
      ∷ step 0 0 (0x80090003 ∷ 0x10000000 ∷ 0x2000000E ∷ 0x4FFFFF01 ∷ []) (denied 13 2 3)
      -- -256, and too few left at e as well
      ∷ step 0 0 (0x80090003 ∷ 0x10000000 ∷ 0x2000000E ∷ 0x4FFFFF00 ∷ []) (denied 13 2 3)
      -- -254
      ∷ step 0 0 (0x80090003 ∷ 0x10000000 ∷ 0x2000000E ∷ 0x4FFFFF02 ∷ []) (gets 1 0 0 0)
      ∷ step 0 0 (0x80090003 ∷ 0x10000000 ∷ 0x2000000E ∷ 0x40000100 ∷ []) (denied 14 2 0)
      ∷ step 0 0 (0x80090003 ∷ 0x10000000 ∷ 0x2000000E ∷ 0x400000FF ∷ []) (denied 14 2 0)
      ∷ step 0 0 (0x80090003 ∷ 0x10000000 ∷ 0x2000000E ∷ 0x400000FE ∷ []) (gets 255 0 0 0)
      ∷ step 0 0 (0x80030003 ∷ 0x10000000 ∷ 0x2000000E ∷ 0x1000000D ∷ []) (gets 2 1 0 0)
      -- 54 left in the cell of 255
      ∷ step 0 0 (0x80020005 ∷ 0x1000000D ∷ 0x20000001 ∷ 0x50040008 ∷ 0x60000000 ∷ 0x300000C8 ∷ []) (gets 201 0 0 0)
      ∷ step 0 0 (0x80020005 ∷ 0x1000000D ∷ 0x20000002 ∷ 0x50000000 ∷ 0x60000000 ∷ 0x30000036 ∷ []) (denied 14 2 0)
      -- 1 + 53 is exactly what is left
      ∷ step 0 0 (0x80020005 ∷ 0x1000000D ∷ 0x20000002 ∷ 0x50000000 ∷ 0x60000000 ∷ 0x30000035 ∷ []) (gets 54 0 0 0)
      ∷ step 1 0 (0x80030003 ∷ 0x10000000 ∷ 0x2000000E ∷ 0x10000002 ∷ []) (gets 2 0 0 0)
      ∷ step 1 0 (0x80030003 ∷ 0x10000002 ∷ 0x20000001 ∷ 0x10000003 ∷ []) (gets 2 1 0 0)
      ∷ step 1 0 (0x80020005 ∷ 0x10000003 ∷ 0x2000000C ∷ 0x5007FFFF ∷ 0x60000000 ∷ 0x30000064 ∷ []) (gets 101 0 0 0)
      ∷ step 1 0 (0x800B0001 ∷ 0x10000003 ∷ []) (gets 200 99 0 0)
      ∷ step 0 0 (0x800B0001 ∷ 0x1000000D ∷ []) (gets 255 0 0 0)
      ∷ step 0 0 (0x80080002 ∷ 0x1000000D ∷ 0x20000001 ∷ []) (gets 201 0 0 0)
      -- 53 + 201
      ∷ step 0 0 (0x80090003 ∷ 0x1000000D ∷ 0x20000002 ∷ 0x400000C9 ∷ []) (gets 254 0 0 0)
      ∷ step 0 0 (0x80080002 ∷ 0x10000000 ∷ 0x2000000E ∷ []) (gets 256 0 0 0)
      ∷ step 0 0 (0x800B0001 ∷ 0x10000000 ∷ []) (gets 256 256 0 0)
      ∷ [];
}
