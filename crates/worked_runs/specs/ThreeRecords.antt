-- A store of three records, which serve again. Assumes nothing.
use Rattle.std.specs.Prelude.{[], ◌∷◌}
use Rattle.labels.specs.PartOrders.{level_category, single}
use Rattle.worked_runs.specs.Runs.{Run, label, asks, process, step, gets, denied}

abbrev pub three_records : Run
three_records = record {
  security = level_category;
  integrity = single;
  root = label 0x0 0x0;
  pages = 3;
  admissions =
      asks 0x0 0x0 (process 0)
      ∷ asks 0x30000 0x0 (process 1)
      ∷ [];
  steps =
      step 0 0 (0x80020005 ∷ 0x10000000 ∷ 0x20000002 ∷ 0x50030000 ∷ 0x60000000 ∷ 0x30000003 ∷ []) (denied 14 2 0)
      ∷ step 0 0 (0x80020005 ∷ 0x10000000 ∷ 0x20000002 ∷ 0x50030000 ∷ 0x60000000 ∷ 0x30000002 ∷ []) (gets 3 0 0 0)
      ∷ step 1 0 (0x80030003 ∷ 0x10000000 ∷ 0x20000002 ∷ 0x10000008 ∷ []) (gets 2 1 0 0)
      ∷ step 1 0 (0x80020005 ∷ 0x10000008 ∷ 0x20000001 ∷ 0x50030000 ∷ 0x60000000 ∷ 0x30000002 ∷ []) (denied 14 2 0)
      ∷ step 1 0 (0x80020005 ∷ 0x10000008 ∷ 0x20000001 ∷ 0x50030000 ∷ 0x60000000 ∷ 0x30000001 ∷ []) (gets 2 0 0 0)
      ∷ step 1 0 (0x80030003 ∷ 0x10000008 ∷ 0x20000001 ∷ 0x10000003 ∷ []) (gets 2 1 0 0)
      ∷ step 1 0 (0x80010002 ∷ 0x10000003 ∷ 0x20000006 ∷ []) (gets 1 0 0 0)
      ∷ step 1 0 (0x80030003 ∷ 0x10000003 ∷ 0x20000006 ∷ 0x10000004 ∷ []) (gets 1 1 0 0)
      ∷ step 1 0 (0x80060003 ∷ 0x10000004 ∷ 0x30000000 ∷ 0x00000009 ∷ []) (denied 14 2 0)
      ∷ step 1 0 (0x800B0001 ∷ 0x10000003 ∷ []) (gets 1 0 0 0)
      ∷ step 1 0 (0x800B0001 ∷ 0x10000008 ∷ []) (gets 2 0 0 0)
      -- quota of a lower directory
      ∷ step 1 0 (0x800B0001 ∷ 0x10000000 ∷ []) (gets 3 0 0 0)
      -- 1 + its grant of 1
      ∷ step 1 0 (0x80080002 ∷ 0x10000008 ∷ 0x20000001 ∷ []) (gets 2 0 0 0)
      ∷ step 1 0 (0x80010002 ∷ 0x10000008 ∷ 0x20000001 ∷ []) (gets 1 0 0 0)
      -- what stood below the deleted directory is gone as well
      ∷ step 1 0 (0x80060003 ∷ 0x10000004 ∷ 0x30000000 ∷ 0x00000009 ∷ []) (denied 7 2 1)
      ∷ step 1 0 (0x80030003 ∷ 0x10000008 ∷ 0x20000001 ∷ 0x10000005 ∷ []) (gets 1 1 0 0)
      ∷ step 1 0 (0x80060003 ∷ 0x10000005 ∷ 0x300000FF ∷ 0x0000000C ∷ []) (gets 1 0 0 0)
      ∷ step 1 0 (0x80060003 ∷ 0x10000005 ∷ 0x300000EF ∷ 0x0000000D ∷ []) (denied 14 2 0)
      ∷ step 0 0 (0x80010002 ∷ 0x10000000 ∷ 0x20000000 ∷ []) (denied 14 2 0)
      ∷ step 0 0 (0x80080002 ∷ 0x10000000 ∷ 0x20000002 ∷ []) (gets 3 0 0 0)
      ∷ step 0 0 (0x80010002 ∷ 0x10000000 ∷ 0x20000000 ∷ []) (gets 1 0 0 0)
      ∷ step 0 0 (0x80010002 ∷ 0x10000000 ∷ 0x20000001 ∷ []) (gets 1 0 0 0)
      ∷ step 0 0 (0x80010002 ∷ 0x10000000 ∷ 0x20000002 ∷ []) (gets 1 0 0 0)
      ∷ step 0 0 (0x80010002 ∷ 0x10000000 ∷ 0x20000003 ∷ []) (denied 14 2 0)
      ∷ step 0 0 (0x80080002 ∷ 0x10000000 ∷ 0x20000001 ∷ []) (gets 1 0 0 0)
      ∷ step 0 0 (0x80020005 ∷ 0x10000000 ∷ 0x20000003 ∷ 0x50000000 ∷ 0x60000000 ∷ 0x30000000 ∷ []) (gets 1 0 0 0)
      -- number 8 is gone, and not free
      ∷ step 1 0 (0x80030003 ∷ 0x10000000 ∷ 0x20000002 ∷ 0x10000008 ∷ []) (denied 12 2 3)
      ∷ step 1 0 (0x80030003 ∷ 0x10000000 ∷ 0x20000002 ∷ 0x10000009 ∷ []) (gets 1 0 0 0)
      ∷ [];
}
