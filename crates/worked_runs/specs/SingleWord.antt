-- One word for both halves: all processes have one label. Assumes nothing.
use Rattle.std.specs.Prelude.{[], ◌∷◌}
use Rattle.labels.specs.PartOrders.{single}
use Rattle.worked_runs.specs.Runs.{Run, label, asks, process, refused, step, gets, reads, denied}

abbrev pub single_word : Run
single_word = record {
  security = single;
  integrity = single;
  root = label 0x0 0x0;
  pages = 7;
  admissions =
      asks 0x0 0x0 (process 0)
      ∷ asks 0x0 0x0 (process 1)
      ∷ asks 0x0 0x0 (process 2)
      ∷ asks 0x1 0x0 (refused 11 2 0)
      ∷ asks 0x0 0x0 (process 3)
      ∷ asks 0x0 0x0 (process 4)
      ∷ asks 0x0 0x10000 (refused 11 2 0)
      ∷ asks 0x0 0x0 (process 5)
      ∷ asks 0x0 0x0 (process 6)
      ∷ asks 0x0 0x0 (process 7)
      ∷ asks 0x0 0x0 (refused 15 2 0)
      ∷ [];
  steps =
      step 7 0 (0x80020005 ∷ 0x10000000 ∷ 0x20000004 ∷ 0x50000000 ∷ 0x60000000 ∷ 0x30000000 ∷ []) (gets 1 0 0 0)
      ∷ step 3 0 (0x80030003 ∷ 0x10000000 ∷ 0x20000004 ∷ 0x10000002 ∷ []) (gets 2 1 0 0)
      ∷ step 5 0 (0x80030003 ∷ 0x10000000 ∷ 0x20000004 ∷ 0x10000002 ∷ []) (gets 2 1 0 0)
      -- number 2 is free in this process
      ∷ step 0 0 (0x800B0001 ∷ 0x10000002 ∷ []) (denied 6 2 1)
      ∷ step 5 0 (0x80020005 ∷ 0x10000002 ∷ 0x20000006 ∷ 0x50000001 ∷ 0x60000000 ∷ 0x30000003 ∷ []) (denied 11 2 3)
      ∷ step 5 0 (0x80020005 ∷ 0x10000002 ∷ 0x20000006 ∷ 0x50000000 ∷ 0x60000001 ∷ 0x30000000 ∷ []) (denied 11 2 3)
      -- root left 2
      ∷ step 5 0 (0x80020005 ∷ 0x10000002 ∷ 0x20000006 ∷ 0x50000000 ∷ 0x60000000 ∷ 0x30000003 ∷ []) (gets 4 0 0 0)
      ∷ step 4 0 (0x800B0001 ∷ 0x10000000 ∷ []) (gets 7 2 0 0)
      -- root left 4
      ∷ step 3 0 (0x80090003 ∷ 0x10000002 ∷ 0x20000006 ∷ 0x4FFFFFFE ∷ []) (gets 1 0 0 0)
      ∷ step 3 0 (0x80090003 ∷ 0x10000002 ∷ 0x20000006 ∷ 0x40000001 ∷ []) (gets 2 0 0 0)
      -- 1, and 1 + 2
      ∷ step 6 0 (0x80080002 ∷ 0x10000000 ∷ 0x20000004 ∷ []) (gets 4 0 0 0)
      ∷ step 3 0 (0x800B0001 ∷ 0x10000002 ∷ []) (denied 7 2 1)
      ∷ step 5 0 (0x800B0001 ∷ 0x10000002 ∷ []) (denied 7 2 1)
      ∷ step 3 0 (0x80040001 ∷ 0x10000002 ∷ []) (gets 0 0 0 0)
      ∷ step 1 0 (0x80010002 ∷ 0x10000000 ∷ 0x20000004 ∷ []) (gets 1 0 0 0)
      ∷ step 3 0 (0x80030003 ∷ 0x10000000 ∷ 0x20000004 ∷ 0x10000002 ∷ []) (gets 1 1 0 0)
      -- terminated in process 3 only
      ∷ step 5 0 (0x80060003 ∷ 0x10000002 ∷ 0x30000050 ∷ 0x00000005 ∷ []) (denied 7 2 1)
      ∷ step 3 0 (0x80060003 ∷ 0x10000002 ∷ 0x30000050 ∷ 0x00000003 ∷ []) (gets 1 0 0 0)
      ∷ step 5 0 (0x80030003 ∷ 0x10000000 ∷ 0x20000004 ∷ 0x1000000D ∷ []) (gets 1 1 0 0)
      ∷ step 5 1 (0x80050003 ∷ 0x1000000D ∷ 0x30000050 ∷ 0x30000001 ∷ []) (reads 1 (0x00000003 ∷ []))
      ∷ step 5 0 (0x80060003 ∷ 0x1000000D ∷ 0x30000050 ∷ 0x00000005 ∷ []) (gets 0 0 0 0)
      ∷ step 3 2 (0x80050003 ∷ 0x10000002 ∷ 0x30000050 ∷ 0x30000002 ∷ []) (reads 2 (0x00000005 ∷ 0x00000000 ∷ []))
      ∷ step 7 0 (0x800B0001 ∷ 0x10000000 ∷ []) (gets 7 5 0 0)
      ∷ step 8 0 (0x800B0001 ∷ 0x10000000 ∷ []) (denied 1 1 0)
      ∷ step 9 0 (0x800B0001 ∷ 0x10000000 ∷ []) (denied 1 1 0)
      ∷ [];
}
