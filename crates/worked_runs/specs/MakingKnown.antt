-- Making known, terminating, status and quota: granted, every denial, and their order. Assumes nothing.
use Rattle.std.specs.Prelude.{[], ◌∷◌}
use Rattle.labels.specs.PartOrders.{level_category, single}
use Rattle.worked_runs.specs.Runs.{Run, label, asks, process, step, gets, reads, denied}

abbrev pub making_known : Run
making_known = record {
  security = level_category;
  integrity = single;
  root = label 0x0 0x0;
  pages = 30;
  admissions =
      asks 0x0 0x0 (process 0)
      ∷ asks 0x20005 0x0 (process 1)
      ∷ asks 0x20004 0x0 (process 2)
      ∷ [];
  steps =
      step 0 0 (0x80010002 ∷ 0x10000000 ∷ 0x2000000C ∷ []) (gets 1 0 0 0)
      ∷ step 0 0 (0x80020005 ∷ 0x10000000 ∷ 0x20000004 ∷ 0x50000000 ∷ 0x60000000 ∷ 0x30000000 ∷ []) (gets 1 0 0 0)
      ∷ step 0 0 (0x80020005 ∷ 0x10000000 ∷ 0x20000009 ∷ 0x50020004 ∷ 0x60000000 ∷ 0x30000006 ∷ []) (gets 7 0 0 0)
      ∷ step 0 0 (0x80030003 ∷ 0x10000000 ∷ 0x20000004 ∷ 0x1000000B ∷ []) (gets 2 1 0 0)
      ∷ step 0 0 (0x80010002 ∷ 0x1000000B ∷ 0x20000008 ∷ []) (gets 1 0 0 0)
      ∷ step 0 0 (0x80020005 ∷ 0x1000000B ∷ 0x2000000D ∷ 0x50000000 ∷ 0x60000000 ∷ 0x30000002 ∷ []) (gets 3 0 0 0)
      -- through a directory known under another number
      ∷ step 0 0 (0x80030003 ∷ 0x1000000B ∷ 0x20000008 ∷ 0x10000005 ∷ []) (gets 1 1 0 0)
      -- a second number for the same directory
      ∷ step 0 0 (0x80030003 ∷ 0x10000000 ∷ 0x20000004 ∷ 0x1000000A ∷ []) (gets 2 1 0 0)
      -- and for the same segment
      ∷ step 0 0 (0x80030003 ∷ 0x1000000A ∷ 0x20000008 ∷ 0x10000003 ∷ []) (gets 1 1 0 0)
      ∷ step 0 0 (0x80060003 ∷ 0x10000005 ∷ 0x30000014 ∷ 0xCAFE0001 ∷ []) (gets 1 0 0 0)
      ∷ step 0 3 (0x80050003 ∷ 0x10000003 ∷ 0x30000013 ∷ 0x30000003 ∷ []) (reads 3 (0x00000000 ∷ 0xCAFE0001 ∷ 0x00000000 ∷ []))
      ∷ step 0 0 (0x80040001 ∷ 0x10000005 ∷ []) (gets 0 0 0 0)
      ∷ step 0 4 (0x80050003 ∷ 0x10000005 ∷ 0x30000014 ∷ 0x30000001 ∷ []) (denied 6 2 1)
      -- the other number still means it
      ∷ step 0 4 (0x80050003 ∷ 0x10000003 ∷ 0x30000014 ∷ 0x30000001 ∷ []) (reads 1 (0xCAFE0001 ∷ []))
      ∷ step 0 0 (0x80040001 ∷ 0x10000005 ∷ []) (denied 6 2 1)
      -- label below the process's: 0
      ∷ step 1 0 (0x80030003 ∷ 0x10000000 ∷ 0x20000004 ∷ 0x10000007 ∷ []) (gets 2 0 0 0)
      ∷ step 1 0 (0x80030003 ∷ 0x10000007 ∷ 0x20000008 ∷ 0x1000000F ∷ []) (gets 1 0 0 0)
      ∷ step 1 2 (0x80050003 ∷ 0x1000000F ∷ 0x30000014 ∷ 0x30000002 ∷ []) (reads 2 (0xCAFE0001 ∷ 0x00000000 ∷ []))
      -- 0x20004 is below 0x20005 and not equal to it
      ∷ step 1 0 (0x80030003 ∷ 0x10000000 ∷ 0x20000009 ∷ 0x10000002 ∷ []) (gets 2 0 0 0)
      ∷ step 2 0 (0x80030003 ∷ 0x10000000 ∷ 0x20000009 ∷ 0x1000000E ∷ []) (gets 2 1 0 0)
      ∷ step 0 0 (0x80030003 ∷ 0x10000000 ∷ 0x20000009 ∷ 0x10000001 ∷ []) (denied 11 2 2)
      -- not below, and n taken: 11 before 12
      ∷ step 0 0 (0x80030003 ∷ 0x10000000 ∷ 0x20000009 ∷ 0x10000003 ∷ []) (denied 11 2 2)
      ∷ step 0 0 (0x80030003 ∷ 0x10000000 ∷ 0x2000000C ∷ 0x10000003 ∷ []) (denied 12 2 3)
      -- number 0 always means the root
      ∷ step 0 0 (0x80030003 ∷ 0x10000000 ∷ 0x2000000C ∷ 0x10000000 ∷ []) (denied 12 2 3)
      ∷ step 0 0 (0x80030003 ∷ 0x10000000 ∷ 0x20000001 ∷ 0x10000002 ∷ []) (denied 10 2 2)
      -- empty place, and n taken: 10 before 12
      ∷ step 0 0 (0x80030003 ∷ 0x10000000 ∷ 0x20000001 ∷ 0x10000003 ∷ []) (denied 10 2 2)
      ∷ step 0 0 (0x80030003 ∷ 0x10000003 ∷ 0x20000001 ∷ 0x10000002 ∷ []) (denied 8 2 1)
      -- 8 before 12
      ∷ step 0 0 (0x80030003 ∷ 0x10000003 ∷ 0x20000000 ∷ 0x1000000A ∷ []) (denied 8 2 1)
      -- 6 before 12
      ∷ step 0 0 (0x80030003 ∷ 0x10000002 ∷ 0x2000000C ∷ 0x10000003 ∷ []) (denied 6 2 1)
      ∷ step 0 0 (0x800A0002 ∷ 0x10000002 ∷ 0x20000004 ∷ []) (denied 6 2 1)
      ∷ step 0 0 (0x800B0001 ∷ 0x10000002 ∷ []) (denied 6 2 1)
      ∷ step 0 0 (0x800A0002 ∷ 0x10000003 ∷ 0x20000006 ∷ []) (denied 8 2 1)
      ∷ step 0 0 (0x800B0001 ∷ 0x10000003 ∷ []) (denied 8 2 1)
      -- 1, the segment 1 and its page 1, the own-cell directory 1 + 2
      ∷ step 0 0 (0x80080002 ∷ 0x10000000 ∷ 0x20000004 ∷ []) (gets 6 0 0 0)
      ∷ step 0 0 (0x80030003 ∷ 0x1000000B ∷ 0x20000008 ∷ 0x10000001 ∷ []) (denied 7 2 1)
      -- 3 meant a segment, and 10 is not free: 7 before 8 and 12
      ∷ step 0 0 (0x80030003 ∷ 0x10000003 ∷ 0x20000008 ∷ 0x1000000A ∷ []) (denied 7 2 1)
      ∷ step 0 0 (0x800A0002 ∷ 0x1000000A ∷ 0x2000000D ∷ []) (denied 7 2 1)
      ∷ step 0 0 (0x800B0001 ∷ 0x1000000B ∷ []) (denied 7 2 1)
      -- gone is not free
      ∷ step 0 0 (0x80030003 ∷ 0x10000000 ∷ 0x2000000C ∷ 0x1000000B ∷ []) (denied 12 2 3)
      ∷ step 0 0 (0x80040001 ∷ 0x1000000B ∷ []) (gets 0 0 0 0)
      ∷ step 0 0 (0x80030003 ∷ 0x10000000 ∷ 0x2000000C ∷ 0x1000000B ∷ []) (gets 1 1 0 0)
      -- gone in the other process too, and terminated there
      ∷ step 1 0 (0x80040001 ∷ 0x1000000F ∷ []) (gets 0 0 0 0)
      ∷ step 1 0 (0x80040001 ∷ 0x1000000F ∷ []) (denied 6 2 1)
      ∷ step 1 1 (0x80050003 ∷ 0x1000000F ∷ 0x30000000 ∷ 0x30000001 ∷ []) (denied 6 2 1)
      -- the sibling still stands
      ∷ step 2 0 (0x800B0001 ∷ 0x1000000E ∷ []) (gets 6 6 0 0)
      ∷ [];
}
