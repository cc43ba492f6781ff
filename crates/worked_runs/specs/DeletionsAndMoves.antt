-- Deleting, and moving quota: granted, every denial, and their order. Assumes nothing.
use Rattle.std.specs.Prelude.{[], ◌∷◌}
use Rattle.labels.specs.PartOrders.{level_category}
use Rattle.worked_runs.specs.Runs.{Run, label, asks, process, step, gets, denied}

abbrev pub deletions_and_moves : Run
deletions_and_moves = record {
  security = level_category;
  integrity = level_category;
  root = label 0x0 0x0;
  pages = 20;
  admissions =
      asks 0x0 0x0 (process 0)
      ∷ asks 0x10001 0x20002 (process 1)
      ∷ [];
  steps =
      step 0 0 (0x80020005 ∷ 0x10000000 ∷ 0x20000003 ∷ 0x50010001 ∷ 0x60020002 ∷ 0x30000004 ∷ []) (gets 5 0 0 0)
      ∷ step 0 0 (0x80020005 ∷ 0x10000000 ∷ 0x20000006 ∷ 0x50000000 ∷ 0x60000000 ∷ 0x30000005 ∷ []) (gets 6 0 0 0)
      ∷ step 0 0 (0x80020005 ∷ 0x10000000 ∷ 0x20000008 ∷ 0x50000000 ∷ 0x60000000 ∷ 0x30000000 ∷ []) (gets 1 0 0 0)
      -- root left 20 - 5 - 6 - 1 - 1 = 7
      ∷ step 0 0 (0x80010002 ∷ 0x10000000 ∷ 0x2000000A ∷ []) (gets 1 0 0 0)
      ∷ step 0 0 (0x80030003 ∷ 0x10000000 ∷ 0x2000000A ∷ 0x10000007 ∷ []) (gets 1 1 0 0)
      ∷ step 1 0 (0x80030003 ∷ 0x10000000 ∷ 0x2000000A ∷ 0x10000005 ∷ []) (gets 1 0 0 0)
      ∷ step 1 0 (0x80030003 ∷ 0x10000000 ∷ 0x20000003 ∷ 0x10000002 ∷ []) (gets 2 1 0 0)
      ∷ step 0 0 (0x80080002 ∷ 0x10000009 ∷ 0x20000003 ∷ []) (denied 6 2 1)
      ∷ step 0 0 (0x80080002 ∷ 0x10000007 ∷ 0x20000003 ∷ []) (denied 8 2 1)
      -- 8 before 9
      ∷ step 1 0 (0x80080002 ∷ 0x10000005 ∷ 0x20000003 ∷ []) (denied 8 2 1)
      -- not even the directory of its own label, for it stands in a lower one
      ∷ step 1 0 (0x80080002 ∷ 0x10000000 ∷ 0x20000003 ∷ []) (denied 9 2 1)
      -- other label and empty place: 9 before 10
      ∷ step 1 0 (0x80080002 ∷ 0x10000000 ∷ 0x20000001 ∷ []) (denied 9 2 1)
      ∷ step 0 0 (0x80080002 ∷ 0x10000000 ∷ 0x20000001 ∷ []) (denied 10 2 2)
      ∷ step 0 0 (0x80090003 ∷ 0x10000009 ∷ 0x20000006 ∷ 0x40000002 ∷ []) (denied 6 2 1)
      ∷ step 0 0 (0x80090003 ∷ 0x10000007 ∷ 0x20000006 ∷ 0x40000002 ∷ []) (denied 8 2 1)
      -- 8 before 9
      ∷ step 1 0 (0x80090003 ∷ 0x10000005 ∷ 0x20000006 ∷ 0x40000002 ∷ []) (denied 8 2 1)
      ∷ step 1 0 (0x80090003 ∷ 0x10000000 ∷ 0x20000006 ∷ 0x40000002 ∷ []) (denied 9 2 1)
      -- a move onto an empty place by a process of another label: 9 before 10
      ∷ step 1 0 (0x80090003 ∷ 0x10000000 ∷ 0x20000001 ∷ 0x40000002 ∷ []) (denied 9 2 1)
      -- 9 before the 8 of a move onto a segment
      ∷ step 1 0 (0x80090003 ∷ 0x10000000 ∷ 0x2000000A ∷ 0x40000002 ∷ []) (denied 9 2 1)
      -- 10 before 14
      ∷ step 0 0 (0x80090003 ∷ 0x10000000 ∷ 0x20000001 ∷ 0x40000100 ∷ []) (denied 10 2 2)
      -- onto a segment, which has no cell: 8 at place 2 before 13
      ∷ step 0 0 (0x80090003 ∷ 0x10000000 ∷ 0x2000000A ∷ 0x40000002 ∷ []) (denied 8 2 2)
      -- too large as well: 8 before 14
      ∷ step 0 0 (0x80090003 ∷ 0x10000000 ∷ 0x2000000A ∷ 0x40000100 ∷ []) (denied 8 2 2)
      -- and back by 256: 8 before 13
      ∷ step 0 0 (0x80090003 ∷ 0x10000000 ∷ 0x2000000A ∷ 0x4FFFFF00 ∷ []) (denied 8 2 2)
      -- no cell at e
      ∷ step 0 0 (0x80090003 ∷ 0x10000000 ∷ 0x20000008 ∷ 0x40000001 ∷ []) (denied 13 2 3)
      -- no cell and too few left: 13 before 14
      ∷ step 0 0 (0x80090003 ∷ 0x10000000 ∷ 0x20000008 ∷ 0x40000100 ∷ []) (denied 13 2 3)
      -- a higher directory gives nothing back
      ∷ step 0 0 (0x80090003 ∷ 0x10000000 ∷ 0x20000003 ∷ 0x4FFFFFFF ∷ []) (denied 13 2 3)
      -- now nothing is left above
      ∷ step 1 0 (0x80020005 ∷ 0x10000002 ∷ 0x20000000 ∷ 0x50010001 ∷ 0x60020002 ∷ 0x30000003 ∷ []) (gets 4 0 0 0)
      -- e's label above and too few left: 13 before 14
      ∷ step 0 0 (0x80090003 ∷ 0x10000000 ∷ 0x20000003 ∷ 0x4FFFFFFE ∷ []) (denied 13 2 3)
      ∷ step 0 0 (0x80030003 ∷ 0x10000000 ∷ 0x20000006 ∷ 0x1000000E ∷ []) (gets 2 1 0 0)
      ∷ step 0 0 (0x80010002 ∷ 0x1000000E ∷ 0x2000000F ∷ []) (gets 1 0 0 0)
      -- the cell at 6: granted 5, left 3
      ∷ step 0 0 (0x80010002 ∷ 0x1000000E ∷ 0x2000000B ∷ []) (gets 1 0 0 0)
      -- -5, the grant would be 0, and 3 are left: 13 before 14
      ∷ step 0 0 (0x80090003 ∷ 0x10000000 ∷ 0x20000006 ∷ 0x4FFFFFFB ∷ []) (denied 13 2 3)
      -- -4, the grant would be 1, but 3 are left in the cell at e
      ∷ step 0 0 (0x80090003 ∷ 0x10000000 ∷ 0x20000006 ∷ 0x4FFFFFFC ∷ []) (denied 14 2 0)
      -- -3, all that is left there; root left 10
      ∷ step 0 0 (0x80090003 ∷ 0x10000000 ∷ 0x20000006 ∷ 0x4FFFFFFD ∷ []) (gets 2 0 0 0)
      ∷ step 0 0 (0x800B0001 ∷ 0x1000000E ∷ []) (gets 2 0 0 0)
      -- into a higher directory; root left 2
      ∷ step 0 0 (0x80090003 ∷ 0x10000000 ∷ 0x20000003 ∷ 0x40000008 ∷ []) (gets 12 0 0 0)
      ∷ step 1 0 (0x800B0001 ∷ 0x10000002 ∷ []) (gets 12 8 0 0)
      ∷ step 0 0 (0x80090003 ∷ 0x10000000 ∷ 0x20000006 ∷ 0x40000003 ∷ []) (denied 14 2 0)
      -- all that is left
      ∷ step 0 0 (0x80090003 ∷ 0x10000000 ∷ 0x20000006 ∷ 0x40000002 ∷ []) (gets 4 0 0 0)
      ∷ step 0 0 (0x800B0001 ∷ 0x10000000 ∷ []) (gets 20 0 0 0)
      ∷ step 0 0 (0x800A0002 ∷ 0x10000000 ∷ 0x20000003 ∷ []) (gets 2 0x10001 0x20002 12)
      ∷ step 0 0 (0x80080002 ∷ 0x10000000 ∷ 0x20000003 ∷ []) (gets 13 0 0 0)
      ∷ step 1 0 (0x80080002 ∷ 0x10000002 ∷ 0x20000000 ∷ []) (denied 7 2 1)
      ∷ step 1 0 (0x80090003 ∷ 0x10000002 ∷ 0x20000000 ∷ 0x40000001 ∷ []) (denied 7 2 1)
      -- 1 + the grant of 4; two segments are inside
      ∷ step 0 0 (0x80080002 ∷ 0x10000000 ∷ 0x20000006 ∷ []) (gets 5 0 0 0)
      ∷ [];
}
