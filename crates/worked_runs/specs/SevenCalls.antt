-- Seven calls: a higher directory is made, filled, and deleted from below. Assumes nothing.
use Rattle.std.specs.Prelude.{[], ◌∷◌}
use Rattle.labels.specs.PartOrders.{level_category, single}
use Rattle.worked_runs.specs.Runs.{Run, label, asks, process, step, gets, denied}

abbrev pub seven_calls : Run
seven_calls = record {
  security = level_category;
  integrity = single;
  root = label 0x0 0x0;
  pages = 8;
  admissions =
      asks 0x0 0x0 (process 0)
      ∷ asks 0x10000 0x0 (process 1)
      ∷ [];
  steps =
      step 0 16 (0x80020005 ∷ 0x10000000 ∷ 0x20000003 ∷ 0x50010000 ∷ 0x60000000 ∷ 0x30000003 ∷ []) (gets 4 0 0 0)
      ∷ step 1 16 (0x80030003 ∷ 0x10000000 ∷ 0x20000003 ∷ 0x10000001 ∷ []) (gets 2 1 0 0)
      -- paid from the higher directory's own cell
      ∷ step 1 16 (0x80010002 ∷ 0x10000001 ∷ 0x20000000 ∷ []) (gets 1 0 0 0)
      -- the segment above is not seen in the root's cell
      ∷ step 0 16 (0x800B0001 ∷ 0x10000000 ∷ []) (gets 8 4 0 0)
      ∷ step 0 16 (0x80030003 ∷ 0x10000000 ∷ 0x20000003 ∷ 0x10000002 ∷ []) (denied 11 2 2)
      -- 1 + grant, whatever is inside
      ∷ step 0 16 (0x80080002 ∷ 0x10000000 ∷ 0x20000003 ∷ []) (gets 4 0 0 0)
      ∷ step 1 16 (0x80010002 ∷ 0x10000001 ∷ 0x20000001 ∷ []) (denied 7 2 1)
      ∷ [];
}
