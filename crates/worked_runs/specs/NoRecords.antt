-- A store without records: whatever costs is denied, and the rest works. Assumes nothing.
use Rattle.std.specs.Prelude.{[], ◌∷◌}
use Rattle.labels.specs.PartOrders.{level_category, single}
use Rattle.worked_runs.specs.Runs.{Run, label, asks, process, step, gets, denied}

abbrev pub no_records : Run
no_records = record {
  security = level_category;
  integrity = single;
  root = label 0x0 0x0;
  pages = 0;
  admissions =
      asks 0x0 0x0 (process 0)
      ∷ [];
  steps =
      step 0 16 (0x800B0001 ∷ 0x10000000 ∷ []) (gets 0 0 0 0)
      ∷ step 0 16 (0x80010002 ∷ 0x10000000 ∷ 0x20000009 ∷ []) (denied 14 2 0)
      ∷ step 0 16 (0x80020005 ∷ 0x10000000 ∷ 0x20000009 ∷ 0x50000000 ∷ 0x60000000 ∷ 0x30000000 ∷ []) (denied 14 2 0)
      ∷ step 0 16 (0x80020005 ∷ 0x10000000 ∷ 0x20000009 ∷ 0x50010000 ∷ 0x60000000 ∷ 0x30000100 ∷ []) (denied 14 2 0)
      -- 13 before 14
      ∷ step 0 16 (0x80020005 ∷ 0x10000000 ∷ 0x20000009 ∷ 0x50010000 ∷ 0x60000000 ∷ 0x30000000 ∷ []) (denied 13 2 5)
      -- an empty place
      ∷ step 0 16 (0x800A0002 ∷ 0x10000000 ∷ 0x20000009 ∷ []) (gets 0 0 0 0)
      ∷ step 0 16 (0x80030003 ∷ 0x10000000 ∷ 0x20000009 ∷ 0x10000001 ∷ []) (denied 10 2 2)
      ∷ step 0 16 (0x80080002 ∷ 0x10000000 ∷ 0x20000009 ∷ []) (denied 10 2 2)
      ∷ step 0 16 (0x80090003 ∷ 0x10000000 ∷ 0x20000009 ∷ 0x40000001 ∷ []) (denied 10 2 2)
      ∷ step 0 16 (0x80050003 ∷ 0x10000000 ∷ 0x30000000 ∷ 0x30000001 ∷ []) (denied 8 2 1)
      ∷ step 0 16 (0x80040001 ∷ 0x10000001 ∷ []) (denied 6 2 1)
      ∷ [];
}
