-- Admissions, granted and denied, under a root label that is not 0. Assumes nothing.
use Rattle.std.specs.Prelude.{[], ◌∷◌}
use Rattle.labels.specs.PartOrders.{level_category}
use Rattle.worked_runs.specs.Runs.{Run, label, asks, process, refused, step, gets, denied}

abbrev pub asking_admission : Run
asking_admission = record {
  security = level_category;
  integrity = level_category;
  root = label 0x20100 0x30008;
  pages = 5;
  admissions =
      asks 0x0 0x0 (refused 11 2 0)
      ∷ asks 0x20100 0x30008 (process 0)
      ∷ asks 0x20100 0x20008 (refused 11 2 0)
      ∷ asks 0x30100 0x30000 (refused 11 2 0)
      ∷ asks 0x20000 0x30008 (refused 11 2 0)
      ∷ asks 0x7FFFF 0x7FFFF (process 1)
      ∷ asks 0x80000 0x7FFFF (refused 11 2 0)
      ∷ asks 0x7FFFF 0x80000 (refused 11 2 0)
      ∷ asks 0x20100 0x3000C (process 2)
      ∷ asks 0x20300 0x30008 (process 3)
      ∷ asks 0xFFFFFFFF 0xFFFFFFFF (refused 11 2 0)
      ∷ asks 0x20100 0x30008 (process 4)
      ∷ asks 0x20300 0x3000C (process 5)
      ∷ asks 0x40100 0x70008 (process 6)
      ∷ asks 0x30100 0x40008 (process 7)
      ∷ asks 0x20100 0x30008 (refused 15 2 0)
      ∷ asks 0x80000 0x0 (refused 15 2 0)
      ∷ asks 0x0 0x0 (refused 15 2 0)
      ∷ [];
  steps =
      step 0 0 (0x800B0001 ∷ 0x10000000 ∷ []) (gets 5 5 0 0)
      -- number 0 of every process means the root
      ∷ step 7 0 (0x800B0001 ∷ 0x10000000 ∷ []) (gets 5 5 0 0)
      -- the others begin as free
      ∷ step 1 0 (0x800B0001 ∷ 0x10000001 ∷ []) (denied 6 2 1)
      ∷ step 8 0 (0x800B0001 ∷ 0x10000000 ∷ []) (denied 1 1 0)
      -- process 4 has the root's label
      ∷ step 4 0 (0x80010002 ∷ 0x10000000 ∷ 0x2000000A ∷ []) (gets 1 0 0 0)
      -- equal in security only
      ∷ step 2 0 (0x80010002 ∷ 0x10000000 ∷ 0x2000000B ∷ []) (denied 9 2 1)
      -- equal in integrity only
      ∷ step 3 0 (0x80010002 ∷ 0x10000000 ∷ 0x2000000B ∷ []) (denied 9 2 1)
      ∷ step 0 0 (0x800A0002 ∷ 0x10000000 ∷ 0x2000000A ∷ []) (gets 1 0x20100 0x30008 0)
      ∷ step 6 0 (0x80030003 ∷ 0x10000000 ∷ 0x2000000A ∷ 0x10000009 ∷ []) (gets 1 0 0 0)
      ∷ step 0 0 (0x80030003 ∷ 0x10000000 ∷ 0x2000000A ∷ 0x10000008 ∷ []) (gets 1 1 0 0)
      -- 4 left: a grant of 4 is one too many
      ∷ step 0 0 (0x80020005 ∷ 0x10000000 ∷ 0x20000003 ∷ 0x50020300 ∷ 0x6003000C ∷ 0x30000004 ∷ []) (denied 14 2 0)
      -- and one of 3 passes
      ∷ step 0 0 (0x80020005 ∷ 0x10000000 ∷ 0x20000003 ∷ 0x50020300 ∷ 0x6003000C ∷ 0x30000003 ∷ []) (gets 4 0 0 0)
      ∷ step 5 0 (0x80030003 ∷ 0x10000000 ∷ 0x20000003 ∷ 0x10000007 ∷ []) (gets 2 1 0 0)
      ∷ step 1 0 (0x80030003 ∷ 0x10000000 ∷ 0x20000003 ∷ 0x10000006 ∷ []) (gets 2 0 0 0)
      -- security not below
      ∷ step 2 0 (0x80030003 ∷ 0x10000000 ∷ 0x20000003 ∷ 0x10000005 ∷ []) (denied 11 2 2)
      -- integrity not below
      ∷ step 3 0 (0x80030003 ∷ 0x10000000 ∷ 0x20000003 ∷ 0x10000004 ∷ []) (denied 11 2 2)
      ∷ step 5 0 (0x800A0002 ∷ 0x10000000 ∷ 0x20000003 ∷ []) (gets 2 0x20300 0x3000C 3)
      ∷ [];
}
