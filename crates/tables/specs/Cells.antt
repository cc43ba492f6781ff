-- What a cell of the tables stands for, and how it may change. Assumes nothing.
use Rattle.std.specs.Prelude.{ℕ, ◌+◌, ◌^◌, ◌<◌, ◌≤◌}
use Rattle.rules.specs.Tree as rules
use Rattle.tables.specs.declared.cell.Cell.{Cell}

-- the quota cell of the rules
abbrev pub cell_of : Cell → rules.Cell
cell_of c = record { granted = c.granted; left = c.left }

-- a cell with all of its grant left
abbrev pub full_cell : ℕ → rules.Cell
full_cell grant = record { granted = grant; left = grant }

-- records can be taken and come back: there are enough, no more are left then than were granted, and the sum fits 32 bits
pub record CanCharge (taken back : ℕ) (c : rules.Cell) : Type 0 where
  pub enough : taken ≤ c.left + back
  pub granted : c.left + back ≤ c.granted + taken
  pub fits : c.left + back < 2 ^ 32

-- the grant can be raised and lowered: enough is left for it to be lowered so far, and the sum fits 32 bits
pub record CanRegrant (up down : ℕ) (c : rules.Cell) : Type 0 where
  pub enough : down ≤ c.left + up
  pub fits : c.granted + up < 2 ^ 32
