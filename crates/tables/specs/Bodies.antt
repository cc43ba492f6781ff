-- What a body of the tables stands for. Assumes nothing.
use Rattle.std.specs.Prelude.{◌≡◌, None, IsSomeAnd, MatchOption, Option}
use Rattle.std.specs.Option.{option_map}
use Rattle.forest.specs.Nodes as forest
use Rattle.tables.specs.declared.body.Body.{Body}
use Rattle.tables.specs.declared.body.Body.TheVariants.{Unused, Segment, Directory}
use Rattle.tables.specs.declared.cell.Cell.{Cell}
use Rattle.tables.specs.Cells.{cell_of}

-- the body of a node
abbrev pub body_of : Body → forest.Body
body_of Unused = forest.unused
body_of Segment = forest.seg
body_of (Directory d) = forest.dir d.label (option_map cell_of d.cell)

-- the cell of a body that has one
abbrev pub own_cell : Body → Option Cell
own_cell Unused = None
own_cell Segment = None
own_cell (Directory d) = d.cell

-- the new body is the old one, but R relates its cell, if it has one, to that of the old
abbrev pub ChangesCell : (Cell → Cell → Type 0) → Body → Body → Type 0
ChangesCell R Unused new = new ≡ Unused
ChangesCell R Segment new = new ≡ Segment
ChangesCell R (Directory d) new =
    (cell : Option Cell) × (new ≡ Directory (record { label = d.label; cell = cell })) × MatchOption d.cell (cell ≡ None) (λ c. IsSomeAnd cell (R c))
