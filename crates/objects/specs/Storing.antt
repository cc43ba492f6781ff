-- What holds of a table and the stacks beside it. Assumes nothing.
use Rattle.forest.specs.Spares.{Stocked, Served}
use Rattle.forest.specs.Steps.{Kept}
use Rattle.tables.specs.declared.stack.Stack.{Stack}
use Rattle.tables.specs.declared.table.Table.{Table}
use Rattle.tables.specs.Objects.{look}
use Rattle.tables.specs.Stacks.{stack_item, stack_height, stack_room}

-- the first stack has all objects of the table that are not in use; there is one object more than the second has room for
abbrev pub IsStocked : Table → Stack → Stack → Type 0
IsStocked t unused spare = ∥ Stocked (stack_room spare) (stack_item unused) (stack_height unused) (look t) ∥₁

-- each present page is served by a page of the volume, and the stack has all that serve none
abbrev pub IsServed : Table → Stack → Type 0
IsServed t spare = ∥ Served (stack_room spare) (stack_item spare) (stack_height spare) (look t) ∥₁

-- both, and the table is a tree whose cells account for every record
abbrev pub IsKept : Table → Stack → Stack → Type 0
IsKept t unused spare = ∥ Kept (stack_room spare) (look t) (stack_item unused) (stack_height unused) (stack_item spare) (stack_height spare) ∥₁
