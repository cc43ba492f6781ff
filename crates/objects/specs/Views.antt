-- The objects of a store as nodes. Assumes nothing.
use Rattle.std.specs.Prelude.{ℕ}
use Rattle.forest.specs.Nodes.{Nodes}
use Rattle.tables.specs.Objects.{look}
use Rattle.tables.specs.Stacks.{stack_room}
use Rattle.objects.specs.declared.objects.Objects.{Objects}

-- the node at each index
abbrev pub nodes : Objects → Nodes
nodes o = look o.storage.table

-- how many records the store has, as many as pages of the volume that it uses
abbrev pub records : Objects → ℕ
records o = stack_room o.storage.spare
