-- What a change of the pages of one object leaves as it was. Assumes nothing.
use Rattle.std.specs.Prelude.{◌≡◌, ℕ}
use Rattle.forest.specs.Nodes.{Node}
use Rattle.tables.specs.Objects.{look, change_at}
use Rattle.tables.specs.Stacks.{stack_room}
use Rattle.objects.specs.declared.storage.Storage.{Storage}

-- the table, but f of the object at i, the same objects in use, and room for as many pages
pub record ChangesPages (old new : Storage) (i : ℕ) (f : Node → Node) : Type 0 where
  pub after : look new.table ≡ change_at (look old.table) i f
  pub unused : new.unused ≡ old.unused
  pub room : stack_room new.spare ≡ stack_room old.spare
