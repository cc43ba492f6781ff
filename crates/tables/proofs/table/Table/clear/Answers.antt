-- What is left to show of `clear`.
use Rattle.std.proofs.Common.{refl}
use Rattle.tables.proofs.Looking.{changed_at, node_cleared}
use Rattle.tables.proofs.table.Table.clear.Goals as goal

pub returns : goal.returns
returns c = changed_at _ _ _ c.index_mut-object.result.now _ _ c.requires c.index_mut-object.ensures.value refl (node_cleared c.index_mut-object.result.now c.clear.new.self c.clear-2.new.self c.clear.ensures c.clear-2.ensures)
