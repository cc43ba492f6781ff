-- What is left to show of `set_entry`.
use Rattle.std.proofs.Common.{refl}
use Rattle.tables.proofs.Looking.{changed_at, node_entry}
use Rattle.tables.proofs.table.Table.set_entry.Goals as goal

pub returns : goal.returns
returns c = changed_at _ _ _ c.index_mut.result.now _ _ c.requires.index c.index_mut.ensures.value refl (node_entry c.index_mut.result.now c.args.place c.args.to c.requires.place)
