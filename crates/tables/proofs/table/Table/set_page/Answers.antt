-- What is left to show of `set_page`.
use Rattle.std.proofs.Common.{refl}
use Rattle.tables.proofs.Looking.{changed_at, node_page}
use Rattle.tables.proofs.table.Table.set_page.Goals as goal

pub returns : goal.returns
returns c = changed_at _ _ _ c.index_mut.result.now _ _ c.requires.index c.index_mut.ensures.value refl (node_page c.index_mut.result.now c.args.page c.args.to c.requires.page)
