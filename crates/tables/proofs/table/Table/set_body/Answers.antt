-- What is left to show of `set_body`.
use Rattle.std.proofs.Common.{refl}
use Rattle.tables.proofs.Looking.{changed_at}
use Rattle.tables.proofs.table.Table.set_body.Goals as goal

pub returns : goal.returns
returns c = changed_at _ _ _ c.index_mut.result.now _ _ c.requires c.index_mut.ensures.value refl refl
