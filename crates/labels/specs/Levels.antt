-- Levels and categories keep the laws of an order. Assumes nothing.
use Rattle.std.proofs.Common.{rules}
use Rattle.std.specs.Int.Bits.{and_self}
use Rattle.labels.specs.Orders.{Lawful}
use Rattle.labels.specs.PartOrders.{level_category}
use Rattle.labels.specs.Subsets.{subset_transitive}

pub level_lawful : Lawful level_category
level_lawful = search (rules, and_self, subset_transitive)
