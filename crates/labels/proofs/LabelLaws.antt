-- Labels under two lawful orders are ordered too. Assumes nothing.
use Rattle.std.proofs.Common.{rules}
use Rattle.labels.specs.Labels.{Orders, LawfulOrders, LabelLaws}

pub label_laws : (o : Orders) → LawfulOrders o → LabelLaws o
label_laws o lawful = search rules
