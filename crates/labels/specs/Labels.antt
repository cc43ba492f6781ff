-- Labels under two orders of words, one for the security word and one for the integrity word. Assumes nothing.
use Rattle.std.specs.Prelude.{ℕ, Bool, ◌&&◌, ◌==◌}
use Rattle.labels.specs.declared.dominance.Dominance as Dominance
use Rattle.labels.specs.declared.label.Label.{Label}
use Rattle.labels.specs.declared.label.LabelOrder.{LabelOrder}
use Rattle.labels.specs.Orders as orders
use Rattle.labels.specs.Orders.{Order, Lawful, Laws}

-- the orders of a label's two words
pub record Orders : Type 0 where
  pub security : Order ℕ
  pub integrity : Order ℕ

-- both words are valid
abbrev pub valid : Orders → Label → Bool
valid o l = o.security.valid l.security && o.integrity.valid l.integrity

-- b dominates a: each word of a is below that of b, in its own order
abbrev pub below : Orders → Label → Label → Bool
below o a b = o.security.below a.security b.security && o.integrity.below a.integrity b.integrity

-- the order of labels that these make
abbrev pub label_order : Orders → Order Label
label_order o = record { valid = valid o; below = below o }

-- neither label is below the other
abbrev pub incomparable : Orders → Label → Label → Bool
incomparable o = orders.incomparable (label_order o)

-- the labels are equal, word by word
abbrev pub same_label : Label → Label → Bool
same_label a b = a.security == b.security && a.integrity == b.integrity

-- both orders keep the laws
pub record LawfulOrders (o : Orders) : Type 0 where
  pub security : Lawful o.security
  pub integrity : Lawful o.integrity

-- the laws of an order hold of labels too
abbrev pub LabelLaws : Orders → Type 0
LabelLaws o = Laws (label_order o)

-- the orders that a `LabelOrder` holds
module _ {S I : Type 0} (s : Dominance.Ghosts S ℕ) (i : Dominance.Ghosts I ℕ) where
  abbrev pub orders_of : LabelOrder S I → Orders
  orders_of o = record { security = s.order o.security; integrity = i.order o.integrity }
