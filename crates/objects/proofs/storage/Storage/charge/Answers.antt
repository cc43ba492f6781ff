-- What is left to show of `charge`.
use Rattle.std.proofs.Common.{ap, ◌∙◌}
use Rattle.forest.specs.Nodes.{Nodes, is_live}
use Rattle.forest.proofs.Steps.{charged_is, charging_live, charging_pages}
use Rattle.tables.specs.Objects.{look}
use Rattle.objects.proofs.Storing.{stored_same}
use Rattle.objects.proofs.storage.Storage.charge.Goals as goal

pub invariant_of-self : goal.invariant_of-self
invariant_of-self c =
    let s = c.args.self.now in
    let a = look s.table in
    let i = c.args.index in
    let is = charged_is a i c.payer-payer.result c.args.taken c.args.back (look c.charge.new.self) c.payer-payer.ensures c.charge.ensures.after in
    stored_same s c.charge.new.self c.charge.ensures.size (λ x. ap (λ (f : Nodes). (f x).page) is ∙ charging_pages c.args.taken c.args.back a i x)
    (λ x. ap (λ (f : Nodes). is_live (f x).body) is ∙ charging_live c.args.taken c.args.back a i x)
