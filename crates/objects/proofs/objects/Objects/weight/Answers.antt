-- What is left to show of `weight`.
use Rattle.std.proofs.Common.{Option, ap, arith}
use Rattle.std.specs.Option.{option_map}
use Rattle.rules.specs.Balance.{left_in}
use Rattle.forest.specs.Nodes.{Body}
use Rattle.forest.specs.Forest.{weight_of}
use Rattle.forest.proofs.Keeping.{weight_small}
use Rattle.tables.specs.declared.cell.Cell.{Cell}
use Rattle.tables.specs.Cells.{cell_of}
use Rattle.tables.specs.Objects.{look}
use Rattle.objects.proofs.objects.Objects.weight.Goals as goal

pub overflow_add-result : goal.overflow_add-result
overflow_add-result c =
    let low = c.requires in
    let few = c.args.self.now.storage.table.few in
    let small = weight_small c.args.self.now.kept c.args.index (omega arith) in
    let is =
    ap
    (λ (b : Body). weight_of b (look c.args.self.now.storage.table c.args.index).page)
    c.in-Segment.ensures
    in
    let present = c.present.ensures in
    record { fits = omega arith }

pub overflow_add-result-in-Some : goal.overflow_add-result-in-Some
overflow_add-result-in-Some c =
    let low = c.requires in
    let few = c.args.self.now.storage.table.few in
    let small = weight_small c.args.self.now.kept c.args.index (omega arith) in
    let is =
    ap
    (λ (b : Body). weight_of b (look c.args.self.now.storage.table c.args.index).page)
    c.in-Directory.ensures
    in
    let held = ap (λ (x : Option Cell). left_in (option_map cell_of x)) c.in-Some.is in
    let left = c.left.ensures in
    record { fits = omega arith }
