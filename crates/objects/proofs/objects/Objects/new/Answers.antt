-- What is left to show of `new`.
use Rattle.std.proofs.Common.{◌≡◌, Some, ap, ◌∙◌, arith}
use Rattle.rules.specs.Tree.{Cell}
use Rattle.forest.specs.Nodes.{Nodes, dir}
use Rattle.forest.specs.Forest.{tree_of}
use Rattle.tables.specs.Cells.{full_cell}
use Rattle.tables.specs.Objects.{look, root_alone}
use Rattle.objects.specs.Storing.{IsKept}
use Rattle.objects.proofs.Fresh.{fresh_tree, kept_as}
use Rattle.objects.proofs.Storing.{stored}
use Rattle.objects.proofs.objects.Objects.new.Goals.{In_ok-table}
use Rattle.objects.proofs.objects.Objects.new.Goals as goal

alone : (c : In_ok-table) → look c.in_ok-table.table ≡ root_alone (dir c.args.root (Some (full_cell c.args.count)))
alone c = c.in_ok-table.ensures.nodes ∙ ap (λ (x : Cell). root_alone (dir c.args.root (Some x))) c.new-cell.ensures

kept : (c : In_ok-table) → IsKept c.in_ok-table.table c.pop.new.self c.in_ok-spare.spare
kept c =
    let spare = c.in_ok-spare.ensures in
    let unused = c.in_ok-unused.ensures in
    let popped = c.pop.ensures in
    let full = unused.height in
    let taken = popped.height in ∣ kept_as c.args.root c.args.count spare.room (alone c) (omega arith) spare.height c.requires.few
    (λ x h. let is = unused.items x (omega arith) in ap (λ f. f x) popped.items ∙ is ∙ omega arith)
    (λ x h. spare.items x h ∙ omega arith) ∣₁

pub invariant_of-storage : goal.invariant_of-storage
invariant_of-storage c =
    let spare = c.in_ok-spare.ensures in
    let unused = c.in_ok-unused.ensures in
    let table = c.in_ok-table.ensures in
    let room = spare.room in
    let more = unused.room in
    let same = c.pop.ensures.room in
    let size = table.size in
    stored c.in_ok-table.table c.pop.new.self c.in_ok-spare.spare (omega arith) (omega arith) (kept c)

pub invariant_of-result : goal.invariant_of-result
invariant_of-result c = record { kept = kept (goal.at.invariant_of-result c).In_ok-table }

pub returns : goal.returns
returns c =
    let is = alone (goal.at.returns c).In_ok-table in
    record {
      tree = λ w. ap (λ (a : Nodes). tree_of w a) is ∙ fresh_tree c.args.root c.args.count w;
      nodes = is;
      records = c.in_ok-spare.ensures.room;
    }
