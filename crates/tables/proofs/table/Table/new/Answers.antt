-- What is left to show of `new`.
use Rattle.std.proofs.Common.{◌≡◌, List, [], ◌++◌, take, ap, ◌∙◌, arith, rules}
use mathlib.Core.Path.{fun_ext}
use Rattle.std.proofs.lemmas.List.{take_all}
use Rattle.forest.specs.Nodes.{Nodes, with_body}
use Rattle.tables.specs.declared.object.Object.{Object}
use Rattle.tables.specs.Bodies.{body_of}
use Rattle.tables.specs.Objects.{view, change_at}
use Rattle.tables.proofs.Made.{none_shown}
use Rattle.tables.proofs.table.Table.new.Goals as goal

pub returns-clause-nodes : goal.returns-clause-nodes
returns-clause-nodes c =
    let made = c.in_ok-resize_with.ensures.items in
    let none = ap (take c.args.size) c.in_ok-objects.ensures.items ∙ take_all c.args.size [] (omega arith) in
    let before : c.resize_with.new.self.items ≡ made.0 = made.2 ∙ ap (λ (l : List Object). l ++ made.0) none in
    c.set_body.ensures.after
    ∙ ap (λ (a : Nodes). change_at a 0 (λ n. with_body n (body_of c.args.root))) (ap view before ∙ fun_ext (none_shown _ (λ f g o s. search rules) made.0 _ _ made.3))
