-- What is left to show of `create_directory`.
use Rattle.std.proofs.Common.{◌≡◌, ◌+◌, Option, sym, ap, ◌∙◌, subst}
use Rattle.rules.specs.Tree.{Cell, directory, empty}
use Rattle.rules.specs.Cells.{cost}
use Rattle.rules.proofs.Balance.{Fit, cost_directory, fit_directory}
use Rattle.objects.specs.Views.{nodes}
use Rattle.objects.proofs.objects.Objects.create_directory.Goals as goal

pub insert-requires : goal.insert-requires
insert-requires c =
    let l = c.args.label in
    let is = sym c.new_cell-cell.ensures in
    record {
      directory = c.requires.directory;
      vacant = ap (nodes c.args.self.now c.args.directory).entry c.new-place.ensures ∙ c.requires.vacant;
      live = tt;
      fit = subst (λ (x : Option Cell). Fit (directory l x (λ _. empty))) is (fit_directory l c.args.grant);
      cost = subst (λ (x : Option Cell). cost (directory l x (λ _. empty)) ≡ 1 + c.args.grant) is (cost_directory l c.args.grant);
      paid = c.requires.paid;
    }
