-- What is left to show of `create_segment`.
use Rattle.std.proofs.Common.{ap, ◌∙◌}
use Rattle.rules.proofs.Balance.{cost_segment}
use Rattle.objects.specs.Views.{nodes}
use Rattle.objects.proofs.objects.Objects.create_segment.Goals as goal

pub insert-requires : goal.insert-requires
insert-requires c = record {
  directory = c.requires.directory;
  vacant = ap (nodes c.args.self.now c.args.directory).entry c.new-place.ensures ∙ c.requires.vacant;
  live = tt;
  fit = tt;
  cost = cost_segment;
  paid = c.requires.paid;
}
