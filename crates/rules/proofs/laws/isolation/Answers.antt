-- What is left to show of `isolation`.
use Rattle.rules.proofs.EverySetup.{isolation}
use Rattle.rules.proofs.laws.isolation.Goals as goal

pub returns : goal.returns
returns c = isolation
