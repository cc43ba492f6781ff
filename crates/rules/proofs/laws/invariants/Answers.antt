-- What is left to show of `invariants`.
use Rattle.rules.proofs.EverySetup.{invariants_kept}
use Rattle.rules.proofs.laws.invariants.Goals as goal

pub returns : goal.returns
returns c = invariants_kept
