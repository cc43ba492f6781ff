-- What is left to show of `balance`.
use Rattle.rules.proofs.EverySetup.{balance}
use Rattle.rules.proofs.laws.balance.Goals as goal

pub returns : goal.returns
returns c = balance
