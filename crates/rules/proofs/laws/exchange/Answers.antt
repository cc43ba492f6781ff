-- What is left to show of `exchange`.
use Rattle.rules.proofs.EverySetup.{exchange_law}
use Rattle.rules.proofs.laws.exchange.Goals as goal

pub returns : goal.returns
returns c = exchange_law
