-- What is left to show of `replies_exact`.
use Rattle.rules.proofs.Replies.{replies_exact}
use Rattle.rules.proofs.laws.replies_exact.Goals as goal

pub returns : goal.returns
returns c = replies_exact
