-- What is left to show of `reads_back`.
use Rattle.frames.proofs.RoundTrip.{reads_back}
use Rattle.frames.proofs.theorems.reads_back.Goals as goal

pub returns : goal.returns
returns c = reads_back
