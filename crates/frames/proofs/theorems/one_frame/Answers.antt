-- What is left to show of `one_frame`.
use Rattle.frames.proofs.Frames.{one_frame}
use Rattle.frames.proofs.theorems.one_frame.Goals as goal

pub returns : goal.returns
returns c = one_frame
