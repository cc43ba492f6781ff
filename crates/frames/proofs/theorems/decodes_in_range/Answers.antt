-- What is left to show of `decodes_in_range`.
use Rattle.frames.proofs.Frames.{decodes_in_range}
use Rattle.frames.proofs.theorems.decodes_in_range.Goals as goal

pub returns : goal.returns
returns c = decodes_in_range
