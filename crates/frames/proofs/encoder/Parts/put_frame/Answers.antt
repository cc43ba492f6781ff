-- What is left to show of `put_frame`.
use Rattle.std.proofs.Common.{arith}
use Rattle.frames.proofs.Arguments.{frame_put}
use Rattle.frames.proofs.encoder.Parts.put_frame.Goals as goal

pub returns : goal.returns
returns c =
    frame_put c.args.self.now.operation _ c.args.self.now.values c.args.self.now.words.now c.args.buffer.now _ _ _ (omega arith)
    c.parameters-arguments.ensures c.requires.room (cc) c.put_arguments.ensures c.put_words.ensures
