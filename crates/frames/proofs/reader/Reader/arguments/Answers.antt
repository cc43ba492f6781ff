-- What is left to show of `arguments`.
use Rattle.std.proofs.Common.{length, ap, arith}
use Rattle.frames.proofs.Walks.{fault_more, values_more, value_is}
use Rattle.frames.proofs.reader.Reader.arguments.Goals as goal

pub loop-i-preserved : goal.loop-i-preserved
loop-i-preserved c =
    let inv = c.loop-i.invariant in
    let moved = c.in_ok-values.ensures.moved in
    let was = c.in_ok-values.ensures.value in
    let more = fault_more c.loop-i.self.at c.loop-i.i c.args.parameters.now c.loop-i.self.frame.now c.in_ok-values.field-0 _ c.loop-i-test.true (omega (arith, ap length inv.frame)) was in
    record {
      frame = (cc);
      at = omega arith;
      fault = (cc (more, moved.at));
      values = values_more c.args.self.now.at c.loop-i.i c.loop-i.self.at _ _ _ _ inv.frame inv.at (omega arith) (omega arith) (value_is _ _ _ _ was) inv.values;
    }
