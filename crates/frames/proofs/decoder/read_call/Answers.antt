-- What is left to show of `read_call`.
use Rattle.frames.specs.Operations.{operation_number}
use Rattle.frames.specs.Requests.{request}
use Rattle.frames.proofs.Decoded.{spells}
use Rattle.frames.proofs.decoder.read_call.Goals as goal

pub returns : goal.returns
returns c =
    let e = c.in_ok-values.ensures in
    spells c.args.frame.now c.behind_head-reader.result.frame.now c.arguments.new.self.frame.now
    (operation_number c.in_ok-operation.operation) c.behind_head-reader.result.at c.arguments.new.self.at
    c.signature.result.parameters.now c.in_ok-values.values c.rest.result.now (request c.assemble.result)
    c.in_ok-operation.ensures c.signature.ensures.parameters c.behind_head-reader.ensures.frame c.behind_head-reader.ensures.at
    e.walked e.moved.frame e.moved.at c.rest.ensures c.assemble.ensures
