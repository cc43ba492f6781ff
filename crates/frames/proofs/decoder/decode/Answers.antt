-- What is left to show of `decode`.
use Rattle.std.proofs.Common.{sym}
use Rattle.frames.specs.Requests.{request}
use Rattle.frames.proofs.Decoded.{granted}
use Rattle.frames.proofs.Frames.{decoded}
use Rattle.frames.proofs.Ranges.{in_range}
use Rattle.frames.proofs.decoder.decode.Goals as goal

pub returns : goal.returns
returns c =
    let e = granted c.args.frame.now c.args.room (request c.in_ok-call.call) c.in_ok-call.ensures c.in_ok-check_end.ensures c.in_ok-check_room.ensures in
    let d = decoded c.args.frame.now c.args.room (request c.in_ok-call.call) e in
    record { value = sym e; in_range = (in_range (request c.in_ok-call.call) d.passes, d.fits); own_frame = sym d.frame }
