-- What is left to show of `encode`.
use Rattle.std.proofs.Common.{length, Err, ap, ◌∙◌, arith}
use Rattle.std.proofs.lemmas.Result.{err_from_is_err_and, IfOk-from_err}
use Rattle.frames.specs.Requests.{request}
use Rattle.frames.proofs.Encoded.{refused, denied_value, denied_end, encoded}
use Rattle.frames.proofs.encoder.encode.Goals as goal

pub returns-in_err-check_values : goal.returns-in_err-check_values
returns-in_err-check_values c =
    let p = err_from_is_err_and c.from_residual.result c.from_residual.ensures.1 in
    let r = refused (request c.args.call) c.args.buffer.now c.from_residual.result _ (p.1 ∙ ap Err p.2)
    (denied_value c.from-parts.ensures (length c.args.buffer.now) c.in_err-check_values.field-0.0 (cc) c.in_err-check_values.ensures) in
    record { value = r.value; buffer = r.same; reads_back = IfOk-from_err c.from_residual.result _ c.from_residual.ensures.0 }

pub returns-in_err-check_end : goal.returns-in_err-check_end
returns-in_err-check_end c =
    let f = c.from_residual-in_err-check_end in
    let p = err_from_is_err_and f.result f.ensures.1 in
    let r = refused (request c.args.call) c.args.buffer.now f.result _ (p.1 ∙ ap Err p.2)
    (denied_end c.from-parts.ensures (length c.args.buffer.now) c.in_err-check_end.field-0.0 (cc) c.in_ok-check_values.ensures c.in_err-check_end.ensures) in
    record { value = r.value; buffer = r.same; reads_back = IfOk-from_err f.result _ f.ensures.0 }

pub returns : goal.returns
returns c =
    let e = encoded c.from-parts.ensures c.args.buffer.now c.put_frame.new.buffer c.frame_length-length.result (cc) c.in_ok-check_values.ensures c.in_ok-check_end.ensures c.frame_length-length.ensures (omega arith) c.put_frame.ensures in
    record { value = e.value; buffer = e.buffer; reads_back = e.reads_back }
