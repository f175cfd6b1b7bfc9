use Rattle.std.proofs.Common.{arith}
use Rattle.std.proofs.lemmas.Result.{err_from_is_err_and}
use Rattle.names.proofs.Loops.{fields_more, fields_all, field_refused}
use Rattle.names.proofs.lines.check_fields.Goals as goal

pub returns-in_err-check_field : goal.returns-in_err-check_field
returns-in_err-check_field c =
    let s = c.args.scope in
    let p = err_from_is_err_and c.from_residual.result c.from_residual.ensures.1 in
    rw (p.1, p.2)
    (field_refused s.text.now s.fields.now c.loop-i.i (omega arith) c.in_err-check_field.field-0.0 c.loop-i.invariant c.in_err-check_field.ensures)

pub loop-i-preserved : goal.loop-i-preserved
loop-i-preserved c =
    let s = c.args.scope in
    fields_more s.text.now s.fields.now c.loop-i.i (omega arith) c.in_ok-check_field.field-0 c.loop-i.invariant c.in_ok-check_field.ensures

pub returns : goal.returns
returns c =
    let s = c.args.scope in fields_all s.text.now s.fields.now c.loop-i.i tt (omega arith) c.loop-i.invariant
