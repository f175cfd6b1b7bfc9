use Rattle.std.proofs.lemmas.Result.{err_from_is_err_and}
use Rattle.names.proofs.Settled.{left_refused, right_refused, compared_settled}
use Rattle.names.proofs.scope.Scope.number_compared.Goals as goal

pub returns-in_err-left : goal.returns-in_err-left
returns-in_err-left c =
    let s = c.args.self in
    let p = err_from_is_err_and c.from_residual.result c.from_residual.ensures.1 in
    rw (p.1, p.2)
    (left_refused s c.args.sign c.args.left c.args.right c.in_err-left.field-0.0 c.in_err-left.ensures)

pub returns-in_err-right : goal.returns-in_err-right
returns-in_err-right c =
    let s = c.args.self in
    let p = err_from_is_err_and c.from_residual-in_err-right.result c.from_residual-in_err-right.ensures.1 in
    rw (p.1, p.2)
    (right_refused s c.args.sign c.args.left c.args.right
    c.in_ok-left.left c.in_err-right.field-0.0 c.in_ok-left.ensures c.in_err-right.ensures)

pub returns : goal.returns
returns c =
    let s = c.args.self in
    compared_settled s c.args.sign c.args.left c.args.right
    c.in_ok-left.left c.in_ok-right.right c.in_ok-left.ensures c.in_ok-right.ensures
