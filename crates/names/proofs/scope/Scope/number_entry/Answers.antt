use Rattle.std.proofs.Common.{rules}
use Rattle.std.proofs.lemmas.Result.{err_from_is_err_and}
use Rattle.names.proofs.Settled.{negated_settled, picked_mapped, weights_refused, joined_settled}
use Rattle.names.proofs.scope.Scope.number_entry.Goals as goal

pub returns-in-Negated : goal.returns-in-Negated
returns-in-Negated c =
    let s = c.args.self in
    rw c.in-Negated.is (negated_settled s c.in-Negated.part)

pub returns-in-Picked : goal.returns-in-Picked
returns-in-Picked c =
    let s = c.args.self in
    rw c.in-Picked.is
    (picked_mapped s c.in-Picked.word c.in-Picked.part
    c.number_name.result c.map.result (search rules) c.number_name.ensures)

pub returns-in_err-left_weight-in-Joined : goal.returns-in_err-left_weight-in-Joined
returns-in_err-left_weight-in-Joined c =
    let s = c.args.self in
    let j = c.in-Joined in
    let p = err_from_is_err_and c.from_residual.result c.from_residual.ensures.1 in
    rw (j.is, p.1, p.2)
    (weights_refused s j.join j.weights j.left j.right
    c.in_err-left_weight-in-Joined.field-0.0 c.in_err-left_weight-in-Joined.ensures)

pub returns-in_ok-left_weight-in-Joined : goal.returns-in_ok-left_weight-in-Joined
returns-in_ok-left_weight-in-Joined c =
    let s = c.args.self in
    let j = c.in-Joined in
    let w = c.in_ok-left_weight-in-Joined in
    rw j.is
    (joined_settled s j.join j.weights j.left j.right (w.left_weight, w.right_weight) w.ensures)
