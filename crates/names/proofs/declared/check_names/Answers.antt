use Rattle.std.proofs.Common.{inl, inr, arith}
use Rattle.names.proofs.Lookups.{holds, fails}
use Rattle.names.proofs.Taken.{own_first, param_first, names_none}
use Rattle.names.proofs.declared.check_names.Goals as goal
use Rattle.names.proofs.declared.check_names.Goals.{then-contains-via-then-contains, then-contains-via-else-contains+then-is_declared}

pub returns-then-contains : goal.returns-then-contains
returns-then-contains c =
    let s = c.args.scope in
    rw c.at.ensures
    (λ above hs up. own_first s c.args.own above hs up
    (elim c.then-contains.branch [
      | then-contains-via-then-contains w ↦ inl (holds w.if-contains.ensures)
      | then-contains-via-else-contains+then-is_declared w ↦ inr (holds w.if-is_declared.ensures)
    ]))

pub returns-then-is_param_taken : goal.returns-then-is_param_taken
returns-then-is_param_taken c =
    let s = c.args.scope in
    rw c.at-then-is_param_taken.ensures
    (λ above hs up. param_first s c.args.own above hs up
    (fails c.if-contains.ensures) (fails c.if-is_declared.ensures) c.loop-k.k (omega arith) c.loop-k.invariant
    (holds c.if-is_param_taken.ensures))

pub returns : goal.returns
returns c =
    let s = c.args.scope in
    λ above hs up. names_none s c.args.own above hs up
    (fails c.if-contains.ensures) (fails c.if-is_declared.ensures) (λ i lt. c.loop-k.invariant i (omega arith))
