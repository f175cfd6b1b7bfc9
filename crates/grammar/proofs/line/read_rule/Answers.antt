use Rattle.std.proofs.lemmas.Result.{err_from_is_err_and}
use Rattle.grammar.proofs.Lines.{body_stops, rule_read}
use Rattle.grammar.proofs.line.read_rule.Goals as goal

pub returns-in_err-head : goal.returns-in_err-head
returns-in_err-head c =
    let q = err_from_is_err_and c.from_residual.result c.from_residual.ensures.1 in
    rw (q.1, q.2) (λ text e. c.in_err-head.ensures text e)

pub returns-in_err-body : goal.returns-in_err-body
returns-in_err-body c =
    let q = err_from_is_err_and c.from_residual-in_err-body.result c.from_residual-in_err-body.ensures.1 in
    rw (q.1, q.2) (λ text e.
    let h = c.in_ok-head.ensures text e in
    let b = c.in_err-body.ensures.value text h.0 in
    (b.0, body_stops text _ c.args.first c.args.table.now _ h.1 c.args.table.now _ b.1))

pub returns : goal.returns
returns c = λ text e.
    let h = c.in_ok-head.ensures text e in
    let b = c.in_ok-body.ensures.value text h.0 in (
      b.0,
      rule_read text _ _ c.args.table.now _ h.1 (record { value = c.in_ok-body.body; end = c.read_body.new.cursor.at })
          c.read_body.ensures.grown b.1 c.keep_rule.ensures.lines,
    )
