use Rattle.std.proofs.Common.{◌≡◌, ◌-◌, ◌<◌, take, ap, ◌∙◌, ⊎_elim, arith}
use Rattle.std.proofs.lemmas.Result.{err_from_is_err_and}
use Rattle.names.proofs.Settled.{call_refused, many_terms, terms_refused, called_settled}
use Rattle.names.proofs.scope.Scope.number_called.Goals as goal

pub returns-in_err-rule : goal.returns-in_err-rule
returns-in_err-rule c =
    let s = c.args.self in
    let p = err_from_is_err_and c.from_residual.result c.from_residual.ensures.1 in
    rw (p.1, p.2)
    (call_refused s c.args.name c.args.terms
    c.in_err-rule.field-0.0 c.in_err-rule.ensures)

pub returns-in_err-written : goal.returns-in_err-written
returns-in_err-written c =
    let s = c.args.self in
    let p = err_from_is_err_and c.from_residual-in_err-written.result c.from_residual-in_err-written.ensures.1 in
    let h = rw c.in_err-written.ensures.ok_part at c.get.ensures.lookup in
    let many : 4 < c.args.terms.count = ⊎_elim (λ k. omega (arith, k)) (λ k. omega (arith, k)) h.0 in
    rw (p.1, p.2)
    (many_terms s c.args.name c.args.terms
    c.in_ok-rule.rule c.in_err-written.field-0.0 c.in_ok-rule.ensures many)

pub returns-in_err-numbered : goal.returns-in_err-numbered
returns-in_err-numbered c =
    let s = c.args.self in
    let p = err_from_is_err_and c.from_residual-in_err-numbered.result c.from_residual-in_err-numbered.ensures.1 in
    let h = rw c.in_ok-written.ensures.ok_part at c.get.ensures.lookup in
    let all : c.args.terms.count - 0 ≡ c.args.terms.count = omega arith in
    let kept = h.0.2 ∙ ap (λ n. take n c.args.terms.items) all in
    rw (p.1, p.2)
    (terms_refused s c.args.name c.args.terms
    c.in_ok-rule.rule c.in_err-numbered.field-0.0 c.in_ok-rule.ensures (rw kept at c.in_err-numbered.ensures))

pub returns : goal.returns
returns c =
    let s = c.args.self in
    let h = rw c.in_ok-written.ensures.ok_part at c.get.ensures.lookup in
    let all : c.args.terms.count - 0 ≡ c.args.terms.count = omega arith in
    let kept = h.0.2 ∙ ap (λ n. take n c.args.terms.items) all in
    called_settled s c.args.name c.args.terms
    c.in_ok-rule.rule c.in_ok-numbered.numbered (omega arith) c.in_ok-rule.ensures (rw kept at c.in_ok-numbered.ensures)
