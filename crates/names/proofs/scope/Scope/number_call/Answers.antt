use Rattle.std.proofs.Common.{◌≡◌, ℕ, length, None, Err, Result, sym, ap, ◌∙◌}
use Rattle.std.proofs.lemmas.Result.{err_from_is_err_and}
use Rattle.refusal.specs.declared.Fault.{Fault}
use Rattle.names.proofs.Lookups.{stands_read}
use Rattle.names.proofs.Numbering.{no_rule_settled, wrong_terms_settled, call_settled}
use Rattle.names.proofs.scope.Scope.number_call.Goals as goal

pub returns-in_err-rule : goal.returns-in_err-rule
returns-in_err-rule c =
    let p = err_from_is_err_and c.from_residual.result c.from_residual.ensures.1 in
    let f = c.in_err-rule.field-0.0 in
    let none : c.find.result ≡ None = c.in_err-rule.ensures.ok_part in
    let same : ◌≡◌ {A = Result ℕ Fault} (Err f) (Err c.at.result) = rw none at c.in_err-rule.ensures.value in
    let is : f ≡ c.at.result = cc in
    rw (p.1, p.2, is, c.at.ensures)
    (no_rule_settled c.args.self c.args.name c.args.terms (rw none at c.find.ensures.found))

pub returns-then-len-terms : goal.returns-then-len-terms
returns-then-len-terms c =
    let found = rw c.in_ok-rule.ensures.ok_part at c.find.ensures.found in
    let read = (stands_read c.index-self-rule.result found.1).1 in
    let long : c.len.result ≡ length found.0.params.items = c.len.ensures.value ∙ ap (λ z. length z.params.items) read in
    rw c.at-then-len-terms.ensures
    (wrong_terms_settled c.args.self c.args.name c.args.terms c.in_ok-rule.rule found.0 found.1 found.2
    (λ e. c.if-len-terms.true (long ∙ e)))

pub returns : goal.returns
returns c =
    let found = rw c.in_ok-rule.ensures.ok_part at c.find.ensures.found in
    let read = (stands_read c.index-self-rule.result found.1).1 in
    let long : c.len.result ≡ length found.0.params.items = c.len.ensures.value ∙ ap (λ z. length z.params.items) read in
    call_settled c.args.self c.args.name c.args.terms c.in_ok-rule.rule found.0 found.1 found.2
    (sym long ∙ c.if-len-terms.false)
