use Rattle.std.proofs.Common.{◌∙◌}
use Rattle.std.proofs.lemmas.Result.{err_from_is_err_and}
use Rattle.grammar.proofs.Sheets.{first_read, first_stops}
use Rattle.grammar.proofs.sheet.read_first.Goals as goal

pub returns-in_err-first-clause-value : goal.returns-in_err-first-clause-value
returns-in_err-first-clause-value c =
    let q = err_from_is_err_and c.from_residual.result c.from_residual.ensures.1 in
    rw (q.1, q.2) (λ text e.
    let m = c.in_err-first.ensures.met in
    (m.2 ∙ e, first_stops text _ m.0 (m.1 text e) c.args.table.now _ m.3.1 m.3.0))

pub returns-clause-value : goal.returns-clause-value
returns-clause-value c = λ text e.
    let m = c.in_ok-first.ensures.met in
    let f = c.read_field.ensures.value text (m.2 ∙ e) in
    (f.0, first_read text _ m.0 (m.1 text e) c.args.table.now _ _ _ _ m.3.0 m.3.1 m.3.2 f.1)
