use Rattle.std.proofs.lemmas.Result.{err_from_is_err_and}
use Rattle.grammar.specs.Parsing.{fixed_semicolon}
use Rattle.grammar.proofs.Lines.{formula_stops, no_semicolon, body_read}
use Rattle.grammar.proofs.line.read_body.Goals as goal

pub returns-in_err-part-clause-value : goal.returns-in_err-part-clause-value
returns-in_err-part-clause-value c =
    let q = err_from_is_err_and c.from_residual.result c.from_residual.ensures.1 in
    rw (q.1, q.2) (λ text e.
    let f = c.in_err-part.ensures.value text e in
    (f.0, formula_stops text _ c.args.table.now c.args.table.now _ f.1))

pub returns-in_err-expect-clause-value : goal.returns-in_err-expect-clause-value
returns-in_err-expect-clause-value c =
    let q = err_from_is_err_and c.from_residual-in_err-expect.result c.from_residual-in_err-expect.ensures.1 in
    rw (q.1, q.2) (λ text e.
    let f = c.in_ok-part.ensures.value text e in
    let x = c.in_err-expect.ensures.asked text f.0 in
    (x.0, no_semicolon text _ c.args.table.now _ _ f.1 _ (x.1 _ fixed_semicolon)))

pub returns-clause-value : goal.returns-clause-value
returns-clause-value c = λ text e.
    let f = c.in_ok-part.ensures.value text e in
    let x = c.in_ok-expect.ensures.asked text f.0 in
    (x.0, body_read text _ c.args.table.now _ _ f.1 _ _ c.len-start.ensures.value (x.1 _ fixed_semicolon))
