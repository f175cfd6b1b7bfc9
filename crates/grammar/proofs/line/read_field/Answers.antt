use Rattle.std.proofs.lemmas.Result.{err_from_is_err_and}
use Rattle.grammar.specs.Parsing.{fixed_semicolon}
use Rattle.grammar.proofs.Lines.{field_stops, field_read}
use Rattle.grammar.proofs.line.read_field.Goals as goal

pub returns-in_err-expect-clause-value : goal.returns-in_err-expect-clause-value
returns-in_err-expect-clause-value c =
    let q = err_from_is_err_and c.from_residual-in_err-expect.result c.from_residual-in_err-expect.ensures.1 in
    rw (q.1, q.2) (λ text e.
    let n = c.in_ok-name.ensures text e in
    let l = c.in_ok-low.ensures text n.0 in
    let h = c.in_ok-high.ensures text l.0 in
    let x = c.in_err-expect.ensures.asked text h.0 in (
      x.0,
      field_stops text _ _ _ _ n.1 l.1 h.1 c.args.first c.args.table.now c.args.table.now _
          (x.1 _ fixed_semicolon),
    ))

pub returns-clause-value : goal.returns-clause-value
returns-clause-value c = λ text e.
    let n = c.in_ok-name.ensures text e in
    let l = c.in_ok-low.ensures text n.0 in
    let h = c.in_ok-high.ensures text l.0 in
    let x = c.in_ok-expect.ensures.asked text h.0 in (
      x.0,
      field_read text _ _ _ _ n.1 l.1 h.1 _ _ c.args.table.now _ (x.1 _ fixed_semicolon)
          c.keep_field.ensures.lines,
    )
