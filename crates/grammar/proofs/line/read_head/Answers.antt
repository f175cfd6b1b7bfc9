use Rattle.std.proofs.lemmas.Result.{err_from_is_err_and}
use Rattle.grammar.specs.Parsing.{fixed_opening, fixed_colon}
use Rattle.grammar.proofs.Lines.{no_opening, no_params, no_colon, head_read}
use Rattle.grammar.proofs.line.read_head.Goals as goal

pub returns-in_err-expect : goal.returns-in_err-expect
returns-in_err-expect c =
    let q = err_from_is_err_and c.from_residual-in_err-expect.result c.from_residual-in_err-expect.ensures.1 in
    rw (q.1, q.2) (λ text e.
    let n = c.in_ok-name.ensures text e in
    let o = c.in_err-expect.ensures.asked text n.0 in
    (o.0, no_opening text _ _ n.1 _ (o.1 _ fixed_opening)))

pub returns-in_err-params : goal.returns-in_err-params
returns-in_err-params c =
    let q = err_from_is_err_and c.from_residual-in_err-params.result c.from_residual-in_err-params.ensures.1 in
    rw (q.1, q.2) (λ text e.
    let n = c.in_ok-name.ensures text e in
    let o = c.in_ok-expect.ensures.asked text n.0 in
    let p = c.in_err-params.ensures text o.0 in
    (p.0, no_params text _ _ n.1 _ (o.1 _ fixed_opening) _ p.1))

pub returns-in_err-expect-2 : goal.returns-in_err-expect-2
returns-in_err-expect-2 c =
    let q = err_from_is_err_and c.from_residual-in_err-expect-2.result c.from_residual-in_err-expect-2.ensures.1 in
    rw (q.1, q.2) (λ text e.
    let n = c.in_ok-name.ensures text e in
    let o = c.in_ok-expect.ensures.asked text n.0 in
    let p = c.in_ok-params.ensures text o.0 in
    let x = c.in_err-expect-2.ensures.asked text p.0 in
    (x.0, no_colon text _ _ n.1 _ (o.1 _ fixed_opening) _ p.1 _ (x.1 _ fixed_colon)))

pub returns : goal.returns
returns c = λ text e.
    let n = c.in_ok-name.ensures text e in
    let o = c.in_ok-expect.ensures.asked text n.0 in
    let p = c.in_ok-params.ensures text o.0 in
    let x = c.in_ok-expect-2.ensures.asked text p.0 in
    (x.0, head_read text _ _ n.1 _ (o.1 _ fixed_opening) _ p.1 _ (x.1 _ fixed_colon))
