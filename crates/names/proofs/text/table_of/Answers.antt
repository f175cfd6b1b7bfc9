use Rattle.std.proofs.lemmas.Result.{err_from_is_err_and}
use Rattle.names.proofs.Readings.{signs_refused, tabled}
use Rattle.names.proofs.text.table_of.Goals as goal

pub returns-in_err-survey : goal.returns-in_err-survey
returns-in_err-survey c =
    let p = err_from_is_err_and c.from_residual.result c.from_residual.ensures.1 in
    rw (p.1, p.2) (signs_refused c.in_err-survey.ensures.found)

pub returns : goal.returns
returns c =
    let found = c.in_ok-survey.ensures.found in
    tabled c.args.text.now found.0 c.parse.result found.1 c.parse.ensures
