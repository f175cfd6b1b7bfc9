use Rattle.std.proofs.lemmas.Result.{err_from_is_err_and}
use Rattle.advice.proofs.GoingOn.{read_parsed, read_uncut}
use Rattle.advice.proofs.reading.read.Goals as goal

pub returns-in_err-survey : goal.returns-in_err-survey
returns-in_err-survey c =
    let p = err_from_is_err_and c.from_residual.result c.from_residual.ensures.1 in
    rw (p.1, p.2) (read_uncut _ _ _ c.in_err-survey.ensures.one_verdict c.in_err-survey.ensures.found)

pub returns : goal.returns
returns c =
    let cut = c.in_ok-survey.ensures.found in
    read_parsed _ cut.0 _ c.in_ok-survey.ensures.one_verdict cut.1 c.parse.ensures
