use Rattle.names.proofs.Verdict.{one_verdict_lem}
use Rattle.names.proofs.one_verdict.Goals as goal

pub returns : goal.returns
returns c = one_verdict_lem
