use Rattle.grammar.proofs.Verdict.{one_verdict_lem}
use Rattle.grammar.proofs.one_verdict.Goals as goal

pub returns : goal.returns
returns c = one_verdict_lem
