use Rattle.meaning.proofs.matches_are_complete.Goals as goal
use Rattle.meaning.proofs.Completeness.{completeness}

pub returns : goal.returns
returns c = completeness
