use Rattle.meaning.proofs.walks_are_exact.Goals as goal
use Rattle.meaning.proofs.Walks.{walk_laws}

pub returns : goal.returns
returns c = walk_laws
