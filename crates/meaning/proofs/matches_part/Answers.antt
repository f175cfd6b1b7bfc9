use Rattle.meaning.proofs.matches_part.Goals as goal
use Rattle.meaning.proofs.Parting.{tree}

pub returns : goal.returns
returns c = tree
