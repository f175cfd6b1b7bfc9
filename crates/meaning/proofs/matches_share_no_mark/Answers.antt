use Rattle.meaning.proofs.matches_share_no_mark.Goals as goal
use Rattle.meaning.proofs.Parting.{unique}

pub returns : goal.returns
returns c = unique
