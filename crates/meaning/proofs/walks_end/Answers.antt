use Rattle.meaning.proofs.walks_end.Goals as goal
use Rattle.meaning.proofs.Endings.{endings}

pub returns : goal.returns
returns c = endings
