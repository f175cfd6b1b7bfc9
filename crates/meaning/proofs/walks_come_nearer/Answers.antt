use Rattle.meaning.proofs.walks_come_nearer.Goals as goal
use Rattle.meaning.proofs.Endings.{walks_near}

pub returns : goal.returns
returns c = walks_near
