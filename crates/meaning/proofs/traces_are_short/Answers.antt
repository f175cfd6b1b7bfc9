use Rattle.meaning.proofs.traces_are_short.Goals as goal
use Rattle.meaning.proofs.Lengths.{lengths}

pub returns : goal.returns
returns c = lengths
