use Rattle.meaning.proofs.samples_hold.Goals as goal
use Rattle.meaning.proofs.Samples.{samples}

pub returns : goal.returns
returns c = samples
