use Rattle.meaning.proofs.runs_keep_ranges.Goals as goal
use Rattle.meaning.proofs.Runs.{ranges_keep}

pub returns : goal.returns
returns c = ranges_keep
