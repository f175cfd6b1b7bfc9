use Rattle.meaning.proofs.runs_are_lawful.Goals as goal
use Rattle.meaning.proofs.Runs.{run_laws}

pub returns : goal.returns
returns c = run_laws
