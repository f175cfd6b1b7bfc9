use Rattle.meaning.proofs.checks_answer_once.Goals as goal
use Rattle.meaning.proofs.Readings.{checkings}

pub returns : goal.returns
returns c = checkings
