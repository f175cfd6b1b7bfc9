use Rattle.meaning.proofs.formulas_read_one_way.Goals as goal
use Rattle.meaning.proofs.Readings.{formulas_read}

pub returns : goal.returns
returns c = formulas_read
