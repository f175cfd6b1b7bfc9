use Rattle.meaning.proofs.numbers_tell_one_run.Goals as goal
use Rattle.meaning.proofs.Picks.{all_told}

pub returns : goal.returns
returns c = all_told
