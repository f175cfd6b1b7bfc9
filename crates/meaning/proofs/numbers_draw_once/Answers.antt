use Rattle.meaning.proofs.numbers_draw_once.Goals as goal
use Rattle.meaning.proofs.Draws.{draws_one}

pub returns : goal.returns
returns c = draws_one
