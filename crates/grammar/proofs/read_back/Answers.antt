use Rattle.grammar.proofs.Back.{read_back}
use Rattle.grammar.proofs.read_back.Goals as goal

pub returns : goal.returns
returns c = read_back
