use Rattle.grammar.proofs.Once.{sheet_once}
use Rattle.grammar.proofs.unambiguous.Goals as goal

pub returns : goal.returns
returns c = λ xs s t a b. sheet_once a b
