use Rattle.advice.proofs.Places.{one_line}
use Rattle.advice.proofs.place.Spot.line.Goals as goal

pub returns-clause-one_line : goal.returns-clause-one_line
returns-clause-one_line c = one_line c.args.self.text.now c.args.self.place
