use Rattle.advice.proofs.Laws.{one_place, stands_under}
use Rattle.advice.proofs.place.Spot.column.Goals as goal

pub returns-clause-one_place : goal.returns-clause-one_place
returns-clause-one_place c = one_place c.args.self.text.now c.args.self.place

pub returns-clause-stands_under : goal.returns-clause-stands_under
returns-clause-stands_under c = stands_under c.args.self.text.now c.args.self.place
