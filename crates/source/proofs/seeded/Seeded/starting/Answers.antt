use Rattle.source.proofs.Streams.{streams}
use Rattle.source.proofs.seeded.Seeded.starting.Goals as goal

pub returns : goal.returns
returns c = streams c.args.seed c.args.count
