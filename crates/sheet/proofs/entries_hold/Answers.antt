use Rattle.sheet.proofs.Holding.{entries_hold_lem}
use Rattle.sheet.proofs.entries_hold.Goals as goal

pub returns : goal.returns
returns c = entries_hold_lem
