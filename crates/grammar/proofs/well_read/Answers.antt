use Rattle.grammar.proofs.WellRead.{well_read_lem}
use Rattle.grammar.proofs.well_read.Goals as goal

pub returns : goal.returns
returns c = well_read_lem
