use Rattle.std.proofs.Common.{◌+◌, ◌*◌}
use Rattle.reading.proofs.formulas.+read.Given as goal

abbrev pub decreases-read : goal.decreases-read
decreases-read l = l.fuel.now * 256 + l.node
