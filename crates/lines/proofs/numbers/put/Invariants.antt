use Rattle.std.proofs.Common.{take}
use Rattle.std.specs.List.{flat_map}
use Rattle.lines.specs.Pieces.{slashed}
use Rattle.lines.specs.Putting.{Written}
use Rattle.lines.proofs.numbers.put.Given as goal

abbrev pub invariant-loop-number : goal.invariant-loop-number
invariant-loop-number l = Written l.initial.cursor (flat_map slashed (take l.number-index l.others)) l.cursor
