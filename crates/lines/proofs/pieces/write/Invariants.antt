use Rattle.std.proofs.Common.{take}
use Rattle.lines.specs.Pieces.{text_of}
use Rattle.lines.specs.Putting.{Written}
use Rattle.lines.proofs.pieces.write.Given as goal

abbrev pub invariant-loop-piece : goal.invariant-loop-piece
invariant-loop-piece l = Written l.initial.cursor (text_of (take l.piece-index l.pieces)) l.cursor
