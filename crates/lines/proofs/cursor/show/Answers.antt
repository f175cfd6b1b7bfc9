use Rattle.std.proofs.Common.{arith}
use Rattle.lines.specs.Pieces.{shown}
use Rattle.lines.proofs.InPlace.{map_in_place}
use Rattle.lines.proofs.cursor.show.Goals as goal

pub loop-byte-preserved : goal.loop-byte-preserved
loop-byte-preserved c =
    map_in_place shown c.args.bytes.now c.loop-byte.bytes c.loop-byte.byte-index _ (omega arith) c.loop-byte.invariant
    c.shown.ensures
