use Rattle.std.proofs.Common.{◌∙◌, arith}
use Rattle.lines.specs.Pieces.{bytes_of}
use Rattle.lines.proofs.Putting.{put_more, fits_more}
use Rattle.lines.proofs.pieces.write.Goals as goal

pub put-requires : goal.put-requires
put-requires c =
    let room = rw c.in_ok-ok_or.ensures.ok_part at c.room_after.ensures in
    fits_more bytes_of c.args.pieces.now c.loop-piece.piece-index _ c.loop-piece-test.true c.loop-piece.invariant.put
    (omega (arith, room.0))

pub loop-piece-preserved : goal.loop-piece-preserved
loop-piece-preserved c = record {
  put =
      put_more bytes_of c.args.pieces.now c.loop-piece.piece-index _ c.loop-piece-test.true c.loop-piece.invariant.put
      c.put.ensures.put;
  same_buffer = c.put.ensures.same_buffer ∙ c.loop-piece.invariant.same_buffer;
}
