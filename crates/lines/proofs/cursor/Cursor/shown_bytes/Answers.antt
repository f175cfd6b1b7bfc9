use Rattle.std.proofs.Common.{rules}
use Rattle.lines.specs.Pieces.{shown}
use Rattle.lines.proofs.Putting.{put_changed}
use Rattle.lines.proofs.cursor.Cursor.shown_bytes.Goals as goal

pub returns : goal.returns
returns c = record {
  put = put_changed shown _ c.bytes.ensures.put c.requires c.show.ensures;
  same_buffer = search (rules, c.bytes.ensures.same_buffer);
}
