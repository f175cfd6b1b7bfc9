use Rattle.std.proofs.Common.{refl, rules}
use Rattle.lines.proofs.Putting.{put_part}
use Rattle.lines.proofs.cursor.Cursor.bytes.Goals as goal

pub returns : goal.returns
returns c = record {
  put = put_part _ c.copy_from_slice.ensures.after refl c.requires;
  same_buffer = search rules;
}
