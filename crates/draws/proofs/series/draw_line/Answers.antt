use Rattle.run.proofs.Tables.{fields_are}
use Rattle.draws.proofs.Drawing.{line_told}
use Rattle.draws.proofs.series.draw_line.Goals as goal

pub returns-clause-told : goal.returns-clause-told
returns-clause-told g c =
    let left = c.in-Ok.ensures.left in
    let to = left.2 in
    line_told _ _ c.in-Ok.ran.ended _ (fields_are c.args.sheet.now) c.field_count.ensures left.0 to.draw to.long to.told
    c.is_last.ensures c.in_ok-put_end.ensures
