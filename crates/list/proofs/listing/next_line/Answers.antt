use Rattle.run.proofs.Tables.{fields_are}
use Rattle.list.proofs.Ending.{line_told}
use Rattle.list.proofs.listing.next_line.Goals as goal

pub returns-clause-told : goal.returns-clause-told
returns-clause-told g c =
    line_told _ _ (fields_are c.args.sheet.now) c.field_count.ensures c.in-Ok.ensures.step
    c.in_ok-put_answer.ensures
