use Rattle.std.proofs.Common.{map, length, sym, ap, ◌∙◌}
use Rattle.sheet.specs.Sheets.{range_of}
use Rattle.meaning.specs.Reading.{ranged}
use Rattle.reading.proofs.Marks.{ranged_as}
use Rattle.reading.proofs.fields.in_ranges.Goals as goal

pub returns : goal.returns
returns c =
    ranged_as _ _ _ (c.requires ∙ ap length (sym c.deref.ensures.0)) c.all_between.ensures
    ∙ ap (λ rs. ranged (map range_of rs) 0 c.args.mark.now) c.deref.ensures.0
