use Rattle.std.proofs.Common.{sym, ◌∙◌}
use Rattle.reading.proofs.Marks.{shaped_when, shaped_else}
use Rattle.reading.proofs.fields.is_mark.Goals as goal

pub returns-then-mark-field_count : goal.returns-then-mark-field_count
returns-then-mark-field_count c =
    shaped_when c.args.sheet.now _ _ (c.if-mark-field_count.true ∙ c.field_count.ensures) c.all_small.ensures

pub returns-else-mark-field_count : goal.returns-else-mark-field_count
returns-else-mark-field_count c =
    rw c.field_count.ensures
    (shaped_else c.args.sheet.now c.args.mark.now
    (λ e. c.if-mark-field_count.false (e ∙ sym c.field_count.ensures)))
