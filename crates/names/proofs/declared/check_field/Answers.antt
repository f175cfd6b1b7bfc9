use Rattle.names.proofs.Lookups.{holds, fails}
use Rattle.names.proofs.Taken.{field_taken_first, range_first, field_faultless}
use Rattle.names.proofs.declared.check_field.Goals as goal

pub returns-then-contains : goal.returns-then-contains
returns-then-contains c =
    rw c.at.ensures (field_taken_first c.args.text.now c.args.above.now c.args.field c.requires (holds c.if-contains.ensures))

pub returns-then-field : goal.returns-then-field
returns-then-field c =
    rw c.at-then-field.ensures
    (range_first c.args.text.now c.args.above.now c.args.field c.requires (fails c.if-contains.ensures) c.if-field.true)

pub returns : goal.returns
returns c =
    field_faultless c.args.text.now c.args.above.now c.args.field c.requires (fails c.if-contains.ensures) tt c.if-field.false
