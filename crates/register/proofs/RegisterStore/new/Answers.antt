use Rattle.std.proofs.Common.{sym, subst, length}
use Rattle.store.specs.Opens.{every_mark}
use Rattle.register.specs.Registers.{is_row, both, HasRows}
use Rattle.register.proofs.Registers.{rows_are_marks}
use Rattle.register.proofs.RegisterStore.new.Goals as goal

pub returns-clause-starts : goal.returns-clause-starts
returns-clause-starts c =
    let n = length c.args.sheet.now.ranges.items in
    let register = c.args.register.now in
    subst (λ z. HasRows n register (both (is_row register z) (every_mark z))) (sym c.new.ensures.fields)
    (rows_are_marks register n c.args.sheet.now.some_fields.0)
