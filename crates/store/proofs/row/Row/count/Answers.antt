use Rattle.std.proofs.Common.{sym, arith}
use Rattle.store.specs.Rows.{has}
use Rattle.marks.proofs.Below.{length_zero, length_yes, length_no, length_le}
use Rattle.store.proofs.Rows.{row_yes, row_no}
use Rattle.store.proofs.row.Row.count.Goals as goal
use Rattle.store.proofs.row.Row.count.Goals.{then-present, else-present}

pub loop-present-init : goal.loop-present-init
loop-present-init c = sym (length_zero (has c.args.self.now))

pub overflow_add-found : goal.overflow_add-found
overflow_add-found c =
    omega (arith, length_le (has c.args.self.now) c.loop-present.present-index, c.loop-present.invariant)

pub loop-present-preserved : goal.loop-present-preserved
loop-present-preserved c =
    let r = c.args.self.now in
    elim c.if-present.branch [
      | then-present w ↦ omega (
        arith,
        w.found-is,
        c.loop-present.invariant,
        length_yes (has r) c.loop-present.present-index
            (row_yes r c.loop-present.present-index c.loop-present-test.true w.if-present.true),
      )
      | else-present w ↦ omega (
        arith,
        w.found-is,
        c.loop-present.invariant,
        length_no (has r) c.loop-present.present-index
            (row_no r c.loop-present.present-index w.if-present.false),
      )
    ]
