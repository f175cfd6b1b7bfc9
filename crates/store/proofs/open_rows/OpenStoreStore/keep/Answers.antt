use Rattle.std.proofs.Common.{◌<◌, ◌≤◌, ◌&&◌, ap, ◌∙◌, arith}
use Rattle.formula.specs.Comparing.{holds}
use Rattle.store.specs.Rows.{has}
use Rattle.store.proofs.Rows.{no_row}
use Rattle.store.proofs.Opens.{marks_keep}
use Rattle.store.proofs.open_rows.OpenStoreStore.keep.Goals as goal

pub returns-clause-left : goal.returns-clause-left
returns-clause-left c =
    let s = c.args.self.now in
    let f = c.args.field in
    let k = c.args.number in
    let lent = c.row.ensures in
    let h : f < s.width = omega (arith, c.if-field-self.false) in
    let l : k ≤ 1023 = omega (arith, c.if-number-gt-GREATEST.false) in (
      (h, l),
      marks_keep s.width s.rows f c.args.sign k c.narrow.new.self h
          (omega (arith, lent.facts.0, s.few.1))
          (λ v. c.narrow.ensures v ∙ ap (λ r. has r v && holds c.args.sign v k) (lent.facts.1 no_row)),
    )
