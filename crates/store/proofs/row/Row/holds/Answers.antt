use Rattle.std.proofs.Common.{sym, ◌∙◌}
use Rattle.std.proofs.lemmas.Bool.{le-ltb}
use Rattle.store.proofs.Rows.{row_at, row_past}
use Rattle.store.proofs.row.Row.holds.Goals as goal

pub returns-then-number-lt1024 : goal.returns-then-number-lt1024
returns-then-number-lt1024 c =
    rw c.from.ensures (sym (row_at c.args.self.now c.args.number c.if-number-lt1024.true))

pub returns-else-number-lt1024 : goal.returns-else-number-lt1024
returns-else-number-lt1024 c = le-ltb c.args.number 1024 c.if-number-lt1024.false
    ∙ sym (row_past c.args.self.now c.args.number c.if-number-lt1024.false)
