use Rattle.std.proofs.Common.{rules}
use Rattle.store.proofs.Rows.{with_has}
use Rattle.store.proofs.row.Row.add.Goals as goal

pub returns-then-number-lt1024 : goal.returns-then-number-lt1024
returns-then-number-lt1024 c v =
    rw c.from.ensures (with_has c.args.self.now c.args.number v c.if-number-lt1024.true (search rules))
