use Rattle.std.proofs.Common.{not, ap, rules}
use Rattle.store.proofs.Listed.{row_any}
use Rattle.store.proofs.row.Row.is_empty.Goals as goal

pub returns : goal.returns
returns c =
    ap not (row_any c.args.self.now _ (search rules) c.contains.ensures.cases)
