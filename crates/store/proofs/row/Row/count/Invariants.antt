use Rattle.std.proofs.Common.{◌≡◌, length}
use Rattle.marks.specs.Counted.{below}
use Rattle.store.specs.Rows.{has}
use Rattle.store.proofs.row.Row.count.Given as goal

abbrev pub invariant-loop-present : goal.invariant-loop-present
invariant-loop-present l = l.found ≡ length (below (has l.self) l.present-index)
