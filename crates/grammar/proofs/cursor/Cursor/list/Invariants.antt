use Rattle.std.proofs.Common.{◌-◌, length}
use Rattle.grammar.specs.Parsing.{Along}
use Rattle.grammar.proofs.Bracketed.{Reading}
use Rattle.grammar.proofs.cursor.Cursor.list.Given as goal

abbrev pub invariant-loop-item : goal.invariant-loop-item
invariant-loop-item g l =
    Along l.initial.self l.self (λ text.
    Reading text g.row.T.Denot g.T.Item.is_item g.T.Item.listing l.initial.self.at l.list l.self.at)

abbrev pub decreases-loop-item : goal.decreases-loop-item
decreases-loop-item g l = length l.initial.self.text.now - l.self.at
