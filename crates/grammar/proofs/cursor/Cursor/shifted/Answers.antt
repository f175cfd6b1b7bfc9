use Rattle.std.proofs.Common.{refl}
use Rattle.grammar.proofs.cursor.Cursor.shifted.Goals as goal

pub returns : goal.returns
returns g c = λ text e.
    let n = c.in_ok-number.ensures text e in
    (n.0, (record { value = c.in_ok-number.number; end = c.number.new.self.at }, c.shift.result, c.shift.ensures, n.1, refl))
