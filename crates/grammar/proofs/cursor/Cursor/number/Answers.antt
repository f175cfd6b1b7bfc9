use Rattle.grammar.proofs.Cursors.{number_taken}
use Rattle.grammar.proofs.cursor.Cursor.number.Goals as goal

pub returns : goal.returns
returns c =
    let f = c.take.ensures in
    number_taken c.args.self.now c.take.new.self f.0 f.1 _ f.2 f.3.1 f.4
