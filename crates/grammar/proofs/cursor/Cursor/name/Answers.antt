use Rattle.grammar.proofs.Cursors.{name_taken}
use Rattle.grammar.proofs.cursor.Cursor.name.Goals as goal

pub returns : goal.returns
returns c =
    let f = c.take.ensures in
    name_taken c.args.self.now c.take.new.self f.0 f.1 _ f.2 f.3.1 f.4
