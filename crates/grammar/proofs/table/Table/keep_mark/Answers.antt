use Rattle.grammar.proofs.Keeping.{mark_kept, mark_left_out}
use Rattle.grammar.proofs.table.Table.keep_mark.Goals as goal

pub returns-then-admit : goal.returns-then-admit
returns-then-admit c = λ text fs rs f h k. mark_kept text c.args.self.now fs rs c.args.body.start c.args.first
    c.args.body.part f k c.admit.new.self c.exceeds.ensures.1 c.if-admit.ensures h

pub returns-else-admit : goal.returns-else-admit
returns-else-admit c = λ text fs rs f h k. mark_left_out text c.args.self.now fs rs c.args.body.start c.args.first
    c.args.body.part f k c.admit.new.self c.exceeds.ensures.0 c.if-admit.ensures h
