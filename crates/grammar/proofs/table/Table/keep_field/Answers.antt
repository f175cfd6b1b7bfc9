use Rattle.std.proofs.Common.{arith}
use Rattle.std.proofs.lemmas.Bool.Decides.{nat_tests}
use Rattle.grammar.proofs.Keeping.{field_left_out}
use Rattle.grammar.proofs.table.Table.keep_field.Goals as goal

pub returns-else-admit-clause-lines : goal.returns-else-admit-clause-lines
returns-else-admit-clause-lines c =
    λ text fs h. field_left_out text c.args.self.now c.admit.new.self fs c.args.line
    (λ full. grind (arith, nat_tests)) c.if-admit.ensures h
