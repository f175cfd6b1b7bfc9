use Rattle.std.proofs.Common.{◌-◌, length}
use Rattle.grammar.specs.Parsing.{Along, RulesSoFar}
use Rattle.grammar.proofs.sheet.read_rules.Given as goal

abbrev pub invariant-loop-first : goal.invariant-loop-first
invariant-loop-first l =
    Along l.initial.cursor l.cursor (λ text.
    RulesSoFar text l.initial.cursor.at l.initial.table l.table l.cursor.at)

abbrev pub decreases-loop-first : goal.decreases-loop-first
decreases-loop-first l = length l.initial.cursor.text.now - l.cursor.at
