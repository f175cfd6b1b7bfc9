use Rattle.std.proofs.Common.{◌≡◌, length}
use Rattle.names.proofs.Loops.{RulesBelow}
use Rattle.names.proofs.lines.number_rules.Given as goal

abbrev pub invariant-loop-i : goal.invariant-loop-i
invariant-loop-i l = RulesBelow l.scope.text.now l.scope.fields.now l.scope.rules.now l.entries l.i l.nodes × (length l.nodes ≡ 256)
