use Rattle.names.proofs.Loops.{FieldsBelow}
use Rattle.names.proofs.lines.check_fields.Given as goal

abbrev pub invariant-loop-i : goal.invariant-loop-i
invariant-loop-i l = FieldsBelow l.scope.text.now l.scope.fields.now l.i
