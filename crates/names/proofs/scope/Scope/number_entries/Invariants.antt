use Rattle.std.proofs.Common.{◌+◌}
use Rattle.names.proofs.Runs.{Goes}
use Rattle.names.proofs.scope.Scope.number_entries.Given as goal

abbrev pub invariant-loop-i : goal.invariant-loop-i
invariant-loop-i l =
    Goes l.self l.entries l.fn.line.start (l.fn.line.body + 1) l.i l.initial.nodes l.nodes l.first
