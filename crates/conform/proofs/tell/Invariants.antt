-- No more cases agree than there were.
use Rattle.std.proofs.Common.{◌≤◌}
use Rattle.conform.proofs.tell.Given as goal

abbrev pub invariant-loop-before : goal.invariant-loop-before
invariant-loop-before g l = l.agreed ≤ l.before-counter
