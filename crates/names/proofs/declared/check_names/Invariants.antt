use Rattle.std.proofs.Common.{ℕ, ◌<◌, get_or, take}
use Rattle.names.specs.Looking.{ParamTaken, no_word}
use Rattle.names.proofs.declared.check_names.Given as goal

abbrev pub invariant-loop-k : goal.invariant-loop-k
invariant-loop-k l =
    (i : ℕ) → i < l.k
    → ParamTaken l.scope l.own (take i l.scope.params.now) (get_or l.scope.params.now i no_word) → ⊥
