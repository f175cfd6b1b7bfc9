use Rattle.formula.specs.Comparing.{holds}
use Rattle.store.proofs.Rows.{Narrowing}
use Rattle.store.proofs.row.Row.narrow.Given as goal

abbrev pub invariant-loop-v : goal.invariant-loop-v
invariant-loop-v l = Narrowing (λ k. holds l.sign k l.number) l.fn.self (record { present = l.present-items }) l.v
