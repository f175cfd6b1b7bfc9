use Rattle.std.proofs.Common.{◌≡◌, ℕ, length}
use Rattle.store.specs.Rows.{has}
use Rattle.register.proofs.Registers.{Stands, seen_in}
use Rattle.register.proofs.RegisterStore.seen.Given as goal

abbrev pub invariant-loop-mark : goal.invariant-loop-mark
invariant-loop-mark l = record {
  place : Stands l.self l.mark-iterator (length l.yielded);
  seen : (v : ℕ) → has l.seen v ≡ seen_in l.self l.field (length l.yielded) v;
}
