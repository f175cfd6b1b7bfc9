use Rattle.std.proofs.Common.{◌≡◌, ℕ, ◌<◌, false, length}
use Rattle.store.specs.Opens.{open_left}
use Rattle.register.specs.Registers.{row_at, numbers_of, width_of}
use Rattle.register.proofs.Registers.{Stands}
use Rattle.register.proofs.RegisterStore.none_left.Given as goal

abbrev pub invariant-loop-mark : goal.invariant-loop-mark
invariant-loop-mark l = record {
  place : Stands l.self l.mark-iterator (length l.yielded);
  passed : (k : ℕ) → k < length l.yielded
      → open_left l.self.allowed (row_at (numbers_of l.self) (width_of l.self) k) ≡ false;
}
