-- Cited by private contracts only: the row of the numbers that a field takes.
use Rattle.std.specs.Prelude.{◌≡◌, ℕ, [], Some, None, Option}
use Rattle.std.specs.Borrow.{Bor}
use Rattle.marks.specs.Sets.{Marks}
use Rattle.marks.specs.Counted.{below, values, Taken}
use Rattle.store.specs.declared.row.Row.{Row}
use Rattle.store.specs.Rows.{has}

-- the row has just the numbers that field f takes in the set S of marks of n fields
abbrev pub HasTaken : (n : ℕ) (S : Marks) (f : ℕ) → Row → Type 0
HasTaken n S f r = Taken n S f (values n S f) × (below (has r) 1024 ≡ values n S f)

-- the same of the row that is lent; none is lent where the field takes no number
abbrev pub LendsTaken : (n : ℕ) (S : Marks) (f : ℕ) → Option (Bor Row) → Type 0
LendsTaken n S f (Some r) = HasTaken n S f r.now
LendsTaken n S f None = Taken n S f (values n S f) × (values n S f ≡ [])
