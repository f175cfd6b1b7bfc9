-- The sets of the open store: it starts with every mark, and each field keeps its own set of numbers.
use Rattle.std.specs.Prelude.{ℕ, Bool, true, false, ◌&&◌, List, [], ◌∷◌, length, Decides, ◌==◌, nat_lt, slice_set}
use Rattle.marks.specs.Sets.{Marks, Shaped}
use Rattle.store.specs.declared.row.Row.{Row}
use Rattle.store.specs.declared.open.OpenStore.{OpenStore}
use Rattle.store.specs.Rows.{has}

-- the store with row i replaced
abbrev pub with_row : {R : Type 0} → OpenStore R → ℕ → R → OpenStore R
with_row s i r = record { width = s.width; rows = slice_set s.rows i r; few = s.few }

-- S is the set of every mark of n fields
abbrev pub HasEvery : ℕ → Marks → Type 0
HasEvery n S = (m : List ℕ) → Decides (S m) (Shaped n m)

-- whether each number is at most 1,023
unfoldable pub all_small : List ℕ → Bool
all_small [] = true
all_small (v ∷ m) = nat_lt v 1024 && all_small m

-- every mark of n fields
unfoldable pub every_mark : ℕ → Marks
every_mark n m = length m == n && all_small m

-- whether each number is in the row of its place
unfoldable pub each_in : List Row → List ℕ → Bool
each_in rs [] = true
each_in [] (v ∷ m) = false
each_in (r ∷ rs) (v ∷ m) = has r v && each_in rs m

-- the marks of n fields of which each number is in the row of its field
unfoldable pub marks_in : ℕ → List Row → Marks
marks_in n rs m = length m == n && each_in rs m

-- the set that an open store starts with
abbrev pub open_start : OpenStore Row → Marks
open_start s = every_mark s.width

-- the current set of an open store
abbrev pub open_left : OpenStore Row → Marks
open_left s = marks_in s.width s.rows
