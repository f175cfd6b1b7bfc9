-- A row as a set of numbers.
use Rattle.std.specs.Prelude.{ℕ, Bool, false, ◌&&◌, nat_lt, slice_index_or}
use Rattle.store.specs.declared.row.Row.{Row}

-- whether the number v is in the row
unfoldable pub has : Row → ℕ → Bool
has r v = nat_lt v 1024 && slice_index_or r.present v false
