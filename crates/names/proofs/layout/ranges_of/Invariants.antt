use Rattle.std.proofs.Common.{◌≡◌, ℕ, ◌<◌, length}
use Rattle.sheet.specs.Table.{range_at}
use Rattle.names.specs.Looking.{field_at}
use Rattle.names.proofs.layout.ranges_of.Given as goal

abbrev pub invariant-loop-field : goal.invariant-loop-field
invariant-loop-field l =
    (length l.ranges.items ≡ l.field-index)
    × ((k : ℕ) → k < l.field-index
    → ((range_at l.ranges.items k).low ≡ (field_at l.fields k).low.value) × ((range_at l.ranges.items k).high ≡ (field_at l.fields k).high.value))
