-- What guides a run on from a place of the trace lists.
use Rattle.std.specs.Prelude.{ℕ, ◌-◌, List}
use Rattle.run.specs.Guides.{Guide, recorded, numbers, entries}

-- what is left of the given entries from place k on
abbrev pub recorded_ahead : (given : ℕ) → (picks widths : List ℕ) (k : ℕ) → Guide
recorded_ahead given ps ws k = recorded (entries ps ws k (given - k))

-- the numbers that wait, whatever the place
abbrev pub drawn_ahead : (waiting : List ℕ) → (picks widths : List ℕ) (k : ℕ) → Guide
drawn_ahead ns ps ws k = numbers ns
