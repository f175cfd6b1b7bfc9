-- How long a trace can be.
use Rattle.std.specs.Prelude.{ℕ, ◌+◌, ◌*◌}

-- the entries that the trace lists and the list of goals need: 16 for the mark line and for each call that the fuel
-- allows, and one for each of at most 8 fields
abbrev pub needed_entries : ℕ → ℕ
needed_entries fuel = 16 * (fuel + 1) + 8
