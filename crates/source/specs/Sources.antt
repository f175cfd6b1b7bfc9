-- What waits in a tape and in a seeded source, and when a seeded source is made.
use Rattle.std.specs.Prelude.{◌≡◌, ℕ, ◌<◌, ◌≤◌, List, Ok, Err, Result}
use Rattle.refusal.specs.declared.Refusal.{Refusal}
use Rattle.refusal.specs.Table.{number}
use Rattle.source.specs.declared.tape.Tape.{Tape}
use Rattle.source.specs.declared.seeded.Seeded.{Seeded}
use Rattle.source.specs.Xorshift.{stream, Streams}

-- the rest of the tape
abbrev pub on_tape : Tape → List ℕ
on_tape t = t.numbers.now

-- the numbers that the generator still gives
abbrev pub in_seeded : Seeded → List ℕ
in_seeded s = stream s.state s.left

-- a seed other than 0 and a count up to 1,000,000
abbrev pub Usable : (seed count : ℕ) → Type 0
Usable seed count = (0 < seed) × (count ≤ 1000000)

-- a usable seed and count give a source of their stream; any other is refused with 18
abbrev pub Made : (seed count : ℕ) → Result Seeded Refusal → Type 0
Made seed count (Ok s) = Usable seed count × Streams seed count (in_seeded s)
Made seed count (Err e) = (number e ≡ 18) × (Usable seed count → ⊥)
