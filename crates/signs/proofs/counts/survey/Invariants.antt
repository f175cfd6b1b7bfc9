use Rattle.std.proofs.Common.{ℕ, ◌+◌, ◌-◌, ◌≤◌, length}
use Rattle.signs.specs.Cutting.{RefusedFrom}
use Rattle.signs.proofs.Counting.{CountedOn}
use Rattle.signs.proofs.counts.survey.Given as goal

abbrev pub invariant-tokens : goal.invariant-tokens
invariant-tokens l =
    (l.found.words + l.found.numbers + l.found.signs ≤ l.at)
    × (l.at ≤ length l.text)
    × CountedOn l.text l.at l.found
    × ((n q : ℕ) → RefusedFrom l.text l.at n q → RefusedFrom l.text 0 n q)

abbrev pub decreases-tokens : goal.decreases-tokens
decreases-tokens l = length l.text - l.at
