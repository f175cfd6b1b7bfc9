use Rattle.std.proofs.Common.{◌≡◌, ℕ, ◌<◌, length}
use Rattle.sheet.specs.Table.{line_at}
use Rattle.names.specs.Looking.{rule_at}
use Rattle.names.proofs.layout.rules_of.Given as goal

abbrev pub invariant-loop-rule : goal.invariant-loop-rule
invariant-loop-rule c =
    (length c.lines.items ≡ c.rule-index)
    × ((k : ℕ) → k < c.rule-index
    → ((line_at c.lines.items k).start ≡ (rule_at c.rules k).start) × ((line_at c.lines.items k).body ≡ (rule_at c.rules k).body)
    × ((line_at c.lines.items k).params ≡ length (rule_at c.rules k).params.items))
