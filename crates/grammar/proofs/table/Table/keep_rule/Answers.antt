use Rattle.std.proofs.Common.{◌∙◌, ap, take, sym, inl, inr, arith}
use Rattle.std.proofs.lemmas.Bool.Decides.{nat_tests}
use Rattle.grammar.proofs.Leaves.{not_true}
use Rattle.grammar.proofs.Keeping.{rule_left_out, rule_kept}
use Rattle.grammar.proofs.table.Table.keep_rule.Goals as goal
use Rattle.grammar.proofs.table.Table.keep_rule.Goals.{then-is_full, else-is_full}

pub returns-then-not-admit-clause-lines : goal.returns-then-not-admit-clause-lines
returns-then-not-admit-clause-lines c =
    λ text fs rs all f h le few body.
    rule_left_out text c.args.self.now fs rs c.args.body.start le c.args.first c.args.head
    c.args.body.part all f few body c.admit.new.self
    (λ v. elim c.if-is_full.branch [
      | then-is_full w ↦ inl (grind (arith, nat_tests))
      | else-is_full w ↦ inr (w.exceeds-exceeds.ensures.0 (sym w.exceeds-is ∙ v))
    ])
    c.if-not-admit.ensures h

pub returns-clause-lines : goal.returns-clause-lines
returns-clause-lines c =
    λ text fs rs all f h le few body.
    rule_kept text c.args.self.now fs rs c.args.body.start le c.args.first c.args.head
    c.args.body.part all f few body c.admit.new.self c.front.result c.push.new.self
    c.front.ensures
    c.push.ensures.items
    (λ z. elim c.if-is_full.branch [
      | then-is_full w ↦ absurd (not_true (sym z ∙ w.exceeds-is ∙ w.if-is_full.true))
      | else-is_full w ↦ grind (arith, nat_tests)
    ])
    (λ p. elim c.if-is_full.branch [
      | then-is_full w ↦ w.exceeds-is ∙ w.if-is_full.true
      | else-is_full w ↦ w.exceeds-is ∙ w.exceeds-exceeds.ensures.1 p
    ])
    c.if-not-admit.ensures h
