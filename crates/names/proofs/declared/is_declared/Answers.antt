use Rattle.std.proofs.Common.{rules}
use Rattle.std.proofs.lemmas.Iterator.{cases_from_any, YieldsList-from_slice}
use Rattle.grammar.specs.declared.table.RuleLine.{RuleLine}
use Rattle.names.specs.Looking.{Declares}
use Rattle.names.proofs.Lookups.{some_found}
use Rattle.names.proofs.declared.is_declared.Goals as goal
use borrow.Author.Tests.{tests}

pub returns : goal.returns
returns c =
    let P : RuleLine → Type 0 = Declares c.args.text.now c.args.name in
    some_found P c.args.rules.now c.any.result
    (cases_from_any _ _ c.any.result P (λ rule. P rule → ⊥) c.any.ensures.ran (YieldsList-from_slice c.args.rules.now cc)
    (λ x q k. search (rules, tests)) (λ x q k. search (rules, tests)))
