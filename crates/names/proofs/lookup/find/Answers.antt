use Rattle.std.proofs.Common.{rules}
use Rattle.std.proofs.lemmas.Iterator.{IsFirst-from_position, YieldsList-from_slice}
use Rattle.names.specs.Looking.{Alike}
use Rattle.names.proofs.Lookups.{found_first}
use Rattle.names.proofs.lookup.find.Goals as goal
use borrow.Author.Tests.{tests}

pub returns-clause-found : goal.returns-clause-found
returns-clause-found g c =
    let P : g.row.T.Denot → Type 0 = λ item. Alike c.args.text.now (g.T.Named.called item) c.args.name in
    found_first P c.args.items.now c.position.result
    (IsFirst-from_position _ _ c.position.result P (λ item. P item → ⊥) c.position.ensures.ran (YieldsList-from_slice c.args.items.now cc)
    (λ x q k. search (rules, tests)) (λ x q k. search (rules, tests)))
