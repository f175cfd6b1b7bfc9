use Rattle.std.proofs.Common.{false, get_or, ◌∙◌, sym, refl, ap, rules}
use borrow.Author.Tests.{tests}
use Rattle.std.specs.List.{slice_get}
use Rattle.std.proofs.lemmas.Iterator.{YieldsList-from_range}
use Rattle.std.proofs.lemmas.Iterator.Adapters.{option_map_id}
use Rattle.std.proofs.lemmas.Iterator.Consumers.{YieldsList-from_filter, YieldsList-at, nth_from_yields_List}
use Rattle.store.proofs.Listed.{row_filter, picks_get}
use Rattle.store.proofs.row.Row.value.Goals as goal

pub returns : goal.returns
returns c =
    let r = c.args.self.now in
    let k = c.args.k in
    picks_get _ k c.nth.result
    (sym (option_map_id c.nth.result)
    ∙ nth_from_yields_List c.nth.result _ k c.nth.ensures.ran
    (YieldsList-from_filter _ (λ v. get_or r.present v false)
    (YieldsList-at c.filter.ensures.source (YieldsList-from_range 0 1024 1024 refl refl))
    c.filter.ensures.closure (λ x b q h. search (rules, tests)))
    ∙ ap (λ vs. slice_get vs k) (row_filter r))
