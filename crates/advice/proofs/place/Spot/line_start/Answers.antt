use Rattle.std.proofs.Common.{◌≡◌, take, reverse, ap, ◌∙◌, arith, rules, tests}
use Rattle.std.proofs.lemmas.Iterator.Adapters.{YieldsList-from_rev_slice}
use Rattle.std.proofs.lemmas.Iterator.Consumers.{count_from_yields_List}
use Rattle.std.proofs.lemmas.Iterator.Search.{YieldsList-from_take_while}
use Rattle.std.proofs.lemmas.List.Folds.{length-prefix_len}
use Rattle.std.specs.List.{suffix_len}
use Rattle.advice.specs.Places.{is_in_line}
use Rattle.advice.proofs.Places.{take_within}
use Rattle.advice.proofs.place.Spot.line_start.Goals as goal

pub returns-clause-value : goal.returns-clause-value
returns-clause-value c =
    let text = c.args.self.text.now in
    let at = c.within-end.result in
    let front = take at text in
    let counted = count_from_yields_List c.take_while.result _ c.count.ensures.ran
    (YieldsList-from_take_while _ is_in_line (YieldsList-from_rev_slice front cc) c.take_while.ensures.closure
    c.take_while.ensures.done
    (λ x b q k. search (rules, tests))) in
    let here : front ≡ take c.args.self.place text =
    ap (λ n. take n text) c.within-end.ensures.value ∙ take_within text c.args.self.place in
    let long = length-prefix_len is_in_line (reverse front) in
    omega (arith, counted, ap (suffix_len is_in_line) here, c.within-end.ensures.value)
