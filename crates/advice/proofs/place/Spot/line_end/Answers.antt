use Rattle.std.proofs.Common.{◌≡◌, ◌-◌, length, take, drop, ap, ◌∙◌, arith, rules, tests}
use Rattle.std.proofs.lemmas.Iterator.{YieldsList-from_slice}
use Rattle.std.proofs.lemmas.Iterator.Consumers.{count_from_yields_List}
use Rattle.std.proofs.lemmas.Iterator.Search.{YieldsList-from_take_while}
use Rattle.std.proofs.lemmas.List.Folds.{length-prefix_len}
use Rattle.std.proofs.lemmas.Slice.{between_to_end}
use Rattle.std.specs.List.{prefix_len}
use Rattle.advice.specs.Places.{is_in_line}
use Rattle.advice.proofs.Places.{drop_within}
use Rattle.advice.proofs.place.Spot.line_end.Goals as goal

pub returns-clause-value : goal.returns-clause-value
returns-clause-value c =
    let text = c.args.self.text.now in
    let at = c.within-start.result in
    let rest = take (length text - at) (drop at text) in
    let counted = count_from_yields_List c.take_while.result _ c.count.ensures.ran
    (YieldsList-from_take_while _ is_in_line (YieldsList-from_slice rest cc) c.take_while.ensures.closure
    c.take_while.ensures.done
    (λ x b q k. search (rules, tests))) in
    let here : rest ≡ drop c.args.self.place text =
    between_to_end text at (length text) (omega arith) ∙ ap (λ n. drop n text) c.within-start.ensures.value
    ∙ drop_within text c.args.self.place in
    let long = length-prefix_len is_in_line rest in
    omega (arith, counted, ap (prefix_len is_in_line) here, c.within-start.ensures.value)
