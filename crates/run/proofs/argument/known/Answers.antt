use Rattle.std.proofs.Common.{◌≡◌, ◌<◌, Ok, ap, sym, ◌∙◌, subst}
use Rattle.marks.specs.Counted.{values}
use Rattle.store.specs.Rules.{Picks}
use Rattle.meaning.specs.Matching.{the_field}
use Rattle.run.specs.Frames.{Okay, argument_of}
use Rattle.run.specs.Comparing.{Knows}
use Rattle.run.proofs.Settling.{knows_one}
use Rattle.run.proofs.argument.known.Goals as goal

pub returns-then-count-eq1 : goal.returns-then-count-eq1
returns-then-count-eq1 g c =
    let st = g.S.Store in
    let s = c.args.store.now in
    let w = st.width s in
    let S = st.current s in
    let f = c.from-field.result in
    let ok = subst (λ q. q < w) (sym c.from-field.ensures) (subst (Okay w) c.in-Field.is c.requires.okay) in
    let a : argument_of c.args.argument ≡ the_field f = ap argument_of c.in-Field.is ∙ ap the_field (sym c.from-field.ensures) in
    subst (λ q. Knows w S q (Ok c.unwrap.result)) (sym a)
    (knows_one w S f (st.sound.left s) ok c.unwrap.result
    (sym c.count-count.ensures.1 ∙ c.if-count-eq1.true) (subst (Picks (values w S f) 0) c.unwrap.ensures c.value.ensures.1))
