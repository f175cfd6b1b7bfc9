use Rattle.std.proofs.Common.{◌≡◌, sym, refl, ap, ◌∙◌, subst}
use Rattle.marks.specs.Sets.{Shaped}
use Rattle.meaning.specs.Matching.{the_field, the_number}
use Rattle.meaning.specs.Comparisons.{Is}
use Rattle.run.specs.Frames.{argument_of}
use Rattle.run.proofs.Leaving.{both_pass, both_fail, right_kept}
use Rattle.run.proofs.compare.relate_number.Goals as goal

pub returns-in-Field-clause-left : goal.returns-in-Field-clause-left
returns-in-Field-clause-left g c z =
    let st = g.S.Store in
    let s = c.args.store.now in
    let w = st.width s in
    let t = c.narrow.new.store in
    right_kept w (st.current s) (the_number c.args.left) c.args.sign (argument_of c.args.right) z (st.current t)
    (λ m h. subst (λ q. Shaped q m) c.narrow.ensures.same.0 (st.sound.left t m h))
    c.from.result c.args.left c.narrow.result c.mirrored.result refl
    (ap argument_of c.in-Field.is ∙ ap the_field (sym c.from.ensures)) c.mirrored.ensures c.narrow.ensures.left

pub returns-then-holds-clause-left : goal.returns-then-holds-clause-left
returns-then-holds-clause-left g c z =
    let st = g.S.Store in
    let s = c.args.store.now in
    both_pass (st.width s) (st.current s) (the_number c.args.left) c.args.sign (argument_of c.args.right) z
    c.args.left c.in-Number.right refl
    (subst (λ q. Is (st.current s) (argument_of q) c.in-Number.right) (sym c.in-Number.is) refl)
    (sym c.if-holds.true ∙ c.holds.ensures)
    c.requires.some

pub returns-else-holds-clause-left : goal.returns-else-holds-clause-left
returns-else-holds-clause-left g c z =
    let st = g.S.Store in
    let s = c.args.store.now in
    both_fail (st.width s) (st.current s) (the_number c.args.left) c.args.sign (argument_of c.args.right) z
    c.args.left c.in-Number.right refl
    (subst (λ q. Is (st.current s) (argument_of q) c.in-Number.right) (sym c.in-Number.is) refl)
    (sym c.if-holds.false ∙ c.holds.ensures)
