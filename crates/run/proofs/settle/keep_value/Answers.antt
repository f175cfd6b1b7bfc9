use Rattle.std.proofs.Common.{◌<◌, sym, subst}
use Rattle.marks.specs.Counted.{values}
use Rattle.store.specs.Rules.{Picks}
use Rattle.formula.specs.declared.Comparison.TheVariants.{Equal}
use Rattle.run.proofs.Settling.{keeps_kept, value_small}
use Rattle.run.proofs.settle.keep_value.Goals as goal

pub returns-clause-left : goal.returns-clause-left
returns-clause-left g c =
    let st = g.S.Store in
    let s = c.args.store.now in
    let w = st.width s in
    let S = st.current s in
    let P = st.current c.keep.new.self in
    let f = c.args.field in
    let v = c.unwrap-value.result in
    let told = subst (Picks (values w S f) c.args.place) c.unwrap-value.ensures c.value.ensures.1 in
    let small = subst (λ x. x < 1024) (sym told.1) (value_small w S f c.args.place told.0) in
    (told.1, keeps_kept w S P f Equal v c.keep.result c.keep.ensures.left c.requires.field small)
