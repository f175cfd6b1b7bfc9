use Rattle.std.proofs.Common.{◌+◌, ◌<◌, length, get_or, take, sym, refl, ap, ◌∙◌, subst, arith}
use Rattle.std.proofs.lemmas.List.{take_more}
use Rattle.formula.specs.declared.Comparison.TheVariants.{Differ}
use Rattle.marks.specs.Sets.{Marks}
use Rattle.store.specs.Rules.{Keeps}
use Rattle.withheld.specs.declared.pair.Pair.{Pair}
use Rattle.withheld.specs.Withholding.{without}
use Rattle.withheld.proofs.Withholding.{without_none, without_more}
use Rattle.withheld.proofs.layer.Withheld.refresh.Goals as goal

pub loop-pair-init : goal.loop-pair-init
loop-pair-init g c =
    let e = c.restart.ensures in
    record {
      width = refl;
      starting = refl;
      left = e.left ∙ sym e.same.1 ∙ without_none (g.S.Store.starting c.restart.new.self);
    }

pub loop-pair-preserved : goal.loop-pair-preserved
loop-pair-preserved g c =
    let st = g.S.Store in
    let inv = c.loop-pair.invariant in
    let e = c.keep.ensures in
    let lower = c.loop-pair.lower in
    let pairs = c.deref-pair-items.result.now in
    let i = c.loop-pair.pair-index in
    let none : Pair = record { field = 0; number = 0 } in
    let p : Pair = get_or pairs i none in
    let l : i < length pairs = omega arith in
    let start = st.starting lower in
    let after = st.current c.keep.new.self in
    let left = without_more (st.width lower) start after (take i pairs) p c.keep.result
    (st.sound.started lower)
    (subst (λ (S : Marks). Keeps (st.width lower) S after p.field Differ p.number c.keep.result)
    inv.left e.left) in
    record {
      width = e.same.0 ∙ inv.width;
      starting = e.same.1 ∙ inv.starting;
      left = left ∙ ap (λ ps. without ps start) (sym (take_more pairs i none l))
          ∙ ap (without (take (i + 1) pairs)) (sym e.same.1);
    }
