use Rattle.std.proofs.Common.{◌≡◌, ◌<◌, map, take, sym, refl, ap, ◌∙◌, add-one, arith, length}
use Rattle.std.proofs.Math.Seq.{take-length}
use Rattle.formula.specs.declared.Comparison.TheVariants.{AtLeast, AtMost}
use Rattle.marks.specs.Sets.{kept}
use Rattle.meaning.specs.Runs.{inside}
use Rattle.sheet.specs.Table.{range_at}
use Rattle.sheet.specs.Sheets.{range_of}
use Rattle.run.proofs.Settling.{keeps_kept}
use Rattle.run.proofs.Tables.{ranges_are}
use Rattle.run.proofs.Ended.{begin_more, begin_none}
use Rattle.run.proofs.finish.keep_ranges.Goals as goal

pub loop-field-init : goal.loop-field-init
loop-field-init g c =
    let st = g.S.Store in
    let t = c.restart.new.self in
    let e = c.restart.ensures in
    (refl, refl, e.left ∙ sym e.same.1 ∙ begin_none (st.starting t) c.args.sheet.now.ranges.items)

pub loop-field-preserved : goal.loop-field-preserved
loop-field-preserved g c =
    let st = g.S.Store in
    let sh = c.args.sheet.now in
    let inv = c.loop-field.invariant in
    let i = c.loop-field.field in
    let t = c.restart.new.self in
    let a = c.keep.ensures in
    let b = c.keep-in-loop-field.ensures in
    let S = st.current c.loop-field.store in
    let Q = st.current c.keep.new.self in
    let P = st.current c.keep-in-loop-field.new.self in
    let rs = c.deref-range-items.result.now in
    let e = c.deref-range-items.ensures.0 in
    let r = range_at sh.ranges.items i in
    let less : i < length sh.ranges.items = omega (arith, c.loop-field-test.true, ap length e) in
    let ok = sh.ranges_kept i less in
    let here : i < st.width c.loop-field.store = omega
    (arith, inv.0, c.restart.ensures.same.0, c.requires.fields, less) in
    let next : i < st.width c.keep.new.self = omega (arith, here, a.same.0) in
    let item : range_at rs i ≡ r = ap (λ xs. range_at xs i) e in
    let low = keeps_kept (st.width c.loop-field.store) S Q i AtLeast (range_at rs i).low c.keep.result a.left
    here (omega (arith, ok, ap (λ q. q.low) item)) ∙ ap (λ q. kept S i AtLeast q.low) item in
    let high = keeps_kept (st.width c.keep.new.self) Q P i AtMost (range_at rs i).high c.keep-in-loop-field.result
    b.left next (omega (arith, ok, ap (λ q. q.high) item)) ∙ ap (λ q. kept Q i AtMost q.high) item in (
      b.same.0 ∙ a.same.0 ∙ inv.0,
      b.same.1 ∙ a.same.1 ∙ inv.1,
      high ∙ ap (λ X. kept X i AtMost r.high) low
          ∙ begin_more (st.starting t) S sh.ranges.items i less
          inv.2
          ∙ ap (λ k. inside (st.starting t) (map range_of (take k sh.ranges.items))) (sym (add-one i)),
    )

pub returns : goal.returns
returns g c =
    let st = g.S.Store in
    let sh = c.args.sheet.now in
    let inv = c.loop-field.invariant in
    let e = c.restart.ensures.same in
    let i = c.loop-field.field in
    let all : i ≡ length sh.ranges.items = omega (arith, c.loop-field-test.false, c.loop-field.auto.field-end, ap length c.deref-range-items.ensures.0) in
    record {
      same = (inv.0 ∙ e.0, inv.1 ∙ e.1);
      left =
          inv.2 ∙ ap (λ k. inside (st.starting c.restart.new.self)
          (map range_of (take k sh.ranges.items))) all
          ∙ ap (λ B. inside B (map range_of (take (length sh.ranges.items) sh.ranges.items))) e.1
          ∙ ap (λ rs. inside (st.starting c.args.store.now) (map range_of rs)) (take-length sh.ranges.items)
          ∙ ap (inside (st.starting c.args.store.now)) (sym (ranges_are sh));
      lives = c.alive.ensures;
    }
