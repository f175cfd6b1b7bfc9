use Rattle.std.proofs.Common.{◌≡◌, true, sym, refl, ap, ◌∙◌, subst, arith}
use Rattle.marks.specs.Counted.{some}
use Rattle.meaning.specs.Terms.{rules_of, mark_line}
use Rattle.sheet.specs.Sheets.{tree_of}
use Rattle.run.specs.Ways.{way_of}
use Rattle.run.specs.Goals.{spot_of, pending, stack}
use Rattle.run.proofs.Ways.{trails_join}
use Rattle.run.proofs.Settling.{narrows_join}
use Rattle.run.proofs.Works.{Whole, begun, work_fits, work_stop, work_more, work_done}
use Rattle.run.proofs.work.work.Goals as goal

pub run-init : goal.run-init
run-init g c =
    let st = g.S.Store in
    let s₀ = c.args.store.now in
    let S = st.current s₀ in
    let z = way_of g.G.Guide.ahead c.args.trail.now in
    let sh = c.args.sheet.now in
    let rules = rules_of (tree_of sh) in
    let F = mark_line (tree_of sh) in
    let n = c.args.stack.now.depth.fuel in
    let t = c.begin.new.self in
    let gs = stack sh (spot_of t) in (
      (refl, refl, λ m h. h),
      (refl, refl, refl, refl, refl, refl),
      c.begin.ensures.lists,
      c.requires.some,
      c.begin.ensures.fit,
      subst (λ k. Whole rules F n S z gs k S z) (sym c.begin.ensures.fuel) (begun rules F n S z gs c.begin.ensures.waits),
    )

pub step-requires : goal.step-requires
step-requires g c =
    let st = g.S.Store in
    let s₀ = c.args.store.now in
    let S = st.current s₀ in
    let z = way_of g.G.Guide.ahead c.args.trail.now in
    let sh = c.args.sheet.now in
    let rules = rules_of (tree_of sh) in
    let F = mark_line (tree_of sh) in
    let n = c.args.stack.now.depth.fuel in
    let inv = c.run.invariant in
    let s = c.run.store in
    let P = st.current s in
    let y = way_of g.G.Guide.ahead c.run.trail in
    let k = c.run.stack.depth.fuel in
    let gs = stack sh (spot_of c.run.stack) in
    record {
      fields = inv.0.0 ∙ c.requires.fields;
      some = subst (λ q. some q P ≡ true) (sym inv.0.0) inv.3;
      fit = inv.4;
      more = c.run-test.true;
      room = work_fits rules F n S z gs k P y inv.5 c.requires.room;
    }

pub run-smaller : goal.run-smaller
run-smaller g c = c.in_ok-step.ensures.left.less

pub run-preserved : goal.run-preserved
run-preserved g c =
    let st = g.S.Store in
    let s₀ = c.args.store.now in
    let S = st.current s₀ in
    let z = way_of g.G.Guide.ahead c.args.trail.now in
    let sh = c.args.sheet.now in
    let rules = rules_of (tree_of sh) in
    let F = mark_line (tree_of sh) in
    let n = c.args.stack.now.depth.fuel in
    let inv = c.run.invariant in
    let s = c.run.store in
    let P = st.current s in
    let y = way_of g.G.Guide.ahead c.run.trail in
    let k = c.run.stack.depth.fuel in
    let gs = stack sh (spot_of c.run.stack) in
    let Q = st.current c.step.new.store in
    let y' = way_of g.G.Guide.ahead c.step.new.trail in
    let p' = spot_of c.step.new.stack in
    let after = c.in_ok-step.ensures in
    let m = after.left in (
      narrows_join st.width st.starting st.current s₀ s c.step.new.store inv.0 after.same,
      trails_join g.G.Guide.fixed c.args.trail.now c.run.trail c.step.new.trail inv.1 after.lists,
      (after.held.0 ∙ inv.2.0, after.held.1 ∙ inv.2.1, after.held.2 ∙ inv.2.2, after.held.3 ∙ inv.2.3),
      subst (λ q. some q Q ≡ true) (sym c.requires.fields) m.alive,
      m.fit,
      work_more rules F n S z gs k P y inv.5 (stack sh p') p'.depth.fuel Q y' m.took,
    )

pub returns-in_err-step-clause-left : goal.returns-in_err-step-clause-left
returns-in_err-step-clause-left g c =
    let st = g.S.Store in
    let s₀ = c.args.store.now in
    let S = st.current s₀ in
    let z = way_of g.G.Guide.ahead c.args.trail.now in
    let sh = c.args.sheet.now in
    let rules = rules_of (tree_of sh) in
    let F = mark_line (tree_of sh) in
    let n = c.args.stack.now.depth.fuel in
    let inv = c.run.invariant in
    let s = c.run.store in
    let P = st.current s in
    let y = way_of g.G.Guide.ahead c.run.trail in
    let k = c.run.stack.depth.fuel in
    let gs = stack sh (spot_of c.run.stack) in
    let Q = st.current c.step.new.store in
    let y' = way_of g.G.Guide.ahead c.step.new.trail in
    let p' = spot_of c.step.new.stack in
    let i = c.from_residual.ensures in
    work_stop rules F n S z gs k P y inv.5 (st.width s₀) sh p' c.in_err-step.field-0.0 c.from_residual.result Q y'
    refl (grind arith) c.in_err-step.ensures.left

pub returns : goal.returns
returns g c =
    let st = g.S.Store in
    let s₀ = c.args.store.now in
    let S = st.current s₀ in
    let z = way_of g.G.Guide.ahead c.args.trail.now in
    let sh = c.args.sheet.now in
    let rules = rules_of (tree_of sh) in
    let F = mark_line (tree_of sh) in
    let n = c.args.stack.now.depth.fuel in
    let inv = c.run.invariant in
    let s = c.run.store in
    let P = st.current s in
    let y = way_of g.G.Guide.ahead c.run.trail in
    let k = c.run.stack.depth.fuel in
    let gs = stack sh (spot_of c.run.stack) in
    let none : c.run.stack.depth.goals ≡ 0 = omega (arith, c.run-test.false) in
    record {
      same = inv.0;
      lists = inv.1;
      held = inv.2;
      left = work_done rules F n S z gs k P y inv.5 (st.width s₀) inv.3
          (ap (pending sh c.run.stack.goals.now c.run.stack.frames.now) none);
    }
