use Rattle.std.proofs.Common.{◌≡◌, suc, ◌+◌, ◌-◌, true, length, Ok, Err, sym, refl, ap, ◌∙◌, subst, add-one, arith}
use Rattle.marks.specs.Counted.{some}
use Rattle.run.specs.declared.goal.Argument.TheVariants.{Field}
use Rattle.run.specs.Ways.{way_of, Took}
use Rattle.run.specs.Settling.{Settled}
use Rattle.run.specs.Works.{EndLeads, Finished}
use Rattle.meaning.proofs.Counting.{counted}
use Rattle.run.proofs.Ways.{trails_join}
use Rattle.run.proofs.Settling.{some_alive, narrows_join}
use Rattle.run.proofs.Ended.{end_begun, end_more, end_fits, end_halt, end_done}
use Rattle.run.proofs.finish.finish.Goals as goal

pub loop-field-init : goal.loop-field-init
loop-field-init g c =
    let st = g.S.Store in
    let s = c.args.store.now in
    let w = st.width s in
    let S = st.current s in
    let z = way_of g.G.Guide.ahead c.args.trail.now in
    let nw = c.fields-field-end.ensures in
    let off : w ≡ w - 0 = omega arith in
    let none = c.new-made.ensures in (
      (refl, refl, (λ m h. h)),
      (refl, refl, refl, refl, refl, refl),
      ap length none,
      c.requires.some,
      subst (λ q. Took z (EndLeads w S 0 (w - 0) S q) z) (sym none) (end_begun w z S (w - 0) off),
    )

pub settle-requires : goal.settle-requires
settle-requires g c =
    let st = g.S.Store in
    let s = c.args.store.now in
    let w = st.width s in
    let S = st.current s in
    let z = way_of g.G.Guide.ahead c.args.trail.now in
    let nw = c.fields-field-end.ensures in
    let inv = c.loop-field.invariant in
    let i = c.loop-field.field in
    let m = c.loop-field.made in
    let sᵢ = c.loop-field.store in
    let Sᵢ = st.current sᵢ in
    let y = way_of g.G.Guide.ahead c.loop-field.trail in
    let step : w - i ≡ suc (w - suc i) = omega (arith, c.loop-field-test.true) in
    let led = subst (λ q. Took z (EndLeads w S i q Sᵢ m.items) y) step inv.4 in
    let C = counted (st.width sᵢ) Sᵢ (st.sound.left sᵢ) in
    let alive = some_alive w Sᵢ inv.3 in
    record {
      okay = omega (arith, inv.0.0, c.loop-field-test.true);
      some = subst (λ q. some q Sᵢ ≡ true) (sym inv.0.0) inv.3;
      room = end_fits w z S Sᵢ y i (w - suc i) m.items led C alive c.requires.room;
    }

pub returns-in_err-settle : goal.returns-in_err-settle
returns-in_err-settle g c =
    let st = g.S.Store in
    let s = c.args.store.now in
    let w = st.width s in
    let S = st.current s in
    let z = way_of g.G.Guide.ahead c.args.trail.now in
    let nw = c.fields-field-end.ensures in
    let inv = c.loop-field.invariant in
    let i = c.loop-field.field in
    let m = c.loop-field.made in
    let sᵢ = c.loop-field.store in
    let Sᵢ = st.current sᵢ in
    let y = way_of g.G.Guide.ahead c.loop-field.trail in
    let step : w - i ≡ suc (w - suc i) = omega (arith, c.loop-field-test.true) in
    let led = subst (λ q. Took z (EndLeads w S i q Sᵢ m.items) y) step inv.4 in
    let C = counted (st.width sᵢ) Sᵢ (st.sound.left sᵢ) in
    let alive = some_alive w Sᵢ inv.3 in
    let P = st.current c.settle.new.store in
    let y' = way_of g.G.Guide.ahead c.settle.new.trail in
    let told = c.from_residual.ensures in
    let is : c.from_residual.result ≡ Err c.in_err-settle.field-0.0 = grind arith in
    record {
      same = narrows_join st.width st.starting st.current s sᵢ c.settle.new.store inv.0 c.in_err-settle.ensures.same;
      lists = trails_join g.G.Guide.fixed c.args.trail.now c.loop-field.trail c.settle.new.trail inv.1
          c.in_err-settle.ensures.lists;
      left = subst (λ r. Finished w S z r P y') (sym is)
          (end_halt w z S Sᵢ y i (w - suc i) m.items led C alive c.in_err-settle.field-0.0 y' c.in_err-settle.ensures.left);
    }

pub loop-field-preserved : goal.loop-field-preserved
loop-field-preserved g c =
    let st = g.S.Store in
    let s = c.args.store.now in
    let w = st.width s in
    let S = st.current s in
    let z = way_of g.G.Guide.ahead c.args.trail.now in
    let nw = c.fields-field-end.ensures in
    let inv = c.loop-field.invariant in
    let i = c.loop-field.field in
    let m = c.loop-field.made in
    let sᵢ = c.loop-field.store in
    let Sᵢ = st.current sᵢ in
    let y = way_of g.G.Guide.ahead c.loop-field.trail in
    let step : w - i ≡ suc (w - suc i) = omega (arith, c.loop-field-test.true) in
    let led = subst (λ q. Took z (EndLeads w S i q Sᵢ m.items) y) step inv.4 in
    let C = counted (st.width sᵢ) Sᵢ (st.sound.left sᵢ) in
    let alive = some_alive w Sᵢ inv.3 in
    let P = st.current c.settle.new.store in
    let y' = way_of g.G.Guide.ahead c.settle.new.trail in
    let v = c.in_ok-settle.field-0 in
    let k = subst (λ q. Settled q Sᵢ (Field i) y (Ok v) P y') inv.0.0 c.in_ok-settle.ensures.left in
    let more = c.push.ensures in (
      narrows_join st.width st.starting st.current s sᵢ c.settle.new.store inv.0 c.in_ok-settle.ensures.same,
      trails_join g.G.Guide.fixed c.args.trail.now c.loop-field.trail c.settle.new.trail inv.1
          c.in_ok-settle.ensures.lists,
      more.len ∙ ap (λ q. q + 1) inv.2,
      k.alive,
      subst (λ q. Took z (EndLeads w S q (w - q) P c.push.new.self.items) y') (sym (add-one i))
          (end_more w z S Sᵢ y i (w - suc i) m.items led v P y' c.push.new.self.items k.took more.items),
    )

pub returns-clause-left : goal.returns-clause-left
returns-clause-left g c =
    let st = g.S.Store in
    let s = c.args.store.now in
    let w = st.width s in
    let S = st.current s in
    let z = way_of g.G.Guide.ahead c.args.trail.now in
    let nw = c.fields-field-end.ensures in
    let inv = c.loop-field.invariant in
    let i = c.loop-field.field in
    let m = c.loop-field.made in
    let sᵢ = c.loop-field.store in
    let Sᵢ = st.current sᵢ in
    let y = way_of g.G.Guide.ahead c.loop-field.trail in
    let end : w - i ≡ 0 = omega (arith, c.loop-field-test.false) in
    let led = subst (λ q. Took z (EndLeads w S i q Sᵢ m.items) y) end inv.4 in
    end_done w z S Sᵢ y i m.items led
