use Rattle.std.proofs.Common.{◌≡◌, ℕ, suc, ◌+◌, ◌-◌, ◌<◌, ◌≤◌, true, map, length, get_or, set, Ok, Err, sym, refl, ap, ◌∙◌, subst, add-one, arith, length-set}
use Rattle.marks.specs.Counted.{some}
use Rattle.formula.specs.declared.term.Term.TheVariants.{Number}
use Rattle.run.specs.declared.goal.Argument.TheVariants.{Field}
use Rattle.run.specs.Ways.{way_of, Took}
use Rattle.sheet.specs.Table.{term_of}
use Rattle.run.specs.Frames.{arguments_of, Okay, FrameOkay, TermOkay}
use Rattle.run.specs.Comparing.{Resolved}
use Rattle.run.specs.Goals.{from, PassLeads, Passed}
use Rattle.meaning.proofs.Counting.{counted}
use Rattle.run.proofs.Ways.{trails_join}
use Rattle.run.proofs.Settling.{some_alive, narrows_join}
use Rattle.run.proofs.Passing.{terms_from, pass_begun, pass_more, pass_fits, pass_halt, pass_done, arguments_more, from_next, blank_okay, args_okay, blank}
use Rattle.run.proofs.pass.pass.Goals as goal

pub loop-term-init : goal.loop-term-init
loop-term-init g c =
    let st = g.S.Store in
    let s = c.args.store.now in
    let w = st.width s in
    let ts = c.args.terms.now in
    let zero_off : length ts - 0 ≡ length ts = omega arith in (
      (refl, refl, λ m h. h),
      (refl, refl, refl, refl, refl, refl),
      refl,
      refl,
      blank_okay w,
      c.requires.some,
      pass_begun (arguments_of c.args.frame) w (way_of g.G.Guide.ahead c.args.trail.now) (st.current s)
          (map term_of ts) (from ts 0 (length ts - 0)) blank
          (terms_from ts ∙ sym (ap (from ts 0) zero_off)) refl,
    )

pub resolve-requires : goal.resolve-requires
resolve-requires g c =
    let st = g.S.Store in
    let s = c.args.store.now in
    let w = st.width s in
    let S = st.current s in
    let z = way_of g.G.Guide.ahead c.args.trail.now in
    let e = arguments_of c.args.frame in
    let ts = c.args.terms.now in
    let n = length ts in
    let inv = c.loop-term.invariant in
    let i = c.loop-term.term-index in
    let m = c.loop-term.made in
    let sᵢ = c.loop-term.store in
    let Sᵢ = st.current sᵢ in
    let y = way_of g.G.Guide.ahead c.loop-term.trail in
    let x = term_of (get_or ts i (Number 0)) in
    let us = from ts (suc i) (n - suc i) in
    let led = subst (λ q. Took z (PassLeads e S (map term_of ts) Sᵢ q m) y) (from_next ts i n c.loop-term-test.true)
    inv.6 in
    let C = counted (st.width sᵢ) Sᵢ (st.sound.left sᵢ) in
    let alive = some_alive w Sᵢ inv.5 in
    record {
      frame = subst (λ k. FrameOkay k c.args.frame) (sym inv.0.0) c.requires.frame;
      okay = subst (λ k. TermOkay k c.args.frame.count (get_or ts i (Number 0))) (sym inv.0.0)
          (c.requires.okay.1 i c.loop-term-test.true);
      some = subst (λ k. some k Sᵢ ≡ true) (sym inv.0.0) inv.5;
      room = pass_fits e w z S (map term_of ts) Sᵢ y m x us led C alive c.requires.room;
    }

pub returns-in_err-resolve : goal.returns-in_err-resolve
returns-in_err-resolve g c =
    let st = g.S.Store in
    let s = c.args.store.now in
    let w = st.width s in
    let S = st.current s in
    let z = way_of g.G.Guide.ahead c.args.trail.now in
    let e = arguments_of c.args.frame in
    let ts = c.args.terms.now in
    let n = length ts in
    let inv = c.loop-term.invariant in
    let i = c.loop-term.term-index in
    let m = c.loop-term.made in
    let sᵢ = c.loop-term.store in
    let Sᵢ = st.current sᵢ in
    let y = way_of g.G.Guide.ahead c.loop-term.trail in
    let x = term_of (get_or ts i (Number 0)) in
    let us = from ts (suc i) (n - suc i) in
    let led = subst (λ q. Took z (PassLeads e S (map term_of ts) Sᵢ q m) y) (from_next ts i n c.loop-term-test.true)
    inv.6 in
    let C = counted (st.width sᵢ) Sᵢ (st.sound.left sᵢ) in
    let alive = some_alive w Sᵢ inv.5 in
    let P = st.current c.resolve.new.store in
    let y' = way_of g.G.Guide.ahead c.resolve.new.trail in
    let told = c.from_residual.ensures in
    let is : c.from_residual.result ≡ Err c.in_err-resolve.field-0.0 = grind arith in
    record {
      same = narrows_join st.width st.starting st.current s sᵢ c.resolve.new.store inv.0
          c.in_err-resolve.ensures.same;
      lists = trails_join g.G.Guide.fixed c.args.trail.now c.loop-term.trail c.resolve.new.trail inv.1
          c.in_err-resolve.ensures.lists;
      left = subst (λ r. Passed w e S (map term_of ts) n z r P y') (sym is)
          (pass_halt e w z S (map term_of ts) Sᵢ y m x us led C alive c.in_err-resolve.field-0.0 y' c.in_err-resolve.ensures.left);
    }

pub push-requires : goal.push-requires
push-requires g c = omega (arith, c.loop-term.invariant.2, c.loop-term-test.true, c.requires.okay.0)

pub loop-term-preserved : goal.loop-term-preserved
loop-term-preserved g c =
    let st = g.S.Store in
    let s = c.args.store.now in
    let w = st.width s in
    let S = st.current s in
    let z = way_of g.G.Guide.ahead c.args.trail.now in
    let e = arguments_of c.args.frame in
    let ts = c.args.terms.now in
    let n = length ts in
    let inv = c.loop-term.invariant in
    let i = c.loop-term.term-index in
    let m = c.loop-term.made in
    let sᵢ = c.loop-term.store in
    let Sᵢ = st.current sᵢ in
    let y = way_of g.G.Guide.ahead c.loop-term.trail in
    let x = term_of (get_or ts i (Number 0)) in
    let us = from ts (suc i) (n - suc i) in
    let led = subst (λ q. Took z (PassLeads e S (map term_of ts) Sᵢ q m) y) (from_next ts i n c.loop-term-test.true)
    inv.6 in
    let P = st.current c.resolve.new.store in
    let y' = way_of g.G.Guide.ahead c.resolve.new.trail in
    let a = c.in_ok-resolve.field-0 in
    let k = subst (λ q. Resolved q e Sᵢ x y (Ok a) P y') inv.0.0 c.in_ok-resolve.ensures.left in
    let l : i < length m.arguments = omega (arith, inv.3, c.requires.okay.0, c.loop-term-test.true) in
    let m' = c.push.new.self in
    let put : m'.arguments ≡ set m.arguments i a = ap (λ q. q.arguments) c.push.ensures
    ∙ ap (λ q. set m.arguments q a) inv.2 in
    let more : m'.count ≡ m.count + 1 = ap (λ q. q.count) c.push.ensures in (
      narrows_join st.width st.starting st.current s sᵢ c.resolve.new.store inv.0 c.in_ok-resolve.ensures.same,
      trails_join g.G.Guide.fixed c.args.trail.now c.loop-term.trail c.resolve.new.trail inv.1
          c.in_ok-resolve.ensures.lists,
      more ∙ ap (λ q. q + 1) inv.2,
      ap length put ∙ length-set m.arguments i a ∙ inv.3,
      subst (λ xs. (j : ℕ) → j < 4 → Okay w (get_or xs j (Field 0))) (sym put)
          (args_okay w m.arguments i a l k.okay inv.4),
      k.alive,
      subst (λ q. Took z (PassLeads e S (map term_of ts) P (from ts q (n - q)) m') y') (sym (add-one i))
          (pass_more e w z S (map term_of ts) Sᵢ y m x us led a P y' m' k.took
          (arguments_more m m' i a l inv.2 put more)),
    )

pub returns : goal.returns
returns g c =
    let st = g.S.Store in
    let s = c.args.store.now in
    let w = st.width s in
    let S = st.current s in
    let z = way_of g.G.Guide.ahead c.args.trail.now in
    let e = arguments_of c.args.frame in
    let ts = c.args.terms.now in
    let n = length ts in
    let inv = c.loop-term.invariant in
    let i = c.loop-term.term-index in
    let m = c.loop-term.made in
    let sᵢ = c.loop-term.store in
    let Sᵢ = st.current sᵢ in
    let y = way_of g.G.Guide.ahead c.loop-term.trail in
    let end : n - i ≡ 0 = omega (arith, c.loop-term-test.false) in
    let count : m.count ≡ n = omega (arith, inv.2, c.loop-term-test.false, c.loop-term.auto.term-index-end) in
    let few : m.count ≤ 4 = omega (arith, count, c.requires.okay.0) in
    let led = subst (λ q. Took z (PassLeads e S (map term_of ts) Sᵢ (from ts i q) m) y) end inv.6 in
    record {
      same = inv.0;
      lists = inv.1;
      left = record {
        took = pass_done e w z S (map term_of ts) Sᵢ y m led;
        okay = record { few = few; each = inv.4 };
        count = count;
        alive = inv.5;
      };
    }
