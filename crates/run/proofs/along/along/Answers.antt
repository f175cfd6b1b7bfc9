use Rattle.std.proofs.Common.{◌≡◌, ◌≤◌, true, length, Ok, Err, sym, refl, ◌∙◌, subst, arith}
use Rattle.std.specs.Result.{IfOk}
use Rattle.marks.specs.Sets.{MarksOf, Empty}
use Rattle.marks.specs.Counted.{some}
use Rattle.meaning.specs.Terms.{rules_of, mark_line, ranges_of, fields_of}
use Rattle.meaning.specs.Runs.{inside}
use Rattle.sheet.specs.Sheets.{tree_of}
use Rattle.run.specs.Answering.{Inside}
use Rattle.run.specs.Ways.{way_of, Fits}
use Rattle.run.specs.Comparing.{Lives}
use Rattle.run.specs.Works.{Worked, Matching, Ending, Finished}
use Rattle.run.proofs.Ways.{trails_join}
use Rattle.run.proofs.Settling.{some_alive}
use Rattle.run.proofs.Tables.{fields_are, few_joins}
use Rattle.run.proofs.Ended.{inside_part}
use Rattle.run.proofs.Running.{inside_counted, run_fits, ends_at_once, finished_long, match_fits, match_stops, end_fits, ends_as}
use Rattle.run.proofs.along.along.Goals as goal

pub returns-in_err-keep_ranges : goal.returns-in_err-keep_ranges
returns-in_err-keep_ranges g c =
    let st = g.S.Store in
    let s = c.args.store.now in
    let S = st.starting s in
    let z = way_of g.G.Guide.ahead c.args.trail.now in
    let sh = c.args.sheet.now in
    let t = tree_of sh in
    let n = c.args.stack.now.depth.fuel in
    let T = c.keep_ranges.new.store in
    let cur = c.keep_ranges.ensures.left in
    let wide : fields_of t ≡ st.width s = fields_are sh ∙ sym c.requires.fields in
    let B = subst (λ k. MarksOf k S) (sym wide) (st.sound.started s) in
    let within : Inside (st.current T) S = subst (λ Q. Inside Q S) (sym cur) (inside_part S (ranges_of t)) in
    let e = c.in_err-keep_ranges.field-0.0 in
    let i = c.from_residual.ensures in
    let told : c.from_residual.result ≡ Err e = grind arith in
    record {
      same = (c.keep_ranges.ensures.same.0, c.keep_ranges.ensures.same.1, within);
      lists = (refl, refl, refl, refl, refl, refl);
      held = (refl, refl, refl, refl);
      long = subst (λ q. IfOk q (λ m. length m.items ≡ length sh.ranges.items)) (sym told) tt;
      left = ends_at_once t n S B (st.width T) z e c.from_residual.result told
          (subst (MarksOf (st.width T)) cur (st.sound.left T))
          (subst (λ Q. Lives (st.width T) Q (Err e)) cur c.in_err-keep_ranges.ensures.lives);
    }

pub work-requires : goal.work-requires
work-requires g c =
    let st = g.S.Store in
    let s = c.args.store.now in
    let S = st.starting s in
    let z = way_of g.G.Guide.ahead c.args.trail.now in
    let sh = c.args.sheet.now in
    let t = tree_of sh in
    let n = c.args.stack.now.depth.fuel in
    let T = c.keep_ranges.new.store in
    let cur = c.keep_ranges.ensures.left in
    let wide : fields_of t ≡ st.width s = fields_are sh ∙ sym c.requires.fields in
    let B = subst (λ k. MarksOf k S) (sym wide) (st.sound.started s) in
    let C = inside_counted t S B in
    let left : some (st.width T) (st.current T) ≡ true = c.in_ok-keep_ranges.ensures.lives in
    let alive : Empty (inside S (ranges_of t)) → ⊥ = subst (λ Q. Empty Q → ⊥) cur
    (some_alive (st.width T) (st.current T) left) in
    let eight : fields_of t ≤ 8 = omega (arith, fields_are sh, sh.some_fields) in
    let room = run_fits t n S B z c.requires.begun (few_joins sh) (omega (arith, c.requires.picks, eight))
    (omega (arith, c.requires.widths, eight)) in
    record {
      fields = c.keep_ranges.ensures.same.0 ∙ c.requires.fields;
      some = left;
      room = subst (λ Q. Fits z (Matching (rules_of t) (mark_line t) n Q)) (sym cur)
          (match_fits t n S B C alive z room);
    }

pub returns-in_err-work : goal.returns-in_err-work
returns-in_err-work g c =
    let st = g.S.Store in
    let s = c.args.store.now in
    let S = st.starting s in
    let z = way_of g.G.Guide.ahead c.args.trail.now in
    let sh = c.args.sheet.now in
    let t = tree_of sh in
    let n = c.args.stack.now.depth.fuel in
    let T = c.keep_ranges.new.store in
    let cur = c.keep_ranges.ensures.left in
    let wide : fields_of t ≡ st.width s = fields_are sh ∙ sym c.requires.fields in
    let B = subst (λ k. MarksOf k S) (sym wide) (st.sound.started s) in
    let C = inside_counted t S B in
    let left : some (st.width T) (st.current T) ≡ true = c.in_ok-keep_ranges.ensures.lives in
    let alive : Empty (inside S (ranges_of t)) → ⊥ = subst (λ Q. Empty Q → ⊥) cur
    (some_alive (st.width T) (st.current T) left) in
    let P = st.current c.work.new.store in
    let y = way_of g.G.Guide.ahead c.work.new.trail in
    let within : Inside (st.current T) S = subst (λ Q. Inside Q S) (sym cur) (inside_part S (ranges_of t)) in
    let same = c.keep_ranges.ensures.same in
    let worked = c.work.ensures.same in
    let e = c.in_err-work.field-0.0 in
    let i = c.from_residual-in_err-work.ensures in
    let told : c.from_residual-in_err-work.result ≡ Err e = grind arith in
    record {
      same = (worked.0 ∙ same.0, worked.1 ∙ same.1, λ m h. within m (worked.2 m h));
      lists = c.work.ensures.lists;
      held = c.work.ensures.held;
      long = subst (λ q. IfOk q (λ m. length m.items ≡ length sh.ranges.items)) (sym told) tt;
      left = match_stops t n S B C alive z (st.width T) P y e c.from_residual-in_err-work.result told
          (subst (λ Q. Worked (st.width T) (rules_of t) (mark_line t) n Q z (Err e) P y) cur
          c.in_err-work.ensures.left);
    }

pub finish-requires : goal.finish-requires
finish-requires g c =
    let st = g.S.Store in
    let s = c.args.store.now in
    let S = st.starting s in
    let z = way_of g.G.Guide.ahead c.args.trail.now in
    let sh = c.args.sheet.now in
    let t = tree_of sh in
    let n = c.args.stack.now.depth.fuel in
    let T = c.keep_ranges.new.store in
    let cur = c.keep_ranges.ensures.left in
    let wide : fields_of t ≡ st.width s = fields_are sh ∙ sym c.requires.fields in
    let B = subst (λ k. MarksOf k S) (sym wide) (st.sound.started s) in
    let C = inside_counted t S B in
    let left : some (st.width T) (st.current T) ≡ true = c.in_ok-keep_ranges.ensures.lives in
    let alive : Empty (inside S (ranges_of t)) → ⊥ = subst (λ Q. Empty Q → ⊥) cur
    (some_alive (st.width T) (st.current T) left) in
    let eight : fields_of t ≤ 8 = omega (arith, fields_are sh, sh.some_fields) in
    let room = run_fits t n S B z c.requires.begun (few_joins sh) (omega (arith, c.requires.picks, eight))
    (omega (arith, c.requires.widths, eight)) in
    let P = st.current c.work.new.store in
    let y = way_of g.G.Guide.ahead c.work.new.trail in
    let k = subst (λ Q. Worked (st.width T) (rules_of t) (mark_line t) n Q z (Ok tt) P y) cur c.in_ok-work.ensures.left
    in
    let long : st.width c.work.new.store ≡ fields_of t = c.work.ensures.same.0 ∙ c.keep_ranges.ensures.same.0 ∙ sym wide in
    record {
      few = omega (arith, long, eight);
      some = subst (λ q. some q P ≡ true) (sym c.work.ensures.same.0) k.alive;
      room = subst (λ q. Fits y (Ending 0 q P)) (sym long)
          (end_fits t n S B C alive z k.fuel P y k.took room);
    }

pub returns : goal.returns
returns g c =
    let st = g.S.Store in
    let s = c.args.store.now in
    let S = st.starting s in
    let z = way_of g.G.Guide.ahead c.args.trail.now in
    let sh = c.args.sheet.now in
    let t = tree_of sh in
    let n = c.args.stack.now.depth.fuel in
    let T = c.keep_ranges.new.store in
    let cur = c.keep_ranges.ensures.left in
    let wide : fields_of t ≡ st.width s = fields_are sh ∙ sym c.requires.fields in
    let B = subst (λ k. MarksOf k S) (sym wide) (st.sound.started s) in
    let C = inside_counted t S B in
    let left : some (st.width T) (st.current T) ≡ true = c.in_ok-keep_ranges.ensures.lives in
    let alive : Empty (inside S (ranges_of t)) → ⊥ = subst (λ Q. Empty Q → ⊥) cur
    (some_alive (st.width T) (st.current T) left) in
    let P = st.current c.work.new.store in
    let y = way_of g.G.Guide.ahead c.work.new.trail in
    let k = subst (λ Q. Worked (st.width T) (rules_of t) (mark_line t) n Q z (Ok tt) P y) cur c.in_ok-work.ensures.left
    in
    let long : st.width c.work.new.store ≡ fields_of t = c.work.ensures.same.0 ∙ c.keep_ranges.ensures.same.0 ∙ sym wide in
    let within : Inside (st.current T) S = subst (λ Q. Inside Q S) (sym cur) (inside_part S (ranges_of t)) in
    let same = c.keep_ranges.ensures.same in
    let worked = c.work.ensures.same in
    let ended = c.finish.ensures.same in
    let Q = st.current c.finish.new.store in
    let y' = way_of g.G.Guide.ahead c.finish.new.trail in
    record {
      same = (
        ended.0 ∙ worked.0 ∙ same.0,
        ended.1 ∙ worked.1 ∙ same.1,
        λ m h. within m (worked.2 m (ended.2 m h)),
      );
      lists = trails_join g.G.Guide.fixed c.args.trail.now c.work.new.trail c.finish.new.trail c.work.ensures.lists
          c.finish.ensures.lists;
      held = c.work.ensures.held;
      long = subst (λ q. IfOk c.finish.result (λ m. length m.items ≡ q)) (long ∙ fields_are sh)
          (finished_long (st.width c.work.new.store) P y c.finish.result Q y' c.finish.ensures.left);
      left = ends_as t n S B C alive z k.fuel P y k.took Q y' c.finish.result
          (subst (λ q. Finished q P y c.finish.result Q y') long c.finish.ensures.left);
    }
