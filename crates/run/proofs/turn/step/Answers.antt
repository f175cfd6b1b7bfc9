use Rattle.std.proofs.Common.{◌≡◌, ◌-◌, length, get_or, take, set, sym, ap, ◌∙◌, subst, arith}
use Rattle.sheet.specs.declared.node.Node.TheVariants.{Compare}
use Rattle.sheet.specs.Table.{line_at, term_of}
use Rattle.sheet.specs.Sheets.{lines_in}
use Rattle.sheet.proofs.Lines.{rule_in_lines}
use Rattle.run.specs.Ways.{way_of, Fits}
use Rattle.run.specs.Frames.{arguments_of}
use Rattle.run.specs.Comparing.{Comparing, Compared}
use Rattle.std.proofs.lemmas.List.{length-take-le}
use Rattle.run.specs.Goals.{spot, spot_of, no_goal, no_frame, Entered}
use Rattle.run.proofs.Turns.{node_okay, depth}
use Rattle.run.proofs.Turning.{not_done, compare_room, compare_done, pick_known, pick_okay, pick_room, pick_halted, pick_done, join_usable, join_room, join_halted, left_done, both_room, both_done, call_okay, call_room, call_halted, call_done}
use Rattle.run.proofs.turn.step.Goals as goal

pub returns-in-Not-clause-left : goal.returns-in-Not-clause-left
returns-in-Not-clause-left g c =
    let st = g.S.Store in
    let s = c.args.store.now in
    let k = c.args.stack.now in
    let z = way_of g.G.Guide.ahead c.args.trail.now in
    not_done c.args.sheet.now (st.width s) c.requires.fields k.goals.now k.frames.now k.depth.goals k.depth.frames
    k.depth.fuel c.requires.fit c.requires.more (st.current s) (st.sound.left s) c.requires.some z
    c.in-Not.inner c.in-Not.is c.push.new.self.goals.now c.push.new.self.frames.now c.push.new.self.depth
    (c.push.ensures.goals ∙ ap (set k.goals.now (k.depth.goals - 1)) c.part.ensures) c.push.ensures.frames c.push.ensures.depth

pub compare-requires-clause-left : goal.compare-requires-clause-left
compare-requires-clause-left g c =
    let k = c.args.stack.now in
    (node_okay c.args.sheet.now (g.S.Store.width c.args.store.now) c.requires.fields k.goals.now k.frames.now
    k.depth.goals k.depth.frames k.depth.fuel c.requires.fit c.requires.more
    (Compare c.in-Compare.left c.in-Compare.sign c.in-Compare.right) c.in-Compare.is).0

pub compare-requires-clause-right : goal.compare-requires-clause-right
compare-requires-clause-right g c =
    let k = c.args.stack.now in
    (node_okay c.args.sheet.now (g.S.Store.width c.args.store.now) c.requires.fields k.goals.now k.frames.now
    k.depth.goals k.depth.frames k.depth.fuel c.requires.fit c.requires.more
    (Compare c.in-Compare.left c.in-Compare.sign c.in-Compare.right) c.in-Compare.is).1

pub compare-requires-clause-room : goal.compare-requires-clause-room
compare-requires-clause-room g c =
    let st = g.S.Store in
    let s = c.args.store.now in
    let k = c.args.stack.now in
    let z = way_of g.G.Guide.ahead c.args.trail.now in
    let l = term_of c.in-Compare.left in
    let r = term_of c.in-Compare.right in
    let e = arguments_of (get_or k.frames.now (get_or k.goals.now (k.depth.goals - 1) no_goal).frame no_frame) in
    subst (λ q. Fits z (Comparing e l q r (st.current s))) (sym c.aimed-sign.ensures)
    (compare_room c.args.sheet.now (st.width s) c.requires.fields k.goals.now k.frames.now k.depth.goals k.depth.frames
    k.depth.fuel c.requires.fit c.requires.more (st.current s) (st.sound.left s) c.requires.some z
    c.in-Compare.left c.in-Compare.sign c.in-Compare.right c.in-Compare.is c.requires.room)

pub returns-in-Compare-clause-left : goal.returns-in-Compare-clause-left
returns-in-Compare-clause-left g c =
    let st = g.S.Store in
    let s = c.args.store.now in
    let k = c.args.stack.now in
    let z = way_of g.G.Guide.ahead c.args.trail.now in
    let l = term_of c.in-Compare.left in
    let r = term_of c.in-Compare.right in
    let e = arguments_of (get_or k.frames.now (get_or k.goals.now (k.depth.goals - 1) no_goal).frame no_frame) in
    let P = st.current c.compare.new.store in
    let y = way_of g.G.Guide.ahead c.compare.new.trail in
    compare_done c.args.sheet.now (st.width s) c.requires.fields k.goals.now k.frames.now k.depth.goals k.depth.frames
    k.depth.fuel c.requires.fit c.requires.more (st.current s) (st.sound.left s) c.requires.some z
    c.in-Compare.left c.in-Compare.sign c.in-Compare.right c.in-Compare.is P y c.compare.result
    (subst (λ q. Compared (st.width s) e l q r (st.current s) z c.compare.result P y) c.aimed-sign.ensures
    c.compare.ensures.left)

pub argument-requires-clause-known : goal.argument-requires-clause-known
argument-requires-clause-known g c =
    let st = g.S.Store in
    let s = c.args.store.now in
    let k = c.args.stack.now in
    let z = way_of g.G.Guide.ahead c.args.trail.now in
    pick_known c.args.sheet.now (st.width s) c.requires.fields k.goals.now k.frames.now k.depth.goals k.depth.frames
    k.depth.fuel c.requires.fit c.requires.more (st.current s) (st.sound.left s) c.requires.some z
    c.in-Pick.name c.in-Pick.inner c.in-Pick.is

pub settle-requires-clause-okay : goal.settle-requires-clause-okay
settle-requires-clause-okay g c =
    let st = g.S.Store in
    let s = c.args.store.now in
    let k = c.args.stack.now in
    let z = way_of g.G.Guide.ahead c.args.trail.now in
    pick_okay c.args.sheet.now (st.width s) c.requires.fields k.goals.now k.frames.now k.depth.goals k.depth.frames
    k.depth.fuel c.requires.fit c.requires.more (st.current s) (st.sound.left s) c.requires.some z
    c.in-Pick.name c.in-Pick.inner c.in-Pick.is c.argument.result c.argument.ensures

pub settle-requires-clause-room : goal.settle-requires-clause-room
settle-requires-clause-room g c =
    let st = g.S.Store in
    let s = c.args.store.now in
    let k = c.args.stack.now in
    let z = way_of g.G.Guide.ahead c.args.trail.now in
    pick_room c.args.sheet.now (st.width s) c.requires.fields k.goals.now k.frames.now k.depth.goals k.depth.frames
    k.depth.fuel c.requires.fit c.requires.more (st.current s) (st.sound.left s) c.requires.some z
    c.in-Pick.name c.in-Pick.inner c.in-Pick.is c.argument.result c.argument.ensures c.requires.room

pub returns-in_err-settle-in-Pick-clause-left : goal.returns-in_err-settle-in-Pick-clause-left
returns-in_err-settle-in-Pick-clause-left g c =
    let st = g.S.Store in
    let s = c.args.store.now in
    let k = c.args.stack.now in
    let z = way_of g.G.Guide.ahead c.args.trail.now in
    let i = c.from_residual.ensures in
    pick_halted c.args.sheet.now (st.width s) c.requires.fields k.goals.now k.frames.now k.depth.goals k.depth.frames
    k.depth.fuel c.requires.fit c.requires.more (st.current s) (st.sound.left s) c.requires.some z
    c.in-Pick.name c.in-Pick.inner c.in-Pick.is c.argument.result c.argument.ensures
    (st.current c.settle.new.store) (way_of g.G.Guide.ahead c.settle.new.trail)
    (spot k.goals.now k.frames.now (depth (k.depth.goals - 1) k.depth.frames k.depth.fuel))
    c.in_err-settle-in-Pick.field-0.0 c.from_residual.result (grind arith) c.in_err-settle-in-Pick.ensures.left

pub returns-in_ok-settle-in-Pick-clause-left : goal.returns-in_ok-settle-in-Pick-clause-left
returns-in_ok-settle-in-Pick-clause-left g c =
    let st = g.S.Store in
    let s = c.args.store.now in
    let k = c.args.stack.now in
    let z = way_of g.G.Guide.ahead c.args.trail.now in
    pick_done c.args.sheet.now (st.width s) c.requires.fields k.goals.now k.frames.now k.depth.goals k.depth.frames
    k.depth.fuel c.requires.fit c.requires.more (st.current s) (st.sound.left s) c.requires.some z
    c.in-Pick.name c.in-Pick.inner c.in-Pick.is c.argument.result c.argument.ensures
    (st.current c.settle.new.store) (way_of g.G.Guide.ahead c.settle.new.trail)
    c.in_ok-settle-in-Pick.field-0 c.push-in-Pick.new.self.goals.now c.push-in-Pick.new.self.frames.now c.push-in-Pick.new.self.depth
    c.in_ok-settle-in-Pick.ensures.left (c.push-in-Pick.ensures.goals ∙ ap (set k.goals.now (k.depth.goals - 1)) c.part-in-Pick.ensures) c.push-in-Pick.ensures.frames c.push-in-Pick.ensures.depth

pub invariant_of-weights : goal.invariant_of-weights
invariant_of-weights g c =
    let st = g.S.Store in
    let s = c.args.store.now in
    let k = c.args.stack.now in
    let z = way_of g.G.Guide.ahead c.args.trail.now in
    record {
      some = join_usable c.args.sheet.now (st.width s) c.requires.fields k.goals.now k.frames.now k.depth.goals k.depth.frames
          k.depth.fuel c.requires.fit c.requires.more (st.current s) (st.sound.left s) c.requires.some z
          c.in-Join.word c.in-Join.first c.in-Join.second c.in-Join.left c.in-Join.right c.in-Join.is;
    }

pub ask-requires : goal.ask-requires
ask-requires g c =
    let st = g.S.Store in
    let s = c.args.store.now in
    let k = c.args.stack.now in
    let z = way_of g.G.Guide.ahead c.args.trail.now in
    join_room c.args.sheet.now (st.width s) c.requires.fields k.goals.now k.frames.now k.depth.goals k.depth.frames
    k.depth.fuel c.requires.fit c.requires.more (st.current s) (st.sound.left s) c.requires.some z
    c.in-Join.word c.in-Join.first c.in-Join.second c.in-Join.left c.in-Join.right c.in-Join.is c.requires.room

pub returns-in_err-ask-in-Join-clause-left : goal.returns-in_err-ask-in-Join-clause-left
returns-in_err-ask-in-Join-clause-left g c =
    let st = g.S.Store in
    let s = c.args.store.now in
    let k = c.args.stack.now in
    let z = way_of g.G.Guide.ahead c.args.trail.now in
    let i = c.from_residual-in_err-ask-in-Join.ensures in
    join_halted c.args.sheet.now (st.width s) c.requires.fields k.goals.now k.frames.now k.depth.goals k.depth.frames
    k.depth.fuel c.requires.fit c.requires.more (st.current s) (st.sound.left s) c.requires.some z
    c.in-Join.word c.in-Join.first c.in-Join.second c.in-Join.left c.in-Join.right c.in-Join.is
    (st.current s) (way_of g.G.Guide.ahead c.ask.new.trail)
    (spot k.goals.now k.frames.now (depth (k.depth.goals - 1) k.depth.frames k.depth.fuel))
    c.in_err-ask-in-Join.field-0.0 c.from_residual-in_err-ask-in-Join.result (grind arith) c.in_err-ask-in-Join.ensures.left

pub push-requires-in-Both-2 : goal.push-requires-in-Both-2
push-requires-in-Both-2 g c =
    let st = g.S.Store in
    let s = c.args.store.now in
    let k = c.args.stack.now in
    let z = way_of g.G.Guide.ahead c.args.trail.now in
    both_room c.args.sheet.now (st.width s) c.requires.fields k.goals.now k.frames.now k.depth.goals k.depth.frames
    k.depth.fuel c.requires.fit c.requires.more (st.current s) (st.sound.left s) c.requires.some z
    c.in-Join.word c.in-Join.first c.in-Join.second c.in-Join.left c.in-Join.right c.in-Join.is
    c.push-in-Both.new.self.goals.now _ c.push-in-Both.new.self.depth c.push-in-Both.ensures.goals
    c.push-in-Both.ensures.depth

pub returns-in-Left-clause-left : goal.returns-in-Left-clause-left
returns-in-Left-clause-left g c =
    let st = g.S.Store in
    let s = c.args.store.now in
    let k = c.args.stack.now in
    let z = way_of g.G.Guide.ahead c.args.trail.now in
    left_done c.args.sheet.now (st.width s) c.requires.fields k.goals.now k.frames.now k.depth.goals k.depth.frames
    k.depth.fuel c.requires.fit c.requires.more (st.current s) (st.sound.left s) c.requires.some z
    c.in-Join.word c.in-Join.first c.in-Join.second c.in-Join.left c.in-Join.right c.in-Join.is
    (way_of g.G.Guide.ahead c.ask.new.trail) c.in_ok-ask-in-Join.field-0 c.push-in-Left.new.self.goals.now c.push-in-Left.new.self.frames.now c.push-in-Left.new.self.depth
    c.in-Left.is c.in_ok-ask-in-Join.ensures.left (c.push-in-Left.ensures.goals ∙ ap (set k.goals.now (k.depth.goals - 1)) c.part-in-Left.ensures) c.push-in-Left.ensures.frames c.push-in-Left.ensures.depth

pub returns-in-Both-clause-left : goal.returns-in-Both-clause-left
returns-in-Both-clause-left g c =
    let st = g.S.Store in
    let s = c.args.store.now in
    let k = c.args.stack.now in
    let z = way_of g.G.Guide.ahead c.args.trail.now in
    both_done c.args.sheet.now (st.width s) c.requires.fields k.goals.now k.frames.now k.depth.goals k.depth.frames
    k.depth.fuel c.requires.fit c.requires.more (st.current s) (st.sound.left s) c.requires.some z
    c.in-Join.word c.in-Join.first c.in-Join.second c.in-Join.left c.in-Join.right c.in-Join.is
    (way_of g.G.Guide.ahead c.ask.new.trail) c.in_ok-ask-in-Join.field-0 c.in-Both.target
    c.push-in-Both.new.self.goals.now c.push-in-Both-2.new.self.goals.now c.push-in-Both.new.self.frames.now
    c.push-in-Both-2.new.self.frames.now c.push-in-Both.new.self.depth c.push-in-Both-2.new.self.depth
    c.in-Both.is c.in_ok-ask-in-Join.ensures.left
    (c.push-in-Both.ensures.goals ∙ ap (set k.goals.now (k.depth.goals - 1)) c.part-in-Both.ensures) c.push-in-Both.ensures.frames c.push-in-Both.ensures.depth
    (c.push-in-Both-2.ensures.goals ∙ ap (set c.push-in-Both.new.self.goals.now c.push-in-Both.new.self.depth.goals)
    c.part-in-Both-2.ensures) c.push-in-Both-2.ensures.frames c.push-in-Both-2.ensures.depth

pub slice_bounds-terms-end : goal.slice_bounds-terms-end
slice_bounds-terms-end g c =
    let st = g.S.Store in
    let s = c.args.store.now in
    let k = c.args.stack.now in
    let z = way_of g.G.Guide.ahead c.args.trail.now in
    (call_okay c.args.sheet.now (st.width s) c.requires.fields k.goals.now k.frames.now k.depth.goals k.depth.frames
    k.depth.fuel c.requires.fit c.requires.more (st.current s) (st.sound.left s) c.requires.some z
    c.in-Call.rule c.in-Call.count c.in-Call.terms c.in-Call.is).2

pub slice_bounds-pass-end : goal.slice_bounds-pass-end
slice_bounds-pass-end g c =
    let st = g.S.Store in
    let s = c.args.store.now in
    let k = c.args.stack.now in
    let z = way_of g.G.Guide.ahead c.args.trail.now in
    let ok = call_okay c.args.sheet.now (st.width s) c.requires.fields k.goals.now k.frames.now k.depth.goals k.depth.frames
    k.depth.fuel c.requires.fit c.requires.more (st.current s) (st.sound.left s) c.requires.some z
    c.in-Call.rule c.in-Call.count c.in-Call.terms c.in-Call.is in
    sym (length-take-le c.in-Call.count c.in-Call.terms ok.2)

pub pass-requires-clause-okay : goal.pass-requires-clause-okay
pass-requires-clause-okay g c =
    let st = g.S.Store in
    let s = c.args.store.now in
    let k = c.args.stack.now in
    let z = way_of g.G.Guide.ahead c.args.trail.now in
    (call_okay c.args.sheet.now (st.width s) c.requires.fields k.goals.now k.frames.now k.depth.goals k.depth.frames
    k.depth.fuel c.requires.fit c.requires.more (st.current s) (st.sound.left s) c.requires.some z
    c.in-Call.rule c.in-Call.count c.in-Call.terms c.in-Call.is).3

pub pass-requires-clause-room : goal.pass-requires-clause-room
pass-requires-clause-room g c =
    let st = g.S.Store in
    let s = c.args.store.now in
    let k = c.args.stack.now in
    let z = way_of g.G.Guide.ahead c.args.trail.now in
    call_room c.args.sheet.now (st.width s) c.requires.fields k.goals.now k.frames.now k.depth.goals k.depth.frames
    k.depth.fuel c.requires.fit c.requires.more (st.current s) (st.sound.left s) c.requires.some z
    c.in-Call.rule c.in-Call.count c.in-Call.terms c.in-Call.is c.requires.room

pub returns-in_err-passed-in-Call-clause-left : goal.returns-in_err-passed-in-Call-clause-left
returns-in_err-passed-in-Call-clause-left g c =
    let st = g.S.Store in
    let s = c.args.store.now in
    let k = c.args.stack.now in
    let z = way_of g.G.Guide.ahead c.args.trail.now in
    let i = c.from_residual-in_err-passed-in-Call.ensures in
    call_halted c.args.sheet.now (st.width s) c.requires.fields k.goals.now k.frames.now k.depth.goals k.depth.frames
    k.depth.fuel c.requires.fit c.requires.more (st.current s) (st.sound.left s) c.requires.some z
    c.in-Call.rule c.in-Call.count c.in-Call.terms c.in-Call.is
    (length (take c.in-Call.count c.in-Call.terms)) (st.current c.pass.new.store) (way_of g.G.Guide.ahead c.pass.new.trail)
    (spot k.goals.now k.frames.now (depth (k.depth.goals - 1) k.depth.frames k.depth.fuel))
    c.in_err-passed-in-Call.field-0.0 c.from_residual-in_err-passed-in-Call.result (grind arith) c.in_err-passed-in-Call.ensures.left

pub bounds-deref-rule : goal.bounds-deref-rule
bounds-deref-rule g c =
    let st = g.S.Store in
    let s = c.args.store.now in
    let k = c.args.stack.now in
    let z = way_of g.G.Guide.ahead c.args.trail.now in
    let ok = call_okay c.args.sheet.now (st.width s) c.requires.fields k.goals.now k.frames.now k.depth.goals k.depth.frames
    k.depth.fuel c.requires.fit c.requires.more (st.current s) (st.sound.left s) c.requires.some z
    c.in-Call.rule c.in-Call.count c.in-Call.terms c.in-Call.is in
    omega (arith, ap length c.deref.ensures.0, ok.0)

pub returns-in_ok-passed-in-Call-clause-left : goal.returns-in_ok-passed-in-Call-clause-left
returns-in_ok-passed-in-Call-clause-left g c =
    let st = g.S.Store in
    let s = c.args.store.now in
    let k = c.args.stack.now in
    let z = way_of g.G.Guide.ahead c.args.trail.now in
    let ok = call_okay c.args.sheet.now (st.width s) c.requires.fields k.goals.now k.frames.now k.depth.goals k.depth.frames
    k.depth.fuel c.requires.fit c.requires.more (st.current s) (st.sound.left s) c.requires.some z
    c.in-Call.rule c.in-Call.count c.in-Call.terms c.in-Call.is in
    let sh = c.args.sheet.now in
    let r = c.in-Call.rule in
    let same : (line_at c.deref.result.now r).body ≡ (line_at (lines_in sh) r).body =
    ap (λ ls. (line_at ls r).body) c.deref.ensures.0
    ∙ sym (ap (λ l. l.body) (rule_in_lines sh.rules.items sh.mark r ok.0)) in
    call_done c.args.sheet.now (st.width s) c.requires.fields k.goals.now k.frames.now k.depth.goals k.depth.frames
    k.depth.fuel c.requires.fit c.requires.more (st.current s) (st.sound.left s) c.requires.some z
    c.in-Call.rule c.in-Call.count c.in-Call.terms c.in-Call.is
    (length (take c.in-Call.count c.in-Call.terms)) (st.current c.pass.new.store) (way_of g.G.Guide.ahead c.pass.new.trail)
    c.in_ok-passed-in-Call.passed (length-take-le c.in-Call.count c.in-Call.terms ok.2)
    c.in_ok-passed-in-Call.ensures.left (spot_of c.enter.new.self) c.enter.result
    (subst (λ f. Entered c.in_ok-passed-in-Call.passed f (get_or k.goals.now (k.depth.goals - 1) no_goal).target
    (spot k.goals.now k.frames.now (depth (k.depth.goals - 1) k.depth.frames k.depth.fuel)) c.enter.result (spot_of c.enter.new.self))
    same c.enter.ensures.left)
