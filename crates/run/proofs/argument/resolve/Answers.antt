use Rattle.std.proofs.Common.{◌≡◌, Ok, Err, sym, subst, arith}
use Rattle.run.specs.declared.goal.Argument.TheVariants.{Number}
use Rattle.run.specs.Ways.{way_of, Fits}
use Rattle.run.specs.Frames.{arguments_of, TermOkay}
use Rattle.run.specs.Comparing.{Resolved, Resolving}
use Rattle.sheet.specs.Table.{name_of, term_of, shift_of}
use Rattle.run.proofs.Frames.{known_in}
use Rattle.run.proofs.Resolving.{resolve_number, resolve_bare, resolve_moved, resolve_halt, resolve_fits}
use Rattle.run.proofs.argument.resolve.Goals as goal

pub settle-requires : goal.settle-requires
settle-requires g c =
    let st = g.S.Store in
    let s = c.args.store.now in
    let z = way_of g.G.Guide.ahead c.args.trail.now in
    let e = arguments_of c.args.frame in
    let ok = subst (TermOkay (st.width s) c.args.frame.count) c.in-Moved.is c.requires.okay in
    let r = c.argument-in-Moved.ensures in
    record {
      okay = r.okay (st.width s) c.requires.frame ok.0;
      some = c.requires.some;
      room = resolve_fits (st.width s) e (st.current s) z (name_of c.in-Moved.name)
          (shift_of c.in-Moved.shift) c.argument-in-Moved.result r.is
          (subst (λ q. Fits z (Resolving e (st.current s) (term_of q))) c.in-Moved.is c.requires.room);
    }

pub returns-in-Number-clause-left : goal.returns-in-Number-clause-left
returns-in-Number-clause-left g c =
    let st = g.S.Store in
    let s = c.args.store.now in
    let z = way_of g.G.Guide.ahead c.args.trail.now in
    let e = arguments_of c.args.frame in
    let n = c.in-Number.number in
    let ok = subst (TermOkay (st.width s) c.args.frame.count) c.in-Number.is c.requires.okay in
    subst (λ q. Resolved (st.width s) e (st.current s) (term_of q) z (Ok (Number n)) (st.current s) z)
    (sym c.in-Number.is) (resolve_number (st.width s) e (st.current s) z n ok c.requires.some)

pub returns-in-Bare-clause-left : goal.returns-in-Bare-clause-left
returns-in-Bare-clause-left g c =
    let st = g.S.Store in
    let s = c.args.store.now in
    let z = way_of g.G.Guide.ahead c.args.trail.now in
    let e = arguments_of c.args.frame in
    let ok = subst (TermOkay (st.width s) c.args.frame.count) c.in-Bare.is c.requires.okay in
    let r = c.argument.ensures in
    subst (λ q. Resolved (st.width s) e (st.current s) (term_of q) z (Ok c.argument.result) (st.current s) z)
    (sym c.in-Bare.is) (resolve_bare (st.width s) e (st.current s) z (name_of c.in-Bare.name) c.argument.result
    r.is (r.okay (st.width s) c.requires.frame ok) c.requires.some)

pub returns-in_ok-number-in-Moved-clause-left : goal.returns-in_ok-number-in-Moved-clause-left
returns-in_ok-number-in-Moved-clause-left g c =
    let st = g.S.Store in
    let s = c.args.store.now in
    let z = way_of g.G.Guide.ahead c.args.trail.now in
    let y = way_of g.G.Guide.ahead c.settle.new.trail in
    let P = st.current c.settle.new.store in
    let e = arguments_of c.args.frame in
    subst (λ q. Resolved (st.width s) e (st.current s) (term_of q) z (Ok (Number c.apply.result)) P y)
    (sym c.in-Moved.is) (resolve_moved (st.width s) e (st.current s) z (name_of c.in-Moved.name)
    (shift_of c.in-Moved.shift) c.argument-in-Moved.result c.argument-in-Moved.ensures.is
    c.in_ok-number-in-Moved.number c.apply.result P y c.in_ok-number-in-Moved.ensures.left c.apply.ensures.moved
    (c.apply.ensures.small c.in_ok-number-in-Moved.ensures.left.small))

pub returns-in_err-number-in-Moved-clause-left : goal.returns-in_err-number-in-Moved-clause-left
returns-in_err-number-in-Moved-clause-left g c =
    let st = g.S.Store in
    let s = c.args.store.now in
    let z = way_of g.G.Guide.ahead c.args.trail.now in
    let y = way_of g.G.Guide.ahead c.settle.new.trail in
    let P = st.current c.settle.new.store in
    let e = arguments_of c.args.frame in
    let i = c.from_residual.ensures in
    let is : c.from_residual.result ≡ Err c.in_err-number-in-Moved.field-0.0 = grind arith in
    subst (λ r. Resolved (st.width s) e (st.current s) (term_of c.args.term) z r P y) (sym is)
    (subst (λ q. Resolved (st.width s) e (st.current s) (term_of q) z (Err c.in_err-number-in-Moved.field-0.0) P y) (sym c.in-Moved.is)
    (resolve_halt (st.width s) e (st.current s) z (name_of c.in-Moved.name) (shift_of c.in-Moved.shift)
    c.argument-in-Moved.result c.argument-in-Moved.ensures.is c.in_err-number-in-Moved.field-0.0 P y c.in_err-number-in-Moved.ensures.left))

pub argument-requires : goal.argument-requires
argument-requires g c =
    let w = g.S.Store.width c.args.store.now in
    let n = c.args.frame.count in
    let ok = subst (TermOkay w n) c.in-Bare.is c.requires.okay in
    record { few = c.requires.frame.few; known = known_in w n c.in-Bare.name ok }

pub argument-requires-in-Moved : goal.argument-requires-in-Moved
argument-requires-in-Moved g c =
    let w = g.S.Store.width c.args.store.now in
    let n = c.args.frame.count in
    let ok = subst (TermOkay w n) c.in-Moved.is c.requires.okay in
    record { few = c.requires.frame.few; known = known_in w n c.in-Moved.name ok.0 }
