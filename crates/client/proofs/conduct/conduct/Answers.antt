use Rattle.std.proofs.Common.{◌+◌, take, drop, sym, refl, ◌∙◌, arith, take-append-drop}
use Rattle.std.proofs.lemmas.List.{take_all}
use Rattle.sheet.specs.Sheets.{tree_of}
use Rattle.sheet.proofs.Keeps.{every_sheet_keeps_lem}
use Rattle.client.proofs.Taking.{takes_on}
use Rattle.run.proofs.Staying.{same_none, same_on}
use Rattle.client.proofs.Lending.{same_served}
use Rattle.client.proofs.Conducting.{takes_nothing, conducted_all, conducted_closed}
use Rattle.client.proofs.conduct.conduct.Goals as goal

pub loop-call-init : goal.loop-call-init
loop-call-init g c = record {
  room = omega arith;
  wide = refl;
  starting = refl;
  own = same_none;
  takes = takes_nothing _ _ _ _ _ _ _ c.default-taken.ensures.0 c.default-taken.ensures.1;
}

pub loop-call-preserved : goal.loop-call-preserved
loop-call-preserved g c =
    let inv = c.loop-call.invariant in
    let on = c.in-Continue.ensures in
    record {
      room = on.room;
      wide = on.same.0 ∙ inv.wide;
      starting = on.same.1 ∙ inv.starting;
      own = same_on inv.own on.own;
      takes =
          takes_on _ _ c.args.calls.now c.loop-call.call-index _ inv.wide (same_served c.args.asked.now inv.own)
          c.loop-call-test.true refl
          (omega arith) inv.takes on.takes;
    }

pub returns-in-Break-clause-conducted : goal.returns-in-Break-clause-conducted
returns-in-Break-clause-conducted g c =
    let st = g.S.Store in
    let s = c.args.store.now in
    let sh = c.args.sheet.now in
    let calls = c.args.calls.now in
    let i = c.loop-call.call-index in
    let inv = c.loop-call.invariant in
    let start = c.start-walk.ensures in
    let law =
    start.law (tree_of sh) (every_sheet_keeps_lem sh) (st.width s) (st.starting s) (st.sound.started s)
    c.args.lists.now.picks.now c.args.lists.now.widths.now in
    let fresh = start.fresh (st.starting s) c.args.lists.now.picks.now c.args.lists.now.widths.now in
    conducted_closed (tree_of sh) (st.width s) c.args.fuel (st.starting s) c.start-walk.result c.args.asked.now (take (i + 1) calls)
    (drop (i + 1) calls) calls _ _ c.args.lists.now _ _ _ law fresh start.fuel
    (takes_on _ _ calls i _ inv.wide (same_served c.args.asked.now inv.own) c.loop-call-test.true refl (omega arith)
    inv.takes
    c.in-Break.ensures.takes) (sym (take-append-drop (i + 1) calls))

pub returns-clause-conducted : goal.returns-clause-conducted
returns-clause-conducted g c =
    let st = g.S.Store in
    let s = c.args.store.now in
    let sh = c.args.sheet.now in
    let calls = c.args.calls.now in
    let inv = c.loop-call.invariant in
    let start = c.start-walk.ensures in
    let law =
    start.law (tree_of sh) (every_sheet_keeps_lem sh) (st.width s) (st.starting s) (st.sound.started s)
    c.args.lists.now.picks.now c.args.lists.now.widths.now in
    let fresh = start.fresh (st.starting s) c.args.lists.now.picks.now c.args.lists.now.widths.now in
    conducted_all (tree_of sh) (st.width s) c.args.fuel (st.starting s) c.start-walk.result c.loop-call.walk _ c.args.asked.now _ calls _
    c.args.lists.now _ _ _ law fresh start.fuel (take_all c.loop-call.call-index calls c.loop-call-test.false) inv.takes
