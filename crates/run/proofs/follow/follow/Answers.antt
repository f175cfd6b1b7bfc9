use Rattle.std.proofs.Common.{◌≡◌, length, Some, None, ap, ◌∙◌, subst₂, arith}
use Rattle.run.specs.Answering.{lists}
use Rattle.run.specs.Lists.{held}
use Rattle.sheet.specs.Sheets.{tree_of}
use Rattle.run.specs.Whole.{Reported}
use Rattle.run.specs.Ahead.{recorded_ahead}
use Rattle.run.proofs.Tables.{fields_are}
use Rattle.run.proofs.Following.{lands, mark_room, follows_unfit, follows_whole, follows_on}
use Rattle.run.proofs.follow.follow.Goals as goal

pub run-ended-requires-clause-fields : goal.run-ended-requires-clause-fields
run-ended-requires-clause-fields g c = c.in_ok-admit.ensures.0 ∙ fields_are c.args.sheet.now

pub report-requires : goal.report-requires
report-requires g c = record {
  room = mark_room c.run-ended.result.ended _ _
      (omega (
        arith,
        c.in_ok-admit.ensures.0,
        fields_are c.args.sheet.now,
        c.in_ok-admit.ensures.1.mark,
        ap length c.run-ended.ensures.mark,
      )) c.run-ended.ensures.long;
}

pub returns-then-length-given-clause-left : goal.returns-then-length-given-clause-left
returns-then-length-given-clause-left g c =
    let s = c.args.store.now in
    let st = g.S.Store in
    let p = c.in_ok-admit.ensures in
    let sh = c.args.sheet.now in
    let own = c.args.lists.now in
    let now = c.run-ended.new.lists in
    let end = c.run-ended.result.ended in
    let at = c.run-ended.result.length in
    let went = lands (tree_of sh) c.args.fuel (st.starting s) _ end (recorded_ahead c.run-ended.new.guide.given)
    (recorded_ahead c.args.given) at now.picks.now now.widths.now (ap recorded_ahead c.run-ended.ensures.fixed)
    c.run-ended.ensures.left in
    follows_unfit sh c.args.fuel (st.width s) (st.starting s) (st.sound.started s) p.0 c.args.given at (held own)
    (held now) p.1 end went c.if-length-given.true c.run-ended.ensures.mark

pub returns-in_err-ended-clause-left : goal.returns-in_err-ended-clause-left
returns-in_err-ended-clause-left g c =
    let s = c.args.store.now in
    let st = g.S.Store in
    let p = c.in_ok-admit.ensures in
    let sh = c.args.sheet.now in
    let own = c.args.lists.now in
    let now = c.run-ended.new.lists in
    let end = c.run-ended.result.ended in
    let at = c.run-ended.result.length in
    let went = lands (tree_of sh) c.args.fuel (st.starting s) _ end (recorded_ahead c.run-ended.new.guide.given)
    (recorded_ahead c.args.given) at now.picks.now now.widths.now (ap recorded_ahead c.run-ended.ensures.fixed)
    c.run-ended.ensures.left in
    let none : c.report.result ≡ None = c.in_err-ended.ensures.ok_part in
    absurd (follows_on sh c.args.fuel (st.width s) (st.starting s) (st.sound.started s) p.0 c.args.given at (held own)
    (lists now.picks.now now.widths.now c.report.new.mark 0 0) p.1 end went c.if-length-given.false
    (subst₂ (λ m q. Reported end m q c.report.new.mark) c.run-ended.ensures.mark none c.report.ensures))

pub returns-clause-left : goal.returns-clause-left
returns-clause-left g c =
    let s = c.args.store.now in
    let st = g.S.Store in
    let p = c.in_ok-admit.ensures in
    let sh = c.args.sheet.now in
    let own = c.args.lists.now in
    let now = c.run-ended.new.lists in
    let end = c.run-ended.result.ended in
    let at = c.run-ended.result.length in
    let went = lands (tree_of sh) c.args.fuel (st.starting s) _ end (recorded_ahead c.run-ended.new.guide.given)
    (recorded_ahead c.args.given) at now.picks.now now.widths.now (ap recorded_ahead c.run-ended.ensures.fixed)
    c.run-ended.ensures.left in
    let some : c.report.result ≡ Some c.in_ok-ended.ended = c.in_ok-ended.ensures.ok_part in
    follows_whole sh c.args.fuel (st.width s) (st.starting s) (st.sound.started s) p.0 c.args.given at (held own)
    _ p.1 end went c.in_ok-ended.ended c.if-length-given.false c.run-ended.ensures.long
    (subst₂ (λ m q. Reported end m q c.report.new.mark) c.run-ended.ensures.mark some c.report.ensures)
