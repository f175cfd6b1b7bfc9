use Rattle.std.proofs.Common.{length, ap, ◌∙◌, subst, arith, rules}
use Rattle.run.specs.Lists.{held}
use Rattle.sheet.specs.Sheets.{tree_of}
use Rattle.run.specs.Ways.{way}
use Rattle.run.specs.Whole.{Along, Reported}
use Rattle.run.specs.Ahead.{drawn_ahead}
use Rattle.run.proofs.Tables.{fields_are}
use Rattle.run.proofs.Following.{lands, mark_room, draws_to}
use Rattle.run.proofs.draw.draw.Goals as goal

pub run-ended-requires-clause-fields : goal.run-ended-requires-clause-fields
run-ended-requires-clause-fields g c = c.in_ok-admit.ensures.0 ∙ fields_are c.args.sheet.now

pub report-ended-requires : goal.report-ended-requires
report-ended-requires g c = record {
  room = mark_room c.run-ended.result.ended _ _
      (omega (
        arith,
        c.in_ok-admit.ensures.0,
        fields_are c.args.sheet.now,
        c.in_ok-admit.ensures.1.mark,
        ap length c.run-ended.ensures.mark,
      )) c.run-ended.ensures.long;
}

pub returns-clause-left : goal.returns-clause-left
returns-clause-left g c =
    let s = c.args.store.now in
    let st = g.S.Store in
    let p = c.in_ok-admit.ensures in
    let own = c.args.lists.now in
    let now = c.run-ended.new.lists in
    let end = c.run-ended.result.ended in
    let sh = c.args.sheet.now in
    let ns = g.R.Source.waiting c.args.source.now in
    let left = g.R.Source.waiting c.run-ended.new.guide.source.now in
    let at = c.run-ended.result.length in
    let went : Along (tree_of sh) c.args.fuel (st.starting s) (way (drawn_ahead ns) own.picks.now own.widths.now 0) end
    (way (drawn_ahead left) now.picks.now now.widths.now at) = search rules in (
      p.0,
      p.1,
      draws_to sh c.args.fuel (st.width s) (st.starting s) (st.sound.started s) p.0
          at (held own) _ p.1 ns _ end
          (lands (tree_of sh) c.args.fuel (st.starting s) _ end (drawn_ahead left) _ at
          now.picks.now now.widths.now (ap (λ q. drawn_ahead (g.R.Source.waiting q)) (search rules))
          went) c.report-ended.result c.run-ended.ensures.long
          (subst (λ m. Reported end m c.report-ended.result c.report-ended.new.mark) c.run-ended.ensures.mark
          c.report-ended.ensures),
    )
