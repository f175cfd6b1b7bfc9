use Rattle.std.proofs.Common.{rules, refl, ◌∙◌}
use Rattle.sheet.specs.Sheets.{tree_of}
use Rattle.sheet.proofs.Keeps.{every_sheet_keeps_lem}
use Rattle.streams.proofs.Appending.{on_ok}
use Rattle.run.proofs.Staying.{same_none, same_on}
use Rattle.list.proofs.Ending.{none_yet, one_more, listed}
use Rattle.list.proofs.listing.list.Goals as goal

pub loop-init : goal.loop-init
loop-init g c = record { wide = refl; starting = refl; own = same_none; so_far = none_yet _ _ _ _ }

pub loop-preserved : goal.loop-preserved
loop-preserved g c =
    let inv = c.loop.invariant in
    let on = c.in_ok-next_line.ensures in
    record {
      wide = on.same.0 ∙ inv.wide;
      starting = on.same.1 ∙ inv.starting;
      own = same_on inv.own on.own;
      so_far = one_more inv.wide inv.so_far on.told;
    }

pub returns-then-eq-clause-listed : goal.returns-then-eq-clause-listed
returns-then-eq-clause-listed g c =
    let st = g.S.Store in
    let s = c.args.store.now in
    let sh = c.args.sheet.now in
    let l = c.args.lists.now in
    let inv = c.loop.invariant in
    let start = c.start-walk.ensures in
    let law = start.law (tree_of sh) (every_sheet_keeps_lem sh) (st.width s) (st.starting s) (st.sound.started s) l.picks.now l.widths.now in
    on_ok c.put_figures.result
    (listed _ law start.fuel refl inv.wide inv.so_far c.in_ok-next_line.ensures.told (search rules)
    (c.tally.ensures (st.starting s) l.picks.now l.widths.now)) c.put_figures.ensures
