use Rattle.std.proofs.Common.{rules}
use Rattle.sheet.specs.Sheets.{tree_of}
use Rattle.sheet.proofs.Keeps.{every_sheet_keeps_lem}
use Rattle.client.proofs.Two.{both_issued, two_nexts, two_apart}
use Rattle.client.proofs.two_marks_differ.Goals as goal

pub returns-clause-told : goal.returns-clause-told
returns-clause-told g c =
    let st = g.S.Store in
    let s = c.args.store.now in
    let l = c.args.lists.now in
    two_nexts (tree_of c.args.sheet.now) (st.width s) _ _ _ l _ _ _ c.start-walk.result _ _ _ _ _ _ _
    c.start-walk.ensures.fuel
    (c.start-walk.ensures.fresh (st.starting s) l.picks.now l.widths.now) c.next-one.ensures.step
    c.next-one.ensures.same c.next-one.ensures.own c.next-two.ensures.step (search rules) c.both_marks.ensures

pub returns-clause-differ : goal.returns-clause-differ
returns-clause-differ g c =
    let st = g.S.Store in
    let s = c.args.store.now in
    let law =
    c.start-walk.ensures.law (tree_of c.args.sheet.now) (every_sheet_keeps_lem c.args.sheet.now)
    (st.width s) (st.starting s) (st.sound.started s) c.args.lists.now.picks.now c.args.lists.now.widths.now in
    λ t e.
    let k = both_issued _ _ _ c.both_marks.ensures t in
    two_apart (tree_of c.args.sheet.now) (st.width s) _ _ _ _ _ _ _ _ _ _ _ law c.next-one.ensures.step
    c.next-one.ensures.same c.next-two.ensures.step k.0 k.1 (search rules) e
