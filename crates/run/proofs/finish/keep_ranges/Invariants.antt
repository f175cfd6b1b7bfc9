use Rattle.std.proofs.Common.{◌≡◌, map, take}
use Rattle.meaning.specs.Runs.{inside}
use Rattle.sheet.specs.Sheets.{range_of}
use Rattle.run.proofs.finish.keep_ranges.Given as goal

abbrev pub invariant-loop-field : goal.invariant-loop-field
invariant-loop-field g l =
    let st = g.S.Store in
    (st.width l.store ≡ st.width l.initial.store)
    × (st.starting l.store ≡ st.starting l.initial.store)
    × (st.current l.store ≡ inside (st.starting l.initial.store)
    (map range_of (take l.field l.sheet.ranges.items)))
