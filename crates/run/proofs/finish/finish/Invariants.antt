use Rattle.std.proofs.Common.{◌≡◌, ◌-◌, true, length}
use Rattle.marks.specs.Counted.{some}
use Rattle.run.specs.Settling.{Narrows}
use Rattle.run.specs.Ways.{way_of, SameTrail, Took}
use Rattle.run.specs.Works.{EndLeads}
use Rattle.run.proofs.finish.finish.Given as goal

abbrev pub invariant-loop-field : goal.invariant-loop-field
invariant-loop-field g l =
    let st = g.S.Store in
    let w = st.width l.initial.store in
    Narrows st.width st.starting st.current l.initial.store l.store
    × SameTrail g.G.Guide.fixed l.initial.trail l.trail
    × (length l.made.items ≡ l.field)
    × (some w (st.current l.store) ≡ true)
    × Took (way_of g.G.Guide.ahead l.initial.trail)
    (EndLeads w (st.current l.initial.store) l.field (w - l.field) (st.current l.store)
    l.made.items) (way_of g.G.Guide.ahead l.trail)
