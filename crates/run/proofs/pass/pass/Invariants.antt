use Rattle.std.proofs.Common.{◌≡◌, ℕ, ◌-◌, ◌<◌, true, map, length, get_or}
use Rattle.marks.specs.Counted.{some}
use Rattle.sheet.specs.Table.{term_of}
use Rattle.run.specs.declared.goal.Argument.TheVariants.{Field}
use Rattle.run.specs.Frames.{arguments_of, Okay}
use Rattle.run.specs.Ways.{way_of, SameTrail, Took}
use Rattle.run.specs.Settling.{Narrows}
use Rattle.run.specs.Goals.{from, PassLeads}
use Rattle.run.proofs.pass.pass.Given as goal

abbrev pub invariant-loop-term : goal.invariant-loop-term
invariant-loop-term g l =
    let st = g.S.Store in
    let w = st.width l.initial.store in
    let ts = l.terms in
    Narrows st.width st.starting st.current l.initial.store l.store
    × SameTrail g.G.Guide.fixed l.initial.trail l.trail
    × (l.made.count ≡ l.term-index)
    × (length l.made.arguments ≡ 4)
    × ((j : ℕ) → j < 4 → Okay w (get_or l.made.arguments j (Field 0)))
    × (some w (st.current l.store) ≡ true)
    × Took (way_of g.G.Guide.ahead l.initial.trail)
    (PassLeads (arguments_of l.frame) (st.current l.initial.store) (map term_of ts) (st.current l.store)
    (from ts l.term-index (length ts - l.term-index)) l.made) (way_of g.G.Guide.ahead l.trail)
