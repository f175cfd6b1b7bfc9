use Rattle.std.proofs.Common.{◌≡◌, true}
use Rattle.marks.specs.Counted.{some}
use Rattle.meaning.specs.Terms.{rules_of, mark_line}
use Rattle.sheet.specs.Sheets.{tree_of}
use Rattle.run.specs.Ways.{way_of, SameTrail}
use Rattle.run.specs.Settling.{Narrows}
use Rattle.run.specs.Goals.{spot_of, SameStack, stack, Fit, weight}
use Rattle.run.proofs.Works.{Whole}
use Rattle.run.proofs.work.work.Given as goal

abbrev pub invariant-run : goal.invariant-run
invariant-run g l =
    let st = g.S.Store in
    let p = spot_of l.stack in
    Narrows st.width st.starting st.current l.initial.store l.store
    × SameTrail g.G.Guide.fixed l.initial.trail l.trail
    × SameStack l.fn.stack l.stack
    × (some (st.width l.initial.store) (st.current l.store) ≡ true)
    × Fit l.sheet p
    × Whole (rules_of (tree_of l.sheet)) (mark_line (tree_of l.sheet)) l.fn.stack.depth.fuel (st.current l.initial.store)
    (way_of g.G.Guide.ahead l.initial.trail) (stack l.sheet p) p.depth.fuel (st.current l.store)
    (way_of g.G.Guide.ahead l.trail)

abbrev pub decreases-run : goal.decreases-run
decreases-run g l = weight l.sheet (stack l.sheet (spot_of l.stack)) l.stack.depth.fuel
