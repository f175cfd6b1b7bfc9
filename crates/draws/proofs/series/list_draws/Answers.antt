use Rattle.std.proofs.Common.{◌∙◌}
use Rattle.run.proofs.Staying.{same_on}
use Rattle.draws.proofs.Drawing.{one_more, listed}
use Rattle.draws.proofs.series.list_draws.Goals as goal

pub loop-preserved : goal.loop-preserved
loop-preserved g c =
    let inv = c.loop.invariant in
    let on = c.in_ok-draw_line.ensures in
    record {
      wide = on.same.0 ∙ inv.wide;
      starting = on.same.1 ∙ inv.starting;
      own = same_on inv.own on.own;
      so_far = one_more inv.starting inv.so_far on.told c.if-branch.false;
    }

pub returns-then-branch-clause-listed : goal.returns-then-branch-clause-listed
returns-then-branch-clause-listed g c =
    listed c.loop.invariant.starting c.loop.invariant.so_far c.in_ok-draw_line.ensures.told c.if-branch.true
