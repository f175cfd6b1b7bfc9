use Rattle.std.proofs.Common.{◌∙◌}
use Rattle.client.proofs.Taking.{takes_kept, takes_close}
use Rattle.client.proofs.act.close.Goals as goal

pub returns-in-Ok : goal.returns-in-Ok
returns-in-Ok c = λ s n v S ps ws t list ns.
    let closes = c.in-Ok.ensures S ps ws in
    let told = c.figures.ensures in
    takes_close s n v _ t list ns _ (record { was_finished = closes.was_finished; figures_are = told ∙ closes.figures_are })

pub returns-in-Err : goal.returns-in-Err
returns-in-Err c = λ s n v S ps ws t list ns. takes_kept s n v _ _ t list ns _ (c.in-Err.ensures S ps ws)
