use Rattle.streams.proofs.Appending.{on_ok}
use Rattle.draws.proofs.list_draws.Goals as goal

pub returns : goal.returns
returns g c = on_ok c.list_draws.result (λ h. (_, c.new-store.ensures.starts, _, h)) c.list_draws.ensures.listed
