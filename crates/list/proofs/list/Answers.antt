use Rattle.streams.proofs.Appending.{on_ok}
use Rattle.list.proofs.list.Goals as goal

pub returns : goal.returns
returns g c = on_ok c.list.result (λ h. (_, c.new-store.ensures.starts, h)) c.list.ensures.listed
