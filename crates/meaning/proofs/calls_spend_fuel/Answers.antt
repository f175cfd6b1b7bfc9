use Rattle.meaning.proofs.calls_spend_fuel.Goals as goal
use Rattle.meaning.proofs.Readings.{all_calls_spend}

pub returns : goal.returns
returns c = all_calls_spend
