use Rattle.meaning.proofs.match_picks_are_within.Goals as goal
use Rattle.meaning.proofs.Entries.{matches_within}

pub returns : goal.returns
returns c = λ rules e F b n S t o d. matches_within rules d
