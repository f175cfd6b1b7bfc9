use Rattle.meaning.proofs.matches_are_sound.Goals as goal
use Rattle.meaning.proofs.Soundness.{sound}

pub returns : goal.returns
returns c = λ rules e F b n k S P t d m h. sound rules m d h
