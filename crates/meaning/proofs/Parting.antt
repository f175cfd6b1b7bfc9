-- The traces of one match form a tree, and a mark stands at one leaf of it.
use Rattle.meaning.specs.MatchingLaws.{MatchesPart, MatchesDiffer}
use Rattle.meaning.proofs.Forks.{either, at_most, matches_fork}

pub tree : MatchesPart
tree = λ rules e F b n S t u o p x y. either (matches_fork rules x y)

pub unique : MatchesDiffer
unique = λ rules e F b n k l S P Q t u m x y h g. at_most (matches_fork rules x y) m h g
