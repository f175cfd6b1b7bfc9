use Rattle.std.proofs.Common.{arith}
use Rattle.reading.proofs.Evaluated.{known_at}
use Rattle.reading.proofs.terms.Numbers.of_terms.Goals as goal

pub of_term-requires-2 : goal.of_term-requires-2
of_term-requires-2 c = known_at _ _ c.args.terms 1 (omega (arith, c.requires.long)) c.requires.known

pub of_term-requires-3 : goal.of_term-requires-3
of_term-requires-3 c = known_at _ _ c.args.terms 2 (omega (arith, c.requires.long)) c.requires.known
