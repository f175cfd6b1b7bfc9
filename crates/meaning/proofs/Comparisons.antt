-- A comparison keeps by the sign.
use Rattle.std.proofs.Common.{rules}
use Rattle.meaning.specs.Comparisons.{ComparisonsKeep}

pub comparings : ComparisonsKeep
comparings = search rules
