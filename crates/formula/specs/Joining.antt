-- What the two words that join formulas ask of their sides.
use Rattle.std.specs.Prelude.{Bool, true, false}
use Rattle.formula.specs.declared.Join.{Join}
use Rattle.formula.specs.declared.Join.TheVariants.{And, Or}

-- the left side's result at which a join goes on to its right side: `and` at true, `or` at false
abbrev pub wants : Join → Bool
wants And = true
wants Or = false
