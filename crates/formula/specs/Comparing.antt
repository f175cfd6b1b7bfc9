-- What the six signs of comparison say of two numbers.
use Rattle.std.specs.Prelude.{ℕ, Bool, true, false, not, eqb, ltb}
use Rattle.formula.specs.declared.Comparison.{Comparison}
use Rattle.formula.specs.declared.Comparison.TheVariants.{Equal, Differ, Less, AtMost, More, AtLeast}

-- whether x compares with y by the sign
abbrev pub holds : Comparison → ℕ → ℕ → Bool
holds Equal x y = eqb x y
holds Differ x y = not (eqb x y)
holds Less x y = ltb x y
holds AtMost x y = not (ltb y x)
holds More x y = ltb y x
holds AtLeast x y = not (ltb x y)

-- the sign that holds exactly where this one fails
abbrev pub opposite : Comparison → Comparison
opposite Equal = Differ
opposite Differ = Equal
opposite Less = AtLeast
opposite AtMost = More
opposite More = AtMost
opposite AtLeast = Less

-- the sign that says the same of y and x
abbrev pub mirrored : Comparison → Comparison
mirrored Equal = Equal
mirrored Differ = Differ
mirrored Less = More
mirrored AtMost = AtLeast
mirrored More = Less
mirrored AtLeast = AtMost

-- a comparison under a target: a false target turns it into its opposite
abbrev pub aimed : Bool → Comparison → Comparison
aimed true c = c
aimed false c = opposite c
