-- The parts of a sheet, and what its terms and words say. The plain reading and the runs share these.
-- In a term `+` stops at 1,023 and `-` at 0, so a term is always worth a number that a mark may hold.
use Rattle.std.specs.Prelude.{ℕ, List, length, slice_index, slice_index_or}
use Rattle.formula.specs.declared.Comparison.TheVariants.{Equal}
use Rattle.formula.specs.Trees.{Name, field, param, Term, num, bare, moved, Formula}
use Rattle.formula.specs.Trees.{compare, Range, Rule, rule, Sheet, sheet}
-- what signs, joins and shifts say by themselves
pub use Rattle.formula.specs.Comparing.{aimed}
pub use Rattle.formula.specs.Joining.{wants}
pub use Rattle.formula.specs.Trees.{shifted}

-- the ranges of the fields, in field order
abbrev pub ranges_of : Sheet → List Range
ranges_of (sheet ranges rules F) = ranges

-- how many fields the sheet has
abbrev pub fields_of : Sheet → ℕ
fields_of s = length (ranges_of s)

-- the rules, by number from 0
abbrev pub rules_of : Sheet → List Rule
rules_of (sheet ranges rules F) = rules

-- the formula of the mark line
abbrev pub mark_line : Sheet → Formula
mark_line (sheet ranges rules F) = F

-- the formula of a rule
abbrev pub formula_of : Rule → Formula
formula_of (rule params F) = F

-- the formula of rule r, which a call of r reads; no sheet calls a rule that it lacks
abbrev pub body : List Rule → ℕ → Formula
body rules r = formula_of (slice_index_or rules r (rule 0 (compare (num 0) Equal (num 1))))

-- the number of a name: a field's in the mark m, a parameter's in the numbers e that the call was given
abbrev pub named : (m e : List ℕ) → Name → ℕ
named m e (field f) = slice_index m f
named m e (param p) = slice_index e p

-- the number that a term is worth
abbrev pub value : (m e : List ℕ) → Term → ℕ
value m e (num n) = n
value m e (bare x) = named m e x
value m e (moved x d) = shifted d (named m e x)
