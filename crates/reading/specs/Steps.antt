-- What the private functions of the reading promise; only their proofs need this.
use Rattle.std.specs.Prelude.{◌≡◌, ℕ, ◌≤◌, Bool, List, map, Some, None, Option}
use Rattle.formula.specs.Trees.{Rule, Range}
use Rattle.meaning.specs.Terms.{value}
use Rattle.meaning.specs.Reading.{Answer, said, ran_out, left, Reads}
use Rattle.sheet.specs.declared.node.Range.{Range as FieldRange}
use Rattle.sheet.specs.Table.{SheetTerm}
use Rattle.sheet.specs.declared.table.Sheet.{Sheet}
use Rattle.sheet.specs.Table.{term_of, formula_at}
use Rattle.sheet.specs.Sheets.{range_of, rule_of}

-- the number lies in the range
abbrev pub Inside : FieldRange → ℕ → Type 0
Inside r v = (r.low ≤ v) × (v ≤ r.high)

-- the numbers of some terms
abbrev pub values : (m e : List ℕ) → List SheetTerm → List ℕ
values m e ts = map (λ t. value m e (term_of t)) ts

-- what a formula reads as: its result with the fuel that is left, or spent
abbrev pub answer : Option Bool → ℕ → Answer
answer (Some b) k = said b k
answer None k = ran_out

-- the rules of a sheet
abbrev pub rules : Sheet → List Rule
rules s = map (rule_of s.nodes) s.rules.items

-- the ranges of a sheet
abbrev pub ranges : Sheet → List Range
ranges s = map range_of s.ranges.items

-- the entry i of the sheet's table reads as r, from the fuel n to the fuel k
pub record Read (s : Sheet) (m e : List ℕ) (i n : ℕ) (r : Option Bool) (k : ℕ) : Type 0 where
  pub reads : Reads (rules s) m e (formula_at s.nodes i) n (answer r k)
  pub fuel : left (answer r k) ≡ k
