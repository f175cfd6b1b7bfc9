-- A sheet by its meaning, names aside: ranges, rules and formulas as trees.
use Rattle.std.specs.Prelude.{ℕ, ◌+◌, ◌-◌, min, List}
use Rattle.formula.specs.declared.Comparison.{Comparison}
use Rattle.formula.specs.declared.Join.{Join}

-- the field or the parameter of that number, from 0
pub data Name : Type 0 where
  field : ℕ → Name
  param : ℕ → Name

-- `+` or `-` and a number
pub data Shift : Type 0 where
  up : ℕ → Shift
  down : ℕ → Shift

-- a number with `+` or `-` and another: `+` stops at 1,023 and `-` at 0
abbrev pub shifted : Shift → ℕ → ℕ
shifted (up k) v = min (v + k) 1023
shifted (down k) v = v - k

-- a number, a name, or a name with `+` or `-` and a number
pub data Term : Type 0 where
  num : ℕ → Term
  bare : Name → Term
  moved : Name → Shift → Term

-- a comparison, a call of a rule by its number, `not`, `pick`, or a join with its two weights
pub data Formula : Type 0 where
  compare : Term → Comparison → Term → Formula
  call : ℕ → List Term → Formula
  negate : Formula → Formula
  pick : Name → Formula → Formula
  join : Join → ℕ → ℕ → Formula → Formula → Formula

-- the least and the greatest number of a field
pub data Range : Type 0 where
  range : (low high : ℕ) → Range

-- how many parameters a rule has, and its formula
pub data Rule : Type 0 where
  rule : (params : ℕ) (body : Formula) → Rule

-- the ranges of the fields, the rules, and the formula of the mark line
pub data Sheet : Type 0 where
  sheet : List Range → List Rule → Formula → Sheet
