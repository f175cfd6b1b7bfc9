-- A sheet as it is written: its lines with their names and numbers, and the place of each that a fault can point at.
-- A place is the offset of a token's first byte in the text.
use Rattle.std.specs.Prelude.{ℕ, List}
use Rattle.formula.specs.declared.Comparison.{Comparison}
use Rattle.formula.specs.declared.Join.{Join}

-- a name, by its bytes, and its place
pub data Word : Type 0 where
  word : List ℕ → ℕ → Word

-- a number and its place
pub data Number : Type 0 where
  num : ℕ → ℕ → Number

-- a number, a name, or a name with `+` or `-` and a number
pub data Term : Type 0 where
  constant : ℕ → Term
  bare : Word → Term
  raised : Word → ℕ → Term
  lowered : Word → ℕ → Term

-- the weights after a join, if they are written
pub data Weights : Type 0 where
  absent : Weights
  given : Number → Number → Weights

-- a comparison, a call, `not`, `pick` or a join; brackets leave no trace
pub data Formula : Type 0 where
  compared : Comparison → Term → Term → Formula
  called : Word → List Term → Formula
  negated : Formula → Formula
  picked : Word → Formula → Formula
  joined : Join → Weights → Formula → Formula → Formula

-- a field line, with the place of its first word
pub data Field : Type 0 where
  field_line : (first : ℕ) (name : Word) (low high : Number) → Field

-- a rule line, with the place of its first word
pub data Rule : Type 0 where
  rule_line : (first : ℕ) (name : Word) (params : List Word) (body : Formula) → Rule

-- the mark line, with the place of its first word
pub data Mark : Type 0 where
  mark_line : (first : ℕ) (body : Formula) → Mark

-- the lines of a sheet
pub data Sheet : Type 0 where
  sheet : List Field → List Rule → Mark → Sheet
