-- What the entries of a sheet's table stand for: the formulas of the sheet, names aside.
use Rattle.std.specs.Prelude.{◌≡◌, ℕ, zero, suc, ◌<◌, List, [], ◌∷◌, ◌++◌, map, take, slice_index_or}
use Rattle.formula.specs.declared.Comparison.{Comparison}
use Rattle.formula.specs.declared.Comparison.TheVariants.{Equal}
use Rattle.formula.specs.declared.Join.{Join as JoinWord}
use Rattle.formula.specs.Trees as tree
use Rattle.sheet.specs.declared.node.Name.{Name}
use Rattle.sheet.specs.declared.node.Name.TheVariants.{Field, Param}
use Rattle.formula.specs.declared.term.Term.{Term}
use Rattle.formula.specs.declared.term.Term.TheVariants.{Number, Bare, Moved}
pub use Rattle.formula.specs.Shifting.{shift_of}
use Rattle.sheet.specs.declared.node.Node.{Node}
use Rattle.sheet.specs.declared.node.Node.TheVariants.{Compare, Call, Not, Pick, Join}
use Rattle.sheet.specs.declared.node.Range.{Range}
use Rattle.sheet.specs.declared.node.Line.{Line}

-- a name by its number
abbrev pub name_of : Name → tree.Name
name_of (Field f) = tree.field f
name_of (Param p) = tree.param p

-- a term whose name is the number of a field or parameter
abbrev pub SheetTerm : Type 0
SheetTerm = Term Name

-- a term
abbrev pub term_of : SheetTerm → tree.Term
term_of (Number n) = tree.num n
term_of (Bare b) = tree.bare (name_of b)
term_of (Moved b s) = tree.moved (name_of b) (shift_of s)

-- the entry of that number
abbrev pub node_at : List Node → ℕ → Node
node_at nodes i = slice_index_or nodes i (Compare (Number 0) Equal (Number 0))

-- the range of the field of that number
abbrev pub range_at : List Range → ℕ → Range
range_at ranges i = slice_index_or ranges i (record { low = 0; high = 0 })

-- the line of that number
abbrev pub line_at : List Line → ℕ → Line
line_at lines l = slice_index_or lines l (record { params = 0; start = 0; body = 0 })

-- all lines: the rules, and then the mark line
abbrev pub lines_of : List Line → Line → List Line
lines_of rules mark = rules ++ mark ∷ []

-- Holds nodes i f: the entry i of the table holds the formula f, whose parts are held by entries before it
pub data Holds (nodes : List Node) : ℕ → tree.Formula → Type 0 where
  a_comparison :
      {i : ℕ} {c : Comparison} {t u : SheetTerm} {x y : tree.Term}
      → node_at nodes i ≡ Compare t c u
      → term_of t ≡ x
      → term_of u ≡ y
      → Holds nodes i (tree.compare x c y)
  a_call :
      {i r n : ℕ} {ts : List SheetTerm} {xs : List tree.Term}
      → node_at nodes i ≡ Call r n ts
      → map term_of (take n ts) ≡ xs
      → Holds nodes i (tree.call r xs)
  a_not :
      {i a : ℕ} {f : tree.Formula}
      → node_at nodes i ≡ Not a
      → a < i
      → Holds nodes a f
      → Holds nodes i (tree.negate f)
  a_pick :
      {i a : ℕ} {b : Name} {x : tree.Name} {f : tree.Formula}
      → node_at nodes i ≡ Pick b a
      → name_of b ≡ x
      → a < i
      → Holds nodes a f
      → Holds nodes i (tree.pick x f)
  a_join :
      {i v w a b : ℕ} {j : JoinWord} {f g : tree.Formula}
      → node_at nodes i ≡ Join j v w a b
      → a < i
      → b < i
      → Holds nodes a f
      → Holds nodes b g
      → Holds nodes i (tree.join j v w f g)

-- the formula of an entry, where parts gives the formulas of its parts
abbrev pub whole : (parts : ℕ → tree.Formula) → Node → tree.Formula
whole parts (Compare t c u) = tree.compare (term_of t) c (term_of u)
whole parts (Call r n ts) = tree.call r (map term_of (take n ts))
whole parts (Not a) = tree.negate (parts a)
whole parts (Pick b a) = tree.pick (name_of b) (parts a)
whole parts (Join j v w a b) = tree.join j v w (parts a) (parts b)

-- the formula of an entry, looked into n levels deep
unfoldable pub formula_within : ℕ → List Node → ℕ → tree.Formula
formula_within zero nodes i = tree.compare (tree.num 0) Equal (tree.num 0)
formula_within (suc n) nodes i = whole (formula_within n nodes) (node_at nodes i)

-- the formula that the entry of that number holds: parts stand before the whole, so 256 levels are enough
unfoldable pub formula_at : List Node → ℕ → tree.Formula
formula_at nodes i = formula_within 256 nodes i
