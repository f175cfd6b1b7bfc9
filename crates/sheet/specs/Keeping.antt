-- What every sheet keeps: limits, ranges, known names, calls with their number of terms, and parts before wholes.
use Rattle.std.specs.Prelude.{◌≡◌, ℕ, ◌+◌, ◌<◌, ◌≤◌, max, Bool, true, ◌&&◌, List, [], ◌∷◌, length, ◌==◌, nat_le, nat_lt}
use Rattle.formula.specs.declared.Join.{Join as JoinWord}
use Rattle.formula.specs.declared.Join.TheVariants.{And, Or}
use Rattle.formula.specs.Trees.{Formula, compare, call, negate, pick, join}
use Rattle.sheet.specs.declared.node.Name.{Name}
use Rattle.sheet.specs.declared.node.Name.TheVariants.{Field, Param}
use Rattle.formula.specs.declared.term.Shift.{Shift}
use Rattle.formula.specs.declared.term.Shift.TheVariants.{Up, Down}
use Rattle.sheet.specs.Table.{SheetTerm}
use Rattle.formula.specs.declared.term.Term.TheVariants.{Number, Bare, Moved}
use Rattle.sheet.specs.declared.node.Node.{Node}
use Rattle.sheet.specs.declared.node.Node.TheVariants.{Compare, Call, Not, Pick, Join}
use Rattle.sheet.specs.declared.node.Range.{Range}
use Rattle.sheet.specs.declared.node.Line.{Line}
use Rattle.sheet.specs.Table.{node_at, range_at, line_at, lines_of, formula_at}

-- Counts over formulas

-- each comparison, call, `not`, `pick` and join counts one
abbrev pub size : Formula → ℕ
size (compare t c u) = 1
size (call r ts) = 1
size (negate f) = 1 + size f
size (pick x f) = 1 + size f
size (join j v w f g) = 1 + (size f + size g)

-- how many joins a formula has
abbrev pub joins : Formula → ℕ
joins (compare t c u) = 0
joins (call r ts) = 0
joins (negate f) = joins f
joins (pick x f) = joins f
joins (join j v w f g) = 1 + (joins f + joins g)

-- how many brackets a join needs round it where a unit has to stand
abbrev pub as_unit : JoinWord → ℕ
as_unit j = 1

-- how many it needs as the whole formula of a line
abbrev pub alone : JoinWord → ℕ
alone j = 0

-- how many it needs on the right of a join
abbrev pub right_of : JoinWord → JoinWord → ℕ
right_of And And = 0
right_of And Or = 1
right_of Or And = 1
right_of Or Or = 0

-- how deep `not`, `pick` and the brackets that reading needs nest, where a join needs so many round it
abbrev pub nested : Formula → (JoinWord → ℕ) → ℕ
nested (compare t c u) round = 0
nested (call r ts) round = 0
nested (negate f) round = nested f as_unit + 1
nested (pick x f) round = nested f as_unit + 1
nested (join j v w f g) round = max (nested f as_unit) (nested g (right_of j)) + round j

-- Entries

-- a field below the number of fields, a parameter below that of the line
abbrev pub known_name : (fields params : ℕ) → Name → Bool
known_name fields params (Field f) = nat_lt f fields
known_name fields params (Param p) = nat_lt p params

-- a number of at most 1,023
abbrev pub known_shift : Shift → Bool
known_shift (Up n) = nat_le n 1023
known_shift (Down n) = nat_le n 1023

-- a term with a known name and a number of at most 1,023
abbrev pub known_term : (fields params : ℕ) → SheetTerm → Bool
known_term fields params (Number n) = nat_le n 1023
known_term fields params (Bare b) = known_name fields params b
known_term fields params (Moved b s) = known_name fields params b && known_shift s

-- so for each of some terms
abbrev pub known_terms : (fields params : ℕ) → List SheetTerm → Bool
known_terms fields params [] = true
known_terms fields params (t ∷ ts) = known_term fields params t && known_terms fields params ts

-- a weight from 1 to 1,023
abbrev pub is_weight : ℕ → Bool
is_weight w = nat_le 1 w && nat_le w 1023

-- a part of the entry i: an entry of the same line that stands before it
abbrev pub is_part : (start i : ℕ) → ℕ → Bool
is_part start i a = nat_le start a && nat_lt a i

-- the line l may call the rule r, and r has so many parameters
abbrev pub may_call : (rules : ℕ) → List Line → (l r n : ℕ) → Bool
may_call rules lines l r n = nat_lt r rules && nat_le r l && n == (line_at lines r).params

-- the entry i of line l is in order: its names are known, its calls fit and its parts stand before it
abbrev pub entry_kept : (fields rules : ℕ) → List Line → (l i : ℕ) → Node → Bool
entry_kept fields rules lines l i (Compare t c u) =
    known_term fields (line_at lines l).params t && known_term fields (line_at lines l).params u
entry_kept fields rules lines l i (Call r n ts) =
    may_call rules lines l r n && known_terms fields (line_at lines l).params ts && length ts == 4
entry_kept fields rules lines l i (Not a) = is_part (line_at lines l).start i a
entry_kept fields rules lines l i (Pick b a) =
    known_name fields (line_at lines l).params b && is_part (line_at lines l).start i a
entry_kept fields rules lines l i (Join j v w a b) =
    is_weight v && is_weight w && is_part (line_at lines l).start i a && is_part (line_at lines l).start i b

-- What a sheet keeps

-- LOW is at most HIGH, and HIGH at most 1,023
abbrev pub RangesKept : ℕ → List Range → Type 0
RangesKept fields ranges =
    (i : ℕ) → i < fields → ((range_at ranges i).low ≤ (range_at ranges i).high) × ((range_at ranges i).high ≤ 1023)

-- each line has at most 4 parameters, and entries of the table
abbrev pub LinesKept : ℕ → List Line → Type 0
LinesKept rules lines =
    (l : ℕ) → l ≤ rules
    → ((line_at lines l).params ≤ 4) × ((line_at lines l).start ≤ (line_at lines l).body)
    × ((line_at lines l).body < 256)

-- the entry i is one of the line l
abbrev pub Within : ℕ → List Line → (l i : ℕ) → Type 0
Within rules lines l i = (l ≤ rules) × ((line_at lines l).start ≤ i) × (i ≤ (line_at lines l).body)

-- every entry of every line is in order
abbrev pub EntriesKept : (fields rules : ℕ) → List Line → List Node → Type 0
EntriesKept fields rules lines nodes =
    (l i : ℕ) → Within rules lines l i → entry_kept fields rules lines l i (node_at nodes i) ≡ true

-- the formula of the line l
abbrev pub formula_of : List Line → List Node → ℕ → Formula
formula_of lines nodes l = formula_at nodes (line_at lines l).body

-- each line has at most 16 joins
abbrev pub FewJoins : ℕ → List Line → List Node → Type 0
FewJoins rules lines nodes = (l : ℕ) → l ≤ rules → joins (formula_of lines nodes l) ≤ 16

-- each line nests at most 16 deep
abbrev pub Shallow : ℕ → List Line → List Node → Type 0
Shallow rules lines nodes = (l : ℕ) → l ≤ rules → nested (formula_of lines nodes l) alone ≤ 16

-- the number of formulas in some lines
abbrev pub sizes : List Node → List Line → ℕ
sizes nodes [] = 0
sizes nodes (l ∷ lines) = size (formula_at nodes l.body) + sizes nodes lines

-- there are at most 256 formulas in all
abbrev pub FewFormulas : List Line → Line → List Node → Type 0
FewFormulas rules mark nodes = sizes nodes rules + size (formula_at nodes mark.body) ≤ 256

-- the parts of a sheet keep all of this
pub record PartsKept (ranges : List Range) (rules : List Line) (mark : Line) (nodes : List Node) : Type 0 where
  pub some_fields : (1 ≤ length ranges) × (length ranges ≤ 8)
  pub few_rules : length rules ≤ 16
  pub ranges_kept : RangesKept (length ranges) ranges
  pub lines_kept : LinesKept (length rules) (lines_of rules mark)
  pub mark_plain : mark.params ≡ 0
  pub entries_kept : EntriesKept (length ranges) (length rules) (lines_of rules mark) nodes
  pub few_joins : FewJoins (length rules) (lines_of rules mark) nodes
  pub shallow : Shallow (length rules) (lines_of rules mark) nodes
  pub few_formulas : FewFormulas rules mark nodes
