-- A sheet by its meaning: the tree that the tables stand for, and the rules that every sheet keeps, over that tree.
use Rattle.std.specs.Prelude.{◌≡◌, ℕ, suc, ◌+◌, ◌<◌, ◌≤◌, List, [], ◌∷◌, map, length, slice_index_or}
use Rattle.formula.specs.declared.Comparison.TheVariants.{Equal}
use Rattle.formula.specs.Trees as tree
use Rattle.sheet.specs.declared.node.Node.{Node}
use Rattle.sheet.specs.declared.node.Range.{Range}
use Rattle.sheet.specs.declared.node.Line.{Line}
use Rattle.sheet.specs.declared.table.Sheet.{Sheet}
use Rattle.sheet.specs.Table.{Holds, formula_at, lines_of}
use Rattle.sheet.specs.Keeping.{Within, size, joins, nested, alone}

-- the range of a field
abbrev pub range_of : Range → tree.Range
range_of r = tree.range r.low r.high

-- a rule: how many parameters it has, and its formula
abbrev pub rule_of : List Node → Line → tree.Rule
rule_of nodes l = tree.rule l.params (formula_at nodes l.body)

-- the tree that the parts of a sheet stand for
abbrev pub tree_of_parts : List Range → List Line → Line → List Node → tree.Sheet
tree_of_parts ranges rules mark nodes =
    tree.sheet (map range_of ranges) (map (rule_of nodes) rules) (formula_at nodes mark.body)

-- the tree that a sheet stands for
unfoldable pub tree_of : Sheet → tree.Sheet
tree_of s = tree_of_parts s.ranges.items s.rules.items s.mark s.nodes

-- the lines of a sheet: the rules, and then the mark line
abbrev pub lines_in : Sheet → List Line
lines_in s = lines_of s.rules.items s.mark

-- one field 0 to 0, and the mark `0 = 1`
abbrev pub blank_tree : tree.Sheet
blank_tree = tree.sheet (tree.range 0 0 ∷ []) [] (tree.compare (tree.num 0) Equal (tree.num 1))

-- The rules of a sheet

-- a field of the sheet, or a parameter of the line
abbrev pub KnownName : (fields params : ℕ) → tree.Name → Type 0
KnownName fields params (tree.field f) = f < fields
KnownName fields params (tree.param p) = p < params

-- a number of at most 1,023
abbrev pub KnownShift : tree.Shift → Type 0
KnownShift (tree.up n) = n ≤ 1023
KnownShift (tree.down n) = n ≤ 1023

-- a known name, and a number of at most 1,023
abbrev pub KnownTerm : (fields params : ℕ) → tree.Term → Type 0
KnownTerm fields params (tree.num n) = n ≤ 1023
KnownTerm fields params (tree.bare x) = KnownName fields params x
KnownTerm fields params (tree.moved x s) = KnownName fields params x × KnownShift s

-- so for each of some terms
abbrev pub KnownTerms : (fields params : ℕ) → List tree.Term → Type 0
KnownTerms fields params [] = Unit {0}
KnownTerms fields params (t ∷ ts) = KnownTerm fields params t × KnownTerms fields params ts

-- how many parameters a rule has
abbrev pub params_of : tree.Rule → ℕ
params_of (tree.rule n f) = n

-- the formula of a rule
abbrev pub body_of : tree.Rule → tree.Formula
body_of (tree.rule n f) = f

-- a rule that is not there
abbrev pub no_rule : tree.Rule
no_rule = tree.rule 0 (tree.compare (tree.num 0) Equal (tree.num 0))

-- a formula of a line with so many parameters, which may call the rules below that number: its names are known,
-- each call has as many terms as the rule has parameters, and weights are 1 to 1,023
abbrev pub KeptFormula : (fields : ℕ) → List tree.Rule → (callable params : ℕ) → tree.Formula → Type 0
KeptFormula fields rules callable params (tree.compare t c u) =
    KnownTerm fields params t × KnownTerm fields params u
KeptFormula fields rules callable params (tree.call r ts) =
    (r < callable) × (length ts ≡ params_of (slice_index_or rules r no_rule)) × KnownTerms fields params ts
KeptFormula fields rules callable params (tree.negate f) = KeptFormula fields rules callable params f
KeptFormula fields rules callable params (tree.pick x f) =
    KnownName fields params x × KeptFormula fields rules callable params f
KeptFormula fields rules callable params (tree.join j v w f g) =
    ((1 ≤ v) × (v ≤ 1023)) × ((1 ≤ w) × (w ≤ 1023))
    × KeptFormula fields rules callable params f × KeptFormula fields rules callable params g

-- the line's formula is kept, with at most 16 joins and nesting at most 16 deep
pub record KeptLine (fields : ℕ) (rules : List tree.Rule) (callable params : ℕ) (f : tree.Formula) : Type 0 where
  pub known : KeptFormula fields rules callable params f
  pub few_joins : joins f ≤ 16
  pub shallow : nested f alone ≤ 16

-- LOW is at most HIGH, and HIGH at most 1,023
abbrev pub KeptRange : tree.Range → Type 0
KeptRange (tree.range low high) = (low ≤ high) × (high ≤ 1023)

-- the number of formulas in some rules
abbrev pub sizes_of : List tree.Rule → ℕ
sizes_of [] = 0
sizes_of (tree.rule n f ∷ rules) = size f + sizes_of rules

-- the rules that every sheet keeps: a rule calls itself and rules above it, the mark line any
pub record Kept (ranges : List tree.Range) (rules : List tree.Rule) (mark : tree.Formula) : Type 0 where
  pub some_fields : 1 ≤ length ranges
  pub few_fields : length ranges ≤ 8
  pub ranges_kept : (i : ℕ) → i < length ranges → KeptRange (slice_index_or ranges i (tree.range 0 0))
  pub few_rules : length rules ≤ 16
  pub few_params : (l : ℕ) → l < length rules → params_of (slice_index_or rules l no_rule) ≤ 4
  pub rules_kept :
      (l : ℕ) → l < length rules
      → KeptLine (length ranges) rules (suc l) (params_of (slice_index_or rules l no_rule))
      (body_of (slice_index_or rules l no_rule))
  pub mark_kept : KeptLine (length ranges) rules (length rules) 0 mark
  pub few_formulas : sizes_of rules + size mark ≤ 256

-- so for a sheet
abbrev pub KeptSheet : tree.Sheet → Type 0
KeptSheet (tree.sheet ranges rules mark) = Kept ranges rules mark

-- Laws

-- every sheet keeps the rules
abbrev pub EverySheetKeeps : Type 0
EverySheetKeeps = (s : Sheet) → KeptSheet (tree_of s)

-- every entry of a line holds one formula, that of its number
abbrev pub EntriesHold : Type 0
EntriesHold =
    (s : Sheet) (l i : ℕ)
    → Within (length s.rules.items) (lines_in s) l i
    → Holds s.nodes i (formula_at s.nodes i)
    × ((f : tree.Formula) → Holds s.nodes i f → f ≡ formula_at s.nodes i)
