-- The faults of a sheet's names, numbers and counts: 7 to 11, each with its place.
-- A line is judged by the lines above it.
use Rattle.std.specs.Prelude.{◌≡◌, ℕ, ◌+◌, ◌<◌, ◌≤◌, ◌⊎◌, List, [], ◌∷◌, ◌++◌, map, length, take, ◌≢◌}
use Rattle.formula.specs.Trees as tree
use Rattle.grammar.specs.Syntax.{Word, Number, num, Term, constant, bare, raised, lowered, Weights, absent, given, Formula, compared, called, negated, picked, joined, Field, field_line, Rule, rule_line, Mark, mark_line, Sheet, sheet}
use Rattle.grammar.specs.Tables.{place_of, size, Over}
use Rattle.names.specs.Lists.{Stands, In}
use Rattle.names.specs.Names.{spelling, Means, Calls, Resolves}

-- What a formula uses

-- a name in a term or after `pick`; a called name with the number of terms; a weight
pub data Use : Type 0 where
  term : Word → Use
  call : Word → ℕ → Use
  weight : Number → Use

-- the name of a term, if it has one
abbrev pub term_uses : Term → List Use
term_uses (constant n) = []
term_uses (bare w) = term w ∷ []
term_uses (raised w n) = term w ∷ []
term_uses (lowered w n) = term w ∷ []

-- the names of some terms
abbrev pub terms_uses : List Term → List Use
terms_uses [] = []
terms_uses (t ∷ ts) = term_uses t ++ terms_uses ts

-- the weights that are written
abbrev pub weight_uses : Weights → List Use
weight_uses absent = []
weight_uses (given v w) = weight v ∷ weight w ∷ []

-- what a formula uses, in the order of the text
abbrev pub uses : Formula → List Use
uses (compared c t u) = term_uses t ++ term_uses u
uses (called w ts) = call w (length ts) ∷ terms_uses ts
uses (negated f) = uses f
uses (picked w f) = term w ∷ uses f
uses (joined j w f g) = uses f ++ (weight_uses w ++ uses g)

-- the faults of one use, where fs are the fields, rs the rules that may be called and ps the parameters
pub data UseFault (fs : List Field) (rs : List Rule) (ps : List Word) : Use → (number place : ℕ) → Type 0 where
  -- no field and no parameter has the name
  unknown_name :
      {w : Word}
      → ((x : tree.Name) → Means fs ps w x → ⊥)
      → UseFault fs rs ps (term w) 8 (place_of w)
  -- no rule that may be called has the name
  unknown_rule :
      {w : Word} {n : ℕ}
      → ((k : ℕ) (qs : List Word) → Calls rs w k qs → ⊥)
      → UseFault fs rs ps (call w n) 8 (place_of w)
  -- the rule has another number of parameters
  wrong_terms :
      {w : Word} {n k : ℕ} {qs : List Word}
      → Calls rs w k qs
      → (length qs ≢ n)
      → UseFault fs rs ps (call w n) 9 (place_of w)
  zero_weight : {p : ℕ} → UseFault fs rs ps (weight (num 0 p)) 10 p

-- a fault of one of the uses of a formula
abbrev pub FormulaFault : List Field → List Rule → List Word → Formula → (number place : ℕ) → Type 0
FormulaFault fs rs ps f n p = (u : Use) × In Use (uses f) u × UseFault fs rs ps u n p

-- What lines declare

-- the name of a field line
abbrev pub field_name : Field → Word
field_name (field_line p w low high) = w

-- the name of a rule line
abbrev pub rule_name : Rule → Word
rule_name (rule_line p w ps f) = w

-- the names of rules and of their parameters
abbrev pub all_names : List Rule → List Word
all_names [] = []
all_names (rule_line p w ps f ∷ rs) = w ∷ (ps ++ all_names rs)

-- one of the names is spelled like w
abbrev pub Taken : List Word → Word → Type 0
Taken names w = (v : Word) × In Word names v × (spelling v ≡ spelling w)

-- the number of formulas in some rules
abbrev pub sizes : List Rule → ℕ
sizes [] = 0
sizes (rule_line p w ps f ∷ rs) = size f + sizes rs

-- Faults of lines

-- the faults of a field line below the field lines above
pub data FieldFault (above : List Field) : Field → (number place : ℕ) → Type 0 where
  field_taken :
      {p : ℕ} {w : Word} {low high : Number}
      → Taken (map field_name above) w
      → FieldFault above (field_line p w low high) 7 (place_of w)
  wrong_range :
      {p q i low high : ℕ} {w : Word}
      → high < low
      → FieldFault above (field_line p w (num low q) (num high i)) 10 q
  many_fields :
      {p : ℕ} {w : Word} {low high : Number}
      → 8 ≤ length above
      → FieldFault above (field_line p w low high) 11 p

-- the faults of a rule line below the fields fs and the rule lines above
pub data RuleFault (fs : List Field) (above : List Rule) : Rule → (number place : ℕ) → Type 0 where
  -- the rule's name is that of a field, of a rule above or of a parameter of one
  rule_taken :
      {p : ℕ} {w : Word} {ps : List Word} {f : Formula}
      → Taken (map field_name fs ++ all_names above) w
      → RuleFault fs above (rule_line p w ps f) 7 (place_of w)
  -- a parameter's name is that of a field, of a rule above, of its own rule or of a parameter before it
  param_taken :
      {p i : ℕ} {w v : Word} {ps : List Word} {f : Formula}
      → Stands Word ps i v
      → Taken (map field_name fs ++ (map rule_name above ++ (w ∷ take i ps))) v
      → RuleFault fs above (rule_line p w ps f) 7 (place_of v)
  -- the formula is at fault: the rule may call itself and the rules above it
  rule_formula :
      {p n q : ℕ} {w : Word} {ps : List Word} {f : Formula}
      → FormulaFault fs (above ++ (rule_line p w ps f ∷ [])) ps f n q
      → RuleFault fs above (rule_line p w ps f) n q
  many_rules :
      {p : ℕ} {w : Word} {ps : List Word} {f : Formula}
      → 16 ≤ length above
      → RuleFault fs above (rule_line p w ps f) 11 p
  rule_passes :
      {p : ℕ} {w : Word} {ps : List Word} {f : Formula}
      → Over (sizes above) ps f
      → RuleFault fs above (rule_line p w ps f) 11 p

-- the faults of the mark line below the fields fs and the rules rs
pub data MarkFault (fs : List Field) (rs : List Rule) : Mark → (number place : ℕ) → Type 0 where
  mark_formula :
      {p n q : ℕ} {f : Formula}
      → FormulaFault fs rs [] f n q
      → MarkFault fs rs (mark_line p f) n q
  mark_passes :
      {p : ℕ} {f : Formula}
      → Over (sizes rs) [] f
      → MarkFault fs rs (mark_line p f) 11 p

-- Faulty s n p: the sheet s has the fault n at place p
pub data Faulty : Sheet → (number place : ℕ) → Type 0 where
  in_field :
      {fs : List Field} {rs : List Rule} {m : Mark} {i n p : ℕ} {f : Field}
      → Stands Field fs i f
      → FieldFault (take i fs) f n p
      → Faulty (sheet fs rs m) n p
  in_rule :
      {fs : List Field} {rs : List Rule} {m : Mark} {i n p : ℕ} {r : Rule}
      → Stands Rule rs i r
      → RuleFault fs (take i rs) r n p
      → Faulty (sheet fs rs m) n p
  in_mark :
      {fs : List Field} {rs : List Rule} {m : Mark} {n p : ℕ}
      → MarkFault fs rs m n p
      → Faulty (sheet fs rs m) n p

-- a fault n at p comes no later than a fault m at q: by its place, and then by its number
abbrev pub NoLater : (n p m q : ℕ) → Type 0
NoLater n p m q = (p < q) ⊎ ((p ≡ q) × (n ≤ m))

-- the fault that comes first
pub record First (F : (number place : ℕ) → Type 0) (n p : ℕ) : Type 0 where
  pub fault : F n p
  pub least : (m q : ℕ) → F m q → NoLater n p m q

-- the first fault of a sheet
abbrev pub FirstFault : Sheet → (number place : ℕ) → Type 0
FirstFault s = First (Faulty s)

-- the sheet is without fault, and comes to the tree v
pub record Named (s : Sheet) (v : tree.Sheet) : Type 0 where
  pub resolves : Resolves s v
  pub faultless : (n p : ℕ) → Faulty s n p → ⊥

-- A sheet comes to exactly one tree, or it has exactly one first fault, and never both.
abbrev pub OneVerdict : Type 0
OneVerdict =
    (s : Sheet)
    → (((v : tree.Sheet) × Named s v) ⊎ ((n : ℕ) × (p : ℕ) × FirstFault s n p))
    × ((v u : tree.Sheet) → Named s v → Named s u → v ≡ u)
    × ((n p m q : ℕ) → FirstFault s n p → FirstFault s m q → (n ≡ m) × (p ≡ q))
    × ((v : tree.Sheet) (n p : ℕ) → Named s v → FirstFault s n p → ⊥)
