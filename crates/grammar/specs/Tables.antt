-- What a table stands for: the sheet as written that it holds, line by line, up to a line that passes a count limit.
-- A formula stands in a table as consecutive entries: its parts one after the other, and then the whole.
-- At the end: what the names of a sheet may rely on, of every sheet that is read from the tokens of a text.
use Rattle.std.specs.Prelude.{◌≡◌, ℕ, suc, ◌+◌, ◌<◌, ◌≤◌, max, Bool, true, false, cond, ◌⊎◌, List, [], ◌∷◌, ◌++◌, map, length, take, drop, Option, Some, None, slice_index_or}
use Rattle.formula.specs.declared.Comparison.{Comparison}
use Rattle.formula.specs.declared.Comparison.TheVariants.{Equal}
use Rattle.formula.specs.declared.Join.{Join}
use Rattle.formula.specs.declared.Join.TheVariants.{And, Or}
use Rattle.grammar.specs.declared.few.Few.{Few}
use Rattle.grammar.specs.declared.table.Word.{Word as WordEntry}
use Rattle.grammar.specs.declared.table.Number.{Number as NumberEntry}
use Rattle.formula.specs.declared.term.Shift.TheVariants.{Up, Down}
use Rattle.formula.specs.declared.term.Term.{Term as TermOf}
use Rattle.formula.specs.declared.term.Term.TheVariants as entry
use Rattle.grammar.specs.declared.table.Weights.{Weights as WeightsEntry}
use Rattle.grammar.specs.declared.table.Node.{Node}
use Rattle.grammar.specs.declared.table.Node.TheVariants.{Compared, Called, Negated, Picked, Joined}
use Rattle.grammar.specs.declared.table.FieldLine.{FieldLine}
use Rattle.grammar.specs.declared.table.RuleLine.{RuleLine}
use Rattle.grammar.specs.declared.table.Table.{Table}
use Rattle.grammar.specs.Syntax.{Word, word, Number, num, Term, constant, bare, raised, lowered, Weights, absent, given, Formula, compared, called, negated, picked, joined, Field, field_line, Rule, rule_line, Mark, mark_line, Sheet, sheet}
use Rattle.grammar.specs.Grammar.{any, only, Kind, unit, formula}

-- Words, numbers and terms

-- the name that stands at a span of the text
abbrev pub word_of : List ℕ → WordEntry → Word
word_of text w = word (take w.length (drop w.place text)) w.place

-- a number and its place
abbrev pub number_of : NumberEntry → Number
number_of n = num n.value n.place

-- a term whose name is a span of the text
abbrev pub TermEntry : Type 0
TermEntry = TermOf WordEntry

-- a term, with its name read from the text
abbrev pub term_of : List ℕ → TermEntry → Term
term_of text (entry.Number n) = constant n
term_of text (entry.Bare w) = bare (word_of text w)
term_of text (entry.Moved w (Up n)) = raised (word_of text w) n
term_of text (entry.Moved w (Down n)) = lowered (word_of text w) n

-- the weights after a join, if they are written
abbrev pub weights_of : Option WeightsEntry → Weights
weights_of None = absent
weights_of (Some v) = given (number_of v.left) (number_of v.right)

-- Formulas

-- the entry that stands where none is used
abbrev pub blank_node : Node
blank_node = Compared Equal (entry.Number 0) (entry.Number 0)

-- the entry of that number
abbrev pub node_at : List Node → ℕ → Node
node_at nodes i = slice_index_or nodes i blank_node

-- Entries text nodes start body f: the entries from start to body are the formula f, and body is the whole
pub data Entries (text : List ℕ) (nodes : List Node) : (start body : ℕ) → Formula → Type 0 where
  a_comparison :
      {i : ℕ} {c : Comparison} {t u : TermEntry} {x y : Term}
      → node_at nodes i ≡ Compared c t u
      → term_of text t ≡ x
      → term_of text u ≡ y
      → Entries text nodes i i (compared c x y)
  -- the number of terms is the written one, and the first four are kept
  a_call :
      {i : ℕ} {v : WordEntry} {w : Word} {ts : Few TermEntry} {xs : List Term}
      → node_at nodes i ≡ Called v ts
      → word_of text v ≡ w
      → ts.count ≡ length xs
      → map (term_of text) (take ts.count ts.items) ≡ take 4 xs
      → Entries text nodes i i (called w xs)
  a_not :
      {s a i : ℕ} {f : Formula}
      → node_at nodes i ≡ Negated a
      → i ≡ suc a
      → Entries text nodes s a f
      → Entries text nodes s i (negated f)
  a_pick :
      {s a i : ℕ} {v : WordEntry} {w : Word} {f : Formula}
      → node_at nodes i ≡ Picked v a
      → word_of text v ≡ w
      → i ≡ suc a
      → Entries text nodes s a f
      → Entries text nodes s i (picked w f)
  -- the left part, then the right part, then the join
  a_join :
      {s a b i : ℕ} {j : Join} {v : Option WeightsEntry} {w : Weights} {f g : Formula}
      → node_at nodes i ≡ Joined j v a b
      → weights_of v ≡ w
      → i ≡ suc b
      → Entries text nodes s a f
      → Entries text nodes (suc a) b g
      → Entries text nodes s i (joined j w f g)

-- Count limits

-- each comparison, call, `not`, `pick` and join counts one
abbrev pub size : Formula → ℕ
size (compared c t u) = 1
size (called w ts) = 1
size (negated f) = 1 + size f
size (picked w f) = 1 + size f
size (joined j w f g) = 1 + (size f + size g)

-- how many joins a formula has
abbrev pub joins : Formula → ℕ
joins (compared c t u) = 0
joins (called w ts) = 0
joins (negated f) = joins f
joins (picked w f) = joins f
joins (joined j w f g) = 1 + (joins f + joins g)

-- a line with parameters ps and formula f, below lines with so many formulas, passes a count limit
pub data Over (above : ℕ) (ps : List Word) (f : Formula) : Type 0 where
  many_params : 4 < length ps → Over above ps f
  many_joins : 16 < joins f → Over above ps f
  many_formulas : 256 < above + size f → Over above ps f

-- Lines

-- a field line
abbrev pub field_of : List ℕ → FieldLine → Field
field_of text l = field_line l.first (word_of text l.name) (number_of l.low) (number_of l.high)

-- the field lines of a table
abbrev pub fields_of : List ℕ → Table → List Field
fields_of text t = map (field_of text) t.fields.items

-- the parameters of a rule line
abbrev pub params_of : List ℕ → RuleLine → List Word
params_of text l = map (word_of text) l.params.items

-- the rule lines of a table
abbrev pub rules_of : Table → List RuleLine
rules_of t = t.rules.items

-- Rules text nodes s rs xs e: the lines rs hold the rules xs, none over a limit, in the entries from s to before e
pub data Rules (text : List ℕ) (nodes : List Node) : (s : ℕ) → List RuleLine → List Rule → (e : ℕ) → Type 0 where
  no_rules : {s : ℕ} → Rules text nodes s [] [] s
  a_rule :
      {s p e : ℕ} {l : RuleLine} {ls : List RuleLine} {w : Word} {ps : List Word} {f : Formula} {xs : List Rule}
      → l.first ≡ p
      → word_of text l.name ≡ w
      → params_of text l ≡ ps
      → l.start ≡ s
      → Entries text nodes s l.body f
      → (Over s ps f → ⊥)
      → Rules text nodes (suc l.body) ls xs e
      → Rules text nodes s (l ∷ ls) (rule_line p w ps f ∷ xs) e

-- LinesAbove text t fs rs e: the field and rule lines of the table are fs and rs, none over a limit, in e entries
pub record LinesAbove (text : List ℕ) (t : Table) (fs : List Field) (rs : List Rule) (e : ℕ) : Type 0 where
  pub few_fields : length fs ≤ 8
  pub fields_held : fields_of text t ≡ fs
  pub few_rules : length rs ≤ 16
  pub rules_held : Rules text t.nodes.items 0 (rules_of t) rs e

-- Holds text t s: the table t holds the sheet s
pub data Holds (text : List ℕ) (t : Table) : Sheet → Type 0 where
  -- no line passes a limit: the table has them all
  whole :
      {fs : List Field} {rs : List Rule} {p e : ℕ} {f : Formula}
      → t.over ≡ None
      → LinesAbove text t fs rs e
      → t.mark.first ≡ p
      → t.mark.start ≡ e
      → Entries text t.nodes.items e t.mark.body f
      → (Over e [] f → ⊥)
      → Holds text t (sheet fs rs (mark_line p f))
  -- the ninth field line is the first over a limit
  over_field :
      {fs all : List Field} {rs : List Rule} {m : Mark} {p e : ℕ}
      → t.over ≡ Some p
      → LinesAbove text t fs [] e
      → length fs ≡ 8
      → (w : Word) (low high : Number) (below : List Field)
      → all ≡ fs ++ (field_line p w low high ∷ below)
      → Holds text t (sheet all rs m)
  -- a rule line is the first over a limit: the seventeenth, or one with too many parameters, joins or formulas
  over_rule :
      {fs : List Field} {rs all : List Rule} {p e : ℕ} {ps : List Word} {f : Formula} {m : Mark}
      → t.over ≡ Some p
      → LinesAbove text t fs rs e
      → (16 ≤ length rs) ⊎ Over e ps f
      → (w : Word) (below : List Rule)
      → all ≡ rs ++ (rule_line p w ps f ∷ below)
      → Holds text t (sheet fs all m)
  -- the mark line is the first over a limit
  over_mark :
      {fs : List Field} {rs : List Rule} {p e : ℕ} {f : Formula}
      → t.over ≡ Some p
      → LinesAbove text t fs rs e
      → Over e [] f
      → Holds text t (sheet fs rs (mark_line p f))

-- What every sheet keeps that is read from the tokens of a text

-- whether two joins are of two kinds
abbrev pub differ : Join → Join → Bool
differ And And = false
differ And Or = true
differ Or And = true
differ Or Or = false

-- whether reading needs brackets round a join that stands there
abbrev pub bracketed : Kind → Join → Bool
bracketed unit j = true
bracketed (formula any) j = false
bracketed (formula (only i)) j = differ i j

-- how deep `not`, `pick` and the brackets that reading needs nest in a formula that stands there
abbrev pub nested : Formula → Kind → ℕ
nested (compared c t u) k = 0
nested (called w ts) k = 0
nested (negated f) k = nested f unit + 1
nested (picked w f) k = nested f unit + 1
nested (joined j w f g) k = max (nested f unit) (nested g (formula (only j))) + cond (bracketed k j) 1 0

-- the number of a term is at most 1,023
abbrev pub SmallTerm : Term → Type 0
SmallTerm (constant n) = n ≤ 1023
SmallTerm (bare w) = Unit {0}
SmallTerm (raised w n) = n ≤ 1023
SmallTerm (lowered w n) = n ≤ 1023

-- so for each of some terms
abbrev pub SmallTerms : List Term → Type 0
SmallTerms [] = Unit {0}
SmallTerms (t ∷ ts) = SmallTerm t × SmallTerms ts

-- both weights are at most 1,023
abbrev pub SmallWeights : Weights → Type 0
SmallWeights absent = Unit {0}
SmallWeights (given (num v p) (num w q)) = (v ≤ 1023) × (w ≤ 1023)

-- the numbers of a formula are at most 1,023
abbrev pub SmallFormula : Formula → Type 0
SmallFormula (compared c t u) = SmallTerm t × SmallTerm u
SmallFormula (called w ts) = SmallTerms ts
SmallFormula (negated f) = SmallFormula f
SmallFormula (picked w f) = SmallFormula f
SmallFormula (joined j w f g) = SmallWeights w × SmallFormula f × SmallFormula g

-- the ends of each range are at most 1,023
abbrev pub SmallFields : List Field → Type 0
SmallFields [] = Unit {0}
SmallFields (field_line p w (num l i) (num h k) ∷ fs) = (l ≤ 1023) × (h ≤ 1023) × SmallFields fs

-- a line's formula nests at most 16 deep, and its numbers are at most 1,023
abbrev pub ReadFormula : Formula → Type 0
ReadFormula f = (nested f (formula any) ≤ 16) × SmallFormula f

-- so for each of some rules
abbrev pub ReadRules : List Rule → Type 0
ReadRules [] = Unit {0}
ReadRules (rule_line p w ps f ∷ rs) = ReadFormula f × ReadRules rs

-- the place of a name
abbrev pub place_of : Word → ℕ
place_of (word w p) = p

-- the place of a term's name, if it has one
abbrev pub term_places : Term → List ℕ
term_places (constant n) = []
term_places (bare w) = place_of w ∷ []
term_places (raised w n) = place_of w ∷ []
term_places (lowered w n) = place_of w ∷ []

-- the places of the names of some terms
abbrev pub terms_places : List Term → List ℕ
terms_places [] = []
terms_places (t ∷ ts) = term_places t ++ terms_places ts

-- the places of weights
abbrev pub weights_places : Weights → List ℕ
weights_places absent = []
weights_places (given (num v p) (num w q)) = p ∷ q ∷ []

-- the places of the names and weights of a formula, in the order of the text
abbrev pub formula_places : Formula → List ℕ
formula_places (compared c t u) = term_places t ++ term_places u
formula_places (called w ts) = place_of w ∷ terms_places ts
formula_places (negated f) = formula_places f
formula_places (picked w f) = place_of w ∷ formula_places f
formula_places (joined j w f g) = formula_places f ++ (weights_places w ++ formula_places g)

-- the places of field lines: the first word, the name and LOW of each; and then those of what follows
abbrev pub fields_places : List Field → List ℕ → List ℕ
fields_places [] ps = ps
fields_places (field_line p w (num l i) h ∷ fs) ps = p ∷ place_of w ∷ i ∷ fields_places fs ps

-- the places of rule lines: the first word, the names and weights of each; and then those of what follows
abbrev pub rules_places : List Rule → List ℕ → List ℕ
rules_places [] ps = ps
rules_places (rule_line p w vs f ∷ rs) ps =
    p ∷ place_of w ∷ (map place_of vs ++ (formula_places f ++ rules_places rs ps))

-- every place of a sheet at which a fault of its names or limits can stand, in the order of the text
abbrev pub sheet_places : Sheet → List ℕ
sheet_places (sheet fs rs (mark_line p f)) = fields_places fs (rules_places rs (p ∷ formula_places f))

-- p is below each of the places
abbrev pub BeforeAll : ℕ → List ℕ → Type 0
BeforeAll p [] = Unit {0}
BeforeAll p (q ∷ qs) = (p < q) × BeforeAll p qs

-- each place is below those that follow it
abbrev pub Rising : List ℕ → Type 0
Rising [] = Unit {0}
Rising (p ∷ ps) = BeforeAll p ps × Rising ps

-- there is a field line
abbrev pub SomeFields : List Field → Type 0
SomeFields [] = ⊥
SomeFields (f ∷ fs) = Unit {0}

-- what every sheet keeps that is read from the tokens of a text: a field line, numbers up to 1,023, nesting up to 16,
-- places that rise
abbrev pub WellRead : Sheet → Type 0
WellRead (sheet fs rs (mark_line p f)) =
    SomeFields fs × SmallFields fs × ReadRules rs × ReadFormula f
    × Rising (sheet_places (sheet fs rs (mark_line p f)))
