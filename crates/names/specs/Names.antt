-- What the names of a sheet stand for, and what a sheet comes to when its names are replaced by numbers.
use Rattle.std.specs.Prelude.{◌≡◌, ℕ, List, [], ◌∷◌, ◌++◌, length}
use Rattle.formula.specs.declared.Comparison.{Comparison}
use Rattle.formula.specs.declared.Join.{Join}
use Rattle.formula.specs.Trees as tree
use Rattle.grammar.specs.Syntax.{Word, word, Number, num, Term, constant, bare, raised, lowered, Weights, absent, given, Formula, compared, called, negated, picked, joined, Field, field_line, Rule, rule_line, mark_line, Sheet, sheet}
use Rattle.names.specs.Lists.{Stands, Each}

-- the bytes of a name
abbrev pub spelling : Word → List ℕ
spelling (word w p) = w

-- a name stands for a field, or for a parameter of its own line
pub data Means (fs : List Field) (ps : List Word) (w : Word) : tree.Name → Type 0 where
  a_field :
      {i p : ℕ} {v : Word} {low high : Number}
      → Stands Field fs i (field_line p v low high)
      → spelling v ≡ spelling w
      → Means fs ps w (tree.field i)
  a_param :
      {i : ℕ} {v : Word}
      → Stands Word ps i v
      → spelling v ≡ spelling w
      → Means fs ps w (tree.param i)

-- a called name stands for the rule of number k, with parameters qs, among those that may be called
pub data Calls (rs : List Rule) (w : Word) : (k : ℕ) → (qs : List Word) → Type 0 where
  the_rule :
      {k p : ℕ} {v : Word} {qs : List Word} {f : Formula}
      → Stands Rule rs k (rule_line p v qs f)
      → spelling v ≡ spelling w
      → Calls rs w k qs

-- what a term comes to
pub data TermIs (fs : List Field) (ps : List Word) : Term → tree.Term → Type 0 where
  constant_is : {n : ℕ} → TermIs fs ps (constant n) (tree.num n)
  bare_is : {w : Word} {x : tree.Name} → Means fs ps w x → TermIs fs ps (bare w) (tree.bare x)
  raised_is :
      {w : Word} {x : tree.Name} {n : ℕ}
      → Means fs ps w x
      → TermIs fs ps (raised w n) (tree.moved x (tree.up n))
  lowered_is :
      {w : Word} {x : tree.Name} {n : ℕ}
      → Means fs ps w x
      → TermIs fs ps (lowered w n) (tree.moved x (tree.down n))

-- the weight of the left side: 1 when absent
abbrev pub left_weight : Weights → ℕ
left_weight absent = 1
left_weight (given (num v p) w) = v

-- the weight of the right side: 1 when absent
abbrev pub right_weight : Weights → ℕ
right_weight absent = 1
right_weight (given v (num w p)) = w

-- what a formula comes to in a line with parameters ps, which may call the rules rs
pub data FormulaIs (fs : List Field) (rs : List Rule) (ps : List Word) : Formula → tree.Formula → Type 0 where
  compared_is :
      {c : Comparison} {t u : Term} {x y : tree.Term}
      → TermIs fs ps t x
      → TermIs fs ps u y
      → FormulaIs fs rs ps (compared c t u) (tree.compare x c y)
  called_is :
      {w : Word} {ts : List Term} {xs : List tree.Term} {k : ℕ} {qs : List Word}
      → Calls rs w k qs
      → Each Term tree.Term (TermIs fs ps) ts xs
      → FormulaIs fs rs ps (called w ts) (tree.call k xs)
  negated_is :
      {f : Formula} {x : tree.Formula}
      → FormulaIs fs rs ps f x
      → FormulaIs fs rs ps (negated f) (tree.negate x)
  picked_is :
      {w : Word} {n : tree.Name} {f : Formula} {x : tree.Formula}
      → Means fs ps w n
      → FormulaIs fs rs ps f x
      → FormulaIs fs rs ps (picked w f) (tree.pick n x)
  joined_is :
      {j : Join} {w : Weights} {f g : Formula} {x y : tree.Formula}
      → FormulaIs fs rs ps f x
      → FormulaIs fs rs ps g y
      → FormulaIs fs rs ps (joined j w f g) (tree.join j (left_weight w) (right_weight w) x y)

-- what a field line comes to
pub data FieldIs : Field → tree.Range → Type 0 where
  field_is : {p q i low high : ℕ} {w : Word} → FieldIs (field_line p w (num low q) (num high i)) (tree.range low high)

-- what the rules below those of above come to: a rule may call itself and the rules above it
pub data RulesAre (fs : List Field) : (above : List Rule) → List Rule → List tree.Rule → Type 0 where
  no_rules : {above : List Rule} → RulesAre fs above [] []
  one_rule :
      {above : List Rule} {p : ℕ} {w : Word} {ps : List Word} {f : Formula} {x : tree.Formula}
      {rs : List Rule} {ys : List tree.Rule}
      → FormulaIs fs (above ++ (rule_line p w ps f ∷ [])) ps f x
      → RulesAre fs (above ++ (rule_line p w ps f ∷ [])) rs ys
      → RulesAre fs above (rule_line p w ps f ∷ rs) (tree.rule (length ps) x ∷ ys)

-- what a sheet comes to, names aside: the mark line may call every rule
pub data Resolves : Sheet → tree.Sheet → Type 0 where
  resolved :
      {fs : List Field} {rs : List Rule} {p : ℕ} {f : Formula}
      {xs : List tree.Range} {ys : List tree.Rule} {x : tree.Formula}
      → Each Field tree.Range FieldIs fs xs
      → RulesAre fs [] rs ys
      → FormulaIs fs rs [] f x
      → Resolves (sheet fs rs (mark_line p f)) (tree.sheet xs ys x)
