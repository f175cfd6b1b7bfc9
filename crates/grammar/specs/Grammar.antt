-- The grammar of a sheet, as relations between tokens and what they write.
-- `X xs r a` says: the tokens xs begin with an X, which is a, and go on with r.
use Rattle.std.specs.Prelude.{◌≡◌, ℕ, ◌-◌, ◌<◌, List, [], ◌∷◌}
use Rattle.formula.specs.declared.Comparison.{Comparison}
use Rattle.formula.specs.declared.Join.{Join}
use Rattle.grammar.specs.Syntax.{Word, word, num, Term, constant, bare, raised, lowered, Weights, absent, given, Formula, compared, called, negated, picked, joined, Field, field_line, Rule, rule_line, Mark, mark_line, Sheet, sheet}

-- a token as the grammar sees it: a word that is not reserved is a name
pub data Tok : Type 0 where
  name : List ℕ → Tok
  number : ℕ → Tok
  field rule mark not pick : Tok
  join : Join → Tok
  sign : Comparison → Tok
  opening closing comma semicolon colon plus minus : Tok

-- a token, and the place of its first byte
pub data Placed : Type 0 where
  at : Tok → ℕ → Placed

abbrev pub Tokens : Type 0
Tokens = List Placed

-- items parted by commas, and then the closing bracket
pub data Parted (A : Type 0) (Item : Tokens → Tokens → A → Type 0) : Tokens → Tokens → List A → Type 0 where
  last :
      {xs r : Tokens} {a : A} {p : ℕ}
      → Item xs (at closing p ∷ r) a
      → Parted A Item xs r (a ∷ [])
  next :
      {xs ys r : Tokens} {a : A} {bs : List A} {p : ℕ}
      → Item xs (at comma p ∷ ys) a
      → Parted A Item ys r bs
      → Parted A Item xs r (a ∷ bs)

-- NAMES and TERMS: nothing, or items parted by commas; then the closing bracket
pub data Listed (A : Type 0) (Item : Tokens → Tokens → A → Type 0) : Tokens → Tokens → List A → Type 0 where
  none : {r : Tokens} {p : ℕ} → Listed A Item (at closing p ∷ r) r []
  some : {xs r : Tokens} {bs : List A} → Parted A Item xs r bs → Listed A Item xs r bs

-- a parameter's name
pub data IsName : Tokens → Tokens → Word → Type 0 where
  a_name : {w : List ℕ} {p : ℕ} {r : Tokens} → IsName (at (name w) p ∷ r) r (word w p)

-- a number, a name, or a name with `+` or `-` and a number
pub data IsTerm : Tokens → Tokens → Term → Type 0 where
  a_constant :
      {n p : ℕ} {r : Tokens}
      → IsTerm (at (number n) p ∷ r) r (constant n)
  a_bare :
      {w : List ℕ} {p : ℕ} {r : Tokens}
      → IsTerm (at (name w) p ∷ r) r (bare (word w p))
  a_sum :
      {w : List ℕ} {n p q i : ℕ} {r : Tokens}
      → IsTerm (at (name w) p ∷ at plus q ∷ at (number n) i ∷ r) r (raised (word w p) n)
  a_difference :
      {w : List ℕ} {n p q i : ℕ} {r : Tokens}
      → IsTerm (at (name w) p ∷ at minus q ∷ at (number n) i ∷ r) r (lowered (word w p) n)

-- weights `N : N` may stand
pub data IsWeights : Tokens → Tokens → Weights → Type 0 where
  no_weights : {r : Tokens} → IsWeights r r absent
  weights :
      {v w p q i : ℕ} {r : Tokens}
      → IsWeights (at (number v) p ∷ at colon q ∷ at (number w) i ∷ r) r (given (num v p) (num w i))

-- the joins that may stand at a level: any, or those like the one before
pub data Level : Type 0 where
  any : Level
  only : Join → Level

-- the limits on formulas: kept, or lifted, as they are to tell why a token cannot stand
pub data Limits : Type 0 where
  strict loose : Limits

-- one more level may be opened where d are left; loosely, always
abbrev pub Deeper : Limits → ℕ → Type 0
Deeper strict d = 0 < d
Deeper loose d = Unit {0}

-- the join j may stand at the level; loosely, joins mix
abbrev pub Fits : Limits → Level → Join → Type 0
Fits strict any j = Unit {0}
Fits strict (only k) j = k ≡ j
Fits loose l j = Unit {0}

-- what is read: a unit, or a formula at a level
pub data Kind : Type 0 where
  unit : Kind
  formula : Level → Kind

-- ReadsBy L k d xs r f: xs begins with a unit or a formula, in which brackets, `not` and `pick` nest at most d deep
pub data ReadsBy (L : Limits) : Kind → ℕ → Tokens → Tokens → Formula → Type 0 where
  -- a term, a sign and a term
  a_comparison :
      {d p : ℕ} {xs ys r : Tokens} {t u : Term} {c : Comparison}
      → IsTerm xs (at (sign c) p ∷ ys) t
      → IsTerm ys r u
      → ReadsBy L unit d xs r (compared c t u)
  -- a name and terms in brackets
  a_call :
      {d p q : ℕ} {w : List ℕ} {ys r : Tokens} {ts : List Term}
      → Listed Term IsTerm ys r ts
      → ReadsBy L unit d (at (name w) p ∷ at opening q ∷ ys) r (called (word w p) ts)
  -- `not` and a unit
  a_not :
      {d p : ℕ} {ys r : Tokens} {f : Formula}
      → Deeper L d
      → ReadsBy L unit (d - 1) ys r f
      → ReadsBy L unit d (at not p ∷ ys) r (negated f)
  -- `pick`, a name and a unit
  a_pick :
      {d p q : ℕ} {w : List ℕ} {ys r : Tokens} {f : Formula}
      → Deeper L d
      → ReadsBy L unit (d - 1) ys r f
      → ReadsBy L unit d (at pick p ∷ at (name w) q ∷ ys) r (picked (word w q) f)
  -- a formula in brackets
  brackets :
      {d p q : ℕ} {ys r : Tokens} {f : Formula}
      → Deeper L d
      → ReadsBy L (formula any) (d - 1) ys (at closing q ∷ r) f
      → ReadsBy L unit d (at opening p ∷ ys) r f
  -- a formula that is one unit
  alone :
      {d : ℕ} {l : Level} {xs r : Tokens} {f : Formula}
      → ReadsBy L unit d xs r f
      → ReadsBy L (formula l) d xs r f
  -- a unit, a join, weights if any, and a formula with joins of that kind only
  a_join :
      {d p : ℕ} {l : Level} {xs ys zs r : Tokens} {f g : Formula} {w : Weights} {j : Join}
      → ReadsBy L unit d xs (at (join j) p ∷ ys) f
      → Fits L l j
      → IsWeights ys zs w
      → ReadsBy L (formula (only j)) d zs r g
      → ReadsBy L (formula l) d xs r (joined j w f g)

-- `field NAME LOW HIGH ;`
pub data IsField : Tokens → Tokens → Field → Type 0 where
  a_field :
      {w : List ℕ} {l h p q i k e : ℕ} {r : Tokens}
      → IsField
      (at field p ∷ at (name w) q ∷ at (number l) i ∷ at (number h) k ∷ at semicolon e ∷ r) r
      (field_line p (word w q) (num l i) (num h k))

-- `rule NAME ( NAMES ) : FORMULA ;`
pub data RuleBy (L : Limits) : Tokens → Tokens → Rule → Type 0 where
  a_rule :
      {w : List ℕ} {p q i k e : ℕ} {ys zs r : Tokens} {ps : List Word} {f : Formula}
      → Listed Word IsName ys (at colon k ∷ zs) ps
      → ReadsBy L (formula any) 16 zs (at semicolon e ∷ r) f
      → RuleBy L (at rule p ∷ at (name w) q ∷ at opening i ∷ ys) r (rule_line p (word w q) ps f)

-- `mark FORMULA ;`
pub data MarkBy (L : Limits) : Tokens → Tokens → Mark → Type 0 where
  a_mark :
      {p e : ℕ} {ys r : Tokens} {f : Formula}
      → ReadsBy L (formula any) 16 ys (at semicolon e ∷ r) f
      → MarkBy L (at mark p ∷ ys) r (mark_line p f)

-- lines of one kind, if any
pub data Many (A : Type 0) (Item : Tokens → Tokens → A → Type 0) : Tokens → Tokens → List A → Type 0 where
  done : {r : Tokens} → Many A Item r r []
  line :
      {xs ys r : Tokens} {a : A} {bs : List A}
      → Item xs ys a
      → Many A Item ys r bs
      → Many A Item xs r (a ∷ bs)

-- one or more field lines, then rule lines if any, then one mark line, and nothing more
pub data SheetBy (L : Limits) : Tokens → Sheet → Type 0 where
  a_sheet :
      {xs ys zs us : Tokens} {f : Field} {fs : List Field} {rs : List Rule} {m : Mark}
      → IsField xs ys f
      → Many Field IsField ys zs fs
      → Many Rule (RuleBy L) zs us rs
      → MarkBy L us [] m
      → SheetBy L xs (sheet (f ∷ fs) rs m)

-- The grammar of a sheet keeps the limits.

abbrev pub Reads : Kind → ℕ → Tokens → Tokens → Formula → Type 0
Reads = ReadsBy strict

abbrev pub IsRule : Tokens → Tokens → Rule → Type 0
IsRule = RuleBy strict

abbrev pub IsMark : Tokens → Tokens → Mark → Type 0
IsMark = MarkBy strict

abbrev pub IsSheet : Tokens → Sheet → Type 0
IsSheet = SheetBy strict
