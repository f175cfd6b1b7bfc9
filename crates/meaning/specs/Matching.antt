-- Matching: how a formula with a target, true or false, narrows a constraint set, the set of marks still
-- possible. A name is known if it stands for a number or for a field that takes one number in the set.
-- Settling an unknown field is a choice among its numbers. A comparison keeps the marks that pass it, and
-- an empty set is a dead end. A call spends one fuel, and with none left the match is spent.
use Rattle.std.specs.Prelude.{◌≡◌, ℕ, zero, suc, ◌<◌, Bool, not, ◌&&◌, ◌≢◌, List, [], ◌∷◌, ◌++◌, length, slice_index, slice_index_or}
use Rattle.formula.specs.declared.Comparison.{Comparison}
use Rattle.formula.specs.declared.Comparison.TheVariants.{Equal}
use Rattle.formula.specs.declared.Join.{Join}
use Rattle.formula.specs.Comparing.{holds}
use Rattle.formula.specs.Trees.{Name, field, param, Shift, Term, num, bare, moved, Formula, compare, call}
use Rattle.formula.specs.Trees.{negate, pick, join, Rule}
use Rattle.marks.specs.Sets.{Marks, Empty, kept, Values}
use Rattle.meaning.specs.Terms.{body, shifted, wants, aimed}
use Rattle.meaning.specs.Traces.{took, among, branch, Trace}

-- what a name stands for in a match: a field, or a number
pub data Argument : Type 0 where
  the_field : ℕ → Argument
  the_number : ℕ → Argument

-- the number of an argument at a mark
abbrev pub at : List ℕ → Argument → ℕ
at m (the_field f) = slice_index m f
at m (the_number n) = n

-- what a name stands for, where the parameters stand for e
abbrev pub argument : (e : List Argument) → Name → Argument
argument e (field f) = the_field f
argument e (param p) = slice_index_or e p (the_number 0)

-- Settles S a t S' v: in the set S, narrowing a to one number takes the trace t, leaves the set S' and gives v
pub data Settles (S : Marks) : Argument → Trace → Marks → ℕ → Type 0 where
  -- a number makes no choice
  number :
      {n : ℕ}
      → Settles S (the_number n) [] S n
  -- nor does a field that takes one number
  known :
      {f v : ℕ}
      → Values S f (v ∷ [])
      → Settles S (the_field f) [] S v
  -- any other field is a choice as wide as its count, and pick k keeps its k-th number from 0
  chosen :
      {f : ℕ} {vs : List ℕ} (k : ℕ)
      → Values S f vs
      → length vs ≢ 1
      → k < length vs
      → Settles S (the_field f) (took k (among (length vs)) ∷ []) (kept S f Equal (slice_index vs k)) (slice_index vs k)

-- Resolves e S r t S' a: the term r comes to the argument a, by the trace t, and leaves the set S'
pub data Resolves (e : List Argument) (S : Marks) : Term → Trace → Marks → Argument → Type 0 where
  -- a number stays a number
  numeral :
      {n : ℕ}
      → Resolves e S (num n) [] S (the_number n)
  -- a bare name stays what it stands for, and is not settled
  as_it_is :
      {x : Name}
      → Resolves e S (bare x) [] S (argument e x)
  -- a name under `+` or `-` is settled
  settled :
      {x : Name} {d : Shift} {t : Trace} {S' : Marks} {v : ℕ}
      → Settles S (argument e x) t S' v
      → Resolves e S (moved x d) t S' (the_number (shifted d v))

-- Passes e S ts t S' d: the terms ts of a call, from left to right, come to the arguments d
pub data Passes (e : List Argument) : Marks → List Term → Trace → Marks → List Argument → Type 0 where
  -- no terms
  no_more :
      {S : Marks}
      → Passes e S [] [] S []
  -- the first term, and then the others
  passes :
      {S : Marks} {r : Term} {rs : List Term} {t u : Trace} {S₁ S₂ : Marks} {a : Argument} {d : List Argument}
      → Resolves e S r t S₁ a
      → Passes e S₁ rs u S₂ d
      → Passes e S (r ∷ rs) (t ++ u) S₂ (a ∷ d)

-- the argument is a field that is not known
abbrev pub Unknown : Marks → Argument → Type 0
Unknown S (the_field f) = (vs : List ℕ) × Values S f vs × (length vs ≢ 1)
Unknown S (the_number n) = ⊥

-- LeavesOne S a b t S': of the two sides a and b of a comparison at most one stays an unknown field
pub data LeavesOne (S : Marks) (a b : Argument) : Trace → Marks → Type 0 where
  -- of two unknown fields the left is settled
  left_first :
      {t : Trace} {S' : Marks} {v : ℕ}
      → Unknown S a
      → Unknown S b
      → Settles S a t S' v
      → LeavesOne S a b t S'
  -- otherwise nothing is
  at_most_one :
      (Unknown S a → Unknown S b → ⊥)
      → LeavesOne S a b [] S

-- the marks of S that pass the comparison of a with b
abbrev pub passing : Marks → Comparison → Argument → Argument → Marks
passing S c a b = λ m. S m && holds c (at m a) (at m b)

-- where a match stands: live with the fuel that is left and its constraint set, at a dead end, or spent
pub data State : Type 0 where
  live : (fuel : ℕ) → Marks → State
  dead : State
  spent : State

-- Lives n S i: a match that comes to the set S with fuel n stands at i
pub data Lives (n : ℕ) (S : Marks) : State → Type 0 where
  -- it lives on while the set has a mark
  some_left :
      (Empty S → ⊥)
      → Lives n S (live n S)
  -- emptiness is a dead end
  none_left :
      Empty S
      → Lives n S dead

-- Matches rules e F b i t o: from i, matching the formula F with target b takes the trace t and comes to o
pub data Matches (rules : List Rule) : List Argument → Formula → Bool → State → Trace → State → Type 0 where
  -- a dead end stays one
  stays_dead :
      {e : List Argument} {F : Formula} {b : Bool}
      → Matches rules e F b dead [] dead
  -- spent stays spent
  stays_spent :
      {e : List Argument} {F : Formula} {b : Bool}
      → Matches rules e F b spent [] spent
  -- a comparison settles fields under `+` or `-`, left before right, then the left of two unknown fields;
  -- it keeps the marks that pass it, or its opposite when the target is false
  compares :
      {e : List Argument} {l : Term} {c : Comparison} {r : Term} {b : Bool} {n : ℕ}
      {S S₁ S₂ S₃ : Marks} {t t₁ t₂ : Trace} {x y : Argument} {o : State}
      → Resolves e S l t S₁ x
      → Resolves e S₁ r t₁ S₂ y
      → LeavesOne S₂ x y t₂ S₃
      → Lives n (passing S₃ (aimed b c) x y) o
      → Matches rules e (compare l c r) b (live n S) (t ++ (t₁ ++ t₂)) o
  -- a call works out its terms, spends one fuel and matches the rule's formula
  calls :
      {e d : List Argument} {r : ℕ} {ts : List Term} {b : Bool} {n : ℕ}
      {S S₁ : Marks} {t u : Trace} {o : State}
      → Passes e S ts t S₁ d
      → Matches rules d (body rules r) b (live n S₁) u o
      → Matches rules e (call r ts) b (live (suc n) S) (t ++ u) o
  -- a call with no fuel left is spent, once its terms are worked out
  calls_out :
      {e d : List Argument} {r : ℕ} {ts : List Term} {b : Bool} {S S₁ : Marks} {t : Trace}
      → Passes e S ts t S₁ d
      → Matches rules e (call r ts) b (live zero S) t spent
  -- `not` turns the target
  negates :
      {e : List Argument} {F : Formula} {b : Bool} {n : ℕ} {S : Marks} {t : Trace} {o : State}
      → Matches rules e F (not b) (live n S) t o
      → Matches rules e (negate F) b (live n S) t o
  -- `pick` settles its name and matches its unit
  picks :
      {e : List Argument} {x : Name} {F : Formula} {b : Bool} {n : ℕ}
      {S S₁ : Marks} {v : ℕ} {t u : Trace} {o : State}
      → Settles S (argument e x) t S₁ v
      → Matches rules e F b (live n S₁) u o
      → Matches rules e (pick x F) b (live n S) (t ++ u) o
  -- `and` with target true, and `or` with target false, match left, then right
  both_sides :
      {e : List Argument} {j : Join} {v w : ℕ} {F G : Formula} {b : Bool} {n : ℕ}
      {S : Marks} {t u : Trace} {i o : State}
      → b ≡ wants j
      → Matches rules e F b (live n S) t i
      → Matches rules e G b i u o
      → Matches rules e (join j v w F G) b (live n S) (t ++ u) o
  -- `or` with target true, and `and` with target false, branch 0: the left side meets the target
  left_side :
      {e : List Argument} {j : Join} {v w : ℕ} {F G : Formula} {b : Bool} {n : ℕ}
      {S : Marks} {t : Trace} {o : State}
      → b ≢ wants j
      → Matches rules e F b (live n S) t o
      → Matches rules e (join j v w F G) b (live n S) (took 0 (branch v w) ∷ t) o
  -- branch 1: the left side fails the target, and then the right side meets it
  right_side :
      {e : List Argument} {j : Join} {v w : ℕ} {F G : Formula} {b : Bool} {n : ℕ}
      {S : Marks} {t u : Trace} {i o : State}
      → b ≢ wants j
      → Matches rules e F (not b) (live n S) t i
      → Matches rules e G b i u o
      → Matches rules e (join j v w F G) b (live n S) (took 1 (branch v w) ∷ (t ++ u)) o
