-- For the contracts of inner functions: what terms and comparisons come to.
use Rattle.std.specs.Prelude.{◌≡◌, ℕ, ◌<◌, true, false, ◌≢◌, List, length, Ok, Err, Result}
use Rattle.formula.specs.declared.Comparison.{Comparison}
use Rattle.formula.specs.Trees.{Term, Rule, compare}
use Rattle.marks.specs.Sets.{Marks, Empty, kept}
use Rattle.marks.specs.Counted.{some, values}
use Rattle.meaning.specs.Traces.{Trace}
use Rattle.meaning.specs.Matching.{Argument, the_field, Resolves, LeavesOne, passing, State, live, dead, Matches}
use Rattle.meaning.specs.Comparisons.{Is}
use Rattle.run.specs.declared.argument.Unsettled.{Unsettled}
use Rattle.run.specs.declared.goal.Argument.{Argument as Held}
use Rattle.run.specs.declared.stop.Stop.{Stop}
use Rattle.run.specs.declared.stop.Stop.TheVariants.{DeadEnd, Spent, Halted}
use Rattle.run.specs.Frames.{argument_of, Okay}
use Rattle.run.specs.Ways.{Way, Took, Halt, Halts}

-- the argument is known to be v, or it is a field that takes other than one number: so many
abbrev pub Knows : (w : ℕ) → Marks → Argument → Result ℕ Unsettled → Type 0
Knows w S a (Ok v) = Is S a v × (v < 1024)
Knows w S a (Err u) =
    (a ≡ the_field u.field) × (u.field < w) × (u.count ≡ length (values w S u.field)) × (u.count ≢ 1)

-- the traces of working out a term
abbrev pub Resolving : List Argument → Marks → Term → Trace → Type 0
Resolving e S x t = (P : Marks) × (a : Argument) × Resolves e S x t P a

-- the term comes to a, and marks are left
pub record ResolvedTo (w : ℕ) (e : List Argument) (S : Marks) (x : Term) (z : Way) (a : Held) (P : Marks)
    (y : Way) : Type 0 where
  pub took : Took z (λ t. Resolves e S x t P (argument_of a)) y
  pub okay : Okay w a
  pub alive : some w P ≡ true

-- the term is worked out, or the run halted
abbrev pub Resolved : ℕ → List Argument → Marks → Term → Way → Result Held Stop → Marks → Way → Type 0
Resolved w e S x z (Ok a) P y = ResolvedTo w e S x z a P y
Resolved w e S x z (Err s) P y = Halts z (Resolving e S x) s y

-- the traces of settling the left of two unknown fields
abbrev pub LeavingOne : Marks → Argument → Argument → Trace → Type 0
LeavingOne S a b t = (P : Marks) × LeavesOne S a b t P

-- some of the marks are left, or it is a dead end
abbrev pub Lives : ℕ → Marks → Result Unit Stop → Type 0
Lives w P (Ok u) = some w P ≡ true
Lives w P (Err DeadEnd) = some w P ≡ false
Lives w P (Err Spent) = ⊥
Lives w P (Err Halted) = ⊥

-- the marks whose field passes: there are some, or it is a dead end
pub record Narrowed (w : ℕ) (S : Marks) (f : ℕ) (c : Comparison) (n : ℕ) (r : Result Unit Stop) (P : Marks)
    : Type 0 where
  pub is : P ≡ kept S f c n
  pub lives : Lives w P r

-- the comparison leaves the set P, which has marks
pub record RelatedTo (w : ℕ) (S : Marks) (a : Argument) (c : Comparison) (b : Argument) (z : Way) (P : Marks)
    (y : Way) : Type 0 where
  pub took : Took z (λ t. (Q : Marks) × LeavesOne S a b t Q × (P ≡ passing Q c a b)) y
  pub alive : some w P ≡ true

-- of two arguments: marks are left that pass, or it is a dead end, or the run halted
abbrev pub Related :
    ℕ → Marks → Argument → Comparison → Argument → Way → Result Unit Stop → Marks → Way → Type 0
Related w S a c b z (Ok u) P y = RelatedTo w S a c b z P y
Related w S a c b z (Err DeadEnd) P y =
    Took z (λ t. (Q : Marks) × LeavesOne S a b t Q × Empty (passing Q c a b)) y
Related w S a c b z (Err Spent) P y = ⊥
Related w S a c b z (Err Halted) P y = Halt z (LeavingOne S a b) y

-- the traces of a comparison with target true, with any fuel
abbrev pub Comparing : List Argument → Term → Comparison → Term → Marks → Trace → Type 0
Comparing e l c r S t =
    (o : ℕ → State) × ((rules : List Rule) (n : ℕ) → Matches rules e (compare l c r) true (live n S) t (o n))

-- the comparison leaves the set P, which has marks
pub record ComparedTo (w : ℕ) (e : List Argument) (l : Term) (c : Comparison) (r : Term) (S : Marks)
    (z : Way) (P : Marks) (y : Way) : Type 0 where
  pub took :
      Took z (λ t. (rules : List Rule) (n : ℕ) → Matches rules e (compare l c r) true (live n S) t (live n P)) y
  pub alive : some w P ≡ true

-- marks are left, or it is a dead end, or the run halted
abbrev pub Compared :
    ℕ → List Argument → Term → Comparison → Term → Marks → Way → Result Unit Stop → Marks → Way → Type 0
Compared w e l c r S z (Ok u) P y = ComparedTo w e l c r S z P y
Compared w e l c r S z (Err DeadEnd) P y =
    Took z (λ t. (rules : List Rule) (n : ℕ) → Matches rules e (compare l c r) true (live n S) t dead) y
Compared w e l c r S z (Err Spent) P y = ⊥
Compared w e l c r S z (Err Halted) P y = Halt z (Comparing e l c r S) y
