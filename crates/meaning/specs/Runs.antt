-- One run: the starting set is cut to the ranges of the fields, the formula of the mark line is matched
-- with target true, and at the end the unknown fields are settled in field order. Its outcome is a mark, a
-- dead end, or spent.
use Rattle.std.specs.Prelude.{ℕ, zero, suc, true, ◌&&◌, List, [], ◌∷◌, ◌++◌}
use Rattle.formula.specs.Trees.{Range, Sheet}
use Rattle.marks.specs.Sets.{Marks}
use Rattle.meaning.specs.Terms.{ranges_of, fields_of, rules_of, mark_line}
use Rattle.meaning.specs.Reading.{ranged}
use Rattle.meaning.specs.Traces.{Trace}
use Rattle.meaning.specs.Matching.{the_field, Settles, State, live, dead, spent, Lives, Matches}

-- what a run comes to
pub data Outcome : Type 0 where
  mark : List ℕ → Outcome
  dead_end : Outcome
  spent_run : Outcome

-- Ends f c S t S' vs: the c fields from f on are settled in field order, to the numbers vs
pub data Ends : ℕ → ℕ → Marks → Trace → Marks → List ℕ → Type 0 where
  -- no field is left
  ended :
      {f : ℕ} {S : Marks}
      → Ends f zero S [] S []
  -- the field f, and then the others
  ends :
      {f c v : ℕ} {S S₁ S₂ : Marks} {t u : Trace} {vs : List ℕ}
      → Settles S (the_field f) t S₁ v
      → Ends (suc f) c S₁ u S₂ vs
      → Ends f (suc c) S (t ++ u) S₂ (v ∷ vs)

-- Finishes n o t a: a run of n fields whose match comes to o ends by the trace t with the outcome a
pub data Finishes (n : ℕ) : State → Trace → Outcome → Type 0 where
  -- a live match is settled to its mark
  whole :
      {k : ℕ} {S S₁ : Marks} {t : Trace} {vs : List ℕ}
      → Ends 0 n S t S₁ vs
      → Finishes n (live k S) t (mark vs)
  -- a dead end makes no more choices
  at_dead : Finishes n dead [] dead_end
  -- nor does a spent match
  at_spent : Finishes n spent [] spent_run

-- the marks of S whose numbers lie in their ranges, as keeping each field's range leaves them
abbrev pub inside : Marks → List Range → Marks
inside S rs = λ m. S m && ranged rs 0 m

-- Run s fuel S t a: over the starting set S, a run of the sheet s takes the trace t and has the outcome a
pub data Run (s : Sheet) (fuel : ℕ) (S : Marks) : Trace → Outcome → Type 0 where
  -- it keeps the ranges, matches the mark line, and settles what is unknown
  runs :
      {i o : State} {t u : Trace} {a : Outcome}
      → Lives fuel (inside S (ranges_of s)) i
      → Matches (rules_of s) [] (mark_line s) true i t o
      → Finishes (fields_of s) o u a
      → Run s fuel S (t ++ u) a
