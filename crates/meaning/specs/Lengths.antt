-- How long a trace can be: an entry for each field, and one for each join of the mark line and of the rules
-- that are called.
use Rattle.std.specs.Prelude.{ℕ, suc, ◌+◌, ◌*◌, ◌≤◌, length}
use Rattle.formula.specs.Trees.{Formula, compare, call, negate, pick, join, Sheet}
use Rattle.marks.specs.Sets.{Marks, MarksOf}
use Rattle.meaning.specs.Terms.{fields_of, rules_of, mark_line, body}
use Rattle.meaning.specs.Traces.{Trace}
use Rattle.meaning.specs.Runs.{Outcome, Run}

-- how many joins a formula has
abbrev pub joins : Formula → ℕ
joins (compare l c r) = 0
joins (call r ts) = 0
joins (negate F) = joins F
joins (pick x F) = joins F
joins (join j v w F G) = suc (joins F + joins G)

-- the mark line and each rule have at most J joins
pub record FewJoins (s : Sheet) (J : ℕ) : Type 0 where
  pub marked : joins (mark_line s) ≤ J
  pub ruled : (r : ℕ) → joins (body (rules_of s) r) ≤ J

-- a trace is no longer than the joins of the mark line and of as many calls as there is fuel, and the fields
abbrev pub TracesShort : Type 0
TracesShort =
    (s : Sheet) (fuel : ℕ) (S : Marks)
    → MarksOf (fields_of s) S
    → (J : ℕ)
    → FewJoins s J
    → (t : Trace) (a : Outcome)
    → Run s fuel S t a
    → length t ≤ J * (fuel + 1) + fields_of s
