-- For the contracts of inner functions: what the loop over the goals, and the end of a run, come to.
use Rattle.std.specs.Prelude.{◌≡◌, ℕ, true, List, [], ◌++◌, Ok, Err, Result}
use Rattle.arrayvec.specs.ArrayVec.{ArrayVec}
use Rattle.formula.specs.Trees.{Formula, Rule}
use Rattle.marks.specs.Sets.{Marks}
use Rattle.marks.specs.Counted.{some}
use Rattle.meaning.specs.Traces.{Trace}
use Rattle.meaning.specs.Matching.{State, live, dead, spent, Matches}
use Rattle.meaning.specs.Runs.{Ends}
use Rattle.run.specs.declared.stop.Stop.{Stop}
use Rattle.run.specs.declared.stop.Stop.TheVariants.{DeadEnd, Spent, Halted}
use Rattle.run.specs.Ways.{Way, Took, Halt, Halts}

-- the traces of matching a formula with target true
abbrev pub Matching : List Rule → Formula → ℕ → Marks → Trace → Type 0
Matching rules F n S v = (o : State) × Matches rules [] F true (live n S) v o

-- the formula is matched, and marks are left
pub record Matched (w : ℕ) (rules : List Rule) (F : Formula) (n : ℕ) (S : Marks) (z : Way) (P : Marks)
    (y : Way) : Type 0 where
  pub fuel : ℕ
  pub took : Took z (λ v. Matches rules [] F true (live n S) v (live fuel P)) y
  pub alive : some w P ≡ true

-- what the loop comes to
abbrev pub Worked : ℕ → List Rule → Formula → ℕ → Marks → Way → Result Unit Stop → Marks → Way → Type 0
Worked w rules F n S z (Ok d) P y = Matched w rules F n S z P y
Worked w rules F n S z (Err DeadEnd) P y = Took z (λ v. Matches rules [] F true (live n S) v dead) y
Worked w rules F n S z (Err Spent) P y = Took z (λ v. Matches rules [] F true (live n S) v spent) y
Worked w rules F n S z (Err Halted) P y = Halt z (Matching rules F n S) y

-- the traces of settling c fields from f on
abbrev pub Ending : ℕ → ℕ → Marks → Trace → Type 0
Ending f c S v = (P : Marks) × (vs : List ℕ) × Ends f c S v P vs

-- whatever settles the fields from f on settles all w
abbrev pub EndLeads : (w : ℕ) → Marks → (f c : ℕ) → Marks → List ℕ → Trace → Type 0
EndLeads w S f c P vs v =
    (u : Trace) (Q : Marks) (ws : List ℕ)
    → Ends f c P u Q ws
    → Ends 0 w S (v ++ u) Q (vs ++ ws)

-- the w fields are settled to the numbers, or the run halted
abbrev pub Finished : (w : ℕ) → Marks → Way → Result (ArrayVec ℕ) Stop → Marks → Way → Type 0
Finished w S z (Ok vs) P y = Took z (λ v. Ends 0 w S v P vs.items) y
Finished w S z (Err s) P y = Halts z (Ending 0 w S) s y
