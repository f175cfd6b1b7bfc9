-- For the contracts of inner functions: what a whole run comes to.
use Rattle.std.specs.Prelude.{◌≡◌, ℕ, Bool, true, false, List, Some, None, Ok, Err, Option, Result}
use Rattle.arrayvec.specs.ArrayVec.{ArrayVec}
use Rattle.formula.specs.Trees.{Sheet}
use Rattle.marks.specs.Sets.{Marks}
use Rattle.meaning.specs.Traces.{Trace}
use Rattle.meaning.specs.Runs.{Outcome, mark, dead_end, spent_run, Run}
use Rattle.run.specs.declared.answer.Ended.{Ended}
use Rattle.run.specs.declared.answer.Ended.TheVariants as ended
use Rattle.run.specs.declared.stop.Stop.{Stop}
use Rattle.run.specs.declared.stop.Stop.TheVariants.{DeadEnd, Spent, Halted}
use Rattle.run.specs.Answering.{Lists, LongEnough, Inside, over}
use Rattle.run.specs.Ways.{Way, Took, Halt}

-- a run leaves the number of fields and the starting set of a store, and a current set within the starting set
abbrev pub RunsWithin :
    {X : Type 0} (width : X → ℕ) (starting current : X → Marks) (before after : X)
    → Type 0
RunsWithin width starting current before after =
    (width after ≡ width before) × (starting after ≡ starting before)
    × Inside (current after) (starting before)

-- whether the lists are long enough
abbrev pub Enough : Bool → (fuel fields given : ℕ) → Lists → Type 0
Enough true fuel fields given l = LongEnough fuel fields given l
Enough false fuel fields given l = LongEnough fuel fields given l → ⊥

-- the traces of the runs of a sheet
abbrev pub Running : Sheet → ℕ → Marks → Trace → Type 0
Running s fuel S t = (a : Outcome) × Run s fuel S t a

-- a run to its end, or up to a choice at which no pick is told
abbrev pub Along : Sheet → (fuel : ℕ) → Marks → Way → Result (ArrayVec ℕ) Stop → Way → Type 0
Along s fuel S z (Ok vs) y = Took z (λ t. Run s fuel S t (mark vs.items)) y
Along s fuel S z (Err DeadEnd) y = Took z (λ t. Run s fuel S t dead_end) y
Along s fuel S z (Err Spent) y = Took z (λ t. Run s fuel S t spent_run) y
Along s fuel S z (Err Halted) y = Halt z (Running s fuel S) y

-- the mark list and the answer tell the end; a halted run has no answer, and leaves the mark list
abbrev pub Reported : Result (ArrayVec ℕ) Stop → (before : List ℕ) → Option Ended → (after : List ℕ) → Type 0
Reported (Ok vs) before r after = (r ≡ Some ended.Mark) × (after ≡ over vs.items before)
Reported (Err DeadEnd) before r after = (r ≡ Some ended.DeadEnd) × (after ≡ before)
Reported (Err Spent) before r after = (r ≡ Some ended.Spent) × (after ≡ before)
Reported (Err Halted) before r after = (r ≡ None) × (after ≡ before)
