-- What a run along recorded entries answers, and when it is refused; and the same of a run by the numbers of a
-- source.
use Rattle.std.specs.Prelude.{◌≡◌, ℕ, ◌+◌, ◌≤◌, true, ◌≢◌, ◌⊎◌, List, [], ◌∷◌, ◌++◌, length, take, drop, Some, None, Ok, Err, Option, Result}
use Rattle.formula.specs.Trees.{Sheet}
use Rattle.refusal.specs.declared.Refusal.{Refusal}
use Rattle.refusal.specs.Table.{number}
use Rattle.marks.specs.Sets.{Marks}
use Rattle.meaning.specs.Terms.{fields_of}
use Rattle.meaning.specs.Traces.{width, took, Trace}
use Rattle.meaning.specs.Runs.{Outcome, mark, dead_end, spent_run, Run}
use Rattle.run.specs.Rooms.{needed_entries}
use Rattle.run.specs.declared.answer.Ended.{Ended}
use Rattle.run.specs.declared.answer.Ended.TheVariants.{Mark, DeadEnd, Spent}
use Rattle.run.specs.declared.answer.Ran.{Ran}
use Rattle.run.specs.Guides.{Guide, recorded, Guided, entries}
use Rattle.meaning.specs.Draws.{Drawn, ran, dry, Draws}

-- the sheet and the fuel of a run, and the number of fields and the starting set of its store
pub record Setting : Type 0 where
  pub sheet : Sheet
  pub fuel : ℕ
  pub fields : ℕ
  pub starting : Marks

-- the setting of these four
abbrev pub setting : Sheet → ℕ → ℕ → Marks → Setting
setting s n w S = record { sheet = s; fuel = n; fields = w; starting = S }

-- the lists that a caller lends: the two trace lists and the mark list; of the lists of goals and frames
-- only the lengths matter
pub record Lists : Type 0 where
  pub picks : List ℕ
  pub widths : List ℕ
  pub mark : List ℕ
  pub goals : ℕ
  pub frames : ℕ

-- the lists of these contents and lengths
abbrev pub lists : List ℕ → List ℕ → List ℕ → ℕ → ℕ → Lists
lists ps ws m g f = record { picks = ps; widths = ws; mark = m; goals = g; frames = f }

-- the trace lists and the goals have the entries that they need, the frames fuel + 1, the mark one for each field,
-- and the given entries stand in the trace lists
pub record LongEnough (fuel fields given : ℕ) (l : Lists) : Type 0 where
  pub picks : needed_entries fuel ≤ length l.picks
  pub widths : needed_entries fuel ≤ length l.widths
  pub goals : needed_entries fuel ≤ l.goals
  pub frames : fuel + 1 ≤ l.frames
  pub mark : fields ≤ length l.mark
  pub given_picks : given ≤ length l.picks
  pub given_widths : given ≤ length l.widths

-- xs in front, and past it what ys holds there
abbrev pub over : List ℕ → List ℕ → List ℕ
over xs ys = xs ++ drop (length xs) ys

-- the picks of a trace, in order
abbrev pub picks_of : Trace → List ℕ
picks_of [] = []
picks_of (took k c ∷ t) = k ∷ picks_of t

-- the widths of a trace, in order
abbrev pub widths_of : Trace → List ℕ
widths_of [] = []
widths_of (took k c ∷ t) = width c ∷ widths_of t

-- the mark list at the end: a mark fills its front, and nothing else writes there
abbrev pub filled : Outcome → List ℕ → List ℕ
filled (mark m) ys = over m ys
filled dead_end ys = ys
filled spent_run ys = ys

-- the outcome that an answer tells; a mark stands in front of the mark list, a number for each field
abbrev pub outcome_of : Ended → (fields : ℕ) (marked : List ℕ) → Outcome
outcome_of Mark n m = mark (take n m)
outcome_of DeadEnd n m = dead_end
outcome_of Spent n m = spent_run

-- both trace lists hold the trace in front, and past it what they held
pub record Written (before : Lists) (t : Trace) (after : Lists) : Type 0 where
  pub picks : after.picks ≡ over (picks_of t) before.picks
  pub widths : after.widths ≡ over (widths_of t) before.widths

-- the run that follows the guide g to its end; the lists hold its trace, and there is no other such run
pub record Runs (s : Setting) (g : Guide) (before : Lists) (a : Ran Ended) (after : Lists) : Type 0 where
  pub trace : Trace
  pub outcome : Outcome
  pub run : Run s.sheet s.fuel s.starting trace outcome
  pub guided : Guided g trace (recorded [])
  pub only :
      (t : Trace) (o : Outcome)
      → Run s.sheet s.fuel s.starting t o
      → Guided g t (recorded [])
      → (t ≡ trace) × (o ≡ outcome)
  pub long : a.length ≡ length trace
  pub written : Written before trace after
  pub told : outcome_of a.ended s.fields after.mark ≡ outcome
  pub marked : after.mark ≡ filled outcome before.mark

-- the trace lists and the mark list are as they were
pub record Untouched (before after : Lists) : Type 0 where
  pub picks : after.picks ≡ before.picks
  pub widths : after.widths ≡ before.widths
  pub mark : after.mark ≡ before.mark

-- the store and the sheet have equally many fields
abbrev pub SameFields : Setting → Type 0
SameFields s = s.fields ≡ fields_of s.sheet

-- the first entries of the trace lists, as many as are given, as a guide
abbrev pub first_entries : (given : ℕ) → Lists → Guide
first_entries given l = recorded (entries l.picks l.widths 0 given)

-- the refusals that come before a run, with the number
pub data Barred (s : Setting) (given : ℕ) (l : Lists) (k : ℕ) : Type 0 where
  -- 12: store and sheet differ in fields
  fields_differ :
      k ≡ 12
      → (SameFields s → ⊥)
      → Barred s given l k
  -- 13: a list is too short
  list_short :
      k ≡ 13
      → SameFields s
      → (LongEnough s.fuel s.fields given l → ⊥)
      → Barred s given l k

-- whether a run may begin
abbrev pub Admits : {X : Type 0} → Setting → (given : ℕ) → Lists → Result X Refusal → Type 0
Admits s given l (Ok x) = SameFields s × LongEnough s.fuel s.fields given l
Admits s given l (Err e) = Barred s given l (number e) × (number e ≢ 14)

-- 14: no run follows the given entries to their end
pub record Unfit (s : Setting) (given : ℕ) (l : Lists) (k : ℕ) : Type 0 where
  pub number : k ≡ 14
  pub fields : SameFields s
  pub long : LongEnough s.fuel s.fields given l
  pub none :
      (t : Trace) (o : Outcome)
      → Run s.sheet s.fuel s.starting t o
      → Guided (first_entries given l) t (recorded [])
      → ⊥

-- what `follow` answers: the run that follows the given entries to their end, or a refusal that leaves
-- the lists as found
abbrev pub Follows : Setting → (given : ℕ) → Lists → Result (Ran Ended) Refusal → Lists → Type 0
Follows s given before (Ok a) after =
    SameFields s × LongEnough s.fuel s.fields given before
    × Runs s (first_entries given before) before a after
Follows s given before (Err e) after =
    (Barred s given before (number e) ⊎ Unfit s given before (number e)) × Untouched before after

-- each mark of P is one of S
abbrev pub Inside : Marks → Marks → Type 0
Inside P S = (m : List ℕ) → P m ≡ true → S m ≡ true

-- the current set that a call leaves: within the starting set after a run, as it was when no run began
abbrev pub Leaves : {A : Type 0} → (starting before after : Marks) → Result A Refusal → Type 0
Leaves starting before after (Ok a) = Inside after starting
Leaves starting before after (Err e) =
    (number e ≡ 14 → Inside after starting) × (number e ≢ 14 → after ≡ before)

-- what the end of a draw tells: the outcome of a whole run, or dry
abbrev pub drawn_of : Option Ended → (fields : ℕ) (marked : List ℕ) → Drawn
drawn_of (Some a) n m = ran (outcome_of a n m)
drawn_of None n m = dry

-- the mark list at the end of a draw
abbrev pub drawn_filled : Drawn → List ℕ → List ℕ
drawn_filled (ran o) ys = filled o ys
drawn_filled dry ys = ys

-- the one draw from the numbers ns, of which rest still wait; the lists hold its trace
pub record DrawsTo (s : Setting) (ns rest : List ℕ) (before : Lists) (a : Ran (Option Ended)) (after : Lists)
    : Type 0 where
  pub trace : Trace
  pub result : Drawn
  pub draw : Draws s.sheet s.fuel s.starting ns result trace rest
  pub long : a.length ≡ length trace
  pub written : Written before trace after
  pub told : drawn_of a.ended s.fields after.mark ≡ result
  pub marked : after.mark ≡ drawn_filled result before.mark

-- what `draw` answers: the draw from the waiting numbers, or a refusal that takes none and leaves the lists
abbrev pub AnswersDraw :
    Setting → (waiting rest : List ℕ) → Lists → Result (Ran (Option Ended)) Refusal → Lists
    → Type 0
AnswersDraw s ns rest before (Ok a) after =
    SameFields s × LongEnough s.fuel s.fields 0 before × DrawsTo s ns rest before a after
AnswersDraw s ns rest before (Err e) after =
    Barred s 0 before (number e) × Untouched before after × (rest ≡ ns)
