-- A session: a walk is started, and calls are made on it in an order that is given as a list. What it leaves is
-- told by a history of those calls, and by what the law of the walk says of every history.
use Rattle.std.specs.Prelude.{◌≡◌, ℕ, ◌+◌, ◌<◌, ◌≤◌, Bool, true, false, ◌&&◌, ◌||◌, List, [], ◌∷◌, ◌++◌, length, take, drop, Some, None, Ok, Err, Option, Result, slice_index_or}
use Rattle.formula.specs.Trees.{Sheet}
use Rattle.marks.specs.Sets.{Marks}
use Rattle.refusal.specs.declared.Refusal.{Refusal}
use Rattle.meaning.specs.Reading.{Allowed}
use Rattle.meaning.specs.Runs.{Outcome}
use Rattle.meaning.specs.Walks.{WholeWalk}
use Rattle.run.specs.declared.answer.Ended.{Ended}
use Rattle.run.specs.declared.answer.Ran.{Ran}
use Rattle.run.specs.declared.lists.Lists.{Lists as Borrowed}
use Rattle.run.specs.Rooms.{needed_entries}
use Rattle.run.specs.Answering.{Lists, setting, AnswersDraw}
use Rattle.walk.specs.declared.answer.Answer.{Answer}
use Rattle.walk.specs.declared.answer.Answer.TheVariants as answer
use Rattle.walk.specs.declared.answer.Tallies.{Tallies}
use Rattle.std.specs.declared.ops.ControlFlow.{ControlFlow}
use Rattle.std.specs.declared.ops.ControlFlow.TheVariants.{Continue, Break}
use Rattle.walk.specs.declared.state.Walk.{Walk}
use Rattle.walk.specs.Watching.{Watched, watch, Fresh}
use Rattle.walk.specs.Calls.{Reply, gives, finished, lent, Nexts}
use Rattle.walk.specs.Lending.{watch_over, lent_in}
use Rattle.walk.specs.Law as law
use Rattle.walk.specs.Law.{History, Stage, running, closed, outcomes, marks_in, counts, Among, AllDiffer, defined}
use Rattle.client.specs.declared.call.Call.{Call}
use Rattle.client.specs.declared.call.Call.TheVariants as call
use Rattle.client.specs.declared.call.Taken.{Taken}
use Rattle.client.specs.declared.call.Session.{Session}

-- the calls of a history, in order
abbrev pub calls_of : {s : Sheet} {n : ℕ} {w : Watched} {z : Stage} → History s n w z → List Call
calls_of law.none = []
calls_of (law.next h x r marks p) = calls_of h ++ (call.Next ∷ [])
calls_of (law.draw h fuel waiting rest own own' r p e) = calls_of h ++ (call.Draw fuel ∷ [])
calls_of (law.check h m fuel r p) = calls_of h ++ (call.Check fuel ∷ [])
calls_of (law.tally h k p) = calls_of h ++ (call.Tally ∷ [])
calls_of (law.kept h e p) = calls_of h ++ (call.Close ∷ [])
calls_of (law.close h k p) = calls_of h ++ (call.Close ∷ [])

-- the reply of a next that answers finished
abbrev pub finished_reply : Reply
finished_reply = finished

-- whether finished is among some replies
abbrev pub ended : List Reply → Bool
ended [] = false
ended (gives a ∷ rs) = ended rs
ended (finished ∷ rs) = true

-- the numbers of some marks, one mark after the other
abbrev pub joined : List (List ℕ) → List ℕ
joined [] = []
joined (m ∷ ms) = m ++ joined ms

-- the numbers of the marks among some replies
abbrev pub numbers_in : List Reply → List ℕ
numbers_in rs = joined (marks_in (outcomes rs))

-- the list with xs from place k on, and all else as it was
abbrev pub put_at : (k : ℕ) → List ℕ → List ℕ → List ℕ
put_at k xs list = take k list ++ (xs ++ drop (k + length xs) list)

-- what a session has for its calls beside walk, sheet, store and source: the mark that checks read, and how long the
-- lists of goals, of frames and of marks are
pub record Served : Type 0 where
  pub asked : List ℕ
  pub goals : ℕ
  pub frames : ℕ
  pub marks : ℕ

-- the mark asked for, and the lists that are lent
abbrev pub served : (asked : List ℕ) → Borrowed → Served
served m l = record {
  asked = m;
  goals = length l.goals.now;
  frames = length l.frames.now;
  marks = length l.mark.now;
}

-- the lists of a draw: the goals and the frames of the session, and others of its own, long enough whatever the fuel
pub record OwnLists (goals frames : ℕ) (own : Lists) : Type 0 where
  pub goals_are : own.goals ≡ goals
  pub frames_are : own.frames ≡ frames
  pub picks_hold : needed_entries 255 ≤ length own.picks
  pub widths_hold : needed_entries 255 ≤ length own.widths
  pub mark_holds : 8 ≤ length own.mark

-- what the calls of a history were given: each next the lists of goals and of frames, and of the list of marks what is
-- not filled yet; each check the mark asked for; and the draws the source, one after the other, in which first the
-- numbers ns waited and now ns' do
abbrev pub Given :
    {s : Sheet} {n : ℕ} {w : Watched} {z : Stage} → Served → (ns : List ℕ) → History s n w z → (ns' : List ℕ)
    → Type 0
Given v ns law.none ns' = ns' ≡ ns
Given v ns (law.next h x r marks p) ns' =
    Given v ns h ns' × (x.goals ≡ v.goals) × (x.frames ≡ v.frames)
    × (length (numbers_in (law.replies h)) + length x.marks ≡ v.marks)
Given v ns (law.draw h fuel waiting rest own own' r p e) ns' =
    Given v ns h waiting × (ns' ≡ rest) × OwnLists v.goals v.frames own
Given v ns (law.check h m fuel r p) ns' = Given v ns h ns' × (m ≡ v.asked)
Given v ns (law.tally h k p) ns' = Given v ns h ns'
Given v ns (law.kept h e p) ns' = Given v ns h ns'
Given v ns (law.close h k p) ns' = Given v ns h ns'

-- the walk stands over these trace lists where the history ends, or where it was closed
abbrev pub Stands : {s : Sheet} {n : ℕ} {w : Watched} {z : Stage} → History s n w z → (picks widths : List ℕ) → Type 0
Stands {w = w} law.none ps ws = (w.picks ≡ ps) × (w.widths ≡ ws)
Stands (law.next {v' = v'} h x r marks p) ps ws = (v'.picks ≡ ps) × (v'.widths ≡ ws)
Stands (law.draw {v' = v'} h fuel waiting rest own own' r p e) ps ws = (v'.picks ≡ ps) × (v'.widths ≡ ws)
Stands (law.check {v = v} h m fuel r p) ps ws = (v.picks ≡ ps) × (v.widths ≡ ws)
Stands (law.tally {v = v} h k p) ps ws = (v.picks ≡ ps) × (v.widths ≡ ws)
Stands (law.kept {v' = v'} h e p) ps ws = (v'.picks ≡ ps) × (v'.widths ≡ ws)
Stands (law.close {v = v} h k p) ps ws = (v.picks ≡ ps) × (v.widths ≡ ws)

-- from every history that stands at z, whose marks fill k entries and whose draws left the numbers ns, the calls cs lead
-- on to z' and leave ns' and these trace lists, and their nexts reply rs
abbrev pub LeadsOn :
    Sheet → ℕ → Served → (z : Stage) → (k : ℕ) → (ns : List ℕ) → List Call → List Reply → (z' : Stage)
    → (ns' picks widths : List ℕ) → Type 0
LeadsOn s n v z k ns cs rs z' ns' ps ws =
    (w : Watched) (first : List ℕ) (h : History s n w z)
    → Given v first h ns
    → length (numbers_in (law.replies h)) ≡ k
    → (h' : History s n w z') × (calls_of h' ≡ calls_of h ++ cs) × (law.replies h' ≡ law.replies h ++ rs)
    × Given v first h' ns' × Stands h' ps ws

-- the calls cs take a session from z, with what it took, the list of marks and the numbers that wait, to z'
pub record Takes
    (s : Sheet) (n : ℕ) (v : Served) (z : Stage) (t : Taken) (list ns : List ℕ) (cs : List Call) (z' : Stage)
    (t' : Taken) (list' ns' picks widths : List ℕ) : Type 0 where
  pub replies : List Reply
  pub leads_on : LeadsOn s n v z t.entries ns cs replies z' ns' picks widths
  pub entries : t'.entries ≡ t.entries + length (numbers_in replies)
  pub listed : list' ≡ put_at t.entries (numbers_in replies) list
  pub finished : t'.finished ≡ (t.finished || ended replies)

-- what a session has taken after a next over so many fields: a mark fills as many entries more
abbrev pub noted : (fields : ℕ) → Result Answer Refusal → Taken → Taken
noted n (Ok answer.Mark) t = record { entries = t.entries + n; finished = t.finished }
noted n (Ok answer.DeadEnd) t = t
noted n (Ok answer.Spent) t = t
noted n (Ok answer.Finished) t = record { entries = t.entries; finished = true }
noted n (Err e) t = t

-- how a session stands after a call, with the starting set and the trace lists
abbrev pub stage_of : ControlFlow Tallies Walk → Marks → (picks widths : List ℕ) → Stage
stage_of (Continue w) S ps ws = running (watch w S ps ws)
stage_of (Break k) S ps ws = closed k

-- a draw with that fuel was made over a store of n fields with that starting set, and with so many goals and frames
pub record Draws (s : Sheet) (n : ℕ) (starting : Marks) (fuel goals frames : ℕ) (waiting rest : List ℕ)
    : Type 0 where
  pub own : Lists
  pub lists : OwnLists goals frames own
  pub own' : Lists
  pub result : Result (Ran (Option Ended)) Refusal
  pub answers : AnswersDraw (setting s fuel n starting) waiting rest own result own'

-- the closing figures, where there are any, are the counts of the outcomes, and come after finished
abbrev pub FiguresAre : Option Tallies → List Reply → Type 0
FiguresAre None rs = Unit {0}
FiguresAre (Some k) rs = (k ≡ counts (outcomes rs)) × (ended rs ≡ true)

-- the calls that were made: all, or those up to the close that was not refused
abbrev pub CallsMade : Option Tallies → (made given : List Call) → Type 0
CallsMade None made given = made ≡ given
CallsMade (Some k) made given = (rest : List Call) × (given ≡ made ++ rest)

-- what a session with the calls cs leaves, over a store of n fields with the starting set S, where checks read the mark
-- asked for, and the numbers ns waited in the source and ns' do afterwards
pub record Conducted
    (s : Sheet) (n fuel : ℕ) (S : Marks) (asked : List ℕ) (cs : List Call) (before : Borrowed) (ns : List ℕ)
    (r : Session) (after : Borrowed) (ns' : List ℕ) : Type 0 where
  -- a history of those calls on a fresh walk over the trace lists
  pub walk : Walk
  pub fuel_is : walk.fuel ≡ fuel
  pub fresh : Fresh (watch_over walk S before)
  pub stage : Stage
  pub history : History s n (watch_over walk S before) stage
  pub called : CallsMade r.figures (calls_of history) cs
  pub given : Given (served asked before) ns history ns'
  pub stands : Stands history after.picks.now after.widths.now
  -- what it took is what the nexts replied
  pub entries : r.taken.entries ≡ length (numbers_in (law.replies history))
  pub listed : after.mark.now ≡ put_at 0 (numbers_in (law.replies history)) before.mark.now
  pub finished : r.taken.finished ≡ ended (law.replies history)
  pub figures : FiguresAre r.figures (law.replies history)
  -- the nexts replied by the one list of outcomes of the whole walk, from its front
  pub as_defined :
      (l : List Outcome)
      → WholeWalk s fuel S l
      → (k : ℕ)
      → k < length (law.replies history)
      → slice_index_or (law.replies history) k finished_reply ≡ defined l k
  -- the marks all differ, lie in the starting set and read as allowed
  pub differ : AllDiffer (law.issued history)
  pub allowed : (m : List ℕ) → Among m (law.issued history) → (S m ≡ true) × Allowed s fuel m
  -- once finished was answered none is missing
  pub complete :
      r.taken.finished ≡ true
      → (m : List ℕ)
      → S m ≡ true
      → Allowed s fuel m
      → Among m (law.issued history)

-- whether a next issued a mark
abbrev pub issues : Result Answer Refusal → Bool
issues (Ok answer.Mark) = true
issues (Ok answer.DeadEnd) = false
issues (Ok answer.Spent) = false
issues (Ok answer.Finished) = false
issues (Err e) = false

-- Two nexts of a fresh walk, the second with a mark list of its own: whether both issued a mark, and how they leave the
-- two mark lists. So false says that two nexts of a fresh walk over these lists did not both issue one.
pub record TwoNexts
    (s : Sheet) (n fuel : ℕ) (S : Marks) (before : Borrowed) (second_before : List ℕ) (both : Bool)
    (first second : List ℕ) : Type 0 where
  pub walk : Walk
  pub fuel_is : walk.fuel ≡ fuel
  pub fresh : Fresh (watch_over walk S before)
  pub one : Result Answer Refusal
  pub between : Watched
  pub first_next : Nexts s n (watch_over walk S before) (lent_in before) one between first
  pub two : Result Answer Refusal
  pub after : Watched
  pub second_next :
      Nexts s n between (lent (length before.goals.now) (length before.frames.now) second_before) two after second
  pub told : both ≡ (issues one && issues two)
