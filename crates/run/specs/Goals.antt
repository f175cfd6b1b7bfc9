-- For the contracts of inner functions: the stack as goals of the definitions, what the lists hold at each
-- turn, and what one turn comes to.
use Rattle.std.specs.Prelude.{◌≡◌, ℕ, zero, suc, ◌+◌, ◌-◌, ◌*◌, ◌<◌, ◌≤◌, Bool, true, false, not, ◌≢◌, ◌⊎◌, List, [], ◌∷◌, ◌++◌, length, Ok, Err, Result, slice_index_or, slice_set}
use Rattle.formula.specs.declared.Join.{Join}
use Rattle.formula.specs.Trees.{Rule}
use Rattle.formula.specs.Trees.{Term as TermTree}
use Rattle.marks.specs.Sets.{Marks}
use Rattle.marks.specs.Counted.{some}
use Rattle.meaning.specs.Terms.{rules_of, wants}
use Rattle.meaning.specs.Traces.{Choice, Trace}
use Rattle.meaning.specs.Matching.{Argument, Passes, State, live, dead, spent}
use Rattle.meaning.specs.Pending.{goal, Solves, load}
use Rattle.meaning.specs.Pending.{Goal as Waiting}
use Rattle.sheet.specs.Table.{SheetTerm}
use Rattle.formula.specs.declared.term.Term.TheVariants.{Number}
use Rattle.sheet.specs.declared.table.Sheet.{Sheet}
use Rattle.sheet.specs.Table.{term_of, line_at, formula_at}
use Rattle.sheet.specs.Keeping.{Within, size}
use Rattle.sheet.specs.Sheets.{tree_of, sizes_of, lines_in}
use Rattle.run.specs.declared.goal.Goal.{Goal}
use Rattle.run.specs.declared.goal.Frame.{Frame}
use Rattle.run.specs.declared.stack.Depth.{Depth}
use Rattle.run.specs.declared.stack.Stack.{Stack}
use Rattle.run.specs.declared.stop.Stop.{Stop}
use Rattle.run.specs.declared.stop.Stop.TheVariants.{DeadEnd, Spent, Halted}
use Rattle.run.specs.declared.turn.Sides.{Sides}
use Rattle.run.specs.declared.turn.Sides.TheVariants.{Left, Both}
use Rattle.run.specs.Frames.{arguments_of, FrameOkay, TermOkay}
use Rattle.run.specs.Ways.{Way, Took, Halt, Halts, Chosen}

-- Calls

-- at most four terms, in order for w fields and k parameters
abbrev pub TermsOkay : (w k : ℕ) → List SheetTerm → Type 0
TermsOkay w k ts = (length ts ≤ 4) × ((j : ℕ) → j < length ts → TermOkay w k (slice_index_or ts j (Number 0)))

-- n terms from place i on
abbrev pub from : List SheetTerm → ℕ → ℕ → List TermTree
from ts i zero = []
from ts i (suc n) = term_of (slice_index_or ts i (Number 0)) ∷ from ts (suc i) n

-- the traces of passing terms
abbrev pub Passing : List Argument → Marks → List TermTree → Trace → Type 0
Passing e S ts v = (P : Marks) × (d : List Argument) × Passes e S ts v P d

-- the n terms are the arguments of the frame f, and marks are left
pub record PassedAs (w : ℕ) (e : List Argument) (S : Marks) (ts : List TermTree) (n : ℕ) (z : Way) (f : Frame)
    (P : Marks) (y : Way) : Type 0 where
  pub took : Took z (λ v. Passes e S ts v P (arguments_of f)) y
  pub okay : FrameOkay w f
  pub count : f.count ≡ n
  pub alive : some w P ≡ true

-- the terms are passed, or the run halted
abbrev pub Passed : ℕ → List Argument → Marks → List TermTree → ℕ → Way → Result Frame Stop → Marks → Way → Type 0
Passed w e S ts n z (Ok f) P y = PassedAs w e S ts n z f P y
Passed w e S ts n z (Err s) P y = Halts z (Passing e S ts) s y

-- whatever passes the terms us from there passes the terms ts
abbrev pub PassLeads : List Argument → Marks → List TermTree → Marks → List TermTree → Frame → Trace → Type 0
PassLeads e S ts P us f v =
    (u : Trace) (Q : Marks) (d : List Argument)
    → Passes e P us u Q d
    → Passes e S ts (v ++ u) Q (arguments_of f ++ d)

-- The stack

-- what a read past the goals answers
abbrev pub no_goal : Goal
no_goal = record { formula = 0; target = false; frame = 0 }

-- what a read past the frames answers
abbrev pub no_frame : Frame
no_frame = record { arguments = []; count = 0 }

-- the lists of goals and frames, and how far the run has come
pub record Spot : Type 0 where
  pub goals : List Goal
  pub frames : List Frame
  pub depth : Depth

-- the spot of these three
abbrev pub spot : List Goal → List Frame → Depth → Spot
spot gs fs d = record { goals = gs; frames = fs; depth = d }

-- the spot of a stack
abbrev pub spot_of : Stack → Spot
spot_of t = spot t.goals.now t.frames.now t.depth

-- the same lists of goals and frames, as long as before
abbrev pub SameStack : (before after : Stack) → Type 0
SameStack before after =
    (after.goals.ghost_name ≡ before.goals.ghost_name)
    × (after.frames.ghost_name ≡ before.frames.ghost_name)
    × (length after.goals.now ≡ length before.goals.now)
    × (length after.frames.now ≡ length before.frames.now)

-- a goal as one of the definitions
abbrev pub goal_of : Sheet → List Frame → Goal → Waiting
goal_of s fs g =
    goal (arguments_of (slice_index_or fs g.frame no_frame)) (formula_at s.nodes g.formula) g.target

-- the n goals on the stack, the next one first
abbrev pub pending : Sheet → List Goal → List Frame → ℕ → List Waiting
pending s gs fs zero = []
pending s gs fs (suc n) = goal_of s fs (slice_index_or gs n no_goal) ∷ pending s gs fs n

-- the goals that wait
abbrev pub stack : Sheet → Spot → List Waiting
stack s p = pending s p.goals p.frames p.depth.goals

-- the goal's formula is one of a line of the sheet, and its frame is in use and has the parameters of that line
pub record Stood (s : Sheet) (fs : List Frame) (used : ℕ) (g : Goal) : Type 0 where
  pub line : ℕ
  pub within : Within (length s.rules.items) (lines_in s) line g.formula
  pub frame : g.frame < used
  pub count : (slice_index_or fs g.frame no_frame).count ≡ (line_at (lines_in s) line).params

-- the lists hold what the stack says
pub record Good (s : Sheet) (p : Spot) : Type 0 where
  pub hold : p.depth.goals ≤ length p.goals
  pub frames_hold : p.depth.frames + p.depth.fuel ≤ length p.frames
  pub few : p.depth.frames + p.depth.fuel ≤ 256
  pub stood :
      (i : ℕ)
      → i < p.depth.goals
      → Stood s p.frames p.depth.frames (slice_index_or p.goals i no_goal)
  pub okay : (i : ℕ) → i < p.depth.frames → FrameOkay (length s.ranges.items) (slice_index_or p.frames i no_frame)

-- the list of goals holds whatever the goals and the fuel can still ask for
abbrev pub Fit : Sheet → Spot → Type 0
Fit s p = Good s p × (load (stack s p) + 16 * p.depth.fuel ≤ length p.goals)

-- how many parts the goals have
abbrev pub mass : List Waiting → ℕ
mass [] = 0
mass (goal e F b ∷ gs) = size F + mass gs

-- what falls with each turn
abbrev pub weight : Sheet → List Waiting → ℕ → ℕ
weight s gs n = n * suc (sizes_of (rules_of (tree_of s))) + mass gs

-- the traces of some goals
abbrev pub Solving : List Rule → List Waiting → ℕ → Marks → Trace → Type 0
Solving rules gs n S v = (o : State) × Solves rules gs (live n S) v o

-- whatever solves the goals gs' from there solves gs
abbrev pub Leads : List Rule → List Waiting → ℕ → Marks → List Waiting → ℕ → Marks → Trace → Type 0
Leads rules gs n S gs' n' P v =
    (u : Trace) (o : State) → Solves rules gs' (live n' P) u o → Solves rules gs (live n S) (v ++ u) o

-- the run goes on with a stack that weighs less, and marks are left
pub record Moves (s : Sheet) (gs : List Waiting) (n : ℕ) (S : Marks) (z : Way) (p : Spot) (P : Marks)
    (y : Way) : Type 0 where
  pub took : Took z (Leads (rules_of (tree_of s)) gs n S (stack s p) p.depth.fuel P) y
  pub fit : Fit s p
  pub less : weight s (stack s p) p.depth.fuel < weight s gs n
  pub alive : some (length s.ranges.items) P ≡ true

-- what one turn comes to
abbrev pub Turned : Sheet → List Waiting → ℕ → Marks → Way → Result Unit Stop → Spot → Marks → Way → Type 0
Turned s gs n S z (Ok d) p P y = Moves s gs n S z p P y
Turned s gs n S z (Err DeadEnd) p P y = Took z (λ v. Solves (rules_of (tree_of s)) gs (live n S) v dead) y
Turned s gs n S z (Err Spent) p P y = Took z (λ v. Solves (rules_of (tree_of s)) gs (live n S) v spent) y
Turned s gs n S z (Err Halted) p P y = Halt z (Solving (rules_of (tree_of s)) gs n S) y

-- Joins and calls

-- the sides of a join that the target b asks for, with the choice c made for them
abbrev pub Sided : Join → Choice → Bool → Way → Result Sides Stop → Way → Type 0
-- no pick is told
Sided j c b z (Err s) y = (b ≢ wants j) × Chosen c z (Err s) y
-- branch 0: the left side meets the target
Sided j c b z (Ok Left) y = (b ≢ wants j) × Chosen c z (Ok 0) y
-- both sides meet a target that the join wants; or branch 1: the left side fails the target, and the right
-- meets it
Sided j c b z (Ok (Both a)) y =
    ((b ≡ wants j) × (a ≡ b) × (y ≡ z)) ⊎ ((b ≢ wants j) × (a ≡ not b) × Chosen c z (Ok 1) y)

-- a rule entered with the frame f: its formula waits with a frame of its own, and one fuel is spent; or
-- none is left
abbrev pub Entered : Frame → (formula : ℕ) → Bool → Spot → Result Unit Stop → Spot → Type 0
Entered f k b p (Ok d) q =
    (0 < p.depth.fuel)
    × (q.goals
    ≡ slice_set p.goals p.depth.goals (record { formula = k; target = b; frame = p.depth.frames }))
    × (q.frames ≡ slice_set p.frames p.depth.frames f)
    × (q.depth
    ≡ record { goals = p.depth.goals + 1; frames = p.depth.frames + 1; fuel = p.depth.fuel - 1 })
Entered f k b p (Err Spent) q = p.depth.fuel ≡ 0
Entered f k b p (Err DeadEnd) q = ⊥
Entered f k b p (Err Halted) q = ⊥
