-- For the contracts of inner functions: arguments and frames as the arguments of a match, and what a sheet
-- keeps of the names and terms of a line.
use Rattle.std.specs.Prelude.{◌≡◌, ℕ, ◌<◌, ◌≤◌, List, map, take, slice_index_or}
use Rattle.sheet.specs.declared.node.Name.{Name}
use Rattle.sheet.specs.declared.node.Name.TheVariants.{Field as NamedField, Param}
use Rattle.formula.specs.declared.term.Shift.{Shift}
use Rattle.formula.specs.declared.term.Shift.TheVariants.{Up, Down}
use Rattle.sheet.specs.Table.{SheetTerm}
use Rattle.formula.specs.declared.term.Term.TheVariants.{Number as NumberTerm, Bare, Moved}
use Rattle.sheet.specs.Table.{name_of}
use Rattle.meaning.specs.Matching.{Argument, the_field, the_number, argument}
use Rattle.run.specs.declared.goal.Argument.{Argument as Held}
use Rattle.run.specs.declared.goal.Argument.TheVariants.{Field, Number}
use Rattle.run.specs.declared.goal.Frame.{Frame}

-- an argument of a match
abbrev pub argument_of : Held → Argument
argument_of (Field f) = the_field f
argument_of (Number n) = the_number n

-- a field of the w fields, or a number that a mark may hold
abbrev pub Okay : (w : ℕ) → Held → Type 0
Okay w (Field f) = f < w
Okay w (Number n) = n < 1024

-- what the parameters stand for
abbrev pub arguments_of : Frame → List Argument
arguments_of f = map argument_of (take f.count f.arguments)

-- at most four arguments, all in order
pub record FrameOkay (w : ℕ) (f : Frame) : Type 0 where
  pub few : f.count ≤ 4
  pub each : (i : ℕ) → i < 4 → Okay w (slice_index_or f.arguments i (Field 0))

-- a field of the w fields, or one of n parameters
abbrev pub NameOkay : (w n : ℕ) → Name → Type 0
NameOkay w n (NamedField f) = f < w
NameOkay w n (Param p) = p < n

-- a parameter is one of n
abbrev pub KnownIn : (n : ℕ) → Name → Type 0
KnownIn n (NamedField f) = Unit {0}
KnownIn n (Param p) = p < n

-- a shift by a number that a mark may hold
abbrev pub ShiftOkay : Shift → Type 0
ShiftOkay (Up k) = k < 1024
ShiftOkay (Down k) = k < 1024

-- a term whose names and numbers are in order
abbrev pub TermOkay : (w n : ℕ) → SheetTerm → Type 0
TermOkay w n (NumberTerm k) = k < 1024
TermOkay w n (Bare x) = NameOkay w n x
TermOkay w n (Moved x d) = NameOkay w n x × ShiftOkay d

-- a is what the name x stands for in the frame f
pub record Stands (f : Frame) (x : Name) (a : Held) : Type 0 where
  pub is : argument_of a ≡ argument (arguments_of f) (name_of x)
  pub okay : (w : ℕ) → FrameOkay w f → NameOkay w f.count x → Okay w a
