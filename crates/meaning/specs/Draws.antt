-- Draws: runs whose picks come from the numbers that wait in a source, one number to a choice. Between the
-- branches of a join with weights v : w, the number r takes branch 0 when r modulo v + w is below v; among
-- the c numbers of a field it takes r modulo c. A choice that finds no number left makes the draw dry.
use Rattle.std.specs.Prelude.{◌≡◌, ℕ, ◌+◌, ◌%◌, cond, List, [], ◌∷◌, ◌++◌, nat_lt}
use Rattle.formula.specs.Trees.{Sheet}
use Rattle.marks.specs.Sets.{Marks, MarksOf}
use Rattle.meaning.specs.Terms.{fields_of}
use Rattle.meaning.specs.Traces.{Choice, among, branch, Entry, took, Trace}
use Rattle.meaning.specs.Runs.{Outcome, Run}

-- the pick that the number r draws
abbrev pub drawn : (r : ℕ) → Choice → ℕ
drawn r (among c) = r % c
drawn r (branch v w) = cond (nat_lt (r % (v + w)) v) 0 1

-- Takes ns t ls: each choice of the trace t takes the next of the numbers ns and its pick; ls are left
pub data Takes : List ℕ → Trace → List ℕ → Type 0 where
  -- no choice takes no number
  takes_none :
      {ns : List ℕ}
      → Takes ns [] ns
  -- the first choice, and then the others
  takes_one :
      {r k : ℕ} {ns ls : List ℕ} {c : Choice} {t : Trace}
      → k ≡ drawn r c
      → Takes ns t ls
      → Takes (r ∷ ns) (took k c ∷ t) ls

-- what a draw comes to: the outcome of a run, or dry
pub data Drawn : Type 0 where
  ran : Outcome → Drawn
  dry : Drawn

-- Draws s fuel S ns d t ls: from the numbers ns a draw makes the choices t and comes to d; ls are left
pub data Draws (s : Sheet) (fuel : ℕ) (S : Marks) : List ℕ → Drawn → Trace → List ℕ → Type 0 where
  -- each choice of a run finds its number
  draws :
      {ns ls : List ℕ} {t : Trace} {a : Outcome}
      → Run s fuel S t a
      → Takes ns t ls
      → Draws s fuel S ns (ran a) t ls
  -- the numbers are used up, and the run has another choice to make
  runs_dry :
      {ns : List ℕ} {t : Trace} {a : Outcome} (e : Entry) (u : Trace)
      → Run s fuel S (t ++ e ∷ u) a
      → Takes ns t []
      → Draws s fuel S ns dry t []

-- the one draw from some numbers
pub record OneDraw (s : Sheet) (fuel : ℕ) (S : Marks) (ns : List ℕ) : Type 0 where
  pub result : Drawn
  pub trace : Trace
  pub left : List ℕ
  pub draw : Draws s fuel S ns result trace left
  -- and there is no other
  pub only :
      (d : Drawn) (t : Trace) (l : List ℕ)
      → Draws s fuel S ns d t l
      → (d ≡ result) × (t ≡ trace) × (l ≡ left)

-- whatever the numbers, there is exactly one draw
abbrev pub DrawsOne : Type 0
DrawsOne =
    (s : Sheet) (fuel : ℕ) (S : Marks)
    → MarksOf (fields_of s) S
    → (ns : List ℕ)
    → OneDraw s fuel S ns
