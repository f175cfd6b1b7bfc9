-- For the loop of a run: a list of goals that still wait to be matched, and how many can wait at once.
use Rattle.std.specs.Prelude.{ℕ, suc, ◌+◌, Bool, List, [], ◌∷◌, ◌++◌}
use Rattle.formula.specs.Trees.{Formula, Rule}
use Rattle.meaning.specs.Traces.{Trace}
use Rattle.meaning.specs.Matching.{Argument, State, Matches}
use Rattle.meaning.specs.Lengths.{joins}

-- a formula to match, with its target and what the parameters stand for
pub data Goal : Type 0 where
  goal : List Argument → Formula → Bool → Goal

-- Solves rules gs i t o: the goals are matched one after the other, from i by the trace t to o
pub data Solves (rules : List Rule) : List Goal → State → Trace → State → Type 0 where
  -- no goal waits
  solved :
      {i : State}
      → Solves rules [] i [] i
  -- the first goal, and then the others
  solves :
      {e : List Argument} {F : Formula} {b : Bool} {gs : List Goal} {i j o : State} {t u : Trace}
      → Matches rules e F b i t j
      → Solves rules gs j u o
      → Solves rules (goal e F b ∷ gs) i (t ++ u) o

-- the room that goals may come to need: each counts itself and its joins
abbrev pub load : List Goal → ℕ
load [] = 0
load (goal e F b ∷ gs) = suc (joins F) + load gs
