-- Choices and traces. A run makes a choice where a field may take several numbers, and where a join may
-- come true by its left side or by its right. A trace is the run's choices in order, each with its pick,
-- counted from 0.
use Rattle.std.specs.Prelude.{ℕ, ◌<◌, ◌≢◌, List, [], ◌∷◌}

-- a choice among so many numbers of a field, or between the two branches of a join with its weights
pub data Choice : Type 0 where
  among : (count : ℕ) → Choice
  branch : (v w : ℕ) → Choice

-- how many picks a choice has
abbrev pub width : Choice → ℕ
width (among c) = c
width (branch v w) = 2

-- one pick of a choice
pub data Entry : Type 0 where
  took : (pick : ℕ) → Choice → Entry

-- the choices of a run in order, with their picks
abbrev pub Trace : Type 0
Trace = List Entry

-- each pick is below its width
pub data Within : Trace → Type 0 where
  -- there is no entry
  none : Within []
  -- the first, and then the others
  one :
      {k : ℕ} {c : Choice} {t : Trace}
      → k < width c
      → Within t
      → Within (took k c ∷ t)

-- two traces that part: the same entries, and then different picks of the same choice
pub data Apart : Trace → Trace → Type 0 where
  -- they part at the first entry
  here :
      {j k : ℕ} {c : Choice} {t u : Trace}
      → j ≢ k
      → Apart (took j c ∷ t) (took k c ∷ u)
  -- or past an entry that they share
  there :
      {e : Entry} {t u : Trace}
      → Apart t u
      → Apart (e ∷ t) (e ∷ u)
