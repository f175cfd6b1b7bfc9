-- Runs whose picks are told by a list of numbers, one number to a choice, and pick 0 when the numbers are
-- used up. A walk tells picks by a recorded trace, and a draw by the numbers of a source.
use Rattle.std.specs.Prelude.{◌≡◌, ℕ, ◌<◌, List, [], ◌∷◌}
use Rattle.formula.specs.Trees.{Sheet}
use Rattle.marks.specs.Sets.{Marks, MarksOf}
use Rattle.meaning.specs.Terms.{fields_of}
use Rattle.meaning.specs.Traces.{Choice, width, took, Trace}
use Rattle.meaning.specs.Runs.{Outcome, Run}

-- how a number tells the pick of a choice
abbrev pub Telling : Type 0
Telling = (number : ℕ) → Choice → ℕ

-- it never tells a pick that the choice lacks
abbrev pub Fair : Telling → Type 0
Fair ρ = (r : ℕ) (c : Choice) → 0 < width c → ρ r c < width c

-- Told ρ ns t ls: the numbers ns tell the picks of the trace t, and ls are left of them
pub data Told (ρ : Telling) : List ℕ → Trace → List ℕ → Type 0 where
  -- no choice takes no number
  told_none :
      {ns : List ℕ}
      → Told ρ ns [] ns
  -- a choice takes the next number
  told_one :
      {r k : ℕ} {ns ls : List ℕ} {c : Choice} {t : Trace}
      → k ≡ ρ r c
      → Told ρ ns t ls
      → Told ρ (r ∷ ns) (took k c ∷ t) ls
  -- with no number left, pick 0 is taken
  told_past :
      {k : ℕ} {ls : List ℕ} {c : Choice} {t : Trace}
      → k ≡ 0
      → Told ρ [] t ls
      → Told ρ [] (took k c ∷ t) ls

-- the one run that the numbers tell
pub record OneRun (s : Sheet) (fuel : ℕ) (S : Marks) (ρ : Telling) (ns : List ℕ) : Type 0 where
  pub trace : Trace
  pub outcome : Outcome
  pub run : Run s fuel S trace outcome
  pub left : List ℕ
  pub told : Told ρ ns trace left
  -- and there is no other
  pub only :
      (t : Trace) (a : Outcome) (l : List ℕ)
      → Run s fuel S t a
      → Told ρ ns t l
      → (t ≡ trace) × (a ≡ outcome) × (l ≡ left)

-- whatever the numbers, they tell exactly one run
abbrev pub NumbersTell : Type 0
NumbersTell =
    (s : Sheet) (fuel : ℕ) (S : Marks)
    → MarksOf (fields_of s) S
    → (ρ : Telling)
    → Fair ρ
    → (ns : List ℕ)
    → OneRun s fuel S ρ ns
