-- What tells a run its picks: entries recorded earlier, followed one by one, with pick 0 past their end; or the
-- numbers that wait in a source, one for each choice.
use Rattle.std.specs.Prelude.{◌≡◌, ℕ, zero, suc, ◌<◌, List, [], ◌∷◌, slice_index}
use Rattle.meaning.specs.Traces.{Choice, width, took, Trace}
use Rattle.meaning.specs.Draws.{drawn}

-- an entry as it is recorded: the pick, and the width of its choice
pub data Noted : Type 0 where
  noted : (pick width : ℕ) → Noted

-- the entries still to be followed, or the numbers still waiting
pub data Guide : Type 0 where
  recorded : List Noted → Guide
  numbers : List ℕ → Guide

-- Picks g c k h: at the choice c the guide g tells the pick k, and h is left of it
abbrev pub Picks : Guide → Choice → ℕ → Guide → Type 0
-- past the recorded entries, pick 0
Picks (recorded []) c k h = (k ≡ 0) × (h ≡ recorded [])
-- the recorded pick, where the recorded width is that of the choice and the pick is below it
Picks (recorded (noted p w ∷ es)) c k h = (k ≡ p) × (w ≡ width c) × (p < width c) × (h ≡ recorded es)
-- no number waits
Picks (numbers []) c k h = ⊥
-- the pick that the next number draws
Picks (numbers (r ∷ ns)) c k h = (k ≡ drawn r c) × (h ≡ numbers ns)

-- the guide tells no pick: an entry does not fit the choice, or no number waits
abbrev pub NoPick : Guide → Choice → Type 0
NoPick g c = (k : ℕ) (h : Guide) → Picks g c k h → ⊥

-- Guided g t h: the guide g tells every pick of the trace t, and h is left of it
abbrev pub Guided : Guide → Trace → Guide → Type 0
Guided g [] h = h ≡ g
Guided g (took k c ∷ t) h = (i : Guide) × Picks g c k i × Guided i t h

-- the n entries of two trace lists from place k on
abbrev pub entries : (picks widths : List ℕ) (k n : ℕ) → List Noted
entries ps ws k zero = []
entries ps ws k (suc n) = noted (slice_index ps k) (slice_index ws k) ∷ entries ps ws (suc k) n
