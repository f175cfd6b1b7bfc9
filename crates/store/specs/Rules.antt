-- The rules that every store keeps, for a store of n fields whose current set is S.
use Rattle.std.specs.Prelude.{◌≡◌, ℕ, ◌<◌, ◌≤◌, Bool, not, List, length, Some, None, Ok, Err, Decides, Option, Result, slice_index}
use Rattle.formula.specs.declared.Comparison.{Comparison}
use Rattle.refusal.specs.declared.Refusal.{Refusal}
use Rattle.refusal.specs.Table.{number}
use Rattle.marks.specs.Sets.{Marks, MarksOf, Empty, kept}
use Rattle.marks.specs.Counted.{some, values, Taken}

-- the starting set and the current set are sets of marks of that many fields
pub record Sound {X : Type 0} (width : X → ℕ) (starting current : X → Marks) : Type 0 where
  pub started : (s : X) → MarksOf (width s) (starting s)
  pub left : (s : X) → MarksOf (width s) (current s)

-- a call leaves the number of fields and the starting set as they were
abbrev pub Stays : {X : Type 0} (width : X → ℕ) (starting : X → Marks) (before after : X) → Type 0
Stays width starting before after = (width after ≡ width before) × (starting after ≡ starting before)

-- a field of the store, and a number that a mark may have
abbrev pub Inside : (n f k : ℕ) → Type 0
Inside n f k = (f < n) × (k ≤ 1023)

-- keep removes exactly the marks whose field fails the comparison;
-- it returns 20 and removes nothing when the field is n or more or the number above 1,023
abbrev pub Keeps : {X : Type 0} (n : ℕ) (S after : Marks) (f : ℕ) (c : Comparison) (k : ℕ)
    → Result X Refusal → Type 0
Keeps n S after f c k (Ok x) = Inside n f k × (after ≡ kept S f c k)
Keeps n S after f c k (Err e) = (Inside n f k → ⊥) × (number e ≡ 20) × (after ≡ S)

-- empty says yes exactly when S has no mark
abbrev pub TellsEmpty : (n : ℕ) (S : Marks) → Bool → Type 0
TellsEmpty n S r = Decides r (Empty S) × (r ≡ not (some n S))

-- count answers how many different numbers the field takes in S, and 0 for a field of n or more
abbrev pub Counts : (n : ℕ) (S : Marks) (f : ℕ) → ℕ → Type 0
Counts n S f r = Taken n S f (values n S f) × (r ≡ length (values n S f))

-- the k-th of the list from 0, and none exactly when k is not below its length
abbrev pub Picks : List ℕ → ℕ → Option ℕ → Type 0
Picks vs k (Some v) = (k < length vs) × (v ≡ slice_index vs k)
Picks vs k None = length vs ≤ k

-- value answers the k-th smallest of the numbers that the field takes in S,
-- and none exactly when k is not below the count
abbrev pub Answers : (n : ℕ) (S : Marks) (f k : ℕ) → Option ℕ → Type 0
Answers n S f k r = Taken n S f (values n S f) × Picks (values n S f) k r
