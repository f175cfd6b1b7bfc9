-- Sets of marks, and the numbers that a field takes in one.
-- A mark is the list of its numbers, one for each field; a set is the test that says which marks are in it.
use Rattle.std.specs.Prelude.{◌≡◌, ℕ, ◌<◌, Bool, true, ◌&&◌, ◌≢◌, ◌⊎◌, List, [], ◌∷◌, length, slice_index}
use Rattle.std.specs.List.{AllByRecursion}
use Rattle.formula.specs.declared.Comparison.{Comparison}
use Rattle.formula.specs.Comparing.{holds}

-- a set of marks, by its test
abbrev pub Marks : Type 0
Marks = List ℕ → Bool

-- the set has no mark
abbrev pub Empty : Marks → Type 0
Empty S = (m : List ℕ) → S m ≢ true

-- a mark of n fields: n numbers, each at most 1,023
abbrev pub Shaped : ℕ → List ℕ → Type 0
Shaped n m = (length m ≡ n) × AllByRecursion (λ v. v < 1024) m

-- a set of marks of n fields
abbrev pub MarksOf : ℕ → Marks → Type 0
MarksOf n S = (m : List ℕ) → S m ≡ true → Shaped n m

-- the marks of S whose number at field f compares so with k
abbrev pub kept : Marks → ℕ → Comparison → ℕ → Marks
kept S f c k = λ m. S m && holds c (slice_index m f) k

-- v stands in the list
abbrev pub In : ℕ → List ℕ → Type 0
In v [] = ⊥
In v (x ∷ xs) = (v ≡ x) ⊎ In v xs

-- each number is below those that follow it
abbrev pub Ascending : List ℕ → Type 0
Ascending [] = Unit {0}
Ascending (x ∷ xs) = ((y : ℕ) → In y xs → x < y) × Ascending xs

-- Values S f vs: vs are the different numbers that field f takes in S, ascending
pub record Values (S : Marks) (f : ℕ) (vs : List ℕ) : Type 0 where
  pub ascending : Ascending vs
  -- every mark's number is among them
  pub all : (m : List ℕ) → S m ≡ true → In (slice_index m f) vs
  -- and none that no mark has
  pub only : (v : ℕ) → In v vs → ((m : List ℕ) → S m ≡ true → slice_index m f ≢ v) → ⊥
