-- The marks of a register: numbers held for reading, n to a row. A repeated row is one mark;
-- an unfinished last row and a row with a number above 1,023 count for nothing.
use Rattle.std.specs.Prelude.{◌≡◌, ℕ, ◌+◌, ◌*◌, ◌/◌, ◌≤◌, Bool, true, false, ◌&&◌, List, [], ◌∷◌, length, take, drop, Decides, ◌==◌}
use Rattle.marks.specs.Sets.{Marks, Shaped}
use Rattle.marks.specs.Counted.{any_below}
use Rattle.store.specs.Opens.{every_mark, open_left}
use Rattle.register.specs.declared.RegisterStore.{RegisterStore}

-- row i of the register, from 0
abbrev pub row_at : (register : List ℕ) (n i : ℕ) → List ℕ
row_at register n i = take n (drop (i * n) register)

-- m is a whole row of the register
abbrev pub IsRow : (register : List ℕ) (n : ℕ) → List ℕ → Type 0
IsRow register n m = (i : ℕ) × (i * n + n ≤ length register) × (m ≡ row_at register n i)

-- S is the set of the marks of n fields that are rows of the register
abbrev pub HasRows : (n : ℕ) (register : List ℕ) → Marks → Type 0
HasRows n register S = (m : List ℕ) → Decides (S m) (IsRow register n m × Shaped n m)

-- The same by tests

-- whether two lists of numbers are equal
unfoldable pub same : List ℕ → List ℕ → Bool
same [] [] = true
same [] (y ∷ ys) = false
same (x ∷ xs) [] = false
same (x ∷ xs) (y ∷ ys) = x == y && same xs ys

-- whether m is a whole row of the register
unfoldable pub is_row : (register : List ℕ) (n : ℕ) → Marks
is_row register n m = any_below (λ i. same m (row_at register n i)) (length register / n)

-- the marks that are in both sets
unfoldable pub both : Marks → Marks → Marks
both S T m = S m && T m

-- The sets of a register store

-- the numbers of its register
abbrev pub numbers_of : RegisterStore → List ℕ
numbers_of s = s.register.now

-- how many numbers make a row
abbrev pub width_of : RegisterStore → ℕ
width_of s = s.allowed.width

-- the set that it starts with: the rows that are marks
abbrev pub register_start : RegisterStore → Marks
register_start s = both (is_row (numbers_of s) (width_of s)) (every_mark (width_of s))

-- its current set: the rows of which each number may still stand at its field
abbrev pub register_left : RegisterStore → Marks
register_left s = both (is_row (numbers_of s) (width_of s)) (open_left s.allowed)
