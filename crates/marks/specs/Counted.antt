-- Whether a set of marks of n fields has a mark, and which numbers a field takes in it, found by trying
-- every number.
-- So equal sets have equal lists of values.
use Rattle.std.specs.Prelude.{◌≡◌, ℕ, zero, suc, ◌<◌, ◌≤◌, Bool, false, cond, ◌&&◌, ◌||◌, List, [], ◌∷◌, ◌++◌, ◌==◌, nat_lt, slice_index}
use Rattle.marks.specs.Sets.{Marks, Values}

-- whether a number below k passes the test
unfoldable pub any_below : (ℕ → Bool) → ℕ → Bool
any_below p zero = false
any_below p (suc k) = p k || any_below p k

-- the numbers below k that pass the test, ascending
unfoldable pub below : (ℕ → Bool) → ℕ → List ℕ
below p zero = []
below p (suc k) = below p k ++ cond (p k) (k ∷ []) []

-- whether S has a mark of n fields
unfoldable pub some : ℕ → Marks → Bool
some zero S = S []
some (suc n) S = any_below (λ v. some n (λ m. S (v ∷ m))) 1024

-- whether a mark of S has the number v at field f
unfoldable pub takes : ℕ → Marks → ℕ → ℕ → Bool
takes n S f v = some n (λ m. S m && slice_index m f == v)

-- the different numbers that field f takes in S, ascending; none for a field of n or more
unfoldable pub values : ℕ → Marks → ℕ → List ℕ
values n S f = cond (nat_lt f n) (below (takes n S f) 1024) []

-- vs is the list of the different numbers that field f takes in S, ascending; none for a field of n or more
abbrev pub Taken : ℕ → Marks → ℕ → List ℕ → Type 0
Taken n S f vs = (f < n → Values S f vs) × (n ≤ f → vs ≡ [])
