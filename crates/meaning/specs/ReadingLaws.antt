-- The laws of the plain reading. A mark reads in exactly one way; the calls made are the fuel used, all of it
-- when the reading is spent; more fuel changes neither a verdict that was not spent nor its number of calls.
use Rattle.std.specs.Prelude.{◌≡◌, ℕ, ◌+◌, ◌≤◌, ◌≢◌, List}
use Rattle.formula.specs.Trees.{Formula, Rule, Sheet}
use Rattle.meaning.specs.Reading.{Answer, left, Reads, calls_made, Verdict, spent, Checks}

-- a formula reads in exactly one way
abbrev pub FormulasRead : Type 0
FormulasRead =
    (rules : List Rule) (m e : List ℕ) (F : Formula) (n : ℕ)
    → (a : Answer) × Reads rules m e F n a × ((b : Answer) → Reads rules m e F n b → b ≡ a)

-- each call spends one fuel, and nothing else does
abbrev pub CallsSpend : Type 0
CallsSpend =
    (rules : List Rule) (m e : List ℕ) (F : Formula) (n : ℕ) (a : Answer) (r : Reads rules m e F n a)
    → calls_made r + left a ≡ n

-- what a check of marks against one sheet keeps
pub record Checking (s : Sheet) : Type 0 where
  -- every mark has a verdict and a number of calls, whatever the fuel
  pub some : (m : List ℕ) (fuel : ℕ) → (v : Verdict) × (c : ℕ) × Checks s m fuel v c
  -- and only one
  pub one :
      (m : List ℕ) (fuel : ℕ) (v w : Verdict) (c d : ℕ)
      → Checks s m fuel v c
      → Checks s m fuel w d
      → (v ≡ w) × (c ≡ d)
  -- no more calls are made than there is fuel
  pub few : (m : List ℕ) (fuel : ℕ) (v : Verdict) (c : ℕ) → Checks s m fuel v c → c ≤ fuel
  -- a check that is spent has made as many calls as it had fuel
  pub all_spent : (m : List ℕ) (fuel c : ℕ) → Checks s m fuel spent c → c ≡ fuel
  -- more fuel changes neither a verdict that was not spent nor its number of calls
  pub more :
      (m : List ℕ) (fuel more : ℕ) (v : Verdict) (c : ℕ)
      → v ≢ spent
      → fuel ≤ more
      → Checks s m fuel v c
      → Checks s m more v c

-- so for every sheet
abbrev pub Checkings : Type 0
Checkings = (s : Sheet) → Checking s
