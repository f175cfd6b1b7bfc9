-- The plain reading of a mark: what the sheet says of it, read from left to right with a fuel. A call works
-- out its terms, spends one fuel and reads the rule's formula; a call with no fuel left ends the whole reading
-- as spent. A mark is allowed when its numbers lie in their ranges and the formula of the mark line is true;
-- with a number outside its range it is not allowed, and no call is made.
use Rattle.std.specs.Prelude.{◌≡◌, ℕ, zero, suc, ◌+◌, Bool, true, false, not, ◌&&◌, ◌≢◌, List, [], ◌∷◌, map, slice_index}
use Rattle.formula.specs.declared.Comparison.{Comparison}
use Rattle.formula.specs.declared.Comparison.TheVariants.{AtMost, AtLeast}
use Rattle.formula.specs.declared.Join.{Join}
use Rattle.formula.specs.Comparing.{holds}
use Rattle.formula.specs.Trees.{Name, Term, Formula, compare, call, negate, pick, join}
use Rattle.formula.specs.Trees.{Range, range, Rule, Sheet}
use Rattle.meaning.specs.Terms.{ranges_of, rules_of, mark_line, body, value, wants}

-- what a formula reads as: true or false, with the fuel that is left, or spent
pub data Answer : Type 0 where
  said : (result : Bool) (left : ℕ) → Answer
  ran_out : Answer

-- the fuel that is left
abbrev pub left : Answer → ℕ
left (said b k) = k
left ran_out = 0

-- `not`: true becomes false and false true, and spent stays spent
abbrev pub turned : Answer → Answer
turned (said b k) = said (not b) k
turned ran_out = ran_out

-- Reads rules m e F n a: with the mark m, the parameters' numbers e and the fuel n, the formula F reads as a
pub data Reads (rules : List Rule) (m : List ℕ) : List ℕ → Formula → ℕ → Answer → Type 0 where
  -- a comparison says whether its two numbers compare so
  tells :
      {e : List ℕ} {l : Term} {c : Comparison} {r : Term} {n : ℕ}
      → Reads rules m e (compare l c r) n (said (holds c (value m e l) (value m e r)) n)
  -- a call works out its terms, spends one fuel and reads the rule's formula
  called :
      {e : List ℕ} {r : ℕ} {ts : List Term} {n : ℕ} {a : Answer}
      → Reads rules m (map (value m e) ts) (body rules r) n a
      → Reads rules m e (call r ts) (suc n) a
  -- a call with no fuel left is spent
  uncalled :
      {e : List ℕ} {r : ℕ} {ts : List Term}
      → Reads rules m e (call r ts) zero ran_out
  -- `not` turns the result round
  turns :
      {e : List ℕ} {F : Formula} {n : ℕ} {a : Answer}
      → Reads rules m e F n a
      → Reads rules m e (negate F) n (turned a)
  -- `pick` reads as its unit
  picked :
      {e : List ℕ} {x : Name} {F : Formula} {n : ℕ} {a : Answer}
      → Reads rules m e F n a
      → Reads rules m e (pick x F) n a
  -- a join whose left side is spent is spent
  left_out :
      {e : List ℕ} {j : Join} {v w : ℕ} {F G : Formula} {n : ℕ}
      → Reads rules m e F n ran_out
      → Reads rules m e (join j v w F G) n ran_out
  -- where the left side decides, `and` by false and `or` by true, the right side is not read
  left_only :
      {e : List ℕ} {j : Join} {v w : ℕ} {F G : Formula} {n : ℕ} {b : Bool} {k : ℕ}
      → b ≢ wants j
      → Reads rules m e F n (said b k)
      → Reads rules m e (join j v w F G) n (said b k)
  -- where it does not, the right side decides, with the fuel that the left side left
  right_too :
      {e : List ℕ} {j : Join} {v w : ℕ} {F G : Formula} {n : ℕ} {b : Bool} {k : ℕ} {a : Answer}
      → b ≡ wants j
      → Reads rules m e F n (said b k)
      → Reads rules m e G k a
      → Reads rules m e (join j v w F G) n a

-- the number of calls made in a reading; the call that ends it for want of fuel is not made
abbrev pub calls_made :
    {rules : List Rule} {m e : List ℕ} {F : Formula} {n : ℕ} {a : Answer}
    → Reads rules m e F n a → ℕ
calls_made tells = 0
calls_made (called r) = suc (calls_made r)
calls_made uncalled = 0
calls_made (turns r) = calls_made r
calls_made (picked r) = calls_made r
calls_made (left_out r) = calls_made r
calls_made (left_only h r) = calls_made r
calls_made (right_too h r q) = calls_made r + calls_made q

-- the numbers of the mark from field f on lie in their ranges
abbrev pub ranged : List Range → ℕ → List ℕ → Bool
ranged [] f m = true
ranged (range low high ∷ rs) f m =
    (holds AtLeast (slice_index m f) low && holds AtMost (slice_index m f) high) && ranged rs (suc f) m

-- what a check says of a mark
pub data Verdict : Type 0 where
  allowed : Verdict
  not_allowed : Verdict
  spent : Verdict

-- the verdict on a mark in its ranges, by what the mark line reads as
abbrev pub verdict : Answer → Verdict
verdict (said true k) = allowed
verdict (said false k) = not_allowed
verdict ran_out = spent

-- Checks s m fuel v c: the check of the mark m against the sheet s says v, and c calls were made
pub data Checks (s : Sheet) (m : List ℕ) (fuel : ℕ) : Verdict → ℕ → Type 0 where
  -- a mark with a number outside its range is not allowed, and no call is made
  out_of_range :
      ranged (ranges_of s) 0 m ≡ false
      → Checks s m fuel not_allowed 0
  -- any other mark is as the formula of the mark line reads
  in_range :
      {a : Answer}
      → ranged (ranges_of s) 0 m ≡ true
      → (r : Reads (rules_of s) m [] (mark_line s) fuel a)
      → Checks s m fuel (verdict a) (calls_made r)

-- the mark is allowed within the fuel
abbrev pub Allowed : Sheet → ℕ → List ℕ → Type 0
Allowed s fuel m = (calls : ℕ) × Checks s m fuel allowed calls
