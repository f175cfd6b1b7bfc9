-- For a loop over pending goals: each step of the loop, as a step of the relation. Read from the end: what
-- solves the goals after the step solves those before it.
use Rattle.std.proofs.Common.{◌≡◌, ℕ, zero, suc, ◌≤◌, Bool, not, ◌≢◌, List, [], ◌∷◌, ◌++◌, length, sym, subst, append_assoc, append-nil, arith}
use Rattle.formula.specs.Trees.{Name, Term, Formula, call, negate, pick, join, Rule}
use Rattle.formula.specs.declared.Join.{Join}
use Rattle.marks.specs.Sets.{Marks}
use Rattle.meaning.specs.Terms.{body, wants}
use Rattle.meaning.specs.Traces.{branch, took, Trace}
use Rattle.meaning.specs.Matching.{Argument, argument, Settles, Passes, State}
use Rattle.meaning.specs.Matching.{live, dead, spent, Matches, stays_dead, stays_spent}
use Rattle.meaning.specs.Matching.{calls, calls_out, negates, picks, both_sides, left_side, right_side}
use Rattle.meaning.specs.Pending.{Goal, goal, Solves, solved, solves, load}

module _ (rules : List Rule) where
  regroup :
      {gs : List Goal} {i o : State} (t u v : Trace) → Solves rules gs i ((t ++ u) ++ v) o
      → Solves rules gs i (t ++ (u ++ v)) o
  regroup {gs} {i} {o} t u v x = subst (λ (z : Trace). Solves rules gs i z o) (append_assoc t u v) x

  pub step_dead : (gs : List Goal) → Solves rules gs dead [] dead
  step_dead [] = solved
  step_dead (goal e F b ∷ gs) = solves stays_dead (step_dead gs)

  pub step_spent : (gs : List Goal) → Solves rules gs spent [] spent
  step_spent [] = solved
  step_spent (goal e F b ∷ gs) = solves stays_spent (step_spent gs)

  module _ {gs : List Goal} {e : List Argument} {b : Bool} {n : ℕ} {S : Marks} {o : State} where
    pub step_neg :
        {F : Formula} {t : Trace} → Solves rules (goal e F (not b) ∷ gs) (live n S) t o
        → Solves rules (goal e (negate F) b ∷ gs) (live n S) t o
    step_neg (solves p q) = solves (negates p) q

    pub step_both :
        {j : Join} {v w : ℕ} {F G : Formula} {t : Trace} → b ≡ wants j
        → Solves rules (goal e F b ∷ goal e G b ∷ gs) (live n S) t o
        → Solves rules (goal e (join j v w F G) b ∷ gs) (live n S) t o
    step_both y (solves {t = t} p (solves {t = u} {u = v} q r)) = regroup t u v (solves (both_sides y p q) r)

    pub step_left :
        {j : Join} {v w : ℕ} {F G : Formula} {t : Trace} → b ≢ wants j
        → Solves rules (goal e F b ∷ gs) (live n S) t o
        → Solves rules (goal e (join j v w F G) b ∷ gs) (live n S) (took 0 (branch v w) ∷ t) o
    step_left y (solves p q) = solves (left_side y p) q

    pub step_right :
        {j : Join} {v w : ℕ} {F G : Formula} {t : Trace} → b ≢ wants j
        → Solves rules (goal e F (not b) ∷ goal e G b ∷ gs) (live n S) t o
        → Solves rules (goal e (join j v w F G) b ∷ gs) (live n S) (took 1 (branch v w) ∷ t) o
    step_right {v = v} {w = w} y (solves {t = t} p (solves {t = u} {u = z} q r)) =
        regroup (took 1 (branch v w) ∷ t) u z (solves (right_side y p q) r)

    pub step_pick :
        {x : Name} {F : Formula} {P : Marks} {v : ℕ} {t u : Trace} → Settles S (argument e x) t P v
        → Solves rules (goal e F b ∷ gs) (live n P) u o
        → Solves rules (goal e (pick x F) b ∷ gs) (live n S) (t ++ u) o
    step_pick {t = t} s (solves {t = u} {u = v} p q) = regroup t u v (solves (picks s p) q)

    pub step_call :
        {r : ℕ} {ts : List Term} {d : List Argument} {P : Marks} {t u : Trace} → Passes e S ts t P d
        → Solves rules (goal d (body rules r) b ∷ gs) (live n P) u o
        → Solves rules (goal e (call r ts) b ∷ gs) (live (suc n) S) (t ++ u) o
    step_call {t = t} s (solves {t = u} {u = v} p q) = regroup t u v (solves (calls s p) q)

  pub step_out :
      {gs : List Goal} {e : List Argument} {b : Bool} {S : Marks} {r : ℕ} {ts : List Term}
      {d : List Argument} {P : Marks} {t : Trace}
      → Passes e S ts t P d → Solves rules (goal e (call r ts) b ∷ gs) (live zero S) t spent
  step_out {gs} {e} {b} {S} {r} {ts} {t = t} s =
      subst (λ (z : Trace). Solves rules (goal e (call r ts) b ∷ gs) (live zero S) z spent) (append-nil t)
      (solves (calls_out s) (step_spent gs))

  -- the whole match, from one goal
  pub alone :
      {e : List Argument} {F : Formula} {b : Bool} {i o : State} {t : Trace}
      → Solves rules (goal e F b ∷ []) i t o → Matches rules e F b i t o
  alone {e} {F} {b} {i} {o} (solves {t = t} p solved) =
      subst (λ (z : Trace). Matches rules e F b i z o) (sym (append-nil t)) p

pub waiting : (gs : List Goal) → length gs ≤ load gs
waiting [] = omega arith
waiting (goal e F b ∷ gs) = let h = waiting gs in omega arith
