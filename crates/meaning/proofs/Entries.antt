-- What holds of each choice that a run can make holds of each entry of its trace.
use Rattle.std.proofs.Common.{◌≡◌, ℕ, ◌<◌, Bool, true, List, [], ◌∷◌, ◌++◌, length, arith}
use Rattle.std.proofs.lemmas.Bool.{and_parts}
use Rattle.formula.specs.Trees.{Term, Formula, Rule, Sheet}
use Rattle.marks.specs.Sets.{Marks, Values}
use Rattle.meaning.specs.Terms.{rules_of}
use Rattle.meaning.specs.Traces.{among, branch, width, Entry, took, Trace, Within, none, one}
use Rattle.meaning.specs.Matching.{Argument, Settles, number, known, chosen, Resolves, numeral, as_it_is}
use Rattle.meaning.specs.Matching.{settled, Passes, no_more, passes, LeavesOne, left_first, at_most_one}
use Rattle.meaning.specs.Matching.{State, live, Matches, stays_dead, stays_spent, compares, calls, calls_out}
use Rattle.meaning.specs.Matching.{negates, picks, both_sides, left_side, right_side}
use Rattle.meaning.specs.Runs.{Outcome, Ends, ended, ends, Finishes, whole, at_dead, at_spent, Run, runs}
use Rattle.meaning.proofs.Soundness.{Held, settles_sound, resolves_sound, passes_sound}
use Rattle.meaning.proofs.Soundness.{lives_sound, sound}

abbrev pub Each : (Entry → Type 0) → Trace → Type 0
Each Q [] = Unit {0}
Each Q (e ∷ t) = Q e × Each Q t

each_join : (Q : Entry → Type 0) (t u : Trace) → Each Q t → Each Q u → Each Q (t ++ u)
each_join Q [] u x y = y
each_join Q (e ∷ t) u x y = (x.0, each_join Q t u x.1 y)

module _
    (Q : Entry → Type 0) (Top : Marks)
    (amongs : (S : Marks) → ((m : List ℕ) → S m ≡ true → Top m ≡ true) → (f : ℕ) (vs : List ℕ)
    → Values S f vs → (k : ℕ) → k < length vs → Q (took k (among (length vs)))) where
  abbrev Below : Marks → Type 0
  Below S = (m : List ℕ) → S m ≡ true → Top m ≡ true

  pub settles_each : {S P : Marks} {a : Argument} {t : Trace} {v : ℕ} → Settles S a t P v → Below S → Each Q t
  settles_each number s = tt
  settles_each (known V) s = tt
  settles_each {S} (chosen {f = f} {vs = vs} k V n h) s = (amongs S s f vs V k h, tt)

  pub resolves_each :
      {e : List Argument} {S P : Marks} {r : Term} {t : Trace} {a : Argument} → Resolves e S r t P a
      → Below S → Each Q t
  resolves_each numeral s = tt
  resolves_each as_it_is s = tt
  resolves_each (settled p) s = settles_each p s

  pub passes_each :
      {e d : List Argument} {S P : Marks} {ts : List Term} {t : Trace} → Passes e S ts t P d → Below S
      → Each Q t
  passes_each no_more s = tt
  passes_each (passes {t = t} {u = u} p r) s =
      each_join Q t u (resolves_each p s) (passes_each r (λ m h. s m (resolves_sound p m h).0))

  pub leaves_each : {S P : Marks} {a b : Argument} {t : Trace} → LeavesOne S a b t P → Below S → Each Q t
  leaves_each (left_first x y p) s = settles_each p s
  leaves_each (at_most_one n) s = tt

  ends_each : {f c : ℕ} {S P : Marks} {t : Trace} {vs : List ℕ} → Ends f c S t P vs → Below S → Each Q t
  ends_each ended s = tt
  ends_each (ends {t = t} {u = u} p r) s =
      each_join Q t u (settles_each p s) (ends_each r (λ m h. s m (settles_sound p m h).0))

  pub finishes_each :
      {w : ℕ} {o : State} {t : Trace} {a : Outcome} → Finishes w o t a
      → ((m : List ℕ) → Held o m → Top m ≡ true) → Each Q t
  finishes_each (whole d) s = ends_each d s
  finishes_each at_dead s = tt
  finishes_each at_spent s = tt

  module _
      (lefts : (v w : ℕ) → Q (took 0 (branch v w))) (rights : (v w : ℕ) → Q (took 1 (branch v w))) where
    module _ (rules : List Rule) where
      pub matches_each :
          {e : List Argument} {F : Formula} {b : Bool} {i o : State} {t : Trace} → Matches rules e F b i t o
          → ((m : List ℕ) → Held i m → Top m ≡ true) → Each Q t
      matches_each stays_dead s = tt
      matches_each stays_spent s = tt
      matches_each (compares {t = t} {t₁ = t₁} {t₂ = t₂} p q r z) s =
          each_join Q t (t₁ ++ t₂) (resolves_each p s) (each_join Q t₁ t₂
          (resolves_each q (λ m h. s m (resolves_sound p m h).0))
          (leaves_each r (λ m h. s m (resolves_sound p m (resolves_sound q m h).0).0)))
      matches_each (calls {t = t} {u = u} p q) s =
          each_join Q t u (passes_each p s) (matches_each q (λ m h. s m (passes_sound p m h).0))
      matches_each (calls_out p) s = passes_each p s
      matches_each (negates p) s = matches_each p s
      matches_each (picks {t = t} {u = u} p q) s =
          each_join Q t u (settles_each p s) (matches_each q (λ m h. s m (settles_sound p m h).0))
      matches_each (both_sides {t = t} {u = u} j p q) s =
          each_join Q t u (matches_each p s) (matches_each q (λ m h. s m (sound rules m p h).0))
      matches_each (left_side {v = v} {w = w} n p) s = (lefts v w, matches_each p s)
      matches_each (right_side {v = v} {w = w} {t = t} {u = u} n p q) s = (
        rights v w,
        each_join Q t u (matches_each p s)
            (matches_each q (λ m h. s m (sound rules m p h).0)),
      )

    pub run_each : {sh : Sheet} {fuel : ℕ} {t : Trace} {a : Outcome} → Run sh fuel Top t a → Each Q t
    run_each {sh} (runs {t = t} {u = u} l x f) =
        each_join Q t u (matches_each (rules_of sh) x (λ m h. (and_parts (Top m) _ (lives_sound l m h).0).0))
        (finishes_each f (λ m h. (and_parts (Top m) _
        (lives_sound l m (sound (rules_of sh) m x h).0).0).0))

-- the pick of an entry is below its width
abbrev Picked : Entry → Type 0
Picked (took k c) = k < width c

all_picked : (t : Trace) → Each Picked t → Within t
all_picked [] x = none
all_picked (took k c ∷ t) x = one x.0 (all_picked t x.1)

pub matches_within :
    (rules : List Rule) {e : List Argument} {F : Formula} {b : Bool} {n : ℕ} {S : Marks} {o : State} {t : Trace}
    → Matches rules e F b (live n S) t o → Within t
matches_within rules {S = S} {t = t} d =
    all_picked t (matches_each Picked S (λ P s f vs V k h. h) (λ v w. omega arith) (λ v w. omega arith) rules d
    (λ m h. h))

pub run_within : {sh : Sheet} {fuel : ℕ} {S : Marks} {t : Trace} {a : Outcome} → Run sh fuel S t a → Within t
run_within {S = S} {t = t} r =
    all_picked t (run_each Picked S (λ P s f vs V k h. h) (λ v w. omega arith) (λ v w. omega arith) r)
