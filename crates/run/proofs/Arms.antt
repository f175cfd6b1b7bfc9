-- Each kind of formula, as one turn.
use Rattle.std.proofs.Common.{◌≡◌, ℕ, zero, suc, ◌-◌, ◌<◌, Bool, true, false, not, ◌≢◌, List, [], ◌∷◌, ◌++◌, Ok, Err, sym, refl, ap, subst, inl, inr, append-nil, arith}
use mathlib.Core.Bool.{beq}
use borrow.Author.Tests.{clash}
use Rattle.marks.specs.Sets.{Marks}
use Rattle.formula.specs.Trees.{Rule, Formula, Name, Term, compare, call, negate, pick, join}
use Rattle.formula.specs.declared.Comparison.{Comparison}
use Rattle.formula.specs.declared.Join.{Join}
use Rattle.meaning.specs.Terms.{body, wants, aimed}
use Rattle.meaning.specs.Traces.{Trace, took, branch}
use Rattle.marks.specs.Sets.{Empty}
use Rattle.meaning.specs.Matching.{Settles, Passes, no_more, passes, live, dead, spent}
use Rattle.meaning.specs.Matching.{Argument, argument as named}
use Rattle.meaning.specs.Pending.{goal, Solves, solves}
use Rattle.meaning.specs.Pending.{Goal as Waiting}
use Rattle.meaning.proofs.Pending.{step_dead, step_neg, step_both, step_left, step_right, step_pick, step_call, step_out}
use Rattle.meaning.proofs.Counting.{Counted, counted_part}
use Rattle.meaning.proofs.Soundness.{settles_sound, passes_sound}
use Rattle.meaning.proofs.Soundness.{sound as matched_sound}
use Rattle.meaning.proofs.Runs.{matches_alive}
use Rattle.meaning.proofs.Picks.{arg_alive}
use Rattle.run.specs.declared.goal.Argument.{Argument as Held}
use Rattle.run.specs.declared.goal.Frame.{Frame}
use Rattle.run.specs.Frames.{arguments_of, argument_of}
use Rattle.run.specs.Ways.{Way, Took, Halt, Halts, Fits, Room, Chosen}
use Rattle.run.specs.Settling.{Settled, Settling}
use Rattle.run.specs.Comparing.{Compared, Comparing}
use Rattle.run.specs.declared.stop.Stop.{Stop}
use Rattle.run.specs.declared.stop.Stop.TheVariants.{DeadEnd, Halted}
use Rattle.run.specs.declared.turn.Sides.TheVariants.{Both}
use Rattle.run.specs.Goals.{Passing, Passed, Solving, Leads, Sided}
use Rattle.run.proofs.Ways.{took_map, took_none, halt_on, halts_on, fits_on}
use Rattle.run.proofs.Comparing.{resolves_alive, aim}
use Rattle.run.proofs.Turns.{solves_some}

pub passes_alive :
    {e d : List Argument} {S P : Marks} {ts : List Term} {t : Trace}
    → Passes e S ts t P d
    → (Empty S → ⊥)
    → Empty P
    → ⊥
passes_alive no_more x y = x y
passes_alive (passes p q) x y = passes_alive q (resolves_alive p x) y

module _ (rules : List Rule) (e : List Argument) (b : Bool) (rest : List Waiting) (u : ℕ) (S : Marks)
    (C : Counted S) (x : Empty S → ⊥) (w : ℕ) (z : Way) where
  pub negate_led :
      (F : Formula)
      → Took z (Leads rules (goal e (negate F) b ∷ rest) u S (goal e F (not b) ∷ rest) u S) z
  negate_led F = took_none (λ v o s. step_neg rules s)

  module _ (l : Term) (s : Comparison) (r : Term) where
    compare_on :
        (v : Trace)
        → Comparing e l (aimed b s) r S v
        → (u' : Trace) × Solving rules (goal e (compare l s r) b ∷ rest) u S (v ++ u')
    compare_on v m =
        let k = aim {s = s} {b = b} (m.1 rules u) in
        let q = solves_some rules rest S C (m.0 u) (matches_alive rules k)
        (λ i h. (matched_sound rules i k h).0) in
        (q.0, (q.1, solves k q.2))

    pub compare_fits :
        Fits z (Solving rules (goal e (compare l s r) b ∷ rest) u S)
        → Fits z (Comparing e l (aimed b s) r S)
    compare_fits = fits_on compare_on

    module _ (P : Marks) (y : Way) where
      pub compare_halt :
          Compared w e l (aimed b s) r S z (Err Halted) P y
          → Halt z (Solving rules (goal e (compare l s r) b ∷ rest) u S) y
      compare_halt h = halt_on compare_on h

      pub compare_led :
          Compared w e l (aimed b s) r S z (Ok tt) P y
          → Took z (Leads rules (goal e (compare l s r) b ∷ rest) u S rest u P) y
      compare_led k = took_map (λ v m u' o q. solves (aim {s = s} {b = b} (m rules u)) q) k.took

      pub compare_dead :
          Compared w e l (aimed b s) r S z (Err DeadEnd) P y
          → Took z (λ v. Solves rules (goal e (compare l s r) b ∷ rest) (live u S) v dead) y
      compare_dead k = took_map (λ v m. subst (λ q. Solves rules (goal e (compare l s r) b ∷ rest) (live u S)
          q dead) (append-nil v) (solves (aim {s = s} {b = b} (m rules u)) (step_dead rules rest))) k

  module _ (n : Name) (F : Formula) (a : Held) (is : argument_of a ≡ named e n) where
    pick_on :
        (v : Trace)
        → Settling S (argument_of a) v
        → (u' : Trace) × Solving rules (goal e (pick n F) b ∷ rest) u S (v ++ u')
    pick_on v m =
        let q = solves_some rules (goal e F b ∷ rest) m.0
        (counted_part S m.0 C (λ k h. (settles_sound m.2 k h).0)) (live u m.0)
        (arg_alive m.2 x) (λ k h. h) in
        (q.0, (q.1, step_pick rules (subst (λ c. Settles S c v m.0 m.1) is m.2) q.2))

    pub pick_fits :
        Fits z (Solving rules (goal e (pick n F) b ∷ rest) u S)
        → Fits z (Settling S (argument_of a))
    pick_fits = fits_on pick_on

    module _ (P : Marks) (y : Way) where
      pub pick_halt :
          (i : Stop) → Settled w S a z (Err i) P y
          → Halts z (Solving rules (goal e (pick n F) b ∷ rest) u S) i y
      pick_halt i h = halts_on pick_on h

      pub pick_led :
          (v : ℕ)
          → Settled w S a z (Ok v) P y
          → Took z (Leads rules (goal e (pick n F) b ∷ rest) u S (goal e F b ∷ rest) u P) y
      pick_led v k = took_map (λ t m u' o q. step_pick rules (subst (λ c. Settles S c t P v) is m) q)
          k.took

  module _ (j : Join) (p q : ℕ) (F G : Formula) where
    pub both_led :
        b ≡ wants j
        → Took z (Leads rules (goal e (join j p q F G) b ∷ rest) u S (goal e F b ∷ goal e G b ∷ rest) u S) z
    both_led h = took_none (λ v o s. step_both rules h s)

    -- both sides, or branch 1
    pub sides_led :
        (c : Bool) (y : Way)
        → Sided j (branch p q) b z (Ok (Both c)) y
        → Took z (Leads rules (goal e (join j p q F G) b ∷ rest) u S (goal e F c ∷ goal e G b ∷ rest) u S) y
    sides_led c y (inl h) =
        subst (λ r. Took z (Leads rules (goal e (join j p q F G) b ∷ rest) u S
        (goal e F r ∷ goal e G b ∷ rest) u S) y) (sym h.1)
        (subst (λ r. Took z (Leads rules (goal e (join j p q F G) b ∷ rest) u S
        (goal e F b ∷ goal e G b ∷ rest) u S) r) (sym h.2) (both_led h.0))
    sides_led c y (inr h) =
        subst (λ r. Took z (Leads rules (goal e (join j p q F G) b ∷ rest) u S
        (goal e F r ∷ goal e G b ∷ rest) u S) y) (sym h.1)
        (record {
          trace = took 1 (branch p q) ∷ [];
          does = λ v o s. step_right rules h.0 s;
          guided = (y.guide, h.2.1, refl);
          end = h.2.2;
        })

    module _ (h : b ≢ wants j) (y : Way) where
      pub left_led :
          Chosen (branch p q) z (Ok 0) y
          → Took z (Leads rules (goal e (join j p q F G) b ∷ rest) u S (goal e F b ∷ rest) u S) y
      left_led c = record {
        trace = took 0 (branch p q) ∷ [];
        does = λ v o s. step_left rules h s;
        guided =
            (y.guide, c.1, refl);
        end = c.2;
      }

      some_left : (v : Trace) × Solving rules (goal e (join j p q F G) b ∷ rest) u S (took 0 (branch p q) ∷ v)
      some_left = let k = solves_some rules (goal e F b ∷ rest) S C (live u S) x (λ m i. i) in
          (k.0, (k.1, step_left rules h k.2))

      pub join_halt :
          (i : Stop)
          → Chosen (branch p q) z (Err i) y
          → Halts z (Solving rules (goal e (join j p q F G) b ∷ rest) u S) i y
      join_halt i c = record {
        is = c.0;
        at =
            record {
              before = [];
              choice = branch p q;
              after = some_left.0;
              does = some_left.1;
              guided = ap (λ q. q.guide) c.2;
              stuck = c.1;
              end = ap (λ q. q.trail) c.2;
            };
      }

    pub join_fits :
        b ≢ wants j
        → Fits z (Solving rules (goal e (join j p q F G) b ∷ rest) u S)
        → Room 1 z.trail
    join_fits h f =
        let k = some_left h z in
        let r = f.room (took 0 (branch p q) ∷ k.0) k.1 in
        record { picks_hold = omega (arith, r.picks_hold); widths_hold = omega (arith, r.widths_hold) }

module _ (rules : List Rule) (e : List Argument) (b : Bool) (rest : List Waiting) (S : Marks) (C : Counted S)
    (x : Empty S → ⊥) (w : ℕ) (z : Way) (r : ℕ) (ts : List Term) where
  call_on :
      (u : ℕ) (v : Trace)
      → Passing e S ts v
      → (u' : Trace) × Solving rules (goal e (call r ts) b ∷ rest) u S (v ++ u')
  call_on zero v m = (
    [],
    (
      spent,
      subst (λ q. Solves rules (goal e (call r ts) b ∷ rest) (live zero S) q
          spent) (sym (append-nil v)) (step_out rules m.2),
    ),
  )
  call_on (suc k) v m =
      let q = solves_some rules (goal m.1 (body rules r) b ∷ rest) m.0
      (counted_part S m.0 C (λ k h. (passes_sound m.2 k h).0)) (live k m.0)
      (passes_alive m.2 x) (λ k h. h) in
      (q.0, (q.1, step_call rules m.2 q.2))

  module _ (u : ℕ) where
    pub call_fits : Fits z (Solving rules (goal e (call r ts) b ∷ rest) u S) → Fits z (Passing e S ts)
    call_fits = fits_on (call_on u)

    module _ (k : ℕ) (P : Marks) (y : Way) where
      pub call_halt :
          (i : Stop)
          → Passed w e S ts k z (Err i) P y
          → Halts z (Solving rules (goal e (call r ts) b ∷ rest) u S) i y
      call_halt i h = halts_on (call_on u) h

      pub call_led :
          (f : Frame) (F : Formula)
          → 0 < u
          → body rules r ≡ F
          → Passed w e S ts k z (Ok f) P y
          → Took z (Leads rules (goal e (call r ts) b ∷ rest) u S (goal (arguments_of f) F b ∷ rest) (u - 1)
          P) y
      call_led f F h is k =
          let back : suc (u - 1) ≡ u = omega arith in
          took_map (λ v m u' o q. subst (λ n. Solves rules (goal e (call r ts) b ∷ rest) (live n S) (v ++ u')
          o) back (step_call rules m (subst (λ G. Solves rules (goal (arguments_of f) G b ∷ rest)
          (live (u - 1) P) u' o) (sym is) q))) k.took

      pub call_spent :
          (f : Frame)
          → u ≡ 0
          → Passed w e S ts k z (Ok f) P y
          → Took z (λ v. Solves rules (goal e (call r ts) b ∷ rest) (live u S) v spent) y
      call_spent f h k = took_map (λ v m. subst (λ n. Solves rules (goal e (call r ts) b ∷ rest) (live n S) v
          spent) (sym h) (step_out rules m)) k.took

-- which targets make a choice
pub both_wants : (a b : Bool) → beq a b ≡ true → b ≡ a
both_wants true true h = refl
both_wants true false h = absurd (clash h)
both_wants false true h = absurd (clash h)
both_wants false false h = refl

pub one_wants : (a b : Bool) → beq a b ≡ false → b ≢ a
one_wants true true h k = clash (sym h)
one_wants true false h k = clash k
one_wants false true h k = clash (sym k)
one_wants false false h k = clash (sym h)
