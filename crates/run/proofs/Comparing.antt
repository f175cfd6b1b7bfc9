-- A whole comparison, from its parts.
use Rattle.std.proofs.Common.{ℕ, Bool, true, List, [], ◌++◌, Ok, Err, Result, sym, subst}
use Rattle.std.proofs.lemmas.Bool.{and_parts}
use Rattle.marks.specs.Sets.{Marks}
use Rattle.formula.specs.declared.Comparison.{Comparison}
use Rattle.formula.specs.Trees.{Term, Rule, compare}
use Rattle.meaning.specs.Terms.{aimed}
use Rattle.meaning.specs.Traces.{Trace}
use Rattle.marks.specs.Sets.{Empty}
use Rattle.meaning.specs.Matching.{Resolves, numeral, as_it_is, settled, LeavesOne, passing, State, live, dead, Lives, some_left, none_left, Matches, compares, stays_dead, stays_spent}
use Rattle.meaning.specs.Matching.{Argument}
use Rattle.meaning.specs.Picks.{Telling, Fair}
use Rattle.meaning.proofs.Counting.{Counted, counted_part}
use Rattle.meaning.proofs.Soundness.{resolves_sound, leaves_sound}
use Rattle.meaning.proofs.Picks.{arg_alive, lives_some, resolves_told, leaves_told}
use Rattle.run.specs.declared.goal.Argument.{Argument as Held}
use Rattle.run.specs.declared.stop.Stop.{Stop}
use Rattle.run.specs.declared.stop.Stop.TheVariants.{DeadEnd, Spent, Halted}
use Rattle.run.specs.Ways.{Way, Fits, Halt, Halts}
use Rattle.run.specs.Frames.{argument_of}
use Rattle.run.specs.Comparing.{Resolved, Resolving, LeavingOne, Related, Comparing, Compared}
use Rattle.run.proofs.Settling.{some_alive}
use Rattle.run.proofs.Ways.{took_join, halt_after, halts_on, halts_after, fits_on, fits_after}

-- the first pick everywhere
abbrev pub first : Telling
first r c = 0

pub first_fair : Fair first
first_fair r c h = h

pub resolves_alive :
    {e : List Argument} {S P : Marks} {x : Term} {t : Trace} {a : Argument}
    → Resolves e S x t P a
    → (Empty S → ⊥)
    → Empty P
    → ⊥
resolves_alive numeral x y = x y
resolves_alive as_it_is x y = x y
resolves_alive (settled s) x y = arg_alive s x y

-- a comparison by the sign that a target aims it to, with target true, is one with that target
pub aim :
    {rules : List Rule} {e : List Argument} {l r : Term} {s : Comparison} {b : Bool} {i o : State} {t : Trace}
    → Matches rules e (compare l (aimed b s) r) true i t o
    → Matches rules e (compare l s r) b i t o
aim stays_dead = stays_dead
aim stays_spent = stays_spent
aim (compares p q w h) = compares p q w h

module _ (e : List Argument) (l : Term) (s : Comparison) (r : Term) (S : Marks) (C : Counted S)
    (x : Empty S → ⊥) where
  -- from its three steps
  pub three :
      {S₁ S₂ S₃ : Marks} {t t₁ t₂ : Trace} {a c : Argument}
      → Resolves e S l t S₁ a
      → Resolves e S₁ r t₁ S₂ c
      → LeavesOne S₂ a c t₂ S₃
      → Comparing e l s r S (t ++ (t₁ ++ t₂))
  three {S₁} {S₂} {S₃} {a = a} {c = c} p q w =
      let D : Counted (passing S₃ s a c) = counted_part S (passing S₃ s a c) C
      (λ m h. (resolves_sound p m (resolves_sound q m (leaves_sound w m (and_parts (S₃ m) _ h).0)).0).0) in (
        (λ n. (lives_some n (passing S₃ s a c) D).0),
        (λ rules n. compares p q w (lives_some n (passing S₃ s a c) D).1),
      )

  pub rest :
      {S₁ S₂ : Marks} {t t₁ : Trace} (a c : Argument)
      → Resolves e S l t S₁ a
      → Resolves e S₁ r t₁ S₂ c
      → (u : Trace) × (P : Marks) × LeavesOne S₂ a c u P
  rest {S₁} {S₂} a c p q =
      let w = leaves_told first first_fair S₂ (counted_part S S₂ C
      (λ m h. (resolves_sound p m (resolves_sound q m h).0).0)) (resolves_alive q (resolves_alive p x)) []
      a c in
      (w.0, w.1, w.3)

  pub two :
      {S₁ S₂ : Marks} {t t₁ : Trace} (a c : Argument)
      → Resolves e S l t S₁ a
      → Resolves e S₁ r t₁ S₂ c
      → (u : Trace) × Comparing e l s r S (t ++ (t₁ ++ u))
  two a c p q = let w = rest a c p q in (w.0, three p q w.2)

  pub one :
      {S₁ : Marks} {t : Trace} (a : Argument) → Resolves e S l t S₁ a
      → (u : Trace) × Comparing e l s r S (t ++ u)
  one {S₁} a p =
      let q = resolves_told first first_fair e S₁ (counted_part S S₁ C (λ m h. (resolves_sound p m h).0))
      (resolves_alive p x) [] r in
      let w = two a q.2 p q.4 in
      (q.0 ++ w.0, w.1)

  module _ (w : ℕ) (z : Way) where
    halted : (i : Stop) (P : Marks) (y : Way) → Halts z (Comparing e l s r S) i y → Compared w e l s r S z (Err i) P y
    halted i P y h = subst (λ q. Compared w e l s r S z (Err q) P y) (sym h.is) h.at

    pub one_fits : Fits z (Comparing e l s r S) → Fits z (Resolving e S l)
    one_fits = fits_on (λ t m. one m.1 m.2)

    pub one_halt : (i : Stop) (P : Marks) (y : Way) → Resolved w e S l z (Err i) P y → Compared w e l s r S z (Err i) P y
    one_halt i P y h = halted i P y (halts_on (λ t m. one m.1 m.2) h)

    module _ (a : Held) (S₁ : Marks) (y : Way) (p : Resolved w e S l z (Ok a) S₁ y) where
      -- what follows the left side
      abbrev Then : Trace → Type 0
      Then v = (t : Trace) → Resolves e S l t S₁ (argument_of a) → Comparing e l s r S (t ++ v)

      then_on : (u : Trace) → Resolving e S₁ r u → (v : Trace) × Then (u ++ v)
      then_on u m = let k = rest (argument_of a) m.1 p.took.does m.2 in
          (k.0, λ t n. three n m.2 k.2)

      pub two_fits : Fits z (Comparing e l s r S) → Fits y (Resolving e S₁ r)
      two_fits h = fits_on {N = Then} then_on (fits_after {N = Then} (λ t u m n. n t m) p.took h)

      pub two_halt :
          (i : Stop) (P : Marks) (y' : Way) → Resolved w e S₁ r y (Err i) P y' → Compared w e l s r S z (Err i) P y'
      two_halt i P y' h = halted i P y'
          (halts_after {N = Then} (λ t u m n. n t m) p.took (halts_on {N = Then} then_on h))

      module _ (c : Held) (S₂ : Marks) (y₂ : Way) (q : Resolved w e S₁ r y (Ok c) S₂ y₂) where
        pub three_fits :
            Fits z (Comparing e l s r S)
            → Fits y₂ (LeavingOne S₂ (argument_of a) (argument_of c))
        three_fits h = fits_after {L = Then} (λ u v m n t k. three k m n.1) q.took
            (fits_after {N = Then} (λ t u m n. n t m) p.took h)

        halts_there :
            (y₃ : Way) → Halt y₂ (LeavingOne S₂ (argument_of a) (argument_of c)) y₃ → Halt z (Comparing e l s r S) y₃
        halts_there y₃ h = halt_after {N = Then} (λ t u m n. n t m) p.took
            (halt_after {L = Then} (λ u v m n t k. three k m n.1) q.took h)

        pub compared :
            (P : Marks) (y₃ : Way) (k : Result Unit Stop)
            → Related w S₂ (argument_of a) s (argument_of c) y₂ k P y₃
            → Compared w e l s r S z k P y₃
        compared P y₃ (Ok u) h =
            record {
              took = took_join {N = λ v. (t : Trace) → Resolves e S l t S₁ (argument_of a) →
                  (rules : List Rule) (n : ℕ) → Matches rules e (compare l s r) true (live n S) (t ++ v)
                  (live n P)} (λ t u m n. n t m) p.took
                  (took_join (λ u v m o t k rules i. compares k m o.1
                  (subst (λ Q. Lives i Q (live i P)) o.2 (some_left (some_alive w P h.alive)))) q.took h.took);
              alive = h.alive;
            }
        compared P y₃ (Err DeadEnd) h =
            took_join {N = λ v. (t : Trace) → Resolves e S l t S₁ (argument_of a) → (rules : List Rule)
            (n : ℕ) → Matches rules e (compare l s r) true (live n S) (t ++ v) dead} (λ t u m n. n t m)
            p.took
            (took_join (λ u v m o t k rules i. compares k m o.1 (none_left o.2)) q.took h)
        compared P y₃ (Err Spent) h = absurd h
        compared P y₃ (Err Halted) h = halts_there y₃ h
