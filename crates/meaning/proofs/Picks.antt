-- Whatever the picks, there is a run.
use Rattle.std.proofs.Common.{◌≡◌, ℕ, zero, suc, ◌<◌, ◌≤◌, Bool, true, not, ◌≢◌, List, [], ◌∷◌, ◌++◌, length, sym, refl, ◌∙◌, subst, inl, ⊎_elim, not-suc-le-zero, arith}
use Rattle.std.proofs.lemmas.Bool.{and_parts}
use mathlib.Core.Bool.{Bool-discrete}
use Rattle.formula.specs.Trees.{Term, num, bare, moved, Formula, compare, call, negate, pick, join}
use Rattle.formula.specs.Trees.{Rule, Sheet}
use Rattle.formula.specs.declared.Comparison.{Comparison}
use Rattle.formula.specs.declared.Join.{Join}
use Rattle.marks.specs.Sets.{Marks, Empty, Values}
use Rattle.meaning.specs.Terms.{ranges_of, fields_of, body, shifted, wants, aimed, rules_of, mark_line}
use Rattle.meaning.specs.Traces.{Choice, among, branch, width, took, Trace, Apart, here, there}
use Rattle.meaning.specs.Matching.{Argument, the_field, the_number, argument, Settles, number, known}
use Rattle.meaning.specs.Matching.{chosen, Resolves, numeral, as_it_is, settled, Passes, no_more, passes}
use Rattle.meaning.specs.Matching.{Unknown, LeavesOne, left_first, at_most_one, passing, State, live, dead}
use Rattle.meaning.specs.Matching.{spent, Lives, some_left, none_left, Matches, stays_dead, stays_spent}
use Rattle.meaning.specs.Matching.{compares, calls, calls_out, negates, picks, both_sides, left_side}
use Rattle.meaning.specs.Matching.{right_side}
use Rattle.meaning.specs.Runs.{Outcome, mark, dead_end, spent_run, Ends, ended, ends, Finishes, whole}
use Rattle.meaning.specs.Runs.{at_dead, at_spent, inside, Run, runs}
use Rattle.meaning.specs.Picks.{Telling, Fair, Told, told_none, told_one, told_past, NumbersTell}
use Rattle.meaning.proofs.Counting.{Counted, counted, counted_part}
use Rattle.meaning.proofs.Soundness.{Held, fuel_of, settles_sound, resolves_sound, passes_sound}
use Rattle.meaning.proofs.Soundness.{leaves_sound, lives_sound, sound}
use Rattle.meaning.proofs.Completeness.{unknown_dec}
use Rattle.meaning.proofs.Runs.{Alive, settles_alive, matches_alive, lives_alive, run_part}

unfoldable pub empty_dec : (S : Marks) → Counted S → Dec (Empty S)
empty_dec S C =
    let r = C S (λ m h. h) 0 in
    go r.0 r.1
  where
    go : (vs : List ℕ) → Values S 0 vs → Dec (Empty S)
    go [] V = yes (λ m h. V.all m h)
    go (v ∷ vs) V = no (λ e. V.only v (inl refl) (λ m h. absurd (e m h)))

pub arg_alive :
    {S : Marks} {a : Argument} {t : Trace} {P : Marks} {v : ℕ} → Settles S a t P v → (Empty S → ⊥) → Empty P
    → ⊥
arg_alive {a = the_number n} number x y = x y
arg_alive {a = the_field f} s x y = settles_alive s x y

pub lives_fuel : {n : ℕ} {S : Marks} {o : State} → Lives n S o → fuel_of o ≤ n
lives_fuel (some_left x) = omega arith
lives_fuel (none_left x) = omega arith

unfoldable pub lives_some : (n : ℕ) (S : Marks) → Counted S → (o : State) × Lives n S o
lives_some n S C = go (empty_dec S C)
  where
    go : Dec (Empty S) → (o : State) × Lives n S o
    go (yes e) = (dead, none_left e)
    go (no x) = (live n S, some_left x)

module _ (ρ : Telling) (fair : Fair ρ) where
  unfoldable pub told_join :
      {a b c : List ℕ} {t u : Trace} → Told ρ a t b → Told ρ b u c → Told ρ a (t ++ u) c
  told_join told_none y = y
  told_join (told_one p x) y = told_one p (told_join x y)
  told_join (told_past p x) y = told_past p (told_join x y)

  -- the pick of the next choice
  unfoldable pub next_pick :
      (ns : List ℕ) (c : Choice) → 0 < width c
      → (k : ℕ) × (k < width c) × (l : List ℕ) × ((t : Trace) (z : List ℕ) → Told ρ l t z
      → Told ρ ns (took k c ∷ t) z)
  next_pick [] c h = (0, h, [], λ t z x. told_past refl x)
  next_pick (r ∷ ns) c h = (ρ r c, fair r c h, ns, λ t z x. told_one refl x)

  unfoldable pub settles_told :
      (S : Marks) → Counted S → (Empty S → ⊥) → (ns : List ℕ) (a : Argument)
      → (t : Trace) × (P : Marks) × (v : ℕ) × (l : List ℕ) × Settles S a t P v × Told ρ ns t l
  settles_told S C x ns (the_number n) = ([], S, n, ns, number, told_none)
  settles_told S C x ns (the_field f) =
      let r = C S (λ m h. h) f in
      go r.0 r.1
    where
      go :
          (vs : List ℕ) → Values S f vs
          → (t : Trace) × (P : Marks) × (v : ℕ) × (l : List ℕ) × Settles S (the_field f) t P v × Told ρ ns t l
      go [] V = absurd (x (λ m h. V.all m h))
      go (v ∷ []) V = ([], S, v, ns, known V, told_none)
      go (v ∷ w ∷ vs) V =
          let p = next_pick ns (among (length (v ∷ w ∷ vs))) (omega arith) in
          (_, _, _, p.2, chosen p.0 V (omega arith) p.1, p.3 [] p.2 told_none)

  unfoldable pub resolves_told :
      (e : List Argument) (S : Marks) → Counted S → (Empty S → ⊥) → (ns : List ℕ) (r : Term)
      → (t : Trace) × (P : Marks) × (a : Argument) × (l : List ℕ) × Resolves e S r t P a × Told ρ ns t l
      × (Empty P → ⊥)
  resolves_told e S C x ns (num n) = ([], S, the_number n, ns, numeral, told_none, x)
  resolves_told e S C x ns (bare y) = ([], S, argument e y, ns, as_it_is, told_none, x)
  resolves_told e S C x ns (moved y d) =
      let r = settles_told S C x ns (argument e y) in
      (r.0, r.1, the_number (shifted d r.2), r.3, settled r.4, r.5, arg_alive r.4 x)

  unfoldable pub passes_told :
      (e : List Argument) (ts : List Term) (S : Marks) → Counted S → (Empty S → ⊥) → (ns : List ℕ)
      → (t : Trace) × (P : Marks) × (d : List Argument) × (l : List ℕ) × Passes e S ts t P d × Told ρ ns t l
      × (Empty P → ⊥)
  passes_told e [] S C x ns = ([], S, [], ns, no_more, told_none, x)
  passes_told e (r ∷ ts) S C x ns =
      let p = resolves_told e S C x ns r in
      let q = passes_told e ts p.1 (counted_part S p.1 C (λ m h. (resolves_sound p.4 m h).0)) p.6
      p.3 in
      (p.0 ++ q.0, q.1, p.2 ∷ q.2, q.3, passes p.4 q.4, told_join p.5 q.5, q.6)

  unfoldable pub leaves_told :
      (S : Marks) → Counted S → (Empty S → ⊥) → (ns : List ℕ) (a b : Argument)
      → (t : Trace) × (P : Marks) × (l : List ℕ) × LeavesOne S a b t P × Told ρ ns t l
  leaves_told S C x ns a b = go (unknown_dec S C a) (unknown_dec S C b)
    where
      go :
          Dec (Unknown S a) → Dec (Unknown S b)
          → (t : Trace) × (P : Marks) × (l : List ℕ) × LeavesOne S a b t P × Told ρ ns t l
      go (no n) y = ([], S, ns, at_most_one (λ x y. n x), told_none)
      go (yes z) (no n) = ([], S, ns, at_most_one (λ x y. n y), told_none)
      go (yes z) (yes y) =
          let r = settles_told S C x ns a in
          (r.0, r.1, r.3, left_first z y r.4, r.5)

  unfoldable pub ends_told :
      (f c : ℕ) (S : Marks) → Counted S → (Empty S → ⊥) → (ns : List ℕ)
      → (t : Trace) × (P : Marks) × (vs : List ℕ) × (l : List ℕ) × Ends f c S t P vs × Told ρ ns t l
  ends_told f zero S C x ns = ([], S, [], ns, ended, told_none)
  ends_told f (suc c) S C x ns =
      let p = settles_told S C x ns (the_field f) in
      let q = ends_told (suc f) c p.1 (counted_part S p.1 C (λ m h. (settles_sound p.4 m h).0))
      (arg_alive p.4 x) p.3 in
      (p.0 ++ q.0, q.1, p.2 ∷ q.2, q.3, ends p.4 q.4, told_join p.5 q.5)

  module _ (rules : List Rule) where
    -- a match from i, told by ns, with at most n fuel left
    abbrev pub Goes : List Argument → Formula → Bool → State → ℕ → List ℕ → Type 0
    Goes e F b i n ns =
        (t : Trace) × (o : State) × (l : List ℕ) × Matches rules e F b i t o × Told ρ ns t l
        × (fuel_of o ≤ n)

    abbrev pub At : ℕ → ℕ → Formula → Type 0
    At n k F =
        (e : List Argument) (b : Bool) (S : Marks) → Counted S → (Empty S → ⊥) → (ns : List ℕ)
        → Goes e F b (live k S) n ns

    unfoldable pub comparison :
        (n k : ℕ) → k ≤ n → (l : Term) (s : Comparison) (r : Term) → At n k (compare l s r)
    comparison n k h l s r e b S C x ns =
        let p = resolves_told e S C x ns l in
        let C₁ = counted_part S p.1 C (λ m h. (resolves_sound p.4 m h).0) in
        let q = resolves_told e p.1 C₁ p.6 p.3 r in
        let C₂ = counted_part p.1 q.1 C₁ (λ m h. (resolves_sound q.4 m h).0) in
        let w = leaves_told q.1 C₂ q.6 q.3 p.2 q.2 in
        let C₃ = counted_part q.1 (passing w.1 (aimed b s) p.2 q.2) C₂
        (λ m h. leaves_sound w.3 m (and_parts (w.1 m) _ h).0) in
        let z = lives_some k (passing w.1 (aimed b s) p.2 q.2) C₃ in
        let g : fuel_of z.0 ≤ k = lives_fuel z.1 in (
          p.0 ++ (q.0 ++ w.0),
          z.0,
          w.2,
          compares p.4 q.4 w.3 z.1,
          told_join p.5 (told_join q.5 w.4),
          omega arith,
        )

    -- what follows a state
    unfoldable pub then_on :
        (n : ℕ) (G : Formula) → ((k : ℕ) → k ≤ n → At n k G) → (e : List Argument) (b : Bool) (S : Marks)
        → Counted S → (i : State) → fuel_of i ≤ n → Alive i → ((m : List ℕ) → Held i m → S m ≡ true)
        → (ns : List ℕ) → Goes e G b i n ns
    then_on n G right e b S C (live k P) h x s ns = right k h e b P (counted_part S P C s) x ns
    then_on n G right e b S C dead h x s ns = ([], dead, ns, stays_dead, told_none, omega arith)
    then_on n G right e b S C spent h x s ns = ([], spent, ns, stays_spent, told_none, omega arith)

    unfoldable pub joined :
        (n k : ℕ) → k ≤ n → (j : Join) (v w : ℕ) (F G : Formula) → At n k F → ((k : ℕ) → k ≤ n → At n k G)
        → At n k (join j v w F G)
    joined n k h j v w F G left right e b S C x ns = go (Bool-discrete b (wants j))
      where
        chose :
            b ≢ wants j → (i : ℕ) → i < 2 → (l : List ℕ)
            → ((t : Trace) (z : List ℕ) → Told ρ l t z → Told ρ ns (took i (branch v w) ∷ t) z)
            → Goes e (join j v w F G) b (live k S) n ns
        chose y zero g l f =
            let q = left e b S C x l in
            (_, q.1, q.2, left_side y q.3, f q.0 q.2 q.4, q.5)
        chose y (suc zero) g l f =
            let q = left e (not b) S C x l in
            let r = then_on n G right e b S C q.1 q.5 (matches_alive rules q.3)
            (λ m h. (sound rules m q.3 h).0) q.2 in (
              _,
              r.1,
              r.2,
              right_side y q.3 r.3,
              f (q.0 ++ r.0) r.2 (told_join q.4 r.4),
              r.5,
            )
        chose y (suc (suc i)) g l f = absurd (omega arith)

        go : Dec (b ≡ wants j) → Goes e (join j v w F G) b (live k S) n ns
        go (yes y) =
            let q = left e b S C x ns in
            let r = then_on n G right e b S C q.1 q.5 (matches_alive rules q.3)
            (λ m h. (sound rules m q.3 h).0) q.2 in
            (q.0 ++ r.0, r.1, r.2, both_sides y q.3 r.3, told_join q.4 r.4, r.5)
        go (no y) =
            let p = next_pick ns (branch v w) (omega arith) in
            chose y p.0 p.1 p.2 p.3

    -- at most n fuel, from the bodies at less
    unfoldable pub step :
        (n : ℕ) → ((k : ℕ) → k < n → (F : Formula) → At n k F) → (F : Formula) (k : ℕ) → k ≤ n → At n k F
    step n ih (compare l s r) k h = comparison n k h l s r
    step n ih (call r ts) zero h =
        λ e b S C x ns. (let p = passes_told e ts S C x ns in
        (p.0, spent, p.3, calls_out p.4, p.5, omega arith))
    step n ih (call r ts) (suc k) h =
        λ e b S C x ns.
        (let p = passes_told e ts S C x ns in
        let q = ih k h (body rules r) p.2 b p.1
        (counted_part S p.1 C (λ m h. (passes_sound p.4 m h).0)) p.6 p.3 in
        (p.0 ++ q.0, q.1, q.2, calls p.4 q.3, told_join p.5 q.4, q.5))
    step n ih (negate F) k h =
        λ e b S C x ns. (let q = step n ih F k h e (not b) S C x ns in
        (q.0, q.1, q.2, negates q.3, q.4, q.5))
    step n ih (pick y F) k h =
        λ e b S C x ns.
        (let p = settles_told S C x ns (argument e y) in
        let q = step n ih F k h e b p.1 (counted_part S p.1 C (λ m h. (settles_sound p.4 m h).0))
        (arg_alive p.4 x) p.3 in
        (p.0 ++ q.0, q.1, q.2, picks p.4 q.3, told_join p.5 q.4, q.5))
    step n ih (join j v w F G) k h = joined n k h j v w F G (step n ih F k h) (step n ih G)

    unfoldable pub more : (n k i : ℕ) (F : Formula) → n ≤ i → At n k F → At i k F
    more n k i F h a e b S C x ns =
        let q = a e b S C x ns in (q.0, q.1, q.2, q.3, q.4, omega (arith, q.5))

    unfoldable pub total : (n : ℕ) (F : Formula) (k : ℕ) → k ≤ n → At n k F
    total zero F k h = step zero (λ k g F. absurd (not-suc-le-zero g)) F k h
    total (suc n) F k h =
        step (suc n) (λ k g F. more n k (suc n) F (omega arith) (total n F k (omega arith))) F k h

    unfoldable pub finishes_told :
        (w : ℕ) (S : Marks) → Counted S → (o : State) → Alive o → ((m : List ℕ) → Held o m → S m ≡ true)
        → (ns : List ℕ) → (t : Trace) × (a : Outcome) × (l : List ℕ) × Finishes w o t a × Told ρ ns t l
    finishes_told w S C (live k P) x s ns =
        let p = ends_told 0 w P (counted_part S P C s) x ns in
        (p.0, mark p.2, p.3, whole p.4, p.5)
    finishes_told w S C dead x s ns = ([], dead_end, ns, at_dead, told_none)
    finishes_told w S C spent x s ns = ([], spent_run, ns, at_spent, told_none)

  unfoldable pub run_told :
      (sh : Sheet) (fuel : ℕ) (S : Marks) → Counted (inside S (ranges_of sh)) → (ns : List ℕ)
      → (t : Trace) × (a : Outcome) × (l : List ℕ) × Run sh fuel S t a × Told ρ ns t l
  run_told sh fuel S C ns =
      let p = lives_some fuel (inside S (ranges_of sh)) C in
      let q = then_on (rules_of sh) fuel (mark_line sh) (total (rules_of sh) fuel (mark_line sh)) [] true
      (inside S (ranges_of sh)) C p.0 (lives_fuel p.1) (lives_alive p.1)
      (λ m h. (lives_sound p.1 m h).0) ns in
      let r = finishes_told (rules_of sh) (fields_of sh) (inside S (ranges_of sh)) C q.1
      (matches_alive (rules_of sh) q.3) (λ m h. (lives_sound p.1 m
      (sound (rules_of sh) m q.3 h).0).0) q.2 in
      (q.0 ++ r.0, r.1, r.2, runs p.1 q.3 r.3, told_join q.4 r.4)

  -- numbers tell one trace
  not_apart : {t u : Trace} → Apart t u → {ns l k : List ℕ} → Told ρ ns t l → Told ρ ns u k → ⊥
  not_apart (here n) (told_one p x) (told_one q y) = n (p ∙ sym q)
  not_apart (here n) (told_past p x) (told_past q y) = n (p ∙ sym q)
  not_apart (there a) (told_one p x) (told_one q y) = not_apart a x y
  not_apart (there a) (told_past p x) (told_past q y) = not_apart a x y

  one_rest : {ns l : List ℕ} {t : Trace} → Told ρ ns t l → {k : List ℕ} → Told ρ ns t k → k ≡ l
  one_rest told_none told_none = refl
  one_rest (told_one p x) (told_one q y) = one_rest x y
  one_rest (told_past p x) (told_past q y) = one_rest x y

pub all_told : NumbersTell
all_told =
    λ sh fuel S B ρ fair ns.
    (let r = run_told ρ fair sh fuel S (counted_part S (inside S (ranges_of sh))
    (counted (fields_of sh) S B) (λ m h. (and_parts (S m) _ h).0)) ns in
    record {
      trace = r.0;
      outcome = r.1;
      run = r.3;
      left = r.2;
      told = r.4;
      only = λ t a l x y.
          ⊎_elim
          (λ q. (q.0, q.1, one_rest ρ fair r.4 (subst (λ (i : Trace). Told ρ ns i l) q.0 y)))
          (λ q. absurd (not_apart ρ fair q y r.4))
          (run_part sh fuel S B t r.0 a r.1 x r.3);
    })
