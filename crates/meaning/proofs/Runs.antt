-- The laws of whole runs.
use Rattle.std.proofs.Common.{◌≡◌, ℕ, zero, suc, Bool, true, false, ◌&&◌, ◌≢◌, ◌⊎◌, List, [], ◌∷◌, ◌++◌, length, get_or, sym, refl, ap, ◌∙◌, subst, ap₂, arith, eq-eqb}
use Rattle.std.proofs.lemmas.Bool.{and_from, and_parts, both_ways, true_from_ne_false}
use mathlib.Core.Path.{fun_ext}
use mathlib.Core.Bool.{and-true}
use Rattle.formula.specs.Trees.{Formula, Range, range, Rule, Sheet}
use Rattle.formula.specs.declared.Comparison.TheVariants.{AtMost, AtLeast}
use Rattle.formula.specs.Comparing.{holds}
use Rattle.marks.specs.Sets.{Marks, Empty, MarksOf, kept}
use Rattle.meaning.specs.Terms.{rules_of, mark_line, ranges_of, fields_of}
use Rattle.meaning.specs.Reading.{said, Reads, ranged, Allowed}
use Rattle.meaning.specs.Traces.{Trace, Apart}
use Rattle.meaning.specs.Matching.{Argument, the_field, Settles, known, chosen, State, live, dead, spent}
use Rattle.meaning.specs.Matching.{Lives, some_left, none_left, Matches, stays_dead, stays_spent, compares}
use Rattle.meaning.specs.Matching.{calls, calls_out, negates, picks, both_sides, left_side, right_side}
use Rattle.meaning.specs.Runs.{Outcome, mark, dead_end, spent_run, Ends, ended, ends, Finishes, whole}
use Rattle.meaning.specs.Runs.{at_dead, at_spent, inside, Run, runs}
use Rattle.meaning.specs.RunLaws.{RunsLawful, kept_ranges, RangesKeep}
use Rattle.meaning.proofs.Readings.{reads_allowed, allowed_reads}
use Rattle.marks.proofs.Counted.{in_get_or}
use Rattle.meaning.proofs.Counting.{Counted, counted, counted_part}
use Rattle.meaning.proofs.Soundness.{Held, fuel_of, settles_sound, lives_sound, sound}
use Rattle.meaning.proofs.Forks.{Fork, same, follow, onward, either, at_most, Has, settles_fork, lives_one}
use Rattle.meaning.proofs.Forks.{matches_fork}
use Rattle.meaning.proofs.Entries.{run_within}
use Rattle.meaning.proofs.Completeness.{settles_complete, complete}

-- the numbers of a mark from field f on, c of them
slice : ℕ → ℕ → List ℕ → List ℕ
slice f zero m = []
slice f (suc c) m = get_or m f 0 ∷ slice (suc f) c m

slice_cons : (f c x : ℕ) (m : List ℕ) → slice (suc f) c (x ∷ m) ≡ slice f c m
unfolding slice
slice_cons f zero x m = refl
slice_cons f (suc c) x m = ap {B = List ℕ} (λ l. get_or m f 0 ∷ l) (slice_cons (suc f) c x m)

slice_all : (c : ℕ) (m : List ℕ) → length m ≡ c → slice 0 c m ≡ m
unfolding slice
slice_all zero [] p = refl
slice_all zero (x ∷ m) p = absurd (omega arith)
slice_all (suc c) [] p = absurd (omega arith)
slice_all (suc c) (x ∷ m) p = ap {B = List ℕ} (λ l. x ∷ l) (slice_cons 0 c x m ∙ slice_all c m (omega arith))

ends_sound :
    {f c : ℕ} {S P : Marks} {t : Trace} {vs : List ℕ} → Ends f c S t P vs → (m : List ℕ) → P m ≡ true
    → (S m ≡ true) × (vs ≡ slice f c m)
unfolding slice
ends_sound ended m h = (h, refl)
ends_sound (ends s r) m h =
    let q = ends_sound r m h in
    let p = settles_sound s m q.0 in
    (p.0, ap₂ {C = List ℕ} ◌∷◌ p.1 q.1)

ends_fork :
    {f c : ℕ} {S P : Marks} {t : Trace} {vs : List ℕ} → Ends f c S t P vs
    → {Q : Marks} {u : Trace} {ws : List ℕ} → Ends f c S u Q ws
    → Fork (Has {X = List ℕ}) t (P, vs) u (Q, ws)
ends_fork ended ended = same refl refl
ends_fork (ends {f = f} {c = c} p r) {Q} (ends {u = u} {vs = ds} q s) =
    follow (settles_fork p q)
    (λ z.
    onward {hold = Has {X = List ℕ}}
    (ends_fork r (subst (λ (y : Marks × ℕ). Ends (suc f) c y.0 u Q ds) (sym z) s))
    (λ y. ap₂ {C = Marks × List ℕ} (λ (x : Marks × ℕ) (y : Marks × List ℕ). (y.0, x.1 ∷ y.1)) z y)
    (λ m h. h)
    (λ m h. h))
    (λ m h. (ends_sound r m h).0)
    (λ m h. (ends_sound s m h).0)

ends_complete :
    (f c : ℕ) (S : Marks) → Counted S → (m : List ℕ) → S m ≡ true
    → (t : Trace) × (P : Marks) × Ends f c S t P (slice f c m)
unfolding slice
ends_complete f zero S C m h = ([], S, ended)
ends_complete f (suc c) S C m h =
    let r = settles_complete S C m h (the_field f) in
    let q = ends_complete (suc f) c r.1 (counted_part S r.1 C (λ m h. (settles_sound r.3 m h).0)) m
    r.4 in (
      r.0 ++ q.0,
      q.1,
      ends (subst (λ (v : ℕ). Settles S (the_field f) r.0 r.1 v)
          (settles_sound r.3 m r.4).1 r.3) q.2,
    )

-- a live state has a mark
abbrev pub Alive : State → Type 0
Alive (live n S) = Empty S → ⊥
Alive dead = Unit {0}
Alive spent = Unit {0}

pub settles_alive :
    {S : Marks} {f : ℕ} {t : Trace} {P : Marks} {v : ℕ} → Settles S (the_field f) t P v → (Empty S → ⊥)
    → Empty P → ⊥
settles_alive (known V) x y = x y
settles_alive {S} (chosen {f = f} {vs = vs} k V n h) x y =
    V.only (get_or vs k 0) (in_get_or vs k h) (λ m p q.
    y m (and_from (S m) _ p (eq-eqb (get_or m f 0) (get_or vs k 0) q)))

ends_alive :
    {f c : ℕ} {S P : Marks} {t : Trace} {vs : List ℕ} → Ends f c S t P vs → (Empty S → ⊥) → Empty P → ⊥
ends_alive ended x y = x y
ends_alive (ends s r) x y = ends_alive r (settles_alive s x) y

pub lives_alive : {n : ℕ} {S : Marks} {o : State} → Lives n S o → Alive o
lives_alive (some_left x) = x
lives_alive (none_left x) = tt

module _ (rules : List Rule) where
  pub matches_alive :
      {e : List Argument} {F : Formula} {b : Bool} {i o : State} {t : Trace} → Matches rules e F b i t o
      → Alive o
  matches_alive stays_dead = tt
  matches_alive stays_spent = tt
  matches_alive (compares p q w z) = lives_alive z
  matches_alive (calls p q) = matches_alive q
  matches_alive (calls_out p) = tt
  matches_alive (negates p) = matches_alive p
  matches_alive (picks p q) = matches_alive q
  matches_alive (both_sides j p q) = matches_alive q
  matches_alive (left_side n p) = matches_alive p
  matches_alive (right_side n p q) = matches_alive q

-- what an end issues
abbrev pub Issued : Outcome → List ℕ → Type 0
Issued (mark vs) m = vs ≡ m
Issued dead_end m = ⊥
Issued spent_run m = ⊥

ends_held :
    {w : ℕ} {S P : Marks} {t : Trace} {vs : List ℕ} → ((m : List ℕ) → S m ≡ true → length m ≡ w)
    → Ends 0 w S t P vs → (Empty S → ⊥) → P vs ≡ true
ends_held {w} {S} {P} {vs = vs} long d x =
    true_from_ne_false (P vs) (λ n. ends_alive d x (λ m h.
    let q = ends_sound d m h in
    both_ways _ n (subst (λ (l : List ℕ). P l ≡ true) (sym (q.1 ∙ slice_all w m (long m q.0))) h)))

ends_issued :
    {w : ℕ} {S P : Marks} {t : Trace} {vs : List ℕ} → ((m : List ℕ) → S m ≡ true → length m ≡ w)
    → Ends 0 w S t P vs → (Empty S → ⊥) → (m : List ℕ) → vs ≡ m → P m ≡ true
ends_issued {P} long d x m p = subst (λ (l : List ℕ). P l ≡ true) p (ends_held long d x)

finishes_held :
    {w : ℕ} {o : State} {t : Trace} {a : Outcome} → ((m : List ℕ) → Held o m → length m ≡ w) → Alive o
    → Finishes w o t a → (m : List ℕ) → Issued a m → Held o m
finishes_held long x (whole d) m p = (ends_sound d m (ends_issued long d x m p)).0
finishes_held long x at_dead m p = absurd p
finishes_held long x at_spent m p = absurd p

finishes_fork :
    {w : ℕ} {o : State} {t : Trace} {a : Outcome} → ((m : List ℕ) → Held o m → length m ≡ w) → Alive o
    → Finishes w o t a → {u : Trace} {c : Outcome} → Finishes w o u c → Fork Issued t a u c
finishes_fork long x (whole d) (whole e) =
    onward (ends_fork d e) (λ q. ap (λ (z : Marks × List ℕ). mark z.1) q) (ends_issued long d x)
    (ends_issued long e x)
finishes_fork long x at_dead at_dead = same refl refl
finishes_fork long x at_spent at_spent = same refl refl

module _ (sh : Sheet) (fuel : ℕ) (S : Marks) (B : MarksOf (fields_of sh) S) where
  -- what a run's match leaves are marks of the starting set
  kept_inside :
      {i o : State} {t : Trace} → Lives fuel (inside S (ranges_of sh)) i
      → Matches (rules_of sh) [] (mark_line sh) true i t o → (m : List ℕ) → Held o m
      → inside S (ranges_of sh) m ≡ true
  kept_inside l x m h = (lives_sound l m (sound (rules_of sh) m x h).0).0

  length_of :
      {i o : State} {t : Trace} → Lives fuel (inside S (ranges_of sh)) i
      → Matches (rules_of sh) [] (mark_line sh) true i t o → (m : List ℕ) → Held o m
      → length m ≡ fields_of sh
  length_of l x m h = (B m (and_parts (S m) _ (kept_inside l x m h)).0).0

  pub run_fork :
      {t : Trace} {a : Outcome} → Run sh fuel S t a → {u : Trace} {c : Outcome} → Run sh fuel S u c
      → Fork Issued t a u c
  run_fork (runs l x f) {c = c} (runs {o = o} {t = t} {u = u} k y g) =
      follow (matches_fork (rules_of sh) x (subst (λ (i : State). Matches (rules_of sh) [] (mark_line sh)
      true i t o) (lives_one k l) y))
      (λ q. finishes_fork (length_of l x) (matches_alive (rules_of sh) x) f
      (subst (λ (o : State). Finishes (fields_of sh) o u c) (sym q) g))
      (finishes_held (length_of l x) (matches_alive (rules_of sh) x) f)
      (finishes_held (length_of k y) (matches_alive (rules_of sh) y) g)

  pub run_part :
      (t u : Trace) (a c : Outcome) → Run sh fuel S t a → Run sh fuel S u c
      → ((t ≡ u) × (a ≡ c)) ⊎ Apart t u
  run_part t u a c x y = either (run_fork x y)

  pub run_sound :
      {t : Trace} {a : Outcome} → Run sh fuel S t a → (m : List ℕ) → Issued a m
      → (S m ≡ true) × Allowed sh fuel m
  run_sound (runs {o = o} l x f) m p =
      let h = finishes_held (length_of l x) (matches_alive (rules_of sh) x) f m p in
      let r = sound (rules_of sh) m x h in
      let z = lives_sound l m r.0 in (
        (and_parts (S m) _ z.0).0,
        reads_allowed (
          (and_parts (S m) _ z.0).1,
          (
            fuel_of o,
            subst (λ (n : ℕ). Reads (rules_of sh) m [] (mark_line sh) n (said true (fuel_of o)))
                (sym z.1) r.1,
          ),
        ),
      )

  pub run_complete :
      (m : List ℕ) → S m ≡ true → Allowed sh fuel m
      → (t : Trace) × Run sh fuel S t (mark m) × ((u : Trace) → Run sh fuel S u (mark m) → t ≡ u)
  run_complete m h x =
      let a = allowed_reads x in
      let in_it : inside S (ranges_of sh) m ≡ true = and_from (S m) _ h a.0 in
      let C = counted_part S (inside S (ranges_of sh)) (counted (fields_of sh) S B)
      (λ m h. (and_parts (S m) _ h).0) in
      let x = complete (rules_of sh) m a.1.1 [] refl true a.1.0 refl (inside S (ranges_of sh)) C
      in_it in
      let y = ends_complete 0 (fields_of sh) x.1 (counted_part (inside S (ranges_of sh)) x.1 C
      (λ m h. (sound (rules_of sh) m x.2 h).0)) m x.3 in
      let r : Run sh fuel S (x.0 ++ y.0) (mark m) = runs (some_left (λ e. e m in_it)) x.2
      (subst (λ (l : List ℕ). Finishes (fields_of sh) (live a.1.0 x.1) y.0 (mark l))
      (slice_all (fields_of sh) m (B m h).0) (whole y.2)) in
      (x.0 ++ y.0, r, λ u z. at_most (run_fork r z) m refl refl)

  run_differ :
      (t u : Trace) (m p : List ℕ) → Run sh fuel S t (mark m) → Run sh fuel S u (mark p) → t ≢ u → m ≢ p
  run_differ t u m p x y n q = n (at_most (run_fork x y) p q refl)

pub run_laws : RunsLawful
run_laws =
    λ sh fuel S B.
    record {
      part = run_part sh fuel S B;
      within = λ t a x. run_within x;
      sound = λ t m x. run_sound sh fuel S B x m refl;
      complete = run_complete sh fuel S B;
      differ = run_differ sh fuel S B;
    }

-- keeping each range in turn

kept_all : (rs : List Range) (f : ℕ) (S : Marks) → kept_ranges rs f S ≡ (λ m. S m && ranged rs f m)
kept_all [] f S = fun_ext (λ m. sym (and-true (S m)))
kept_all (range low high ∷ rs) f S =
    kept_all rs (suc f) (kept (kept S f AtLeast low) f AtMost high)
    ∙ fun_ext (λ m. regroup (S m) (holds AtLeast (get_or m f 0) low) (holds AtMost (get_or m f 0) high)
    (ranged rs (suc f) m))
  where
    regroup : (a b c d : Bool) → (((a && b) && c) && d) ≡ (a && ((b && c) && d))
    regroup true b c d = refl
    regroup false b c d = refl

pub ranges_keep : RangesKeep
ranges_keep = λ S rs. kept_all rs 0 S
