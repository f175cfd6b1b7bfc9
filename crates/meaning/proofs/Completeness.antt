-- Each mark that reads as the target is found.
use Rattle.std.proofs.Common.{◌≡◌, ℕ, Bool, true, not, List, [], ◌∷◌, ◌++◌, map, length, get_or, sym, refl, ap, ◌∙◌, subst, ap₂, arith, eq-eqb}
use Rattle.std.proofs.lemmas.Bool.{and_from}
use mathlib.Core.Bool.{Bool-discrete, not-not}
use Rattle.formula.specs.Trees.{Term, num, bare, moved, Formula, compare, join, Rule}
use Rattle.formula.specs.Comparing.{holds}
use Rattle.formula.specs.declared.Comparison.{Comparison}
use Rattle.formula.specs.declared.Join.{Join}
use Rattle.marks.specs.Sets.{Marks, Values}
use Rattle.meaning.specs.Terms.{shifted, value, wants, aimed}
use Rattle.meaning.specs.Reading.{Answer, said, ran_out, turned, Reads, tells, called, uncalled, turns}
use Rattle.meaning.specs.Reading.{picked, left_out, left_only, right_too}
use Rattle.meaning.specs.Traces.{Trace}
use Rattle.meaning.specs.Matching.{Argument, the_field, the_number, at, argument, Settles, number, known}
use Rattle.meaning.specs.Matching.{chosen, Resolves, numeral, as_it_is, settled, Passes, no_more, passes}
use Rattle.meaning.specs.Matching.{Unknown, LeavesOne, left_first, at_most_one, passing, live, some_left}
use Rattle.meaning.specs.Matching.{Matches, compares, calls, negates, picks, both_sides, left_side}
use Rattle.meaning.specs.Matching.{right_side}
use Rattle.meaning.specs.MatchingLaws.{MatchesComplete}
use Rattle.meaning.proofs.Basics.{other, holds_aimed}
use Rattle.meaning.proofs.Values.{values_one, in_index}
use Rattle.meaning.proofs.Counting.{Counted, counted, counted_part}
use Rattle.meaning.proofs.Readings.{said_result, said_left, out_not_said}
use Rattle.meaning.proofs.Soundness.{settles_sound, resolves_sound, passes_sound, sound}

-- a step from S to a set that still holds m
pub settles_complete :
    (S : Marks) → Counted S → (m : List ℕ) → S m ≡ true → (a : Argument)
    → (t : Trace) × (P : Marks) × (v : ℕ) × Settles S a t P v × (P m ≡ true)
settles_complete S C m h (the_number n) = ([], S, n, number, h)
settles_complete S C m h (the_field f) =
    let r = C S (λ m h. h) f in
    go r.0 r.1
  where
    go :
        (vs : List ℕ) → Values S f vs
        → (t : Trace) × (P : Marks) × (v : ℕ) × Settles S (the_field f) t P v × (P m ≡ true)
    go [] V = absurd (V.all m h)
    go (v ∷ []) V = ([], S, v, known V, h)
    go (v ∷ w ∷ l) V =
        let i = in_index (v ∷ w ∷ l) (get_or m f 0) (V.all m h) in (
          _,
          _,
          _,
          chosen i.0 V (omega arith) i.1,
          and_from (S m) _ h (eq-eqb (get_or m f 0) (get_or (v ∷ w ∷ l) i.0 0) (sym i.2)),
        )

pub resolves_complete :
    (e : List Argument) (S : Marks) → Counted S → (m : List ℕ) → S m ≡ true → (r : Term)
    → (t : Trace) × (P : Marks) × (a : Argument) × Resolves e S r t P a × (P m ≡ true)
resolves_complete e S C m h (num n) = ([], S, the_number n, numeral, h)
resolves_complete e S C m h (bare x) = ([], S, argument e x, as_it_is, h)
resolves_complete e S C m h (moved x d) =
    let r = settles_complete S C m h (argument e x) in
    (r.0, r.1, the_number (shifted d r.2), settled r.3, r.4)

pub passes_complete :
    (e : List Argument) (ts : List Term) (S : Marks) → Counted S → (m : List ℕ) → S m ≡ true
    → (t : Trace) × (P : Marks) × (d : List Argument) × Passes e S ts t P d × (P m ≡ true)
passes_complete e [] S C m h = ([], S, [], no_more, h)
passes_complete e (r ∷ ts) S C m h =
    let p = resolves_complete e S C m h r in
    let q = passes_complete e ts p.1 (counted_part S p.1 C (λ m h. (resolves_sound p.3 m h).0)) m
    p.4 in
    (p.0 ++ q.0, q.1, p.2 ∷ q.2, passes p.3 q.3, q.4)

unfoldable pub unknown_dec : (S : Marks) → Counted S → (a : Argument) → Dec (Unknown S a)
unknown_dec S C (the_number n) = no (λ x. x)
unknown_dec S C (the_field f) =
    let r = C S (λ m h. h) f in
    go r.0 r.1
  where
    go : (vs : List ℕ) → Values S f vs → Dec (Unknown S (the_field f))
    go [] V = yes ([], V, omega arith)
    go (v ∷ []) V = no (λ x. x.2 (ap length (values_one S f x.0 (v ∷ []) x.1 V)))
    go (v ∷ w ∷ l) V = yes (v ∷ w ∷ l, V, omega arith)

pub leaves_complete :
    (S : Marks) → Counted S → (m : List ℕ) → S m ≡ true → (a b : Argument)
    → (t : Trace) × (P : Marks) × LeavesOne S a b t P × (P m ≡ true)
leaves_complete S C m h a b = go (unknown_dec S C a) (unknown_dec S C b)
  where
    go :
        Dec (Unknown S a) → Dec (Unknown S b)
        → (t : Trace) × (P : Marks) × LeavesOne S a b t P × (P m ≡ true)
    go (no n) y = ([], S, at_most_one (λ x y. n x), h)
    go (yes x) (no n) = ([], S, at_most_one (λ x y. n y), h)
    go (yes x) (yes y) =
        let r = settles_complete S C m h a in
        (r.0, r.1, left_first x y r.3, r.4)

turned_back : (a : Answer) (b : Bool) (k : ℕ) → turned a ≡ said b k → a ≡ said (not b) k
turned_back (said c n) b k p = ap₂ said (sym (not-not c) ∙ ap not (said_result p)) (said_left p)
turned_back ran_out b k p = absurd (out_not_said b k p)

module _ (rules : List Rule) (m : List ℕ) where
  abbrev Finds : List Argument → Formula → Bool → ℕ → ℕ → Marks → Type 0
  Finds e F b n k S = (t : Trace) × (P : Marks) × Matches rules e F b (live n S) t (live k P) × (P m ≡ true)

  comparison :
      (e : List Argument) (l : Term) (s : Comparison) (r : Term) (b : Bool) (n : ℕ) (S : Marks) → Counted S
      → S m ≡ true → holds s (value m (map (at m) e) l) (value m (map (at m) e) r) ≡ b
      → Finds e (compare l s r) b n n S
  comparison e l s r b n S C h g =
      let p = resolves_complete e S C m h l in
      let C₁ = counted_part S p.1 C (λ m h. (resolves_sound p.3 m h).0) in
      let q = resolves_complete e p.1 C₁ m p.4 r in
      let C₂ = counted_part p.1 q.1 C₁ (λ m h. (resolves_sound q.3 m h).0) in
      let w = leaves_complete q.1 C₂ m q.4 p.2 q.2 in
      let ok : holds s (at m p.2) (at m q.2) ≡ b = ap₂ (holds s) (resolves_sound p.3 m p.4).1
      (resolves_sound q.3 m q.4).1 ∙ g in
      let in_it : passing w.1 (aimed b s) p.2 q.2 m ≡ true = and_from (w.1 m) _ w.3
      (holds_aimed b s (at m p.2) (at m q.2) ok) in (
        p.0 ++ (q.0 ++ w.0),
        passing w.1 (aimed b s) p.2 q.2,
        compares p.3 q.3 w.2 (some_left (λ x. x m in_it)),
        in_it,
      )

  joined :
      (e : List Argument) (j : Join) (v w : ℕ) (F G : Formula) (b c : Bool) (n i k : ℕ) (S : Marks)
      → Counted S → c ≡ wants j → ((d : Bool) → c ≡ d → Finds e F d n i S)
      → ((P : Marks) → Counted P → P m ≡ true → Finds e G b i k P) → Dec (b ≡ wants j)
      → Finds e (join j v w F G) b n k S
  joined e j v w F G b c n i k S C x left right (yes p) =
      let q = left b (x ∙ sym p) in
      let r = right q.1 (counted_part S q.1 C (λ m h. (sound rules m q.2 h).0)) q.3 in
      (q.0 ++ r.0, r.1, both_sides p q.2 r.2, r.3)
  joined e j v w F G b c n i k S C x left right (no p) =
      let q = left (not b) (x ∙ sym (other b (wants j) p)) in
      let r = right q.1 (counted_part S q.1 C (λ m h. (sound rules m q.2 h).0)) q.3 in
      (_, r.1, right_side p q.2 r.2, r.3)

  pub complete :
      {d : List ℕ} {F : Formula} {n : ℕ} {a : Answer} → Reads rules m d F n a → (e : List Argument)
      → d ≡ map (at m) e → (b : Bool) (k : ℕ) → a ≡ said b k → (S : Marks) → Counted S → S m ≡ true
      → Finds e F b n k S
  complete (tells {l = l} {c = s} {r = r} {n = n}) e p b k q S C h =
      subst (λ (k : ℕ). Finds e (compare l s r) b n k S) (said_left q)
      (comparison e l s r b n S C h (ap (λ (d : List ℕ). holds s (value m d l) (value m d r)) (sym p)
      ∙ said_result q))
  complete (called {ts = ts} x) e p b k q S C h =
      let r = passes_complete e ts S C m h in
      let z = complete x r.2 (ap (λ (d : List ℕ). map (value m d) ts) p
      ∙ sym (passes_sound r.3 m r.4).1) b k q r.1
      (counted_part S r.1 C (λ m h. (passes_sound r.3 m h).0)) r.4 in
      (r.0 ++ z.0, z.1, calls r.3 z.2, z.3)
  complete uncalled e p b k q S C h = absurd (out_not_said b k q)
  complete (turns {a = a} x) e p b k q S C h =
      let z = complete x e p (not b) k (turned_back a b k q) S C h in
      (z.0, z.1, negates z.2, z.3)
  complete (picked {x = x} r) e p b k q S C h =
      let y = settles_complete S C m h (argument e x) in
      let z = complete r e p b k q y.1 (counted_part S y.1 C (λ m h. (settles_sound y.3 m h).0))
      y.4 in
      (y.0 ++ z.0, z.1, picks y.3 z.2, z.3)
  complete (left_out x) e p b k q S C h = absurd (out_not_said b k q)
  complete (left_only {j = j} y x) e p b k q S C h =
      let z = complete x e p b k q S C h in
      (_, z.1, left_side (λ r. y (said_result q ∙ r)) z.2, z.3)
  complete (right_too {j = j} {v = v} {w = w} {F = F} {G = G} {n = n} {b = c} {k = i} y x r) e p b k q S C h =
      joined e j v w F G b c n i k S C y
      (λ d g. complete x e p d i (ap (λ (z : Bool). said z i) g) S C h)
      (λ P D g. complete r e p b k q P D g)
      (Bool-discrete b (wants j))

pub completeness : MatchesComplete
completeness = λ rules e F b n k w S B m h r. complete rules m r e refl b k refl S (counted w S B) h
