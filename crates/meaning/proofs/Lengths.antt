-- How long a trace can be.
use Rattle.std.proofs.Common.{◌≡◌, ℕ, zero, suc, ◌+◌, ◌*◌, ◌<◌, ◌≤◌, Bool, true, false, cond, ◌&&◌, ◌||◌, eqb, ◌≢◌, List, [], ◌∷◌, ◌++◌, length, get_or, sym, refl, ap, ◌∙◌, subst, inl, inr, ⊎_elim, not-suc-le-zero, mul-suc, mul-add, arith, eq-eqb, eqb-true}
use Rattle.std.proofs.lemmas.Bool.{and_parts, cases_lt, cond_both, false_from_ne_true}
use native.Mathlib.Decide.{ℕ_discrete}
use borrow.Author.Tests.{apart_eqb, clash}
use Rattle.std.proofs.lemmas.List.{get_or_past}
use Rattle.formula.specs.Trees.{Term, Formula, Rule, Sheet}
use Rattle.marks.specs.Sets.{Marks, Values}
use Rattle.meaning.specs.Terms.{fields_of, body, rules_of}
use Rattle.meaning.specs.Traces.{among, branch, Entry, took, Trace}
use Rattle.meaning.specs.Matching.{Argument, Settles, number, known, chosen, Resolves, numeral, as_it_is}
use Rattle.meaning.specs.Matching.{settled, Passes, no_more, passes, LeavesOne, left_first, at_most_one}
use Rattle.meaning.specs.Matching.{State, live, spent, Lives, some_left, none_left, Matches, stays_dead}
use Rattle.meaning.specs.Matching.{stays_spent, compares, calls, calls_out, negates, picks, both_sides}
use Rattle.meaning.specs.Matching.{left_side, right_side}
use Rattle.meaning.specs.Runs.{Outcome, Ends, ended, ends, Finishes, whole, at_dead, at_spent, Run, runs}
use Rattle.meaning.specs.Lengths.{joins, TracesShort, FewJoins}
use Rattle.meaning.proofs.Soundness.{Held, fuel_of, settles_sound, resolves_sound, passes_sound}
use Rattle.meaning.proofs.Soundness.{lives_sound, sound}
use Rattle.meaning.proofs.Entries.{Each, settles_each, resolves_each, passes_each, leaves_each, finishes_each}

-- branches of joins, and fields
forks : Trace → ℕ
forks [] = 0
forks (took k (among c) ∷ t) = forks t
forks (took k (branch v w) ∷ t) = suc (forks t)

fields : Trace → ℕ
fields [] = 0
fields (took k (among c) ∷ t) = suc (fields t)
fields (took k (branch v w) ∷ t) = fields t

both_kinds : (t : Trace) → length t ≡ forks t + fields t
unfolding forks fields
both_kinds [] = omega arith
both_kinds (took k (among c) ∷ t) = let h = both_kinds t in omega arith
both_kinds (took k (branch v w) ∷ t) = let h = both_kinds t in omega arith

forks_join : (t u : Trace) → forks (t ++ u) ≡ forks t + forks u
unfolding forks
forks_join [] u = omega arith
forks_join (took k (among c) ∷ t) u = forks_join t u
forks_join (took k (branch v w) ∷ t) u = let h = forks_join t u in omega arith

fields_join : (t u : Trace) → fields (t ++ u) ≡ fields t + fields u
unfolding fields
fields_join [] u = omega arith
fields_join (took k (among c) ∷ t) u = let h = fields_join t u in omega arith
fields_join (took k (branch v w) ∷ t) u = fields_join t u

-- the forks

-- the choice is among the numbers of a field
abbrev OfField : Entry → Type 0
OfField (took k (among c)) = Unit {0}
OfField (took k (branch v w)) = ⊥

no_forks : (t : Trace) → Each OfField t → forks t ≡ 0
unfolding forks
no_forks [] x = refl
no_forks (took k (among c) ∷ t) x = no_forks t x.1
no_forks (took k (branch v w) ∷ t) x = absurd x.0

-- every set, as the one that the others are parts of
abbrev Every : Marks
Every = λ m. true

-- what a field settles is a choice among its numbers
of_field :
    (S : Marks) → ((m : List ℕ) → S m ≡ true → Every m ≡ true) → (f : ℕ) (vs : List ℕ) → Values S f vs
    → (k : ℕ) → k < length vs → OfField (took k (among (length vs)))
of_field S s f vs V k h = tt

lives_fuel : {n : ℕ} {S : Marks} {o : State} (J : ℕ) → Lives n S o → J * fuel_of o ≤ J * n
lives_fuel J (some_left x) = omega arith
lives_fuel J (none_left x) = omega arith

module _ (rules : List Rule) (J : ℕ) (small : (r : ℕ) → joins (body rules r) ≤ J) where
  matches_forks :
      {e : List Argument} {F : Formula} {b : Bool} {i o : State} {t : Trace} → Matches rules e F b i t o
      → forks t + J * fuel_of o ≤ joins F + J * fuel_of i
  unfolding forks
  matches_forks stays_dead = omega arith
  matches_forks stays_spent = omega arith
  matches_forks (compares {t = t} {t₁ = t₁} {t₂ = t₂} p q w z) =
      let a = no_forks t (resolves_each OfField Every of_field p (λ m h. refl)) in
      let b = no_forks t₁ (resolves_each OfField Every of_field q (λ m h. refl)) in
      let c = no_forks t₂ (leaves_each OfField Every of_field w (λ m h. refl)) in
      let d = lives_fuel J z in
      omega (arith, forks_join t (t₁ ++ t₂), forks_join t₁ t₂)
  matches_forks (calls {r = r} {n = n} {t = t} {u = u} p q) =
      let a = no_forks t (passes_each OfField Every of_field p (λ m h. refl)) in
      let b = matches_forks q in
      omega (arith, forks_join t u, small r, mul-suc J n)
  matches_forks (calls_out {t = t} p) =
      let a = no_forks t (passes_each OfField Every of_field p (λ m h. refl)) in
      omega (arith, a)
  matches_forks (negates p) = matches_forks p
  matches_forks (picks {t = t} {u = u} p q) =
      let a = no_forks t (settles_each OfField Every of_field p (λ m h. refl)) in
      let b = matches_forks q in
      omega (arith, forks_join t u)
  matches_forks (both_sides {t = t} {u = u} j p q) =
      let a = matches_forks p in
      let b = matches_forks q in
      omega (arith, forks_join t u)
  matches_forks (left_side n p) = let a = matches_forks p in omega arith
  matches_forks (right_side {t = t} {u = u} n p q) =
      let a = matches_forks p in
      let b = matches_forks q in
      omega (arith, forks_join t u)

-- the fields

count : (ℕ → Bool) → ℕ → ℕ
count K zero = 0
count K (suc w) = cond (K w) (suc (count K w)) (count K w)

count_most : (K : ℕ → Bool) (w : ℕ) → count K w ≤ w
unfolding count
count_most K zero = omega arith
count_most K (suc w) =
    let h = count_most K w in
    cond_both (K w) (suc (count K w)) (count K w) (λ n. n ≤ suc w) (λ e. omega arith) (λ e. omega arith)

abbrev with_field : (ℕ → Bool) → ℕ → ℕ → Bool
with_field K f = λ g. eqb g f || K g

cond_same : {b c : Bool} {x y z u : ℕ} → b ≡ c → x ≡ z → y ≡ u → cond b x y ≡ cond c z u
cond_same p q r = cc

count_past : (K : ℕ → Bool) (f w : ℕ) → w ≤ f → count (with_field K f) w ≡ count K w
unfolding count
count_past K f zero h = refl
count_past K f (suc w) h =
    let r = count_past K f w (omega arith) in
    cond_same (ap (λ (b : Bool). b || K w) (apart_eqb w f (λ p. (let z : ⊥ = omega arith in z)))) (ap suc r) r

count_with : (K : ℕ → Bool) (f w : ℕ) → K f ≡ false → f < w → count (with_field K f) w ≡ suc (count K w)
unfolding count
count_with K f zero n h = absurd (not-suc-le-zero h)
count_with K f (suc w) n h = go (ℕ_discrete w f) (λ g. count_with K f w n g)
  where
    go :
        Dec (w ≡ f) → (f < w → count (with_field K f) w ≡ suc (count K w))
        → cond (with_field K f w) (suc (count (with_field K f) w)) (count (with_field K f) w) ≡ suc
        (cond (K w) (suc (count K w)) (count K w))
    go (yes p) r =
        let a : with_field K f w ≡ true = ap (λ (b : Bool). b || K w) (eq-eqb w f p) in
        let b : K w ≡ false = ap K p ∙ n in
        let c = count_past K f w (omega arith) in
        cond_same a (ap suc c) c ∙ ap suc (sym (cond_same b refl refl))
    go (no q) r =
        let a : with_field K f w ≡ K w = ap (λ (b : Bool). b || K w) (apart_eqb w f q) in
        let c = r (omega arith) in
        cond_same a (ap suc c) c ∙ split (K w)
      where
        split :
            (b : Bool)
            → cond b (suc (suc (count K w))) (suc (count K w)) ≡ suc (cond b (suc (count K w)) (count K w))
        split true = refl
        split false = refl

-- a field with one number is not a choice
pub not_chosen :
    (S : Marks) (f v : ℕ) (vs : List ℕ) (k : ℕ) → Values S f vs → length vs ≢ 1 → k < length vs
    → ((m : List ℕ) → S m ≡ true → get_or m f 0 ≡ v) → ⊥
not_chosen S f v [] k V n h x = not-suc-le-zero h
not_chosen S f v (a ∷ []) k V n h x = n refl
not_chosen S f v (a ∷ b ∷ vs) k V n h x =
    V.only a (inl refl) (λ m p q. V.only b (inr (inl refl))
    (λ m' p' q'. (let l : a < b = V.ascending.0 b (inl refl) in
    let e : a ≡ b = sym q ∙ x m p ∙ sym (x m' p') ∙ q' in omega arith)))

module _ (w : ℕ) where
  -- the fields of K have one number each in the marks of the state
  abbrev Stays : (ℕ → Bool) → State → Type 0
  Stays K o = (f : ℕ) → K f ≡ true → (v : ℕ) × ((m : List ℕ) → Held o m → get_or m f 0 ≡ v)

  -- from i by the trace t to o: K grows by the fields of t
  abbrev Rises : State → Trace → State → Type 0
  Rises i t o =
      ((m : List ℕ) → Held i m → length m ≡ w) → (K : ℕ → Bool) → Stays K i
      → (L : ℕ → Bool) × Stays L o × (fields t + count K w ≤ count L w)

  rises_join :
      (i j o : State) (t u : Trace) → Rises i t j → ((m : List ℕ) → Held j m → Held i m) → Rises j u o
      → Rises i (t ++ u) o
  rises_join i j o t u f s g long K x =
      let p = f long K x in
      let q = g (λ m h. long m (s m h)) p.0 p.1 in
      (q.0, q.1, omega (arith, fields_join t u, p.2, q.2))

  -- the same of sets
  abbrev Grows : Marks → Trace → Marks → Type 0
  Grows S t P = Rises (live 0 S) t (live 0 P)

  settles_grows : {S P : Marks} {a : Argument} {t : Trace} {v : ℕ} → Settles S a t P v → Grows S t P
  unfolding fields
  settles_grows number long K x = (K, x, omega arith)
  settles_grows (known V) long K x = (K, x, omega arith)
  settles_grows {S} (chosen {f = f} {vs = vs} k V n h) long K x = (
    with_field K f,
    (λ g. sure g (ℕ_discrete g f)),
    (let e = count_with K f w fresh below in omega arith),
  )
    where
      fresh : K f ≡ false
      fresh = false_from_ne_true (K f) (λ p. let r = x f p in not_chosen S f r.0 vs k V n h r.1)

      below : f < w
      below =
          ⊎_elim (λ p. p)
          (λ q. absurd (not_chosen S f 0 vs k V n h
          (λ m g. let l = long m g in get_or_past m f 0 (omega arith))))
          (cases_lt f w)

      sure :
          (g : ℕ) → Dec (g ≡ f) → with_field K f g ≡ true
          → (v : ℕ) × ((m : List ℕ) → (S m && eqb (get_or m f 0) (get_or vs k 0)) ≡ true → get_or m g 0 ≡ v)
      sure g (yes p) q = (
        get_or vs k 0,
        λ m y. ap (λ (i : ℕ). get_or m i 0) p
            ∙ eqb-true (get_or m f 0) (get_or vs k 0) (and_parts (S m) _ y).1,
      )
      sure g (no p) q =
          let r = x g (sym (ap (λ (b : Bool). b || K g) (apart_eqb g f p)) ∙ q) in
          (r.0, λ m y. r.1 m (and_parts (S m) _ y).0)

  resolves_grows :
      {e : List Argument} {S P : Marks} {r : Term} {t : Trace} {a : Argument} → Resolves e S r t P a
      → Grows S t P
  unfolding fields
  resolves_grows numeral = λ long K x. (K, x, omega arith)
  resolves_grows as_it_is = λ long K x. (K, x, omega arith)
  resolves_grows (settled s) = settles_grows s

  passes_grows :
      {e d : List Argument} {S P : Marks} {ts : List Term} {t : Trace} → Passes e S ts t P d → Grows S t P
  unfolding fields
  passes_grows no_more = λ long K x. (K, x, omega arith)
  passes_grows (passes {t = t} {u = u} s r) =
      rises_join (live 0 _) (live 0 _) (live 0 _) t u (resolves_grows s) (λ m h. (resolves_sound s m h).0)
      (passes_grows r)

  leaves_grows : {S P : Marks} {a b : Argument} {t : Trace} → LeavesOne S a b t P → Grows S t P
  unfolding fields
  leaves_grows (left_first x y s) = settles_grows s
  leaves_grows (at_most_one n) = λ long K x. (K, x, omega arith)

  ends_grows : {f c : ℕ} {S P : Marks} {t : Trace} {vs : List ℕ} → Ends f c S t P vs → Grows S t P
  unfolding fields
  ends_grows ended = λ long K x. (K, x, omega arith)
  ends_grows (ends {t = t} {u = u} s r) =
      rises_join (live 0 _) (live 0 _) (live 0 _) t u (settles_grows s) (λ m h. (settles_sound s m h).0) (ends_grows r)

  stays_part : (K : ℕ → Bool) (i o : State) → ((m : List ℕ) → Held o m → Held i m) → Stays K i → Stays K o
  stays_part K i o s x f h = let r = x f h in (r.0, λ m g. r.1 m (s m g))

  module _ (rules : List Rule) where
    matches_rises :
        {e : List Argument} {F : Formula} {b : Bool} {i o : State} {t : Trace} → Matches rules e F b i t o
        → Rises i t o
    unfolding fields
    matches_rises stays_dead = λ long K x. (K, x, omega arith)
    matches_rises stays_spent = λ long K x. (K, x, omega arith)
    matches_rises (compares {n = n} {S = S} {S₁ = S₁} {S₂ = S₂} {S₃ = S₃} {t = t} {t₁ = t₁} {t₂ = t₂}
        {o = o} p q r z) = λ long K x.
        let y = rises_join (live n S) (live n S₁) (live n S₃) t (t₁ ++ t₂) (resolves_grows p)
        (λ m h. (resolves_sound p m h).0)
        (rises_join (live n S₁) (live n S₂) (live n S₃) t₁ t₂ (resolves_grows q)
        (λ m h. (resolves_sound q m h).0) (leaves_grows r))
        long K x in
        (y.0, stays_part y.0 (live n S₃) o (λ m h. (and_parts (S₃ m) _ (lives_sound z m h).0).0) y.1, y.2)
    matches_rises (calls {n = n} {S = S} {S₁ = S₁} {t = t} {u = u} {o = o} p q) =
        rises_join (live (suc n) S) (live n S₁) o t u (passes_grows p) (λ m h. (passes_sound p m h).0)
        (matches_rises q)
    matches_rises (calls_out {S = S} {S₁ = S₁} p) = λ long K x.
        let y = passes_grows p long K x in
        (y.0, stays_part y.0 (live zero S₁) spent (λ m h. absurd h) y.1, y.2)
    matches_rises (negates p) = matches_rises p
    matches_rises (picks {n = n} {S = S} {S₁ = S₁} {t = t} {u = u} {o = o} p q) =
        rises_join (live n S) (live n S₁) o t u (settles_grows p) (λ m h. (settles_sound p m h).0)
        (matches_rises q)
    matches_rises (both_sides {n = n} {S = S} {t = t} {u = u} {i = i} {o = o} j p q) =
        rises_join (live n S) i o t u (matches_rises p) (λ m h. (sound rules m p h).0) (matches_rises q)
    matches_rises (left_side n p) = matches_rises p
    matches_rises (right_side {n = n} {S = S} {t = t} {u = u} {i = i} {o = o} j p q) =
        rises_join (live n S) i o t u (matches_rises p) (λ m h. (sound rules m p h).0) (matches_rises q)

    finishes_most :
        {o : State} {t : Trace} {a : Outcome} → Finishes w o t a → ((m : List ℕ) → Held o m → length m ≡ w)
        → (K : ℕ → Bool) → Stays K o → fields t + count K w ≤ w
    unfolding fields
    finishes_most (whole d) long K x =
        let y = ends_grows d long K x in
        omega (arith, y.2, count_most y.0 w)
    finishes_most at_dead long K x = omega (arith, count_most K w)
    finishes_most at_spent long K x = omega (arith, count_most K w)

  run_fields :
      {sh : Sheet} {fuel : ℕ} {S : Marks} {t : Trace} {a : Outcome}
      → w ≡ fields_of sh
      → ((m : List ℕ) → S m ≡ true → length m ≡ w)
      → Run sh fuel S t a
      → fields t ≤ w
  run_fields {sh} {S = S} e long (runs {i = i} {o = o} {t = t} {u = u} {a = a} l x f) =
      let rules = rules_of sh in
      let far : (m : List ℕ) → Held i m → length m ≡ w = λ m h.
      long m (and_parts (S m) _ (lives_sound l m h).0).0 in
      let p = matches_rises rules x far (λ g. false) (λ g h. absurd (clash h)) in
      let q = finishes_most rules (subst (λ (n : ℕ). Finishes n o u a) (sym e) f)
      (λ m h. far m (sound rules m x h).0) p.0 p.1 in
      omega (arith, fields_join t u, p.2, q)

run_forks :
    {sh : Sheet} {fuel : ℕ} {S : Marks} {t : Trace} {a : Outcome} (J : ℕ)
    → FewJoins sh J
    → Run sh fuel S t a
    → forks t ≤ J + J * fuel
run_forks {sh} J few (runs {t = t} {u = u} l x f) =
    let p = matches_forks (rules_of sh) J few.ruled x in
    let q = no_forks u (finishes_each OfField Every of_field f (λ m h. refl)) in
    let r = lives_fuel J l in
    omega (arith, forks_join t u, few.marked)

pub lengths : TracesShort
lengths =
    λ sh fuel S B J few t a r.
    (let p = run_forks J few r in
    let q = run_fields (fields_of sh) refl (λ m h. (B m h).0) r in
    omega (arith, both_kinds t, mul-add J fuel 1))
