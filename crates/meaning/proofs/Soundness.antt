-- A live match keeps only marks that read as the target.
use Rattle.std.proofs.Common.{◌≡◌, ℕ, Bool, true, List, ◌∷◌, map, sym, refl, ap, ◌∙◌, subst, ap₂, subst₂, rules}
use Rattle.std.proofs.lemmas.Bool.{and_parts}
use mathlib.Core.Bool.{not-not}
use Rattle.formula.specs.Trees.{Term, Formula, compare, negate, Rule}
use Rattle.formula.specs.Comparing.{holds}
use Rattle.marks.specs.Sets.{Marks}
use Rattle.meaning.specs.Terms.{body, shifted, value}
use Rattle.meaning.specs.Reading.{said, Reads, tells, called, turns, picked, left_only, right_too}
use Rattle.meaning.specs.Traces.{Trace}
use Rattle.meaning.specs.Matching.{Argument, at, Settles, Resolves, numeral}
use Rattle.meaning.specs.Matching.{as_it_is, settled, Passes, no_more, passes, LeavesOne, left_first}
use Rattle.meaning.specs.Matching.{at_most_one, State, live, dead, spent, Lives, some_left, none_left}
use Rattle.meaning.specs.Matching.{Matches, stays_dead, stays_spent, compares, calls, calls_out, negates}
use Rattle.meaning.specs.Matching.{picks, both_sides, left_side, right_side}
use Rattle.meaning.proofs.Basics.{other, aimed_holds, at_arg}

-- the state's set holds m
abbrev pub Held : State → List ℕ → Type 0
Held (live n S) m = S m ≡ true
Held dead m = ⊥
Held spent m = ⊥

-- the fuel that a state has left
abbrev pub fuel_of : State → ℕ
fuel_of (live n S) = n
fuel_of dead = 0
fuel_of spent = 0

pub settles_sound :
    {S P : Marks} {a : Argument} {t : Trace} {v : ℕ} → Settles S a t P v → (m : List ℕ) → P m ≡ true
    → (S m ≡ true) × (v ≡ at m a)
settles_sound = search rules

pub resolves_sound :
    {e : List Argument} {S P : Marks} {r : Term} {t : Trace} {a : Argument} → Resolves e S r t P a
    → (m : List ℕ) → P m ≡ true → (S m ≡ true) × (at m a ≡ value m (map (at m) e) r)
resolves_sound numeral m h = (h, refl)
resolves_sound {e} (as_it_is {x = x}) m h = (h, at_arg m e x)
resolves_sound {e} (settled {x = x} {d = d} s) m h =
    let r = settles_sound s m h in
    (r.0, ap (shifted d) (r.1 ∙ at_arg m e x))

pub passes_sound :
    {e d : List Argument} {S P : Marks} {ts : List Term} {t : Trace} → Passes e S ts t P d → (m : List ℕ)
    → P m ≡ true → (S m ≡ true) × (map (at m) d ≡ map (value m (map (at m) e)) ts)
passes_sound no_more m h = (h, refl)
passes_sound (passes s r) m h =
    let q = passes_sound r m h in
    let p = resolves_sound s m q.0 in
    (p.0, ap₂ {C = List ℕ} ◌∷◌ p.1 q.1)

pub leaves_sound :
    {S P : Marks} {a b : Argument} {t : Trace} → LeavesOne S a b t P → (m : List ℕ) → P m ≡ true
    → S m ≡ true
leaves_sound (left_first x y s) m h = (settles_sound s m h).0
leaves_sound (at_most_one n) m h = h

pub lives_sound :
    {n : ℕ} {S : Marks} {o : State} → Lives n S o → (m : List ℕ) → Held o m → (S m ≡ true) × (n ≡ fuel_of o)
lives_sound (some_left x) m h = (h, refl)
lives_sound (none_left x) m h = absurd h

module _ (rules : List Rule) (m : List ℕ) where
  pub sound :
      {e : List Argument} {F : Formula} {b : Bool} {i o : State} {t : Trace} → Matches rules e F b i t o
      → Held o m → Held i m × Reads rules m (map (at m) e) F (fuel_of i) (said b (fuel_of o))
  sound stays_dead h = absurd h
  sound stays_spent h = absurd h
  sound {e} (compares {l = l} {c = s} {r = r} {b = b} {n = n} {S₃ = S₃} {x = x} {y = y} {o = o} p q w z) h =
      let hz = lives_sound z m h in
      let h₃ : S₃ m ≡ true = (and_parts (S₃ m) _ hz.0).0 in
      let hb : holds s (at m x) (at m y) ≡ b = aimed_holds b s (at m x) (at m y)
      (and_parts (S₃ m) _ hz.0).1 in
      let h₂ = leaves_sound w m h₃ in
      let hq = resolves_sound q m h₂ in
      let hp = resolves_sound p m hq.0 in (
        hp.0,
        subst₂ (λ (b : Bool) (k : ℕ). Reads rules m (map (at m) e) (compare l s r) n (said b k))
            (ap₂ (holds s) (sym hp.1) (sym hq.1) ∙ hb) hz.1 tells,
      )
  sound {e} (calls {r = r} {b = b} {n = n} {o = o} p q) h =
      let hq = sound q h in
      let hp = passes_sound p m hq.0 in (
        hp.0,
        called (subst (λ (d : List ℕ). Reads rules m d (body rules r) n (said b (fuel_of o))) hp.1
            hq.1),
      )
  sound (calls_out p) h = absurd h
  sound {e} (negates {F = F} {b = b} {n = n} {o = o} p) h =
      let hp = sound p h in (
        hp.0,
        subst (λ (c : Bool). Reads rules m (map (at m) e) (negate F) n (said c (fuel_of o)))
            (not-not b) (turns hp.1),
      )
  sound (picks p q) h =
      let hq = sound q h in
      ((settles_sound p m hq.0).0, picked hq.1)
  sound (both_sides j p q) h =
      let hq = sound q h in
      let hp = sound p hq.0 in
      (hp.0, right_too j hp.1 hq.1)
  sound (left_side j p) h =
      let hp = sound p h in
      (hp.0, left_only j hp.1)
  sound (right_side j p q) h =
      let hq = sound q h in
      let hp = sound p hq.0 in
      (hp.0, right_too (other _ _ j) hp.1 hq.1)
