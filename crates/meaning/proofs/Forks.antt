-- Two matches from one state are the same, or part at one choice and share no mark.
use Rattle.std.proofs.Common.{◌≡◌, ℕ, ◌<◌, Bool, true, not, ◌≢◌, ◌⊎◌, List, [], ◌∷◌, ◌++◌, length, get_or, sym, refl, ap, ◌∙◌, subst, ap₂, subst₂, inl, inr, arith, eqb-true, rules}
use Rattle.std.proofs.lemmas.Bool.{and_parts}
use native.Mathlib.Decide.{ℕ_discrete}
use mathlib.Core.Path.{subst₃}
use Rattle.formula.specs.Trees.{Term, Formula, Rule}
use Rattle.formula.specs.declared.Comparison.TheVariants.{Equal}
use Rattle.marks.specs.Sets.{Marks, kept, Values}
use Rattle.meaning.specs.Terms.{body, shifted, aimed}
use Rattle.meaning.specs.Traces.{among, Entry, took, Trace, Apart, here, there}
use Rattle.meaning.specs.Matching.{Argument, the_number, Settles, number, known, chosen, Resolves, numeral}
use Rattle.meaning.specs.Matching.{as_it_is, settled, Passes, no_more, passes, LeavesOne, left_first}
use Rattle.meaning.specs.Matching.{at_most_one, passing, State, live, Lives, Matches}
use Rattle.meaning.specs.Matching.{stays_dead, stays_spent, compares, calls, calls_out, negates, picks}
use Rattle.meaning.specs.Matching.{both_sides, left_side, right_side}
use Rattle.meaning.proofs.Basics.{not_self}
use Rattle.meaning.proofs.Values.{values_one, same_index}
use Rattle.meaning.proofs.Readings.{one_result}
use Rattle.meaning.proofs.Soundness.{Held, resolves_sound, passes_sound}
use Rattle.meaning.proofs.Soundness.{leaves_sound, lives_sound, sound}

pub data Fork {A : Type 0} (held : A → List ℕ → Type 0) (t : Trace) (a : A) (u : Trace) (b : A) : Type 0 where
  same : t ≡ u → a ≡ b → Fork held t a u b
  apart : Apart t u → ((m : List ℕ) → held a m → held b m → ⊥) → Fork held t a u b

apart_more : {t u : Trace} (v w : Trace) → Apart t u → Apart (t ++ v) (u ++ w)
apart_more v w (here n) = here n
apart_more v w (there a) = there (apart_more v w a)

apart_after : (p : Trace) {t u : Trace} → Apart t u → Apart (p ++ t) (p ++ u)
apart_after [] a = a
apart_after (e ∷ p) a = there (apart_after p a)

module _ {A B : Type 0} {held : A → List ℕ → Type 0} {hold : B → List ℕ → Type 0} where
  -- one step, and then another
  pub follow :
      {t u v w : Trace} {a b : A} {c d : B} → Fork held t a u b → (a ≡ b → Fork hold v c w d)
      → ((m : List ℕ) → hold c m → held a m) → ((m : List ℕ) → hold d m → held b m)
      → Fork hold (t ++ v) c (u ++ w) d
  follow {t} {u} {v} {w} {a} {b} {c} {d} (same p q) k f g = go (k q)
    where
      go : Fork hold v c w d → Fork hold (t ++ v) c (u ++ w) d
      go (same r s) = same (ap₂ {C = Trace} ◌++◌ p r) s
      go (apart x y) = apart (subst (λ (z : Trace). Apart (t ++ v) (z ++ w)) p (apart_after t x)) y
  follow {v} {w} (apart x y) k f g = apart (apart_more v w x) (λ m h i. y m (f m h) (g m i))

  -- one step, and then what makes no choice
  pub onward :
      {t u : Trace} {a b : A} {c d : B} → Fork held t a u b → (a ≡ b → c ≡ d)
      → ((m : List ℕ) → hold c m → held a m) → ((m : List ℕ) → hold d m → held b m) → Fork hold t c u d
  onward (same p q) k f g = same p (k q)
  onward (apart x y) k f g = apart x (λ m h i. y m (f m h) (g m i))

module _ {A : Type 0} {held : A → List ℕ → Type 0} where
  pub behind : (e : Entry) {t u : Trace} {a b : A} → Fork held t a u b → Fork held (e ∷ t) a (e ∷ u) b
  behind e (same p q) = same (ap {B = Trace} (λ z. e ∷ z) p) q
  behind e (apart x y) = apart (there x) y

  pub either : {t u : Trace} {a b : A} → Fork held t a u b → ((t ≡ u) × (a ≡ b)) ⊎ Apart t u
  either (same p q) = inl (p, q)
  either (apart x y) = inr x

  pub at_most : {t u : Trace} {a b : A} → Fork held t a u b → (m : List ℕ) → held a m → held b m → t ≡ u
  at_most (same p q) m h g = p
  at_most (apart x y) m h g = absurd (y m h g)

-- a set, and what came with it
abbrev pub Has {κ} : {X : Type κ} → Marks × X → List ℕ → Type 0
Has p m = p.0 m ≡ true

abbrev pub Of : Marks → List ℕ → Type 0
Of P m = P m ≡ true

-- two picks of the numbers of one field
abbrev TwoChosen : Marks → ℕ → (vs ws : List ℕ) → (k j : ℕ) → Type 0
TwoChosen S f vs ws k j =
    Fork (Has {X = ℕ}) (took k (among (length vs)) ∷ []) (kept S f Equal (get_or vs k 0), get_or vs k 0)
    (took j (among (length ws)) ∷ []) (kept S f Equal (get_or ws j 0), get_or ws j 0)

both_chosen :
    (S : Marks) (f : ℕ) (vs ws : List ℕ) → vs ≡ ws → Values S f vs → (k j : ℕ) → k < length vs
    → j < length ws → TwoChosen S f vs ws k j
both_chosen S f vs ws p V k j h g =
    subst (λ (ws : List ℕ). j < length ws → TwoChosen S f vs ws k j) p (λ g. go g (ℕ_discrete k j)) g
  where
    go : j < length vs → Dec (k ≡ j) → TwoChosen S f vs vs k j
    go g (yes q) = subst (TwoChosen S f vs vs k) q (same refl refl)
    go g (no n) =
        apart (here n) (λ m x y. n (same_index vs V.ascending k j h g
        (sym (eqb-true (get_or m f 0) (get_or vs k 0) (and_parts (S m) _ x).1)
        ∙ eqb-true (get_or m f 0) (get_or vs j 0) (and_parts (S m) _ y).1)))

one_known : (S : Marks) (f v : ℕ) (vs : List ℕ) → Values S f (v ∷ []) → Values S f vs → length vs ≢ 1 → ⊥
one_known S f v vs V W n = n (sym (ap length (values_one S f (v ∷ []) vs V W)))

pub settles_fork :
    {S P : Marks} {a : Argument} {t : Trace} {v : ℕ} → Settles S a t P v → {Q : Marks} {u : Trace} {w : ℕ}
    → Settles S a u Q w → Fork (Has {X = ℕ}) t (P, v) u (Q, w)
settles_fork number number = same refl refl
settles_fork {S} (known {f = f} {v = v} V) (known {v = w} W) =
    same refl (ap {B = Marks × ℕ} (λ (l : List ℕ). (S, get_or l 0 0)) (values_one S f (v ∷ []) (w ∷ []) V W))
settles_fork {S} (known {f = f} {v = v} V) (chosen {vs = vs} k W n h) = absurd (one_known S f v vs V W n)
settles_fork {S} (chosen {f = f} {vs = vs} k V n h) (known {v = w} W) = absurd (one_known S f w vs W V n)
settles_fork {S} (chosen {f = f} {vs = vs} k V n h) (chosen {vs = ws} j W o g) =
    both_chosen S f vs ws (values_one S f vs ws V W) V k j h g

pub resolves_fork :
    {e : List Argument} {S P : Marks} {r : Term} {t : Trace} {a : Argument} → Resolves e S r t P a
    → {Q : Marks} {u : Trace} {b : Argument} → Resolves e S r u Q b
    → Fork (Has {X = Argument}) t (P, a) u (Q, b)
resolves_fork numeral numeral = same refl refl
resolves_fork as_it_is as_it_is = same refl refl
resolves_fork (settled {d = d} p) (settled q) =
    onward (settles_fork p q) (λ z. ap {B = Marks × Argument}
    (λ (y : Marks × ℕ). (y.0, the_number (shifted d y.1))) z) (λ m h. h) (λ m h. h)

pub passes_fork :
    {e c : List Argument} {S P : Marks} {ts : List Term} {t : Trace} → Passes e S ts t P c
    → {Q : Marks} {u : Trace} {d : List Argument} → Passes e S ts u Q d
    → Fork (Has {X = List Argument}) t (P, c) u (Q, d)
passes_fork no_more no_more = same refl refl
passes_fork {e} (passes {rs = rs} p r) {Q} (passes {u = u₁} {d = ds} q s) =
    follow (resolves_fork p q)
    (λ z.
    onward {hold = Has {X = List Argument}}
    (passes_fork r (subst (λ (y : Marks × Argument). Passes e y.0 rs u₁ Q ds) (sym z) s))
    (λ y. ap₂ {C = Marks × List Argument} (λ (x : Marks × Argument) (y : Marks × List Argument).
    (y.0, x.1 ∷ y.1)) z y)
    (λ m h. h)
    (λ m h. h))
    (λ m h. (passes_sound r m h).0)
    (λ m h. (passes_sound s m h).0)

pub leaves_fork :
    {S P : Marks} {a b : Argument} {t : Trace} → LeavesOne S a b t P → {Q : Marks} {u : Trace}
    → LeavesOne S a b u Q → Fork Of t P u Q
leaves_fork (left_first x y p) (left_first z w q) =
    onward (settles_fork p q) (λ r. ap (λ (y : Marks × ℕ). y.0) r) (λ m h. h) (λ m h. h)
leaves_fork (left_first x y p) (at_most_one n) = absurd (n x y)
leaves_fork (at_most_one n) (left_first x y p) = absurd (n x y)
leaves_fork (at_most_one n) (at_most_one o) = same refl refl

pub lives_one : {n : ℕ} {S : Marks} {o p : State} → Lives n S o → Lives n S p → o ≡ p
lives_one = search rules

module _ (rules : List Rule) where
  part_of :
      (m : List ℕ) {e : List Argument} {F : Formula} {b : Bool} {i o : State} {t : Trace}
      → Matches rules e F b i t o → Held o m → Held i m
  part_of m d h = (sound rules m d h).0

  -- the two branches of a choice of width 2 share no mark
  branches :
      (m : List ℕ) {e : List Argument} {F G : Formula} {b : Bool} {n : ℕ} {S : Marks} {i o p : State}
      {t u v : Trace}
      → Matches rules e F b (live n S) t o → Matches rules e F (not b) (live n S) u i
      → Matches rules e G b i v p → Held o m → Held p m → ⊥
  branches m {b} x y z h g =
      not_self b (sym (one_result rules m (sound rules m x h).1 (sound rules m y (part_of m z g)).1))

  pub matches_fork :
      {e : List Argument} {F : Formula} {b : Bool} {i o : State} {t : Trace} → Matches rules e F b i t o
      → {p : State} {u : Trace} → Matches rules e F b i u p → Fork Held t o u p
  matches_fork stays_dead stays_dead = same refl refl
  matches_fork stays_spent stays_spent = same refl refl
  matches_fork {e} (compares {c = s} {r = r} {b = b} {n = n} p q w z) {p = o}
      (compares {S₁ = S₁} {S₂ = S₂} {S₃ = S₃} {t₁ = t₁} {t₂ = t₂} {x = x} {y = y} p' q' w' z') =
      follow (resolves_fork p p')
      (λ j.
      follow (resolves_fork q (subst (λ (i : Marks × Argument). Resolves e i.0 r t₁ S₂ y) (sym j) q'))
      (λ k.
      onward
      (leaves_fork w (subst₂ (λ (i g : Marks × Argument). LeavesOne g.0 i.1 g.1 t₂ S₃) (sym j) (sym k) w'))
      (λ l. lives_one z
      (subst₃ (λ (X : Marks) (i g : Marks × Argument). Lives n (passing X (aimed b s) i.1 g.1) o)
      (sym l) (sym j) (sym k) z'))
      (λ m h. (and_parts _ _ (lives_sound z m h).0).0)
      (λ m h. (and_parts _ _ (lives_sound z' m h).0).0))
      (λ m h. leaves_sound w m (and_parts _ _ (lives_sound z m h).0).0)
      (λ m h. leaves_sound w' m (and_parts _ _ (lives_sound z' m h).0).0))
      (λ m h. (resolves_sound q m (leaves_sound w m (and_parts _ _ (lives_sound z m h).0).0)).0)
      (λ m h. (resolves_sound q' m (leaves_sound w' m (and_parts _ _ (lives_sound z' m h).0).0)).0)
  matches_fork (calls {r = r} {b = b} {n = n} p q) {p = o} (calls {u = u} p' q') =
      follow (passes_fork p p')
      (λ j. matches_fork q
      (subst (λ (i : Marks × List Argument). Matches rules i.1 (body rules r) b (live n i.0) u o) (sym j) q'))
      (λ m h. part_of m q h)
      (λ m h. part_of m q' h)
  matches_fork (calls_out p) (calls_out q) =
      onward (passes_fork p q) (λ j. refl) (λ m h. absurd h) (λ m h. absurd h)
  matches_fork (negates p) (negates q) = matches_fork p q
  matches_fork {e} (picks {F = F} {b = b} {n = n} p q) {p = o} (picks {u = u} p' q') =
      follow (settles_fork p p')
      (λ j. matches_fork q (subst (λ (i : Marks × ℕ). Matches rules e F b (live n i.0) u o) (sym j) q'))
      (λ m h. part_of m q h)
      (λ m h. part_of m q' h)
  matches_fork {e} (both_sides {G = G} {b = b} j p q) {p = o} (both_sides {u = u} j' p' q') =
      follow (matches_fork p p')
      (λ k. matches_fork q (subst (λ (i : State). Matches rules e G b i u o) (sym k) q'))
      (λ m h. part_of m q h)
      (λ m h. part_of m q' h)
  matches_fork (both_sides j p q) (left_side n p') = absurd (n j)
  matches_fork (both_sides j p q) (right_side n p' q') = absurd (n j)
  matches_fork (left_side n p) (both_sides j p' q') = absurd (n j)
  matches_fork (left_side n p) (left_side n' p') = behind _ (matches_fork p p')
  matches_fork (left_side n p) (right_side n' p' q') =
      apart (here (omega arith)) (λ m h g. branches m p p' q' h g)
  matches_fork (right_side n p q) (both_sides j p' q') = absurd (n j)
  matches_fork (right_side n p q) (left_side n' p') =
      apart (here (omega arith)) (λ m h g. branches m p' p q g h)
  matches_fork {e} (right_side {G = G} {b = b} n p q) {p = o} (right_side {u = u} n' p' q') =
      behind _
      (follow (matches_fork p p')
      (λ k. matches_fork q (subst (λ (i : State). Matches rules e G b i u o) (sym k) q'))
      (λ m h. part_of m q h)
      (λ m h. part_of m q' h))
