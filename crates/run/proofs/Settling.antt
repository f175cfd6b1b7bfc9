-- Settling, from a store's answers.
use Rattle.std.proofs.Common.{◌≡◌, ℕ, ◌<◌, true, ◌≢◌, List, [], ◌∷◌, length, get_or, Some, Ok, Err, Result, sym, refl, ap, ◌∙◌, subst, arith}
use Rattle.std.proofs.lemmas.Bool.{and_from, and_parts, eq-eqb}
use Rattle.formula.specs.Comparing.{holds}
use Rattle.run.specs.Answering.{Inside}
use Rattle.formula.specs.declared.Comparison.TheVariants.{Equal}
use Rattle.marks.specs.Sets.{Marks, MarksOf, Empty, In, Values, kept}
use Rattle.marks.specs.Counted.{some, values}
use Rattle.marks.proofs.Counted.{some_sound, some_complete, values_are, value_taken, takes_sound}
use Rattle.formula.specs.declared.Comparison.{Comparison}
use Rattle.refusal.specs.declared.Refusal.{Refusal}
use Rattle.store.specs.Rules.{Picks, Keeps}
use Rattle.meaning.specs.Traces.{took, among}
use Rattle.meaning.specs.Matching.{Argument, the_field, the_number, number, known, chosen, Settles, Unknown}
use Rattle.meaning.specs.Comparisons.{Is}
use Rattle.marks.proofs.Counted.{in_get_or}
use Rattle.run.specs.declared.argument.Unsettled.{Unsettled}
use Rattle.run.specs.declared.goal.Argument.{Argument as Held}
use Rattle.run.specs.Frames.{argument_of}
use Rattle.run.specs.declared.stop.Stop.{Stop}
use Rattle.run.specs.Ways.{Way, Chosen, Room, Fits}
use Rattle.run.specs.Comparing.{Knows}
use Rattle.run.specs.Settling.{Narrows, Settled, Settling, KeepsValue}
use Rattle.run.proofs.Ways.{took_none}

-- two calls that narrow a store, one after the other
pub narrows_join :
    {X : Type 0} (width : X → ℕ) (starting current : X → Marks) (a b c : X)
    → Narrows width starting current a b
    → Narrows width starting current b c
    → Narrows width starting current a c
narrows_join width starting current a b c p q = (q.0 ∙ p.0, q.1 ∙ p.1, λ m h. p.2 m (q.2 m h))

pub some_alive : (w : ℕ) (S : Marks) → some w S ≡ true → Empty S → ⊥
some_alive w S h e = let r = some_sound w S h in e r.0 r.2

-- a keep of a field and a number that are inside
pub keeps_kept :
    {X : Type 0} (n : ℕ) (S P : Marks) (f : ℕ) (c : Comparison) (k : ℕ) (r : Result X Refusal)
    → Keeps n S P f c k r → f < n → k < 1024 → P ≡ kept S f c k
keeps_kept n S P f c k (Ok x) h l m = h.1
keeps_kept n S P f c k (Err e) h l m = absurd (h.0 (l, omega arith))

pub kept_inside : (S P : Marks) (f : ℕ) (c : Comparison) (k : ℕ) → P ≡ kept S f c k → Inside P S
kept_inside S P f c k e m h = (and_parts (S m) (holds c (get_or m f 0) k) (subst (λ Q. Q m ≡ true) e h)).0

settles_known : (S : Marks) (a : Argument) (v : ℕ) → Is S a v → Settles S a [] S v
settles_known S (the_number n) v h = subst (Settles S (the_number n) [] S) h number
settles_known S (the_field f) v h = known h

-- what is known needs no settling
pub known_done :
    (w : ℕ) (S : Marks) (a : Held) (v : ℕ) (z : Way) → Knows w S (argument_of a) (Ok v) → some w S ≡ true
    → Settled w S a z (Ok v) S z
known_done w S a v z h x = record {
  took = took_none (settles_known S (argument_of a) v h.0);
  small = h.1;
  alive = x;
}

pub one_of : (vs : List ℕ) → length vs ≡ 1 → vs ≡ get_or vs 0 0 ∷ []
one_of [] h = absurd (omega arith)
one_of (x ∷ []) h = refl
one_of (x ∷ y ∷ vs) h = absurd (omega arith)

pub value_small : (w : ℕ) (S : Marks) (f k : ℕ) → k < length (values w S f) → get_or (values w S f) k 0 < 1024
value_small w S f k l = (value_taken w S f (get_or (values w S f) k 0) (in_get_or (values w S f) k l)).1

module _ (w : ℕ) (S : Marks) (f : ℕ) (sh : MarksOf w S) (inside : f < w) where
  pub values_hold : Values S f (values w S f)
  values_hold = values_are w S f sh inside

  pub some_values : some w S ≡ true → 0 < length (values w S f)
  some_values x =
      let r = some_sound w S x in
      go (values w S f) (get_or r.0 f 0) (values_hold.all r.0 r.2)
    where
      go : (vs : List ℕ) (v : ℕ) → In v vs → 0 < length vs
      go [] v i = absurd i
      go (x ∷ vs) v i = omega arith

  module _ (z : Way) (x : some w S ≡ true) where
    -- a number of the field is kept, and marks are left
    pub keeps_some :
        (k : ℕ)
        → k < length (values w S f)
        → some w (kept S f Equal (get_or (values w S f) k 0)) ≡ true
    keeps_some k l =
        let v = get_or (values w S f) k 0 in
        let r = takes_sound w S f v (value_taken w S f v (in_get_or (values w S f) k l)).2 in
        some_complete w (kept S f Equal v) r.0 r.1 (and_from _ _ r.2 (eq-eqb _ _ r.3))

    module _ (a : Held) (is : argument_of a ≡ the_field f) (y : Way) (wide : length (values w S f) ≢ 1) where
      chooses : (k : ℕ) → k < length (values w S f) → (P : Marks) (v : ℕ)
          → P ≡ kept S f Equal (get_or (values w S f) k 0) → v ≡ get_or (values w S f) k 0
          → Settles S (argument_of a) (took k (among (length (values w S f))) ∷ []) P v
      chooses k l P v p q =
          subst (λ b. Settles S b (took k (among (length (values w S f))) ∷ []) P v) (sym is)
          (subst (λ Q. Settles S (the_field f) (took k (among (length (values w S f))) ∷ []) Q v) (sym p)
          (subst (Settles S (the_field f) (took k (among (length (values w S f))) ∷ [])
          (kept S f Equal (get_or (values w S f) k 0))) (sym q) (chosen k values_hold wide l)))

      pub chosen_done :
          (k v : ℕ) (P : Marks)
          → Chosen (among (length (values w S f))) z (Ok k) y
          → KeepsValue w S f k v P
          → Settled w S a z (Ok v) P y
      chosen_done k v P c p =
          let xs = values w S f in
          let left : P ≡ kept S f Equal (get_or xs k 0) = p.1 ∙ ap (kept S f Equal) p.0 in
          record {
            took =
                record {
                  trace = took k (among (length xs)) ∷ [];
                  does = chooses k c.0 P v left p.0;
                  guided = (y.guide, c.1, refl);
                  end = c.2;
                };
            small = subst (λ q. q < 1024) (sym p.0) (value_small w S f k c.0);
            alive = subst (λ Q. some w Q ≡ true) (sym left) (keeps_some k c.0);
          }

      pub chosen_halted :
          (s : Stop) (P : Marks)
          → Chosen (among (length (values w S f))) z (Err s) y
          → Settled w S a z (Err s) P y
      chosen_halted s P c =
          record {
            is = c.0;
            at =
                record {
                  before = [];
                  choice = among (length (values w S f));
                  after = [];
                  does = (_, _, chooses 0 (some_values x) _ _ refl refl);
                  guided = ap (λ q. q.guide) c.2;
                  stuck = c.1;
                  end = ap (λ q. q.trail) c.2;
                };
          }

      pub one_fits : Fits z (Settling S (argument_of a)) → Room 1 z.trail
      one_fits fits = fits.room (took 0 (among (length (values w S f))) ∷ [])
          (_, _, chooses 0 (some_values x) _ _ refl refl)

module _ (w : ℕ) (S : Marks) (f : ℕ) (sh : MarksOf w S) (inside : f < w) where
  pub knows_one :
      (v : ℕ)
      → length (values w S f) ≡ 1
      → Picks (values w S f) 0 (Some v)
      → Knows w S (the_field f) (Ok v)
  knows_one v one p =
      let xs = values w S f in
      subst (λ q. Knows w S (the_field f) (Ok q)) (sym p.1)
      (subst (Values S f) (one_of xs one) (values_hold w S f sh inside), value_small w S f 0 p.0)

-- what is not known is an unknown field
pub knows_not :
    (w : ℕ) (S : Marks) (sh : MarksOf w S) (a : Argument) (u : Unsettled)
    → Knows w S a (Err u)
    → Unknown S a
knows_not w S sh a u h =
    subst (Unknown S) (sym h.0)
    (values w S u.field, values_hold w S u.field sh h.1, (λ e. h.3 (h.2 ∙ e)))
