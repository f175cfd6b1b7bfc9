-- A set of marks without those that hold some pairs: one pair more is one keep more.
use Rattle.std.proofs.Common.{◌≡◌, ℕ, ◌<◌, Bool, true, false, not, ◌&&◌, ◌||◌, eqb, ltb, List, [], ◌∷◌, ◌++◌, length, get_or, Ok, Err, Result, sym, refl, ap, ◌∙◌, ⊎_elim, arith}
use mathlib.Core.Bool.{and-true}
use Rattle.std.proofs.ByRecursion.{All-get_or}
use Rattle.std.proofs.lemmas.Bool.{and_parts, eqb-true, ltb-true, lt-ltb, cases_Bool}
use Rattle.formula.specs.declared.Comparison.TheVariants.{Differ}
use Rattle.refusal.specs.declared.Refusal.{Refusal}
use Rattle.marks.specs.Sets.{Marks, Shaped, MarksOf, kept}
use Rattle.store.specs.Rules.{Inside, Keeps}
use Rattle.withheld.specs.declared.pair.Pair.{Pair}
use Rattle.withheld.specs.Withholding.{holds_pair, holds_one, without}

pub without_none : (S : Marks) → S ≡ without [] S
unfolding without holds_one
without_none S = λ i m. sym (and-true (S m)) i

not_or : (a b c : Bool) → ((c && not a) && not b) ≡ (c && not (b || a))
not_or true true true = refl
not_or true true false = refl
not_or true false true = refl
not_or true false false = refl
not_or false true true = refl
not_or false true false = refl
not_or false false true = refl
not_or false false false = refl

or_swap : (a b c : Bool) → (a || (b || c)) ≡ (b || (a || c))
or_swap true true c = refl
or_swap true false c = refl
or_swap false true c = refl
or_swap false false c = refl

holds_push : (ps : List Pair) (p : Pair) (m : List ℕ)
    → holds_one (ps ++ p ∷ []) m ≡ (holds_pair p m || holds_one ps m)
unfolding holds_one
holds_push [] p m = refl
holds_push (q ∷ ps) p m =
    ap (λ b. holds_pair q m || b) (holds_push ps p m)
    ∙ or_swap (holds_pair q m) (holds_pair p m) (holds_one ps m)

-- one pair more, at a mark
without_pushed : (S : Marks) (ps : List Pair) (p : Pair) (m : List ℕ)
    → (without ps S m && not (holds_pair p m)) ≡ without (ps ++ p ∷ []) S m
unfolding without
without_pushed S ps p m =
    not_or (holds_one ps m) (holds_pair p m) (S m) ∙ ap (λ b. S m && not b) (sym (holds_push ps p m))

-- a mark of n fields holds only pairs inside
held_inside : (n : ℕ) (p : Pair) (m : List ℕ) → Shaped n m → holds_pair p m ≡ true
    → Inside n p.field p.number
unfolding holds_pair
held_inside n p m h t =
    let parts = and_parts (ltb p.field (length m)) (eqb (get_or m p.field 0) p.number) t in
    let l = ltb-true p.field (length m) parts.0 in
    let small = All-get_or (λ v. v < 1024) m p.field 0 l h.1 in
    (omega (arith, h.0, l), omega (arith, small, eqb-true _ _ parts.1))

-- the pair's field is one of the mark's, so the comparison alone tells
held_equals : (n : ℕ) (p : Pair) (m : List ℕ) → Shaped n m → p.field < n
    → eqb (get_or m p.field 0) p.number ≡ holds_pair p m
unfolding holds_pair
held_equals n p m h l =
    ap (λ b. b && eqb (get_or m p.field 0) p.number)
    (sym (lt-ltb p.field (length m) (omega (arith, h.0, l))))

absent : (S : Marks) (ps : List Pair) (m : List ℕ) (a b : Bool) → S m ≡ false
    → (without ps S m && a) ≡ (without ps S m && b)
unfolding without
absent S ps m a b z = rw z refl

-- what a keep of `/=` leaves of S without some pairs is S without one pair more, refused or not
pub without_more : {X : Type 0} (n : ℕ) (S after : Marks) (ps : List Pair) (p : Pair) (r : Result X Refusal)
    → MarksOf n S → Keeps n (without ps S) after p.field Differ p.number r
    → after ≡ without (ps ++ p ∷ []) S
without_more n S after ps p (Ok x) shaped keep =
    let at : (m : List ℕ) → kept (without ps S) p.field Differ p.number m ≡ without
    (ps ++ p ∷ []) S m = λ m.
    ⊎_elim
    (λ t. ap (λ b. without ps S m && not b) (held_equals n p m (shaped m t) keep.0.0))
    (absent S ps m (not (eqb (get_or m p.field 0) p.number)) (not (holds_pair p m)))
    (cases_Bool (S m))
    ∙ without_pushed S ps p m in
    keep.1 ∙ (λ i m. at m i)
without_more n S after ps p (Err x) shaped keep =
    let free : (m : List ℕ) → S m ≡ true → holds_pair p m ≡ false = λ m t.
    ⊎_elim (λ y. absurd (keep.0 (held_inside n p m (shaped m t) y))) (λ z. z)
    (cases_Bool (holds_pair p m)) in
    let at : (m : List ℕ) → without ps S m ≡ without (ps ++ p ∷ []) S m = λ m.
    sym (and-true (without ps S m))
    ∙ ⊎_elim
    (λ t. ap (λ b. without ps S m && not b) (sym (free m t)))
    (absent S ps m true (not (holds_pair p m)))
    (cases_Bool (S m))
    ∙ without_pushed S ps p m in
    keep.2 ∙ (λ i m. at m i)
