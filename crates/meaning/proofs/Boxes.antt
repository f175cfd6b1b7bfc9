-- The marks that lie in some ranges, listed.
use Rattle.std.proofs.Common.{◌≡◌, ℕ, zero, suc, ◌+◌, ◌-◌, ◌<◌, ◌≤◌, Bool, true, ◌&&◌, List, [], ◌∷◌, length, get_or, sym, refl, ap, ◌∙◌, subst, inl, inr, ⊎_elim, arith, ltb-false}
use Rattle.std.proofs.lemmas.Bool.{and_parts, cases_eq}
use borrow.Author.Tests.{not-true}
use Rattle.formula.specs.declared.Comparison.TheVariants.{AtMost, AtLeast}
use Rattle.formula.specs.Comparing.{holds}
use Rattle.formula.specs.Trees.{Range, range}
use Rattle.marks.specs.Sets.{Marks, In}
use Rattle.meaning.specs.Reading.{ranged}
use Rattle.meaning.specs.Runs.{inside}
use Rattle.meaning.proofs.Counting.{Counted}
use Rattle.meaning.proofs.Listed.{Mem, counted_list}

-- n numbers from a on
abbrev pub from : (n a : ℕ) → List ℕ
from zero a = []
from (suc n) a = a ∷ from n (suc a)

-- v before each of the lists, and then the others
abbrev pub onto : ℕ → List (List ℕ) → List (List ℕ) → List (List ℕ)
onto v [] r = r
onto v (m ∷ l) r = (v ∷ m) ∷ onto v l r

-- each of the numbers before each of the lists
abbrev pub spread : List ℕ → List (List ℕ) → List (List ℕ)
spread [] l = []
spread (v ∷ vs) l = onto v l (spread vs l)

-- the marks that lie in the ranges
abbrev pub box : List Range → List (List ℕ)
box [] = [] ∷ []
box (range low high ∷ rs) = spread (from (suc high - low) low) (box rs)

in_from : (n a v : ℕ) → a ≤ v → v < a + n → In v (from n a)
in_from zero a v h g = absurd (omega arith)
in_from (suc n) a v h g =
    ⊎_elim (λ p. inl p) (λ q. inr (in_from n (suc a) v (omega arith) (omega arith))) (cases_eq v a)

onto_has : (v : ℕ) (m : List ℕ) (l r : List (List ℕ)) → Mem m l → Mem (v ∷ m) (onto v l r)
onto_has v m [] r i = absurd i
onto_has v m (x ∷ l) r (inl p) = inl (ap {B = List ℕ} (λ z. v ∷ z) p)
onto_has v m (x ∷ l) r (inr i) = inr (onto_has v m l r i)

onto_past : (v : ℕ) (m : List ℕ) (l r : List (List ℕ)) → Mem m r → Mem m (onto v l r)
onto_past v m [] r i = i
onto_past v m (x ∷ l) r i = inr (onto_past v m l r i)

in_spread :
    (vs : List ℕ) (l : List (List ℕ)) (v : ℕ) (m : List ℕ) → In v vs → Mem m l → Mem (v ∷ m) (spread vs l)
in_spread [] l v m i j = absurd i
in_spread (x ∷ vs) l v m (inl p) j =
    subst (λ (y : ℕ). Mem (y ∷ m) (onto x l (spread vs l))) (sym p) (onto_has x m l (spread vs l) j)
in_spread (x ∷ vs) l v m (inr i) j = onto_past x (v ∷ m) l (spread vs l) (in_spread vs l v m i j)

ranged_past : (rs : List Range) (f x : ℕ) (m : List ℕ) → ranged rs (suc f) (x ∷ m) ≡ ranged rs f m
ranged_past [] f x m = refl
ranged_past (range low high ∷ rs) f x m =
    ap (λ (b : Bool). (holds AtLeast (get_or m f 0) low && holds AtMost (get_or m f 0) high) && b)
    (ranged_past rs (suc f) x m)

pub in_box : (rs : List Range) (m : List ℕ) → length m ≡ length rs → ranged rs 0 m ≡ true → Mem m (box rs)
in_box [] [] e h = inl refl
in_box [] (x ∷ m) e h = absurd (omega arith)
in_box (r ∷ rs) [] e h = absurd (omega arith)
in_box (range low high ∷ rs) (x ∷ m) e h =
    let here = (and_parts (holds AtLeast x low && holds AtMost x high) _ h).0 in
    let past = (and_parts (holds AtLeast x low && holds AtMost x high) _ h).1 in
    let low_end = ltb-false x low (not-true _ (and_parts (holds AtLeast x low) _ here).0) in
    let high_end = ltb-false high x (not-true _ (and_parts (holds AtLeast x low) _ here).1) in
    in_spread (from (suc high - low) low) (box rs) x m (in_from (suc high - low) low x low_end (omega arith))
    (in_box rs m (omega arith) (sym (ranged_past rs 0 x m) ∙ past))

-- the fields of a set in the ranges have their numbers
unfoldable pub counted_box :
    (S : Marks) (rs : List Range) → ((m : List ℕ) → S m ≡ true → length m ≡ length rs) → Counted (inside S rs)
counted_box S rs long =
    counted_list (box rs) (inside S rs) (λ m h. in_box rs m (long m (and_parts (S m) _ h).0)
    (and_parts (S m) _ h).1)
