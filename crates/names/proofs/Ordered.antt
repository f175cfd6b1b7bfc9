-- Faults of uses that stand in the order of the text: the first in the list comes first.
use Rattle.std.proofs.Common.{◌≡◌, ℕ, ◌<◌, ◌⊎◌, List, [], ◌∷◌, ◌++◌, map, refl, subst, inl, inr, ⊎_elim, arith}
use Rattle.std.proofs.lemmas.List.{map-append}
use Rattle.grammar.specs.Syntax.{Word, num, Field, Rule}
use Rattle.grammar.specs.Tables.{BeforeAll, Rising}
use Rattle.names.specs.Lists.{In, this, that}
use Rattle.names.specs.Faults.{Use, term, call, weight, UseFault, unknown_name, unknown_rule, wrong_terms, zero_weight, First}
use Rattle.names.specs.Looking.{UsesFault, use_place}
use Rattle.names.proofs.Places.{in_left, in_right, split_in}

-- p is below each place that is in the list
pub before_in : {p : ℕ} (qs : List ℕ) {q : ℕ} → BeforeAll p qs → In ℕ qs q → p < q
before_in [] b m = elim m [ ]
before_in (q ∷ qs) b this = b.0
before_in (q ∷ qs) b (that m) = before_in qs b.1 m

before_left : (x : ℕ) (xs ys : List ℕ) → BeforeAll x (xs ++ ys) → BeforeAll x xs
before_left x [] ys b = tt
before_left x (z ∷ zs) ys b = (b.0, before_left x zs ys b.1)

pub rising_left : (xs ys : List ℕ) → Rising (xs ++ ys) → Rising xs
rising_left [] ys r = tt
rising_left (x ∷ xs) ys r = (before_left x xs ys r.0, rising_left xs ys r.1)

pub rising_right : (xs ys : List ℕ) → Rising (xs ++ ys) → Rising ys
rising_right [] ys r = r
rising_right (x ∷ xs) ys r = rising_right xs ys r.1

-- what stands on the left is below what stands on the right
pub rising_across : (xs : List ℕ) {ys : List ℕ} {p q : ℕ} → Rising (xs ++ ys) → In ℕ xs p → In ℕ ys q → p < q
rising_across [] r m k = elim m [ ]
rising_across (x ∷ xs) {ys} r this k = before_in (xs ++ ys) r.0 (in_right xs k)
rising_across (x ∷ xs) r (that m) k = rising_across xs r.1 m k

pub in_map_use : {us : List Use} {u : Use} → In Use us u → In ℕ (map use_place us) (use_place u)
in_map_use this = this
in_map_use (that m) = that (in_map_use m)

-- a use's fault stands at its place
pub fault_place :
    {fs : List Field} {rs : List Rule} {ps : List Word} (u : Use) {n p : ℕ} → UseFault fs rs ps u n p → p ≡ use_place u
fault_place (term w) (unknown_name h) = refl
fault_place (call w k) (unknown_rule h) = refl
fault_place (call w k) (wrong_terms c h) = refl
fault_place (weight (num v q)) zero_weight = refl

module _ {fs : List Field} {rs : List Rule} {ps : List Word} where
  pub split_fault :
      (us : List Use) {vs : List Use} {n p : ℕ}
      → UsesFault fs rs ps (us ++ vs) n p → UsesFault fs rs ps us n p ⊎ UsesFault fs rs ps vs n p
  split_fault us x = ⊎_elim (λ m. inl (x.0, m, x.2)) (λ m. inr (x.0, m, x.2)) (split_in us x.1)

  -- faults on the left come before faults on the right
  pub fault_across :
      (us : List Use) {vs : List Use} {n p m q : ℕ}
      → Rising (map use_place (us ++ vs)) → UsesFault fs rs ps us n p → UsesFault fs rs ps vs m q → p < q
  fault_across us {vs} {n} {p} {m} {q} r x y =
      let less : use_place x.0 < use_place y.0 =
      rising_across (map use_place us) (subst Rising (map-append use_place us vs) r) (in_map_use x.1) (in_map_use y.1) in
      omega (arith, less, fault_place x.0 x.2, fault_place y.0 y.2)

  pub first_left :
      (us vs : List Use) {n p : ℕ}
      → Rising (map use_place (us ++ vs)) → First (UsesFault fs rs ps us) n p → First (UsesFault fs rs ps (us ++ vs)) n p
  first_left us vs r f =
      record {
        fault = (f.fault.0, in_left vs f.fault.1, f.fault.2);
        least = λ m q x. ⊎_elim (f.least m q) (λ y. inl (fault_across us r f.fault y)) (split_fault us x);
      }

  pub first_right :
      (us vs : List Use) {n p : ℕ}
      → ((m q : ℕ) → UsesFault fs rs ps us m q → ⊥) → First (UsesFault fs rs ps vs) n p → First (UsesFault fs rs ps (us ++ vs)) n p
  first_right us vs none f =
      record {
        fault = (f.fault.0, in_right us f.fault.1, f.fault.2);
        least = λ m q x. ⊎_elim (λ y. absurd (none m q y)) (f.least m q) (split_fault us x);
      }

  pub none_both :
      (us vs : List Use)
      → ((m q : ℕ) → UsesFault fs rs ps us m q → ⊥) → ((m q : ℕ) → UsesFault fs rs ps vs m q → ⊥)
      → (m q : ℕ) → UsesFault fs rs ps (us ++ vs) m q → ⊥
  none_both us vs a b m q x = ⊎_elim (a m q) (b m q) (split_fault us x)

-- where places of two lists of uses rise, so do those of each
pub uses_left : (us vs : List Use) → Rising (map use_place (us ++ vs)) → Rising (map use_place us)
uses_left us vs r = rising_left (map use_place us) (map use_place vs) (subst Rising (map-append use_place us vs) r)

pub uses_right : (us vs : List Use) → Rising (map use_place (us ++ vs)) → Rising (map use_place vs)
uses_right us vs r = rising_right (map use_place us) (map use_place vs) (subst Rising (map-append use_place us vs) r)
