-- What `some`, `takes` and `values` say of a set of marks of n fields.
use Rattle.std.proofs.Common.{◌≡◌, ℕ, zero, suc, ◌<◌, ◌≤◌, Bool, true, false, ◌&&◌, eqb, List, [], ◌∷◌, length, get_or, sym, refl, ap, ◌∙◌, subst, inl, inr, ⊎_elim, arith}
use Rattle.std.proofs.ByRecursion.{All-get_or}
use Rattle.std.proofs.lemmas.Bool.{and_from, and_parts, eqb-true, eq-eqb, lt-ltb, le-ltb, cases_Bool, cases_lt, both_ways, cond-true, cond-false}
use Rattle.marks.specs.Sets.{Marks, Shaped, MarksOf, Empty, In, Values}
use Rattle.marks.specs.Counted.{below, some, takes, values, Taken}
use Rattle.marks.proofs.Below.{any_below_decides, below_in, in_below, below_ascending, below_same, below_none, length_le}

-- some

pub some_sound : (n : ℕ) (S : Marks) → some n S ≡ true → (m : List ℕ) × Shaped n m × (S m ≡ true)
unfolding some
some_sound zero S e = ([], (refl, tt), e)
some_sound (suc n) S e =
    let w = (any_below_decides (λ v. some n (λ m. S (v ∷ m))) 1024).0 e in
    let r = some_sound n (λ m. S (w.0 ∷ m)) w.2 in
    (w.0 ∷ r.0, (ap suc r.1.0, (w.1, r.1.1)), r.2)

pub some_complete : (n : ℕ) (S : Marks) (m : List ℕ) → Shaped n m → S m ≡ true → some n S ≡ true
unfolding some
some_complete zero S [] h e = e
some_complete zero S (v ∷ m) h e = absurd (omega (arith, h.0))
some_complete (suc n) S [] h e = absurd (omega (arith, h.0))
some_complete (suc n) S (v ∷ m) h e =
    (any_below_decides (λ v. some n (λ m. S (v ∷ m))) 1024).1
    (v, h.1.0, some_complete n (λ m. S (v ∷ m)) m (omega (arith, h.0), h.1.1) e)

pub empty_some : (n : ℕ) (S : Marks) → Empty S → some n S ≡ false
empty_some n S h = ⊎_elim (λ t. let r = some_sound n S t in absurd (h r.0 r.2)) (λ e. e)
    (cases_Bool (some n S))

pub none_empty : (n : ℕ) (S : Marks) → MarksOf n S → some n S ≡ false → Empty S
none_empty n S sh e m g = both_ways _ e (some_complete n S m (sh m g) g)

-- takes

pub takes_sound : (n : ℕ) (S : Marks) (f v : ℕ) → takes n S f v ≡ true
    → (m : List ℕ) × Shaped n m × (S m ≡ true) × (get_or m f 0 ≡ v)
unfolding takes
takes_sound n S f v e =
    let r = some_sound n (λ m. S m && eqb (get_or m f 0) v) e in
    let p = and_parts (S r.0) (eqb (get_or r.0 f 0) v) r.2 in
    (r.0, r.1, p.0, eqb-true _ _ p.1)

pub takes_complete : (n : ℕ) (S : Marks) (f v : ℕ) (m : List ℕ) → Shaped n m → S m ≡ true → get_or m f 0 ≡ v
    → takes n S f v ≡ true
unfolding takes
takes_complete n S f v m h e q =
    some_complete n (λ m. S m && eqb (get_or m f 0) v) m h (and_from _ _ e (eq-eqb _ _ q))

-- values

pub values_below : (n : ℕ) (S : Marks) (f : ℕ) → f < n → values n S f ≡ below (takes n S f) 1024
unfolding values
values_below n S f h = cond-true _ _ _ (lt-ltb f n h)

pub values_outside : (n : ℕ) (S : Marks) (f : ℕ) → n ≤ f → values n S f ≡ []
unfolding values
values_outside n S f h = cond-false _ _ _ (le-ltb f n h)

-- how a store shows its values: by a test that agrees with `takes`
pub values_by : (n : ℕ) (S : Marks) (f : ℕ) (p : ℕ → Bool) → f < n
    → ((v : ℕ) → v < 1024 → takes n S f v ≡ p v)
    → values n S f ≡ below p 1024
values_by n S f p h same = values_below n S f h ∙ below_same (takes n S f) p 1024 same

-- no mark, no value
pub values_empty : (n : ℕ) (S : Marks) (f : ℕ) → some n S ≡ false → values n S f ≡ []
values_empty n S f e =
    let none : (v : ℕ) → v < 1024 → takes n S f v ≡ false = λ v l.
    ⊎_elim
    (λ t. let r = takes_sound n S f v t in absurd (both_ways _ e (some_complete n S r.0 r.1 r.2)))
    (λ z. z) (cases_Bool (takes n S f v)) in
    ⊎_elim (λ l. values_below n S f l ∙ below_none (takes n S f) 1024 none) (values_outside n S f)
    (cases_lt f n)

pub few_values : (n : ℕ) (S : Marks) (f : ℕ) → length (values n S f) ≤ 1024
few_values n S f =
    ⊎_elim
    (λ l. omega (arith, ap length (values_below n S f l), length_le (takes n S f) 1024))
    (λ l. omega (arith, ap length (values_outside n S f l)))
    (cases_lt f n)

-- a number among the values: its field is one of the n, it is at most 1,023, and a mark has it
pub value_taken : (n : ℕ) (S : Marks) (f v : ℕ) → In v (values n S f)
    → (f < n) × (v < 1024) × (takes n S f v ≡ true)
value_taken n S f v i =
    ⊎_elim
    (λ l. let r = below_in (takes n S f) 1024 v (subst (In v) (values_below n S f l) i) in (l, r.0, r.1))
    (λ l. absurd (subst (In v) (values_outside n S f l) i))
    (cases_lt f n)

-- the list of values is the ascending list of the numbers taken
pub values_are : (n : ℕ) (S : Marks) (f : ℕ) → MarksOf n S → f < n → Values S f (values n S f)
values_are n S f sh h =
    subst (Values S f) (sym (values_below n S f h)) (record {
      ascending = below_ascending (takes n S f) 1024;
      all = λ m g.
          let s = sh m g in
          let small : get_or m f 0 < 1024 = All-get_or (λ x. x < 1024) m f 0 (omega (arith, s.0)) s.1 in
          in_below (takes n S f) 1024 (get_or m f 0) small (takes_complete n S f (get_or m f 0) m s g refl);
      only = λ v i none.
          let r = takes_sound n S f v (below_in (takes n S f) 1024 v i).1 in
          none r.0 r.2 r.3;
    })

pub values_taken : (n : ℕ) (S : Marks) (f : ℕ) → MarksOf n S → Taken n S f (values n S f)
values_taken n S f sh = (values_are n S f sh, values_outside n S f)

pub in_get_or : (vs : List ℕ) (k : ℕ) → k < length vs → In (get_or vs k 0) vs
in_get_or [] k h = absurd (omega arith)
in_get_or (x ∷ xs) zero h = inl refl
in_get_or (x ∷ xs) (suc k) h = inr (in_get_or xs k (omega arith))
