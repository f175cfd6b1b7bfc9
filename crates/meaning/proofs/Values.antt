-- The numbers that a field takes are one list.
use Rattle.std.proofs.Common.{◌≡◌, ℕ, zero, suc, ◌<◌, List, [], ◌∷◌, length, get_or, sym, refl, ap, subst, ap₂, inl, inr, le_of_suc-le-suc, not-suc-le-zero, arith, rules}
use native.Mathlib.Decide.{ℕ_discrete}
use Rattle.marks.specs.Sets.{Marks, In, Ascending, Values}
use Rattle.marks.proofs.Counted.{in_get_or}

pub in_dec : (v : ℕ) (vs : List ℕ) → Dec (In v vs)
in_dec v [] = no (λ x. x)
in_dec v (x ∷ xs) = go (ℕ_discrete v x) (in_dec v xs)
  where
    go : Dec (v ≡ x) → Dec (In v xs) → Dec (In v (x ∷ xs))
    go (yes p) d = yes (inl p)
    go (no n) (yes i) = yes (inr i)
    go (no n) (no k) = no (elim [ inl p ↦ n p | inr i ↦ k i ])

pub in_index : (vs : List ℕ) (v : ℕ) → In v vs → (k : ℕ) × (k < length vs) × (get_or vs k 0 ≡ v)
in_index [] v i = absurd i
in_index (x ∷ xs) v (inl p) = (0, omega arith, sym p)
in_index (x ∷ xs) v (inr i) =
    let r = in_index xs v i in
    (suc r.0, omega arith, r.2)

pub same_index :
    (vs : List ℕ) → Ascending vs → (k j : ℕ) → k < length vs → j < length vs → get_or vs k 0 ≡ get_or vs j 0
    → k ≡ j
same_index [] a k j h g p = absurd (not-suc-le-zero h)
same_index (x ∷ xs) a zero zero h g p = refl
same_index (x ∷ xs) a zero (suc j) h g p =
    let l : x < get_or xs j 0 = a.0 (get_or xs j 0) (in_get_or xs j (le_of_suc-le-suc g)) in
    omega arith
same_index (x ∷ xs) a (suc k) zero h g p =
    let l : x < get_or xs k 0 = a.0 (get_or xs k 0) (in_get_or xs k (le_of_suc-le-suc h)) in
    omega arith
same_index (x ∷ xs) a (suc k) (suc j) h g p =
    ap suc (same_index xs a.1 k j (le_of_suc-le-suc h) (le_of_suc-le-suc g) p)

-- two ascending lists with the same members
least :
    (x y : ℕ) (xs ys : List ℕ) → Ascending (x ∷ xs) → Ascending (y ∷ ys) → In x (y ∷ ys) → In y (x ∷ xs)
    → x ≡ y
least = search rules

past : (x y : ℕ) (xs ys : List ℕ) → x ≡ y → Ascending (x ∷ xs) → (v : ℕ) → In v xs → In v (y ∷ ys) → In v ys
past = search rules

pub one_list :
    (vs ws : List ℕ) → Ascending vs → Ascending ws → ((v : ℕ) → In v vs → In v ws)
    → ((v : ℕ) → In v ws → In v vs) → vs ≡ ws
one_list [] [] a b f g = refl
one_list [] (y ∷ ys) a b f g = absurd (g y (inl refl))
one_list (x ∷ xs) [] a b f g = absurd (f x (inl refl))
one_list (x ∷ xs) (y ∷ ys) a b f g =
    let p : x ≡ y = least x y xs ys a b (f x (inl refl)) (g y (inl refl)) in
    ap₂ {C = List ℕ} ◌∷◌ p
    (one_list xs ys a.1 b.1 (λ v i. past x y xs ys p a v i (f v (inr i)))
    (λ v i. past y x ys xs (sym p) b v i (g v (inr i))))

part : (S : Marks) (f : ℕ) (vs ws : List ℕ) → Values S f vs → Values S f ws → (v : ℕ) → In v vs → In v ws
part S f vs ws V W v i = go (in_dec v ws)
  where
    go : Dec (In v ws) → In v ws
    go (yes j) = j
    go (no n) = absurd (V.only v i (λ m h e. n (subst (λ (x : ℕ). In x ws) e (W.all m h))))

pub values_one : (S : Marks) (f : ℕ) (vs ws : List ℕ) → Values S f vs → Values S f ws → vs ≡ ws
values_one S f vs ws V W =
    one_list vs ws V.ascending W.ascending (part S f vs ws V W) (part S f ws vs W V)

pub in_one : (v w : ℕ) → In w (v ∷ []) → v ≡ w
in_one v w (inl p) = sym p
in_one v w (inr i) = absurd i
