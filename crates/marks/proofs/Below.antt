-- The numbers below a bound that pass a test: how many there are, where each stands, and that they ascend.
use Rattle.std.proofs.Common.{◌≡◌, ℕ, zero, suc, ◌+◌, ◌<◌, ◌≤◌, Bool, true, false, cond, ◌⊎◌, List, [], ◌∷◌, ◌++◌, length, get_or, Decides, sym, refl, ap, ◌∙◌, subst, inl, inr, ⊎_elim, append-nil, add-one, arith}
use Rattle.std.proofs.lemmas.List.{length_push, get_or_push, get_or_append_left}
use Rattle.std.proofs.lemmas.Bool.{cases_eq, cases_Bool, both_ways}
use Rattle.std.proofs.lemmas.Bool.Decides.{Decides-below_or}
use Rattle.marks.specs.Sets.{In, Ascending}
use Rattle.marks.specs.Counted.{below, any_below}

-- Lists with one number more at their end

pub in_push : (xs : List ℕ) (x v : ℕ) → In v (xs ++ x ∷ []) → In v xs ⊎ (v ≡ x)
in_push [] x v (inl e) = inr e
in_push [] x v (inr i) = absurd i
in_push (y ∷ xs) x v (inl e) = inl (inl e)
in_push (y ∷ xs) x v (inr i) = ⊎_elim (λ j. inl (inr j)) (λ e. inr e) (in_push xs x v i)

pub in_pushed : (xs : List ℕ) (x v : ℕ) → In v xs ⊎ (v ≡ x) → In v (xs ++ x ∷ [])
in_pushed [] x v (inl i) = absurd i
in_pushed [] x v (inr e) = inl e
in_pushed (y ∷ xs) x v (inl (inl e)) = inl e
in_pushed (y ∷ xs) x v (inl (inr i)) = inr (in_pushed xs x v (inl i))
in_pushed (y ∷ xs) x v (inr e) = inr (in_pushed xs x v (inr e))

pub ascending_push : (xs : List ℕ) (x : ℕ) → Ascending xs → ((v : ℕ) → In v xs → v < x)
    → Ascending (xs ++ x ∷ [])
ascending_push [] x a h = ((λ y i. absurd i), tt)
ascending_push (y ∷ xs) x a h = (
  (λ v i. ⊎_elim (a.0 v) (λ e. subst (λ z. y < z) (sym e) (h y (inl refl))) (in_push xs x v i)),
  ascending_push xs x a.1 (λ v i. h v (inr i)),
)

module _ (p : ℕ → Bool) where
  pub below_yes : (k : ℕ) → p k ≡ true → below p (k + 1) ≡ below p k ++ k ∷ []
  unfolding below
  below_yes k e = rw (add-one, e)

  pub below_no : (k : ℕ) → p k ≡ false → below p (k + 1) ≡ below p k
  unfolding below
  below_no k e = rw (add-one, e) (append-nil (below p k))

  pub length_zero : length (below p 0) ≡ 0
  unfolding below
  length_zero = refl

  pub length_yes : (k : ℕ) → p k ≡ true → length (below p (k + 1)) ≡ length (below p k) + 1
  length_yes k e = ap length (below_yes k e) ∙ length_push (below p k) k

  pub length_no : (k : ℕ) → p k ≡ false → length (below p (k + 1)) ≡ length (below p k)
  length_no k e = ap length (below_no k e)

  pub length_le : (k : ℕ) → length (below p k) ≤ k
  length_le zero = omega (arith, length_zero)
  length_le (suc k) =
      let h = length_le k in
      let e : suc k ≡ k + 1 = omega arith in
      rw e (⊎_elim (λ y. omega (arith, length_yes k y)) (λ n. omega (arith, length_no k n))
      (cases_Bool (p k)))

  -- a step of an induction: what holds of the list before k, pushed or not
  stepped : (P : ℕ → List ℕ → Type 0) (k : ℕ)
      → (p k ≡ true → P (suc k) (below p k ++ k ∷ []))
      → (p k ≡ false → P (suc k) (below p k))
      → P (suc k) (below p (suc k))
  stepped P k passes fails =
      let e : k + 1 ≡ suc k = omega arith in
      subst (λ j. P (suc k) (below p j)) e
      (⊎_elim (λ y. subst (P (suc k)) (sym (below_yes k y)) (passes y))
      (λ n. subst (P (suc k)) (sym (below_no k n)) (fails n))
      (cases_Bool (p k)))

  -- a number that passes stands where as many pass below it
  pub below_at : (top k : ℕ) → k < top → p k ≡ true
      → (length (below p k) < length (below p top)) × (get_or (below p top) (length (below p k)) 0 ≡ k)
  below_at zero k h e = absurd (omega arith)
  below_at (suc t) k h e =
      let At : List ℕ → Type 0 =
      λ xs. (length (below p k) < length xs) × (get_or xs (length (below p k)) 0 ≡ k) in
      let last : k ≡ t → At (below p t ++ t ∷ []) = λ q. subst (λ z. At (below p z ++ z ∷ [])) q
      (omega (arith, length_push (below p k) k), get_or_push (below p k) k 0 (length (below p k)) refl) in
      let more : k < t → p t ≡ true → At (below p t ++ t ∷ []) = λ l y.
      let a = below_at t k l e in (
        omega (arith, length_push (below p t) t, a.0),
        get_or_append_left (below p t) (t ∷ []) 0
            (length (below p k)) a.0 ∙ a.1,
      ) in
      stepped (λ _. At) t
      (λ y. ⊎_elim last (λ q. more (omega arith) y) (cases_eq k t))
      (λ n. ⊎_elim (λ q. absurd (both_ways _ n (ap p (sym q) ∙ e)))
      (λ q. below_at t k (omega arith) e) (cases_eq k t))

  -- the list has just the numbers that pass, and ascends
  pub below_in : (top v : ℕ) → In v (below p top) → (v < top) × (p v ≡ true)
  unfolding below
  below_in zero v i = absurd i
  below_in (suc t) v i =
      let P : ℕ → List ℕ → Type 0 = λ k xs. In v xs → (v < k) × (p v ≡ true) in
      let old : In v (below p t) → (v < suc t) × (p v ≡ true) = λ j. let r = below_in t v j in
      (omega (arith, r.0), r.1) in
      stepped P t
      (λ y j. ⊎_elim old (λ e. (omega (arith, e), ap p e ∙ y)) (in_push (below p t) t v j))
      (λ n j. old j) i

  pub in_below : (top v : ℕ) → v < top → p v ≡ true → In v (below p top)
  in_below zero v h e = absurd (omega arith)
  in_below (suc t) v h e =
      stepped (λ _ xs. In v xs) t
      (λ y. in_pushed (below p t) t v
      (⊎_elim (λ q. inr q) (λ q. inl (in_below t v (omega arith) e)) (cases_eq v t)))
      (λ n. ⊎_elim (λ q. absurd (both_ways _ n (ap p (sym q) ∙ e)))
      (λ q. in_below t v (omega arith) e) (cases_eq v t))

  pub below_ascending : (top : ℕ) → Ascending (below p top)
  unfolding below
  below_ascending zero = tt
  below_ascending (suc t) =
      stepped (λ _. Ascending) t
      (λ y. ascending_push (below p t) t (below_ascending t) (λ v i. (below_in t v i).0))
      (λ n. below_ascending t)

  pub any_below_decides : (k : ℕ) → Decides (any_below p k) ((v : ℕ) × (v < k) × (p v ≡ true))
  unfolding any_below
  any_below_decides k = Decides-below_or p (λ v. p v ≡ true) (any_below p) (λ v. ((λ e. e), (λ e. e))) refl
      (λ _. refl) k

-- tests that agree below the bound give one list
pub below_same : (p q : ℕ → Bool) (top : ℕ) → ((v : ℕ) → v < top → p v ≡ q v) → below p top ≡ below q top
unfolding below
below_same p q zero h = refl
below_same p q (suc t) h =
    ap (λ xs. xs ++ cond (p t) (t ∷ []) []) (below_same p q t (λ v l. h v (omega arith)))
    ∙ ap (λ b. below q t ++ cond b (t ∷ []) []) (h t (omega arith))

pub below_none : (p : ℕ → Bool) (top : ℕ) → ((v : ℕ) → v < top → p v ≡ false) → below p top ≡ []
unfolding below
below_none p zero h = refl
below_none p (suc t) h = rw (h t (omega arith), below_none p t (λ v l. h v (omega arith)))
