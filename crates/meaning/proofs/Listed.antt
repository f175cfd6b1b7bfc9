-- The numbers of the fields where the marks are listed: what antt can compute.
use Rattle.std.proofs.Common.{◌≡◌, ℕ, ◌<◌, true, cond, ltb, ◌≢◌, ◌⊎◌, List, [], ◌∷◌, get_or, sym, ap, ◌∙◌, inl, inr, ⊎_elim, arith, rules}
use Rattle.std.proofs.lemmas.Bool.{both_ways, cond_both}
use Rattle.marks.specs.Sets.{Marks, In, Ascending, Values}
use Rattle.meaning.proofs.Counting.{Counted}

abbrev pub Mem : List ℕ → List (List ℕ) → Type 0
Mem m [] = ⊥
Mem m (x ∷ l) = (m ≡ x) ⊎ Mem m l

abbrev pub insert : ℕ → List ℕ → List ℕ
insert v [] = v ∷ []
insert v (x ∷ xs) = cond (ltb v x) (v ∷ x ∷ xs) (cond (ltb x v) (x ∷ insert v xs) (x ∷ xs))

abbrev pub gather : Marks → ℕ → List (List ℕ) → List ℕ
gather P f [] = []
gather P f (m ∷ l) = cond (P m) (insert (get_or m f 0) (gather P f l)) (gather P f l)

-- a number is put before the first, or past it, or is the first
insert_both :
    (v x : ℕ) (xs : List ℕ) (Q : List ℕ → Type 0)
    → (v < x → Q (v ∷ x ∷ xs)) → (x < v → Q (x ∷ insert v xs)) → (x ≡ v → Q (x ∷ xs)) → Q (insert v (x ∷ xs))
insert_both = search rules

-- what insert has, and in what order
insert_has : (v : ℕ) (xs : List ℕ) (u : ℕ) → In u (insert v xs) → (u ≡ v) ⊎ In u xs
insert_has v [] u = λ i. i
insert_has v (x ∷ xs) u =
    insert_both v x xs (λ l. In u l → (u ≡ v) ⊎ In u (x ∷ xs)) (λ h i. i)
    (λ h i. ⊎_elim (λ p. inr (inl p)) (λ j. ⊎_elim (λ q. inl q) (λ k. inr (inr k)) (insert_has v xs u j)) i)
    (λ h i. inr i)

insert_gets : (v : ℕ) (xs : List ℕ) (u : ℕ) → (u ≡ v) ⊎ In u xs → In u (insert v xs)
insert_gets v [] u = λ i. i
insert_gets v (x ∷ xs) u =
    insert_both v x xs (λ l. (u ≡ v) ⊎ In u (x ∷ xs) → In u l) (λ h i. i)
    (λ h i. ⊎_elim (λ p. inr (insert_gets v xs u (inl p)))
    (λ j. ⊎_elim (λ q. inl q) (λ k. inr (insert_gets v xs u (inr k))) j) i)
    (λ h i. ⊎_elim (λ p. inl (p ∙ sym h)) (λ j. j) i)

insert_ascending : (v : ℕ) (xs : List ℕ) → Ascending xs → Ascending (insert v xs)
insert_ascending v [] a = (λ y i. absurd i, tt)
insert_ascending v (x ∷ xs) a =
    insert_both v x xs Ascending
    (λ h. (λ y i. ⊎_elim (λ p. omega arith) (λ j. let m : x < y = a.0 y j in omega arith) i, a))
    (λ h. (
      λ y i. ⊎_elim (λ p. omega arith) (λ j. a.0 y j) (insert_has v xs y i),
      insert_ascending v xs a.1,
    ))
    (λ h. a)

module _ (P : Marks) (f : ℕ) where
  gather_ascending : (l : List (List ℕ)) → Ascending (gather P f l)
  gather_ascending [] = tt
  gather_ascending (m ∷ l) =
      cond_both (P m) (insert (get_or m f 0) (gather P f l)) (gather P f l) Ascending
      (λ e. insert_ascending (get_or m f 0) (gather P f l) (gather_ascending l)) (λ e. gather_ascending l)

  gather_all : (l : List (List ℕ)) (m : List ℕ) → Mem m l → P m ≡ true → In (get_or m f 0) (gather P f l)
  gather_all [] m i h = absurd i
  gather_all (x ∷ l) m i h =
      cond_both (P x) (insert (get_or x f 0) (gather P f l)) (gather P f l) (In (get_or m f 0))
      (λ e. insert_gets (get_or x f 0) (gather P f l) (get_or m f 0)
      (⊎_elim (λ q. inl (ap (λ (z : List ℕ). get_or z f 0) q)) (λ j. inr (gather_all l m j h)) i))
      (λ e. ⊎_elim (λ q. absurd (both_ways _ e (ap P (sym q) ∙ h))) (λ j. gather_all l m j h) i)

  gather_only :
      (l : List (List ℕ)) (v : ℕ) → In v (gather P f l)
      → ((m : List ℕ) → P m ≡ true → get_or m f 0 ≢ v) → ⊥
  gather_only [] v i n = absurd i
  gather_only (x ∷ l) v i n =
      cond_both (P x) (insert (get_or x f 0) (gather P f l)) (gather P f l) (λ xs. In v xs → ⊥)
      (λ e j. ⊎_elim (λ q. n x e (sym q)) (λ k. gather_only l v k n)
      (insert_has (get_or x f 0) (gather P f l) v j))
      (λ e j. gather_only l v j n) i

  pub listed : (l : List (List ℕ)) → ((m : List ℕ) → P m ≡ true → Mem m l) → Values P f (gather P f l)
  listed l s =
      record { ascending = gather_ascending l; all = λ m h. gather_all l m (s m h) h; only = gather_only l }

unfoldable pub counted_list :
    (l : List (List ℕ)) (S : Marks) → ((m : List ℕ) → S m ≡ true → Mem m l) → Counted S
counted_list l S s = λ P r f. (gather P f l, listed P f l (λ m h. s m (r m h)))
