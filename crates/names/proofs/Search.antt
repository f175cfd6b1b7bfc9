-- The first fault among finitely many, or none.
use Rattle.std.proofs.Common.{◌≡◌, ℕ, suc, ◌<◌, ◌≤◌, ◌⊎◌, List, [], ◌∷◌, sym, refl, inl, inr, ⊎_elim, arith}
use Rattle.std.proofs.str.Laws.{order}
use Rattle.names.specs.Lists.{Stands, here, there, In, this, that}
use Rattle.names.specs.Faults.{First, NoLater}

-- a fault of some item, by its place in the list; of some item
abbrev pub Among : (A : Type 0) → List A → (ℕ → A → ℕ → ℕ → Type 0) → ℕ → ℕ → Type 0
Among A xs G n p = (i : ℕ) × (x : A) × Stands A xs i x × G i x n p

abbrev pub SomeIn : (A : Type 0) → List A → (A → ℕ → ℕ → Type 0) → ℕ → ℕ → Type 0
SomeIn A xs G n p = (x : A) × In A xs x × G x n p

abbrev pub Dec : Type 0 → Type 0
Dec P = P ⊎ (P → ⊥)

abbrev pub Le : ℕ → ℕ → ℕ → ℕ → Type 0
Le p n q m = NoLater n p m q

abbrev pub Search : (ℕ → ℕ → Type 0) → Type 0
Search F = ((n p : ℕ) → F n p → ⊥) ⊎ ((n : ℕ) × (p : ℕ) × First F n p)

pub same_number : (a b : ℕ) → Dec (a ≡ b)
same_number a b = ⊎_elim (λ h. inr (λ e. omega arith)) (λ h. ⊎_elim (λ k. inr (λ e. omega arith)) (λ k. inl (omega arith)) (order b a)) (order a b)

pub same_word : (v w : List ℕ) → Dec (v ≡ w)
same_word [] [] = inl refl
same_word [] (b ∷ w) = inr (λ e. cc)
same_word (a ∷ v) [] = inr (λ e. cc)
same_word (a ∷ v) (b ∷ w) =
    ⊎_elim
    (λ e. ⊎_elim (λ f. inl (cc)) (λ f. inr (λ g. let z : v ≡ w = cc in f z)) (same_word v w))
    (λ e. inr (λ g. let z : a ≡ b = cc in e z))
    (same_number a b)

pub both : {P Q : Type 0} → Dec P → Dec Q → Dec (P × Q)
both d e = ⊎_elim (λ p. ⊎_elim (λ q. inl (p, q)) (λ q. inr (λ x. q x.1)) e) (λ p. inr (λ x. p x.0)) d

pub either : {P Q : Type 0} → Dec P → Dec Q → Dec (P ⊎ Q)
either d e = ⊎_elim (λ p. inl (inl p)) (λ p. ⊎_elim (λ q. inl (inr q)) (λ q. inr (λ x. ⊎_elim p q x)) e) d

pub below : (a b : ℕ) → Dec (a < b)
below a b = ⊎_elim (λ h. inl h) (λ h. inr (λ k. omega arith)) (order a b)

pub upto : (a b : ℕ) → Dec (a ≤ b)
upto a b = ⊎_elim (λ h. inr (λ k. omega arith)) (λ h. inl h) (order b a)

pub negate : {P : Type 0} → Dec P → Dec (P → ⊥)
negate d = ⊎_elim (λ p. inr (λ f. f p)) (λ p. inl p) d

le_total : (p n q m : ℕ) → Le p n q m ⊎ Le q m p n
le_total p n q m =
    ⊎_elim
    (λ h. inl (inl h))
    (λ h. ⊎_elim (λ k. inr (inl k)) (λ k. ⊎_elim (λ u. inl (inr (omega arith, omega arith))) (λ u. inr (inr (omega arith, omega arith))) (order n m)) (order q p))
    (order p q)

pub le_trans : (p n q m r k : ℕ) → Le p n q m → Le q m r k → Le p n r k
le_trans p n q m r k a b =
    ⊎_elim
    (λ x. ⊎_elim (λ y. inl (omega arith)) (λ y. inl (omega arith)) b)
    (λ x. ⊎_elim (λ y. inl (omega arith)) (λ y. inr (omega arith, omega arith)) b)
    a

pub search_none : Search (λ n p. ⊥)
search_none = inl (λ n p h. h)

pub search_dec : {P : Type 0} → Dec P → (m q : ℕ) → Search (λ n p. P × (n ≡ m) × (p ≡ q))
search_dec d m q =
    ⊎_elim
    (λ h. inr (m, q, record { fault = (h, refl, refl); least = λ k r f. inr (sym f.2, omega (arith, f.1)) }))
    (λ h. inl (λ n p f. h f.0))
    d

pub search_iff : {F G : ℕ → ℕ → Type 0} → ((n p : ℕ) → F n p → G n p) → ((n p : ℕ) → G n p → F n p) → Search F → Search G
search_iff to from s =
    ⊎_elim
    (λ h. inl (λ n p g. h n p (from n p g)))
    (λ h. inr (h.0, h.1, record { fault = to h.0 h.1 h.2.fault; least = λ m q g. h.2.least m q (from m q g) }))
    s

pub search_or : {F G : ℕ → ℕ → Type 0} → Search F → Search G → Search (λ n p. F n p ⊎ G n p)
search_or {F} {G} s t =
    ⊎_elim
    (λ h. ⊎_elim (λ k. inl (λ n p f. ⊎_elim (h n p) (k n p) f)) (λ k. inr (k.0, k.1, record { fault = inr k.2.fault; least = λ m q f. ⊎_elim (λ x. absurd (h m q x)) (k.2.least m q) f })) t)
    (λ h. ⊎_elim
    (λ k. inr (h.0, h.1, record { fault = inl h.2.fault; least = λ m q f. ⊎_elim (h.2.least m q) (λ x. absurd (k m q x)) f }))
    (λ k. ⊎_elim
    (λ l. inr (h.0, h.1, record { fault = inl h.2.fault; least = λ m q f. ⊎_elim (h.2.least m q) (λ x. le_trans h.1 h.0 k.1 k.0 q m l (k.2.least m q x)) f }))
    (λ l. inr (k.0, k.1, record { fault = inr k.2.fault; least = λ m q f. ⊎_elim (λ x. le_trans k.1 k.0 h.1 h.0 q m l (h.2.least m q x)) (k.2.least m q) f }))
    (le_total h.1 h.0 k.1 k.0))
    t)
    s

among_or : {A : Type 0} {y : A} {xs : List A} (G : ℕ → A → ℕ → ℕ → Type 0) (n p : ℕ) → G 0 y n p ⊎ Among A xs (λ i. G (suc i)) n p → Among A (y ∷ xs) G n p
among_or G n p f = ⊎_elim (λ g. (0, _, here, g)) (λ g. (suc g.0, g.1, there g.2, g.3)) f

or_among : {A : Type 0} {y : A} {xs : List A} (G : ℕ → A → ℕ → ℕ → Type 0) (n p : ℕ) → (i : ℕ) (x : A) → Stands A (y ∷ xs) i x → G i x n p → G 0 y n p ⊎ Among A xs (λ i. G (suc i)) n p
or_among G n p _ _ here g = inl g
or_among G n p _ _ (there {x} {i = i} s) g = inr (i, x, s, g)

pub search_among : {A : Type 0} (xs : List A) (G : ℕ → A → ℕ → ℕ → Type 0) → ((i : ℕ) (x : A) → Search (G i x)) → Search (Among A xs G)
search_among [] G s = inl (λ n p f. let st = f.2 in elim st [ ])
search_among (x ∷ xs) G s = search_iff (λ n p f. among_or G n p f) (λ n p f. or_among G n p f.0 f.1 f.2 f.3) (search_or (s 0 x) (search_among xs (λ i. G (suc i)) (λ i. s (suc i))))

pub stands_in : {A : Type 0} {xs : List A} {i : ℕ} {x : A} → Stands A xs i x → In A xs x
stands_in here = this
stands_in (there s) = that (stands_in s)

pub in_stands : {A : Type 0} {xs : List A} {x : A} → In A xs x → (i : ℕ) × Stands A xs i x
in_stands this = (0, here)
in_stands (that m) = let r = in_stands m in (suc r.0, there r.1)

pub search_in : {A : Type 0} (xs : List A) (G : A → ℕ → ℕ → Type 0) → ((x : A) → Search (G x)) → Search (SomeIn A xs G)
search_in xs G s =
    search_iff
    (λ n p f. (f.1, stands_in f.2, f.3))
    (λ n p f. let r = in_stands f.1 in (r.0, f.0, r.1, f.2))
    (search_among xs (λ i. G) (λ i. s))

-- an element that has a property, or none
pub find : {A : Type 0} (xs : List A) (P : ℕ → A → Type 0) → ((i : ℕ) (x : A) → Dec (P i x)) → Dec ((i : ℕ) × (x : A) × Stands A xs i x × P i x)
find xs P d =
    ⊎_elim
    (λ h. inr (λ f. h 0 0 (f.0, f.1, f.2, (f.3, refl, refl))))
    (λ h. let f = h.2.fault in inl (f.0, f.1, f.2, f.3.0))
    (search_among xs (λ i x n p. P i x × (n ≡ 0) × (p ≡ 0)) (λ i x. search_dec (d i x) 0 0))
