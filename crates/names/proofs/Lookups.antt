-- What a search over lines has found.
use Rattle.std.proofs.Common.{◌≡◌, ℕ, zero, suc, ◌<◌, Bool, true, false, IsTrue, ◌↔◌, List, [], ◌∷◌, length, get_or, Option, Some, None, MatchOption, MatchBool, sym, refl, subst, arith}
use Rattle.std.proofs.lemmas.Bool.{false≢true}
use Rattle.std.specs.List.{AllWithin, HoldsAt}
use Rattle.names.specs.Lists.{Stands, here, there}
use Rattle.names.specs.Looking.{Found, SomeOf}

-- an item is read where it stands
pub stands_read : {A : Type 0} {xs : List A} {i : ℕ} {x : A} (d : A) → Stands A xs i x → (i < length xs) × (get_or xs i d ≡ x)
stands_read d here = (omega arith, refl)
stands_read d (there s) = let h = stands_read d s in (omega arith, h.1)

-- some item stands at each place
pub stands_some : {A : Type 0} (xs : List A) (i : ℕ) → i < length xs → (x : A) × Stands A xs i x
stands_some [] i lt = absurd (omega arith)
stands_some (x ∷ xs) zero lt = (x, here)
stands_some (x ∷ xs) (suc i) lt = let h = stands_some xs i (omega arith) in (h.0, there h.1)

-- what is read at a place stands there
pub stands_at : {A : Type 0} (xs : List A) (i : ℕ) (d : A) → i < length xs → Stands A xs i (get_or xs i d)
stands_at {A} xs i d lt = let s = stands_some xs i lt in subst (Stands A xs i) (sym (stands_read d s.1).1) s.1

none_stands :
    {A : Type 0} (P : A → Type 0) (xs : List A)
    → AllWithin (λ x. P x → ⊥) xs 0 (length xs) → (i : ℕ) (x : A) → Stands A xs i x → P x → ⊥
none_stands P xs none i x s p =
    let h = stands_read x s in none i x (omega arith) h.0 (subst P (sym h.1) p)

holds_stands : {A : Type 0} (P : A → Type 0) (xs : List A) (i : ℕ) → i < length xs → HoldsAt P xs i → (x : A) × Stands A xs i x × P x
holds_stands P xs i lt h =
    let s = stands_some xs i lt in (s.0, s.1, subst P (stands_read s.0 s.1).1 (h s.0))

-- what `position` answers
pub found_first :
    {A : Type 0} (P : A → Type 0) (xs : List A) (r : Option ℕ)
    → MatchOption r (AllWithin (λ x. P x → ⊥) xs 0 (length xs)) (λ i. (i < length xs) × HoldsAt P xs i × AllWithin (λ x. P x → ⊥) xs 0 i)
    → Found P xs r
found_first P xs None none = none_stands P xs none
found_first P xs (Some i) h = holds_stands P xs i h.0 h.1

-- what `any` answers
pub some_found :
    {A : Type 0} (P : A → Type 0) (xs : List A) (r : Bool)
    → MatchBool r ((k : ℕ) × (k < length xs) × HoldsAt P xs k) (AllWithin (λ x. P x → ⊥) xs 0 (length xs))
    → IsTrue r ↔ SomeOf P xs
some_found P xs true h = (λ _. let s = holds_stands P xs h.0 h.1 h.2 in (h.0, s.0, s.1, s.2), λ _. refl)
some_found P xs false none = (λ e. absurd (false≢true e), λ s. absurd (none_stands P xs none s.0 s.1 s.2 s.3))

-- what a test says where it is true, and where it is false
pub holds : {P : Type 0} → (IsTrue true ↔ P) → P
holds h = h.0 refl

pub fails : {P : Type 0} → (IsTrue false ↔ P) → P → ⊥
fails h p = false≢true (h.1 p)
