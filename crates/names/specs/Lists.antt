-- Where things stand in a list.
use Rattle.std.specs.Prelude.{ℕ, suc, List, [], ◌∷◌}

-- x stands at place i, from 0
pub data Stands (A : Type 0) : List A → ℕ → A → Type 0 where
  here : {x : A} {xs : List A} → Stands A (x ∷ xs) 0 x
  there : {x y : A} {xs : List A} {i : ℕ} → Stands A xs i x → Stands A (y ∷ xs) (suc i) x

-- x is in the list
pub data In (A : Type 0) : List A → A → Type 0 where
  this : {x : A} {xs : List A} → In A (x ∷ xs) x
  that : {x y : A} {xs : List A} → In A xs x → In A (y ∷ xs) x

-- the two lists have the same length, and R holds of each two items at one place
pub data Each (A B : Type 0) (R : A → B → Type 0) : List A → List B → Type 0 where
  end : Each A B R [] []
  item :
      {a : A} {b : B} {xs : List A} {ys : List B}
      → R a b
      → Each A B R xs ys
      → Each A B R (a ∷ xs) (b ∷ ys)
