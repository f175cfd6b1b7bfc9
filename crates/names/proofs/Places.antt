-- Lists: what stands where, and what is in a list.
use Rattle.std.proofs.Common.{◌≡◌, ℕ, zero, suc, ◌<◌, ◌⊎◌, List, [], ◌∷◌, ◌++◌, map, length, take, refl, inl, inr, ⊎_elim, arith}
use Rattle.grammar.specs.Syntax.{Word, Formula, Rule, rule_line}
use Rattle.names.specs.Lists.{Stands, here, there, In, this, that}
use Rattle.names.specs.Faults.{all_names}

pub in_left : {A : Type 0} {xs : List A} {x : A} (ys : List A) → In A xs x → In A (xs ++ ys) x
in_left ys this = this
in_left ys (that m) = that (in_left ys m)

pub in_right : {A : Type 0} {ys : List A} {x : A} (xs : List A) → In A ys x → In A (xs ++ ys) x
in_right [] m = m
in_right (x ∷ xs) m = that (in_right xs m)

pub in_map : {A B : Type 0} {xs : List A} {x : A} (g : A → B) → In A xs x → In B (map g xs) (g x)
in_map g this = this
in_map g (that m) = that (in_map g m)

pub split_in : {A : Type 0} (xs : List A) {ys : List A} {b : A} → In A (xs ++ ys) b → In A xs b ⊎ In A ys b
split_in [] m = inr m
split_in (x ∷ xs) this = inl this
split_in (x ∷ xs) (that m) = ⊎_elim (λ h. inl (that h)) (λ h. inr h) (split_in xs m)

pub stands_take : {A : Type 0} {xs : List A} {i : ℕ} {x : A} (l : ℕ) → Stands A xs i x → i < l → Stands A (take l xs) i x
stands_take zero s h = absurd (omega arith)
stands_take (suc l) here h = here
stands_take (suc l) (there s) h = there (stands_take l s (omega arith))

pub stands_length : {A : Type 0} {xs : List A} {i : ℕ} {x : A} → Stands A xs i x → i < length xs
stands_length here = omega arith
stands_length (there s) = let h = stands_length s in omega arith

-- one item stands at a place
pub stands_once : {A : Type 0} {xs : List A} {i : ℕ} {a b : A} → Stands A xs i a → Stands A xs i b → a ≡ b
stands_once here here = refl
stands_once (there s) (there t) = stands_once s t

-- what follows the front xs stands at its length
pub stands_after : {A : Type 0} (xs : List A) {y : A} (ys : List A) → Stands A (xs ++ (y ∷ ys)) (length xs) y
stands_after [] ys = here
stands_after (x ∷ xs) ys = there (stands_after xs ys)

-- the lines above line l, and that line, stand where they stand in the whole
pub stands_upto :
    {A : Type 0} {xs : List A} {l i : ℕ} {r x : A}
    → Stands A xs l r → Stands A (take l xs ++ (r ∷ [])) i x → Stands A xs i x
stands_upto here here = here
stands_upto here (there s) = elim s [ ]
stands_upto (there t) here = here
stands_upto (there t) (there s) = there (stands_upto t s)

-- the name of a rule is among the names
pub name_in :
    {rs : List Rule} {i p : ℕ} {w : Word} {ps : List Word} {f : Formula}
    → Stands Rule rs i (rule_line p w ps f) → In Word (all_names rs) w
name_in here = this
name_in {rs = rule_line q v qs g ∷ rs} (there s) = that (in_right qs (name_in s))
