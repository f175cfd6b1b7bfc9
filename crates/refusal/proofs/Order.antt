-- The order of faults: by place, and at one place by number.
use Rattle.std.proofs.Common.{Ordering, Less, Equal, Greater, int_cmp, is_lt, ◌≡◌, ℕ, ◌<◌, ◌≤◌, ◌⊎◌, cond, List, [], ◌∷◌, get_or, map, pos, refl, inl, inr, ap₂, subst, arith, ◌∙◌, ap, sym}
use Rattle.std.specs.Cmp.{ranks}
use Rattle.std.proofs.lemmas.Bool.Decides.{nat_tests}
use Rattle.std.proofs.lemmas.Int.{ints}
use Rattle.std.specs.Ordering.{MatchOrdering, nat_cmp, ord_min, ordering_then}
use Rattle.refusal.specs.declared.Fault.{Fault}
use Rattle.refusal.specs.declared.Refusal.{Refusal}
use Rattle.refusal.specs.declared.Refusal.TheVariants.{TextTooLong, ByteNotPermitted, OverLimit, TokenNotPermitted, TooDeep, JoinMixes, NameTaken, NameUnknown, WrongTermCount, WrongNumber, TooMany, FieldsDiffer, ListTooShort, TraceUnfit, NotFinished, NotAMark, BadSeed, BufferTooShort, Outside, PairsFull}
use Rattle.refusal.specs.contracts.FaultOrd.TheImpl as fault
use Rattle.refusal.specs.contracts.RefusalOrd.TheImpl as refusal
use Rattle.refusal.specs.contracts.Refusal.{the_type}
use Rattle.refusal.specs.Table.{number}
use denote.Enum.Declared.{tag_of}
use lib.IntN.{ℤ}

abbrev tags : List ℤ
tags = map pos (1 ∷ 2 ∷ 3 ∷ 4 ∷ 5 ∷ 6 ∷ 7 ∷ 8 ∷ 9 ∷ 10 ∷ 11 ∷ 12 ∷ 13 ∷ 14 ∷ 15 ∷ 16 ∷ 18 ∷ 19 ∷ 20 ∷ 21 ∷ [])

tag_is : (r : Refusal) → get_or tags (tag_of the_type r) (pos 0) ≡ pos (number r)
tag_is TextTooLong = refl
tag_is ByteNotPermitted = refl
tag_is OverLimit = refl
tag_is TokenNotPermitted = refl
tag_is TooDeep = refl
tag_is JoinMixes = refl
tag_is NameTaken = refl
tag_is NameUnknown = refl
tag_is WrongTermCount = refl
tag_is WrongNumber = refl
tag_is TooMany = refl
tag_is FieldsDiffer = refl
tag_is ListTooShort = refl
tag_is TraceUnfit = refl
tag_is NotFinished = refl
tag_is NotAMark = refl
tag_is BadSeed = refl
tag_is BufferTooShort = refl
tag_is Outside = refl
tag_is PairsFull = refl

int_nat : (a b : ℕ) → int_cmp (pos a) (pos b) ≡ nat_cmp a b
int_nat a b = grind (arith, nat_tests, ints)

-- refusals compare as their numbers
pub refusal_cmp : (r s : Refusal) → refusal.cmp-value.it r s ≡ nat_cmp (number r) (number s)
refusal_cmp r s = ap₂ int_cmp (tag_is r) (tag_is s) ∙ int_nat (number r) (number s)

pub fault_cmp :
    (f g : Fault)
    → fault.cmp-value.it f g
    ≡ ordering_then (nat_cmp f.place g.place) (nat_cmp (number f.refusal) (number g.refusal))
fault_cmp f g = ap (ordering_then (nat_cmp f.place g.place)) (refusal_cmp f.refusal g.refusal)

-- the pair of numbers p and m comes no later than the pair q and n
abbrev NoLater : (p m q n : ℕ) → Type 0
NoLater p m q n = (p < q) ⊎ ((p ≡ q) × (m ≤ n))

first_of :
    {X : Type 0} (x y : X) (p m q n : ℕ) (o w : Ordering)
    → MatchOrdering o (q < p) (q ≡ p) (p < q) → MatchOrdering w (n < m) (n ≡ m) (m < n)
    → ((cond (is_lt (ordering_then o w)) y x ≡ x) × NoLater p m q n)
    ⊎ ((cond (is_lt (ordering_then o w)) y x ≡ y) × NoLater q n p m)
first_of x y p m q n Less w h k = inr (refl, inl h)
first_of x y p m q n Equal Less h k = inr (refl, inr (h, omega arith))
first_of x y p m q n Equal Equal h k = inl (refl, inr (sym h, omega arith))
first_of x y p m q n Equal Greater h k = inl (refl, inr (sym h, omega arith))
first_of x y p m q n Greater w h k = inl (refl, inl h)

-- the lesser of two faults is one of them, and comes no later than the other
pub min_is_earlier :
    (f g : Fault)
    → ((ord_min fault.cmp-value.it f g ≡ f) × NoLater f.place (number f.refusal) g.place (number g.refusal))
    ⊎ ((ord_min fault.cmp-value.it f g ≡ g) × NoLater g.place (number g.refusal) f.place (number f.refusal))
min_is_earlier f g =
    let places = nat_cmp g.place f.place in
    let numbers = nat_cmp (number g.refusal) (number f.refusal) in
    subst
    (λ o. ((cond (is_lt o) g f ≡ f) × NoLater f.place (number f.refusal) g.place (number g.refusal))
    ⊎ ((cond (is_lt o) g f ≡ g) × NoLater g.place (number g.refusal) f.place (number f.refusal)))
    (sym (fault_cmp g f))
    (first_of f g f.place (number f.refusal) g.place (number g.refusal) places numbers (ranks g.place f.place)
    (ranks (number g.refusal) (number f.refusal)))
