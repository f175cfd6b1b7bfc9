-- A row with a number more or less, and a loop that narrows a row.
use Rattle.std.proofs.Common.{◌≡◌, ℕ, ◌+◌, ◌<◌, ◌≤◌, Bool, true, false, ◌&&◌, ◌||◌, eqb, ltb, ◌≢◌, List, [], length, get_or, set, sym, refl, ap, ◌∙◌, subst, ⊎_elim, arith, length-set, below_more}
use mathlib.Core.Bool.{and-true, and-false, or-false}
use Rattle.std.proofs.lemmas.List.{get_or-set_same, get_or-set_other, set-get_or}
use Rattle.std.proofs.lemmas.Bool.{and_from, and_left, and_right, or_right, lt-ltb, le-ltb, eq-eqb, ne_eqb, cases_eq}
use Rattle.store.specs.declared.row.Row.{Row}
use Rattle.store.specs.Rows.{has}

-- the row that a read past the end gives
abbrev pub no_row : Row
no_row = record { present = [] }

pub no_row_has : (v : ℕ) → has no_row v ≡ false
unfolding has
no_row_has v = and_right (ltb v 1024) false refl

pub row_at : (r : Row) (v : ℕ) → v < 1024 → has r v ≡ get_or r.present v false
unfolding has
row_at r v h = ap (λ b. b && get_or r.present v false) (lt-ltb v 1024 h)

pub row_yes : (r : Row) (v : ℕ) → v < 1024 → get_or r.present v false ≡ true → has r v ≡ true
unfolding has
row_yes r v h e = and_from _ _ (lt-ltb v 1024 h) e

pub row_no : (r : Row) (v : ℕ) → get_or r.present v false ≡ false → has r v ≡ false
unfolding has
row_no r v e = and_right _ _ e

pub row_past : (r : Row) (v : ℕ) → 1024 ≤ v → has r v ≡ false
unfolding has
row_past r v h = and_left _ _ (le-ltb v 1024 h)

abbrev pub without : Row → ℕ → Row
without r v = record { present = set r.present v false }

pub without_same : (r : Row) (v : ℕ) → v < length r.present → has (without r v) v ≡ false
without_same r v h = row_no (without r v) v (get_or-set_same r.present v false false h)

pub without_other : (r : Row) (v k : ℕ) → k ≢ v → has (without r v) k ≡ has r k
unfolding has
without_other r v k h = ap (λ b. ltb k 1024 && b) (get_or-set_other r.present v k false false h)

-- a loop that has narrowed a row below v
abbrev pub Narrowing : (ℕ → Bool) → Row → Row → ℕ → Type 0
Narrowing p r₀ r v =
    (length r.present ≡ 1024)
    × ((k : ℕ) → k < v → has r k ≡ (has r₀ k && p k))
    × ((k : ℕ) → v ≤ k → has r k ≡ has r₀ k)

pub narrow_keep : (p : ℕ → Bool) (r₀ r : Row) (v : ℕ) → Narrowing p r₀ r v → p v ≡ true
    → Narrowing p r₀ r (v + 1)
narrow_keep p r₀ r v i e = (
  i.0,
  below_more _ _ i.1 (i.2 v (omega arith) ∙ sym (ap (λ b. has r₀ v && b) e ∙ and-true (has r₀ v))),
  (λ k h. i.2 k (omega arith)),
)

-- the same where the item is lent and left as it was
pub narrow_left : (p : ℕ → Bool) (r₀ r : Row) (v : ℕ) → Narrowing p r₀ r v → p v ≡ true
    → Narrowing p r₀ (record { present = set r.present v (get_or r.present v false) }) (v + 1)
narrow_left p r₀ r v i e =
    let P : List Bool → Type 0 = λ xs. Narrowing p r₀ (record { present = xs }) (v + 1) in
    subst P (sym (set-get_or r.present v false)) (narrow_keep p r₀ r v i e)

pub narrow_drop : (p : ℕ → Bool) (r₀ r : Row) (v : ℕ) → v < 1024 → Narrowing p r₀ r v → p v ≡ false
    → Narrowing p r₀ (without r v) (v + 1)
narrow_drop p r₀ r v l i e = (
  length-set r.present v false ∙ i.0,
  below_more _ _ (λ k h. without_other r v k (omega arith) ∙ i.1 k h)
      (without_same r v (omega (arith, i.0)) ∙ sym (ap (λ b. has r₀ v && b) e ∙ and-false (has r₀ v))),
  (λ k h. without_other r v k (omega arith) ∙ i.2 k (omega arith)),
)

abbrev pub with_number : Row → ℕ → Row
with_number r x = record { present = set r.present x true }

pub with_has : (r : Row) (x v : ℕ) → x < 1024 → length r.present ≡ 1024
    → has (with_number r x) v ≡ (has r v || (ltb v 1024 && eqb x v))
unfolding has
with_has r x v h l =
    ⊎_elim
    (λ e. subst (λ z. (ltb z 1024 && get_or (set r.present x true) z false) ≡
    ((ltb z 1024 && get_or r.present z false) || (ltb z 1024 && eqb x z))) e
    (and_from _ _ (lt-ltb x 1024 h) (get_or-set_same r.present x true false (omega arith))
    ∙ sym (or_right _ _ (and_from _ _ (lt-ltb x 1024 h) (eq-eqb x x refl)))))
    (λ ne. ap (λ b. ltb v 1024 && b) (get_or-set_other r.present x v true false (λ q. ne (sym q)))
    ∙ sym (or-false _) ∙ ap (λ b. (ltb v 1024 && get_or r.present v false) || b)
    (sym (and_right (ltb v 1024) (eqb x v) (ne_eqb x v ne))))
    (cases_eq x v)
