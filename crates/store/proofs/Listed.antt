-- What std's words on lists say of the numbers that a row has.
use Rattle.std.proofs.Common.{◌≡◌, ℕ, zero, suc, ◌+◌, ◌<◌, Bool, true, false, cond, List, [], ◌∷◌, ◌++◌, length, get_or, map, filter, Option, Some, None, sym, refl, ap, ◌∙◌, ⊎_elim, zero-add, arith}
use Rattle.std.specs.Bool.{beq}
use Rattle.std.specs.List.{range_with_len, slice_get, IsAnyAnswer}
use Rattle.std.proofs.lemmas.List.{map-id}
use Rattle.std.proofs.lemmas.List.FromFn.{filter_of_map_range_with_len_more}
use Rattle.std.proofs.lemmas.Option.{slice_get_cases, slice_get_within, get_or_from_slice_get}
use Rattle.std.proofs.lemmas.Bool.{cases_Bool, both_ways}
use Rattle.marks.specs.Counted.{any_below, below}
use Rattle.marks.proofs.Below.{any_below_decides, below_same}
use Rattle.store.specs.declared.row.Row.{Row}
use Rattle.store.specs.Rules.{Picks}
use Rattle.store.specs.Rows.{has}
use Rattle.store.proofs.Rows.{row_yes, row_at}

-- the numbers below n that pass are those that a filter of 0..n leaves
below_mapped : (p : ℕ → Bool) (n : ℕ) → below p n ≡ filter p (map (λ k. k) (range_with_len 0 n))
unfolding below
below_mapped p zero = refl
below_mapped p (suc n) =
    let e : n + 1 ≡ suc n = omega arith in
    ap (λ xs. xs ++ cond (p n) (n ∷ []) []) (below_mapped p n)
    ∙ sym (filter_of_map_range_with_len_more p (λ k. k) 0 n n (zero-add n))
    ∙ ap (λ k. filter p (map (λ j. j) (range_with_len 0 k))) e

-- A row's list

pub row_filter : (r : Row)
    → filter (λ v. get_or r.present v false) (range_with_len 0 1024) ≡ below (has r) 1024
row_filter r =
    let f : ℕ → Bool = λ v. get_or r.present v false in
    sym (ap (filter f) (map-id (range_with_len 0 1024)))
    ∙ sym (below_mapped f 1024)
    ∙ sym (below_same (has r) f 1024 (row_at r))

pub picks_get : (vs : List ℕ) (k : ℕ) (r : Option ℕ) → r ≡ slice_get vs k → Picks vs k r
picks_get vs k (Some v) e = (slice_get_within vs k v (sym e), sym (get_or_from_slice_get vs k v 0 (sym e)))
picks_get vs k None e =
    ⊎_elim (λ w. let z : ◌≡◌ {A = Option ℕ} None (Some w.0) = e ∙ w.2 in absurd (cc)) (λ w. w.0)
    (slice_get_cases vs k).1

is_true : (b : Bool) → beq b true ≡ true → b ≡ true
is_true true e = refl
is_true false e = e

is_false : (b : Bool) → beq b true ≡ false → b ≡ false
is_false true e = e
is_false false e = refl

pub row_any : (r : Row) (b : Bool) → length r.present ≡ 1024
    → IsAnyAnswer (λ y c. beq y true ≡ c) r.present b
    → b ≡ any_below (has r) 1024
row_any r true l h =
    let i : h.0 < 1024 = omega (arith, l, h.1) in
    sym ((any_below_decides (has r) 1024).1 (h.0, i, row_yes r h.0 i (is_true _ (h.2 false))))
row_any r false l h =
    ⊎_elim
    (λ t. let w = (any_below_decides (has r) 1024).0 t in
    absurd (both_ways _ (is_false _ (h w.0 false (omega arith) (omega (arith, l, w.1))))
    (sym (row_at r w.0 w.1) ∙ w.2)))
    sym
    (cases_Bool (any_below (has r) 1024))
