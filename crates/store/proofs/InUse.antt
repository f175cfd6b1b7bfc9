-- The rows in use, by std's words on lists: membership, emptiness and the row that is lent of them.
use Rattle.std.proofs.Common.{◌≡◌, ℕ, zero, suc, ◌<◌, ◌≤◌, Bool, true, false, not, ◌&&◌, List, [], ◌∷◌, length, take, get_or, Option, Some, None, sym, refl, ap, ◌∙◌, subst, ⊎_elim, arith, length-take}
use Rattle.std.specs.Borrow.{Bor}
use Rattle.std.specs.List.{list_any, list_all, zip}
use Rattle.std.specs.Slice.{IsItemAt}
use Rattle.std.proofs.lemmas.List.{get_or-take, get_or_default}
use Rattle.std.proofs.lemmas.List.Folds.{Any-from_list_any, list_any_at}
use Rattle.std.proofs.lemmas.Bool.{eq-eqb, cases_Bool, both_ways, not-true}
use Rattle.marks.specs.Counted.{any_below, below, some, values}
use Rattle.marks.proofs.Counted.{values_taken, values_outside}
use Rattle.store.specs.declared.row.Row.{Row}
use Rattle.store.specs.Rows.{has}
use Rattle.store.specs.Opens.{each_in, marks_in}
use Rattle.store.specs.Sounds.{marks_in_of}
use Rattle.store.specs.TakenRows.{LendsTaken}
use Rattle.store.proofs.Rows.{no_row}
use Rattle.store.proofs.Opens.{marks_some, marks_none, marks_values}

zip_each : (rs : List Row) (m : List ℕ) (n : ℕ) → length m ≤ n → length m ≤ length rs
    → list_all (λ (p : ℕ × Row). has p.1 p.0) (zip m (take n rs)) ≡ each_in rs m
unfolding each_in
zip_each rs [] n l h = refl
zip_each [] (v ∷ m) n l h = absurd (omega arith)
zip_each (r ∷ rs) (v ∷ m) zero l h = absurd (omega arith)
zip_each (r ∷ rs) (v ∷ m) (suc n) l h =
    ap (λ b. has r v && b) (zip_each rs m n (omega arith) (omega arith))

pub marks_zip : (n : ℕ) (rs : List Row) (m : List ℕ) → n ≤ length rs → length m ≡ n
    → list_all (λ (p : ℕ × Row). has p.1 p.0) (zip m (take n rs)) ≡ marks_in n rs m
unfolding marks_in
marks_zip n rs m l e =
    zip_each rs m n (omega (arith, e)) (omega (arith, e))
    ∙ sym (ap (λ b. b && each_in rs m) (eq-eqb (length m) n e))

-- whether a row has no number
abbrev pub bare : Row → Bool
bare r = not (any_below (has r) 1024)

not_bare : (r : Row) → bare r ≡ false → any_below (has r) 1024 ≡ true
not_bare r e = ⊎_elim (λ t. t) (λ z. absurd (both_ways _ e (ap not z))) (cases_Bool (any_below (has r) 1024))

pub rows_bare : (n : ℕ) (rs : List Row) → n ≤ length rs
    → list_any bare (take n rs) ≡ not (some n (marks_in n rs))
rows_bare n rs l =
    let long = length-take n rs in
    ⊎_elim
    (λ t. let w = Any-from_list_any bare (take n rs) t in
    let h : w.0 < n = omega (arith, long, w.2) in
    let at : w.1 ≡ get_or rs w.0 no_row =
    sym w.3 ∙ get_or_default (take n rs) w.0 w.1 no_row w.2 ∙ get_or-take n rs w.0 no_row h in
    t ∙ sym (ap not (marks_none n rs w.0 h (not-true _ (sym (ap bare at) ∙ w.4)))))
    (λ z. z ∙ sym (ap not (marks_some n rs (λ k h. not_bare _ (⊎_elim
    (λ t. absurd (both_ways _ z (list_any_at bare (take n rs) k no_row (omega (arith, long, h))
    (ap bare (get_or-take n rs k no_row h) ∙ t))))
    (λ e. e) (cases_Bool (bare (get_or rs k no_row))))))))
    (cases_Bool (list_any bare (take n rs)))

pub item_taken : (n : ℕ) (rs : List Row) (f : ℕ) (r : Option (Bor Row)) → n ≤ length rs
    → some n (marks_in n rs) ≡ true → IsItemAt (take n rs) f r → LendsTaken n (marks_in n rs) f r
item_taken n rs f (Some b) l there i =
    let S = marks_in n rs in
    let h : f < n = omega (arith, i.3.0, length-take n rs) in
    let at : get_or rs f no_row ≡ b.now = sym (get_or-take n rs f no_row h) ∙ sym (i.3.1 no_row) in (
      values_taken n S f (marks_in_of n rs),
      subst (λ r. below (has r) 1024 ≡ values n S f) at (sym (marks_values n rs f h there)),
    )
item_taken n rs f None l there i =
    let S = marks_in n rs in
    (values_taken n S f (marks_in_of n rs), values_outside n S f (omega (arith, i.3, length-take n rs)))
