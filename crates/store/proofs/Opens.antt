-- The sets of the open store by its rows: what a narrowed row, full rows and an empty row make of them,
-- and the numbers that a field takes.
use Rattle.std.proofs.Common.{◌≡◌, ℕ, zero, suc, ◌<◌, ◌≤◌, Bool, true, false, ◌&&◌, eqb, ltb, List, [], ◌∷◌, length, get_or, set, sym, refl, ap, ◌∙◌, subst, ⊎_elim, arith, length-set, get_or-set_same}
use mathlib.Core.Bool.{and_assoc}
use Rattle.std.proofs.lemmas.Bool.{and_from, and_parts, and_left, eqb-true, eq-eqb, ne_eqb, cases_Bool, both_ways}
use Rattle.formula.specs.declared.Comparison.{Comparison}
use Rattle.formula.specs.Comparing.{holds}
use Rattle.marks.specs.Sets.{kept}
use Rattle.marks.specs.Counted.{any_below, below, some, takes, values}
use Rattle.marks.proofs.Below.{any_below_decides}
use Rattle.marks.proofs.Counted.{some_sound, some_complete, empty_some, takes_sound, takes_complete, values_by}
use Rattle.store.specs.declared.row.Row.{Row}
use Rattle.store.specs.Rows.{has}
use Rattle.store.specs.Opens.{all_small, every_mark, each_in, marks_in}
use Rattle.store.specs.Sounds.{has_small, marks_every, marks_in_of}
use Rattle.store.proofs.Rows.{no_row, no_row_has}

-- Each number in the row of its place

pub each_at : (rs : List Row) (m : List ℕ) (i : ℕ) → each_in rs m ≡ true → i < length m
    → has (get_or rs i no_row) (get_or m i 0) ≡ true
unfolding each_in
each_at [] [] i e h = absurd (omega arith)
each_at [] (v ∷ m) i e h = absurd (both_ways true (sym e) refl)
each_at (r ∷ rs) [] i e h = absurd (omega arith)
each_at (r ∷ rs) (v ∷ m) zero e h = (and_parts (has r v) (each_in rs m) e).0
each_at (r ∷ rs) (v ∷ m) (suc i) e h = each_at rs m i (and_parts (has r v) (each_in rs m) e).1 (omega arith)

-- Keep: one row narrowed

swap_and : (a t b : Bool) → ((a && t) && b) ≡ ((a && b) && t)
swap_and true true true = refl
swap_and true true false = refl
swap_and true false true = refl
swap_and true false false = refl
swap_and false t b = refl

each_set : (rs : List Row) (m : List ℕ) (f : ℕ) (w : Row) (t : ℕ → Bool) → f < length m → f < length rs
    → ((v : ℕ) → has w v ≡ (has (get_or rs f no_row) v && t v))
    → each_in (set rs f w) m ≡ (each_in rs m && t (get_or m f 0))
unfolding each_in
each_set [] m f w t h l e = absurd (omega arith)
each_set (r ∷ rs) [] f w t h l e = absurd (omega arith)
each_set (r ∷ rs) (v ∷ m) zero w t h l e =
    ap (λ b. b && each_in rs m) (e v) ∙ swap_and (has r v) (t v) (each_in rs m)
each_set (r ∷ rs) (v ∷ m) (suc f) w t h l e =
    ap (λ b. has r v && b) (each_set rs m f w t (omega arith) (omega arith) e)
    ∙ sym (and_assoc (has r v) (each_in rs m) (t (get_or m f 0)))

pub marks_keep : (n : ℕ) (rs : List Row) (f : ℕ) (c : Comparison) (k : ℕ) (w : Row) → f < n → f < length rs
    → ((v : ℕ) → has w v ≡ (has (get_or rs f no_row) v && holds c v k))
    → marks_in n (set rs f w) ≡ kept (marks_in n rs) f c k
unfolding marks_in
marks_keep n rs f c k w h l e =
    let at : (m : List ℕ) → marks_in n (set rs f w) m ≡ kept (marks_in n rs) f c k m = λ m.
    ⊎_elim
    (λ t. let q = eqb-true (length m) n t in
    ap (λ b. eqb (length m) n && b) (each_set rs m f w (λ v. holds c v k) (omega (arith, q)) l e)
    ∙ sym (and_assoc (eqb (length m) n) (each_in rs m) (holds c (get_or m f 0) k)))
    (λ z. rw z refl)
    (cases_Bool (eqb (length m) n)) in
    λ i m. at m i

-- Full rows

full_each : (rs : List Row) (m : List ℕ) → length m ≤ length rs
    → ((i : ℕ) → i < length m → (v : ℕ) → has (get_or rs i no_row) v ≡ ltb v 1024)
    → all_small m ≡ true → each_in rs m ≡ true
unfolding all_small each_in
full_each rs [] l h e = refl
full_each [] (v ∷ m) l h e = absurd (omega arith)
full_each (r ∷ rs) (v ∷ m) l h e =
    let p = and_parts (ltb v 1024) (all_small m) e in
    and_from _ _ (h 0 (omega arith) v ∙ p.0)
    (full_each rs m (omega arith) (λ i q. h (suc i) (omega arith)) p.1)

pub marks_full : (n : ℕ) (rs : List Row) → n ≤ length rs
    → ((i : ℕ) → i < n → (v : ℕ) → has (get_or rs i no_row) v ≡ ltb v 1024)
    → marks_in n rs ≡ every_mark n
unfolding marks_in every_mark
marks_full n rs l full =
    let at : (m : List ℕ) → marks_in n rs m ≡ every_mark n m = λ m.
    ⊎_elim
    (λ t. let p = and_parts (eqb (length m) n) (all_small m) t in
    let q = eqb-true _ _ p.0 in
    and_from _ _ p.0 (full_each rs m (omega (arith, q)) (λ i g. full i (omega (arith, q, g))) p.1)
    ∙ sym t)
    (λ z. ⊎_elim (λ t. absurd (both_ways _ z (marks_every n rs m t))) (λ y. y ∙ sym z)
    (cases_Bool (marks_in n rs m)))
    (cases_Bool (every_mark n m)) in
    λ i m. at m i

-- Emptiness: there is a mark just where no row is empty

pick_mark : (n : ℕ) (rs : List Row)
    → ((k : ℕ) → k < n → any_below (has (get_or rs k no_row)) 1024 ≡ true)
    → (m : List ℕ) × (length m ≡ n) × (each_in rs m ≡ true)
unfolding each_in
pick_mark zero rs h = ([], refl, refl)
pick_mark (suc n) [] h =
    let w = (any_below_decides (has no_row) 1024).0 (h 0 (omega arith)) in
    absurd (both_ways _ (no_row_has w.0) w.2)
pick_mark (suc n) (r ∷ rs) h =
    let w = (any_below_decides (has r) 1024).0 (h 0 (omega arith)) in
    let q = pick_mark n rs (λ k g. h (suc k) (omega arith)) in
    (w.0 ∷ q.0, ap suc q.1, and_from _ _ w.2 q.2)

pub marks_some : (n : ℕ) (rs : List Row)
    → ((k : ℕ) → k < n → any_below (has (get_or rs k no_row)) 1024 ≡ true)
    → some n (marks_in n rs) ≡ true
unfolding marks_in
marks_some n rs h =
    let q = pick_mark n rs h in
    let e : marks_in n rs q.0 ≡ true = and_from _ _ (eq-eqb _ _ q.1) q.2 in
    some_complete n (marks_in n rs) q.0 (marks_in_of n rs q.0 e) e

pub marks_none : (n : ℕ) (rs : List Row) (i : ℕ) → i < n → any_below (has (get_or rs i no_row)) 1024 ≡ false
    → some n (marks_in n rs) ≡ false
unfolding marks_in
marks_none n rs i l e =
    empty_some n (marks_in n rs) (λ m t.
    let p = and_parts (eqb (length m) n) (each_in rs m) t in
    let q = eqb-true (length m) n p.0 in
    let h = each_at rs m i p.1 (omega (arith, q)) in
    both_ways _ e ((any_below_decides (has (get_or rs i no_row)) 1024).1
    (get_or m i 0, has_small (get_or rs i no_row) (get_or m i 0) h, h)))

-- Values: where there is a mark, a field takes the numbers of its row

each_put : (rs : List Row) (m : List ℕ) (f v : ℕ) → f < length m → each_in rs m ≡ true
    → has (get_or rs f no_row) v ≡ true → each_in rs (set m f v) ≡ true
unfolding each_in
each_put rs [] f v l e h = absurd (omega arith)
each_put [] (x ∷ m) f v l e h = absurd (both_ways true (sym e) refl)
each_put (r ∷ rs) (x ∷ m) zero v l e h = and_from _ _ h (and_parts (has r x) (each_in rs m) e).1
each_put (r ∷ rs) (x ∷ m) (suc f) v l e h =
    let p = and_parts (has r x) (each_in rs m) e in
    and_from _ _ p.0 (each_put rs m f v (omega arith) p.1 h)

marks_takes : (n : ℕ) (rs : List Row) (f : ℕ) → f < n → some n (marks_in n rs) ≡ true
    → (v : ℕ) → takes n (marks_in n rs) f v ≡ has (get_or rs f no_row) v
unfolding marks_in
marks_takes n rs f l some_true v =
    let S = marks_in n rs in
    let there : has (get_or rs f no_row) v ≡ true → takes n S f v ≡ true = λ h.
    let r = some_sound n S some_true in
    let p = and_parts (eqb (length r.0) n) (each_in rs r.0) r.2 in
    let q = eqb-true (length r.0) n p.0 in
    let e : S (set r.0 f v) ≡ true =
    and_from _ _ (eq-eqb _ _ (length-set r.0 f v ∙ q))
    (each_put rs r.0 f v (omega (arith, q)) p.1 h) in
    takes_complete n S f v (set r.0 f v) (marks_in_of n rs (set r.0 f v) e) e
    (get_or-set_same r.0 f v 0 (omega (arith, q))) in
    let back : takes n S f v ≡ true → has (get_or rs f no_row) v ≡ true = λ t.
    let r = takes_sound n S f v t in
    let p = and_parts (eqb (length r.0) n) (each_in rs r.0) r.2 in
    let q = eqb-true (length r.0) n p.0 in
    subst (λ x. has (get_or rs f no_row) x ≡ true) r.3 (each_at rs r.0 f p.1 (omega (arith, q))) in
    ⊎_elim
    (λ t. t ∙ sym (back t))
    (λ z. ⊎_elim (λ h. absurd (both_ways _ z (there h))) (λ y. z ∙ sym y)
    (cases_Bool (has (get_or rs f no_row) v)))
    (cases_Bool (takes n S f v))

pub marks_values : (n : ℕ) (rs : List Row) (f : ℕ) → f < n → some n (marks_in n rs) ≡ true
    → values n (marks_in n rs) f ≡ below (has (get_or rs f no_row)) 1024
marks_values n rs f l e = values_by n (marks_in n rs) f (has (get_or rs f no_row)) l
    (λ v h. marks_takes n rs f l e v)

-- Membership of one mark

pub long_not_in : (n : ℕ) (rs : List Row) (m : List ℕ) → (length m ≡ n → ⊥) → marks_in n rs m ≡ false
unfolding marks_in
long_not_in n rs m h = and_left _ _ (ne_eqb _ _ h)
