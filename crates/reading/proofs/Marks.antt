-- Marks against the fields of a sheet.
use Rattle.std.proofs.Common.{◌≡◌, ℕ, suc, ◌+◌, ◌-◌, ◌<◌, Bool, true, false, eqb, zero, IsTrue, ◌↔◌, EachIndex, zero-add, map, tests, List, [], ◌∷◌, length, get_or, Option, sym, refl, ◌∙◌, subst, subst₂, arith}
use borrow.Author.Tests.{apart_eqb}
use Rattle.std.specs.Cmp.{both_ways}
use Rattle.std.proofs.ByRecursion.{All-from_get_or, All-get_or}
use Rattle.std.proofs.lemmas.Bool.Decides.{nat_tests}
use Rattle.std.proofs.lemmas.List.{length-map}
use Rattle.marks.specs.Sets.{Shaped}
use Rattle.meaning.specs.Terms.{fields_of}
use Rattle.meaning.specs.Reading.{ranged, calls_made, Verdict, not_allowed, verdict, Checks, out_of_range}
use Rattle.meaning.specs.Reading.{in_range}
use Rattle.meaning.proofs.Readings.{calls_spend}
use Rattle.sheet.specs.declared.node.Range.{Range}
use Rattle.sheet.specs.declared.table.Sheet.{Sheet}
use Rattle.sheet.specs.Table.{range_at}
use Rattle.sheet.specs.Sheets.{range_of, tree_of}
use Rattle.reading.specs.Steps.{Inside, answer, rules, ranges, Read}

-- numbers that lie in their ranges are ranged, and numbers that are ranged lie in them
ranged_when :
    (rs : List Range) (f : ℕ) (m : List ℕ)
    → ((k : ℕ) → k < length rs → Inside (range_at rs k) (get_or m (f + k) 0))
    → ranged (map range_of rs) f m ≡ true
ranged_when [] f m h = refl
ranged_when (r ∷ rs) f m h =
    let z : f + 0 ≡ f = omega arith in
    let first : Inside r (get_or m f 0) = subst (λ i. Inside r (get_or m i 0)) z (h 0 (omega arith)) in
    let rest : ranged (map range_of rs) (suc f) m ≡ true =
    ranged_when rs (suc f) m (λ k lt.
    let e : f + suc k ≡ suc f + k = omega arith in
    subst (λ i. Inside (range_at rs k) (get_or m i 0)) e (h (suc k) (omega arith))) in
    grind (arith, nat_tests)

ranged_only :
    (rs : List Range) (f : ℕ) (m : List ℕ)
    → ranged (map range_of rs) f m ≡ true
    → (k : ℕ) → k < length rs → Inside (range_at rs k) (get_or m (f + k) 0)
ranged_only [] f m h k lt = absurd (omega arith)
ranged_only (r ∷ rs) f m h zero lt =
    let inside : Inside r (get_or m f 0) = grind (arith, nat_tests, h) in
    let e : f ≡ f + 0 = omega arith in
    subst (λ i. Inside r (get_or m i 0)) e inside
ranged_only (r ∷ rs) f m h (suc k) lt =
    let rest : ranged (map range_of rs) (suc f) m ≡ true = grind (arith, nat_tests, h) in
    let e : suc f + k ≡ f + suc k = omega arith in
    subst (λ i. Inside (range_at rs k) (get_or m i 0)) e (ranged_only rs (suc f) m rest k (omega arith))

-- a test of each number in its range
pub ranged_as :
    (rs : List Range) (m : List ℕ) (b : Bool) → length m ≡ length rs
    → (IsTrue b ↔ EachIndex m (λ k. Inside (range_at rs k) (get_or m k 0)))
    → b ≡ ranged (map range_of rs) 0 m
ranged_as rs m b e h =
    both_ways b _
    (λ t. ranged_when rs 0 m
    (λ k lt. subst (λ i. Inside (range_at rs k) (get_or m i 0)) (sym (zero-add k)) (h.0 t k (omega arith))))
    (λ t. h.1
    (λ k lt. subst (λ i. Inside (range_at rs k) (get_or m i 0)) (zero-add k) (ranged_only rs 0 m t k (omega arith))))

module _ (s : Sheet) where
  pub fields_counted : fields_of (tree_of s) ≡ length s.ranges.items
  unfolding tree_of
  fields_counted = length-map s.ranges.items range_of

  -- the shape of a mark

  pub shaped_when :
      (m : List ℕ) (b : Bool) → length m ≡ length s.ranges.items
      → (IsTrue b ↔ EachIndex m (λ k. get_or m k 0 < 1024))
      → (IsTrue b ↔ Shaped (fields_of (tree_of s)) m)
  shaped_when m b p h = (
    λ t. (p ∙ sym fields_counted, All-from_get_or (λ v. v < 1024) m 0 (h.0 t)),
    λ x. h.1 (λ k lt. All-get_or (λ v. v < 1024) m k 0 lt x.1),
  )

  pub shaped_else :
      (m : List ℕ) → (length m ≡ length s.ranges.items → ⊥)
      → (IsTrue (eqb (length m) (length s.ranges.items)) ↔ Shaped (fields_of (tree_of s)) m)
  shaped_else m n =
      let apart = apart_eqb (length m) (length s.ranges.items) n in (
        λ t. absurd (n (search (tests, t))),
        λ x. absurd (n (x.0 ∙ fields_counted)),
      )

  -- the whole check

  pub checks_out :
      (m : List ℕ) (fuel : ℕ) → false ≡ ranged (ranges s) 0 m → Checks (tree_of s) m fuel not_allowed 0
  unfolding tree_of
  checks_out m fuel p = out_of_range (sym p)

  pub checks_in :
      (m : List ℕ) (fuel : ℕ) → true ≡ ranged (ranges s) 0 m
      → (o : Option Bool) (k : ℕ) → Read s m [] s.mark.body fuel o k
      → (v : Verdict) → v ≡ verdict (answer o k)
      → Checks (tree_of s) m fuel v (fuel - k)
  unfolding tree_of
  checks_in m fuel p o k d v q =
      let h = calls_spend (rules s) m d.reads in
      let e : calls_made d.reads ≡ fuel - k = omega (arith, h, d.fuel) in
      subst₂ (λ (w : Verdict) (c : ℕ). Checks (tree_of s) m fuel w c) (sym q) e (in_range (sym p) d.reads)
