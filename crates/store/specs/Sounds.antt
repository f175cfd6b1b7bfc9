-- Proof that the open store's sets are sets of marks; it stands here since a ghost member cites it.
use Rattle.std.specs.Prelude.{◌≡◌, ℕ, ◌<◌, true, false, List, [], ◌∷◌, length, ◌==◌, nat_lt, slice_index_or, refl}
use Rattle.std.proofs.Common.{sym}
use Rattle.std.specs.List.{AllByRecursion}
use Rattle.std.proofs.lemmas.Bool.{and_from, and_parts, eqb-true, eq-eqb, lt-ltb, ltb-true, both_ways}
use Rattle.marks.specs.Sets.{MarksOf}
use Rattle.store.specs.declared.row.Row.{Row}
use Rattle.store.specs.declared.open.OpenStore.{OpenStore}
use Rattle.store.specs.Rules.{Sound}
use Rattle.store.specs.Rows.{has}
use Rattle.store.specs.Opens.{all_small, every_mark, each_in, marks_in, open_start, open_left, HasEvery}

pub has_small : (r : Row) (v : ℕ) → has r v ≡ true → v < 1024
unfolding has
has_small r v e = ltb-true v 1024 (and_parts (nat_lt v 1024) (slice_index_or r.present v false) e).0

pub small_all : (m : List ℕ) → all_small m ≡ true → AllByRecursion (λ v. v < 1024) m
unfolding all_small
small_all [] e = tt
small_all (v ∷ m) e =
    let p = and_parts (nat_lt v 1024) (all_small m) e in
    (ltb-true v 1024 p.0, small_all m p.1)

pub all_are_small : (m : List ℕ) → AllByRecursion (λ v. v < 1024) m → all_small m ≡ true
unfolding all_small
all_are_small [] h = refl
all_are_small (v ∷ m) h = and_from _ _ (lt-ltb v 1024 h.0) (all_are_small m h.1)

pub every_has : (n : ℕ) → HasEvery n (every_mark n)
unfolding every_mark
every_has n m = (
  (λ e. let p = and_parts (length m == n) (all_small m) e in (eqb-true _ _ p.0, small_all m p.1)),
  (λ h. and_from _ _ (eq-eqb _ _ h.0) (all_are_small m h.1)),
)

pub each_small : (rs : List Row) (m : List ℕ) → each_in rs m ≡ true → all_small m ≡ true
unfolding all_small each_in
each_small [] [] e = refl
each_small [] (v ∷ m) e = absurd (both_ways true (sym e) refl)
each_small (r ∷ rs) [] e = refl
each_small (r ∷ rs) (v ∷ m) e =
    let p = and_parts (has r v) (each_in rs m) e in
    and_from _ _ (lt-ltb v 1024 (has_small r v p.0)) (each_small rs m p.1)

pub marks_every : (n : ℕ) (rs : List Row) (m : List ℕ) → marks_in n rs m ≡ true → every_mark n m ≡ true
unfolding marks_in every_mark
marks_every n rs m e =
    let p = and_parts (length m == n) (each_in rs m) e in
    and_from _ _ p.0 (each_small rs m p.1)

pub marks_in_of : (n : ℕ) (rs : List Row) → MarksOf n (marks_in n rs)
marks_in_of n rs m e = (every_has n m).0 (marks_every n rs m e)

pub open_sound : Sound {X = OpenStore Row} (λ s. s.width) open_start open_left
open_sound = record {
  started = λ s m e. (every_has s.width m).0 e;
  left = λ s. marks_in_of s.width s.rows;
}
