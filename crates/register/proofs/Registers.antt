-- The marks of a register: its rows are its marks, keeping and restarting, and the numbers that a field
-- takes.
use Rattle.std.proofs.Common.{◌≡◌, ℕ, ◌+◌, ◌*◌, ◌/◌, ◌<◌, ◌≤◌, Bool, true, false, ◌&&◌, ◌||◌, eqb, ltb, List, [], ◌∷◌, ◌++◌, length, get_or, Some, Ok, Err, Result, sym, refl, ap, ◌∙◌, subst, ⊎_elim, mul-le-mul_right, add-mul, le-div_iff_mul-le, div-mul-le_self, add-one, arith, length-drop, length-take, length-append, take, drop, zero-mul}
use mathlib.Core.Bool.{and_assoc, or_comm}
use Rattle.std.specs.Borrow.{Bor}
use Rattle.std.specs.declared.slice.ChunksExact.{ChunksExact}
use Rattle.std.specs.Slice.Iter.{chunks_exact_rest, chunks_exact_size, chunks_exact_steps}
use Rattle.std.proofs.lemmas.List.{take_at, drop_at, drop-drop}
use Rattle.std.proofs.ByRecursion.{All-get_or}
use Rattle.std.proofs.lemmas.Bool.{and_from, and_parts, and_left, and_right, eqb-true, eq-eqb, ne_eqb, lt-ltb, le-ltb, cases_lt, both_ways}
use Rattle.std.proofs.lemmas.Bool.Decides.{same_from_decides}
use Rattle.formula.specs.declared.Comparison.{Comparison}
use Rattle.formula.specs.Comparing.{holds}
use Rattle.refusal.specs.declared.Refusal.{Refusal}
use Rattle.marks.specs.Counted.{any_below, below, some, takes, values}
use Rattle.marks.proofs.Below.{any_below_decides}
use Rattle.marks.proofs.Counted.{some_complete, empty_some, takes_sound, takes_complete, values_by}
use Rattle.store.specs.declared.row.Row.{Row}
use Rattle.store.specs.Rules.{Keeps}
use Rattle.store.specs.Rows.{has}
use Rattle.store.specs.Opens.{every_mark, open_left}
use Rattle.store.specs.Sounds.{every_has, marks_in_of}
use Rattle.register.specs.declared.RegisterStore.{RegisterStore}
use Rattle.register.specs.Registers.{row_at, HasRows, same, is_row, both, numbers_of, width_of, register_left}
use Rattle.register.specs.Sounds.{left_of}

-- Rows

same_true : (a b : List ℕ) → same a b ≡ true → a ≡ b
unfolding same
same_true [] [] e = refl
same_true [] (y ∷ b) e = absurd (both_ways true (sym e) refl)
same_true (x ∷ a) [] e = absurd (both_ways true (sym e) refl)
same_true (x ∷ a) (y ∷ b) e =
    let p = and_parts (eqb x y) (same a b) e in
    ap (λ z. z ∷ a) (eqb-true x y p.0) ∙ ap (λ zs. y ∷ zs) (same_true a b p.1)

same_refl : (a : List ℕ) → same a a ≡ true
unfolding same
same_refl [] = refl
same_refl (x ∷ a) = and_from _ _ (eq-eqb x x refl) (same_refl a)

-- a whole row lies within the register
pub row_fits : (len n i : ℕ) → i < len / n → i * n + n ≤ len
row_fits len n i h =
    let whole = div-mul-le_self len n in
    let l : i + 1 ≤ len / n = omega arith in
    let b : (i + 1) * n ≤ len / n * n = mul-le-mul_right n l in
    let c = add-mul i 1 n in
    omega arith

row_counts : (len n i : ℕ) → 1 ≤ n → i * n + n ≤ len → i < len / n
row_counts len n i one h =
    let c = add-mul i 1 n in
    let b : (i + 1) * n ≤ len = omega arith in
    let l : i + 1 ≤ len / n = (le-div_iff_mul-le one).1 b in
    omega arith

pub row_length : (register : List ℕ) (n i : ℕ) → i * n + n ≤ length register
    → length (row_at register n i) ≡ n
row_length register n i h = simp (length-take, length-drop) (omega arith)

row_is_row : (register : List ℕ) (n i : ℕ) → i < length register / n
    → is_row register n (row_at register n i) ≡ true
unfolding is_row
row_is_row register n i h =
    (any_below_decides (λ k. same (row_at register n i) (row_at register n k)) (length register / n)).1
    (i, h, same_refl (row_at register n i))

is_row_row : (register : List ℕ) (n : ℕ) (m : List ℕ) → is_row register n m ≡ true
    → (i : ℕ) × (i < length register / n) × (m ≡ row_at register n i)
unfolding is_row
is_row_row register n m e =
    let w = (any_below_decides (λ i. same m (row_at register n i)) (length register / n)).0 e in
    (w.0, w.1, same_true m (row_at register n w.0) w.2)

-- The set that a register store starts with is the set of the register's marks

pub rows_are_marks : (register : List ℕ) (n : ℕ) → 1 ≤ n
    → HasRows n register (both (is_row register n) (every_mark n))
unfolding both
rows_are_marks register n one m = (
  (λ e. let p = and_parts (is_row register n m) (every_mark n m) e in
      let w = is_row_row register n m p.0 in
      ((w.0, row_fits (length register) n w.0 w.1, w.2), (every_has n m).0 p.1)),
  (λ h. let i = h.0.0 in
      let row = row_is_row register n i (row_counts (length register) n i one h.0.1) in
      and_from _ _ (subst (λ z. is_row register n z ≡ true) (sym h.0.2) row) ((every_has n m).1 h.1)),
)

-- Keep

-- a register store t over the same register as s, whose fields allow what a keep left
pub left_keeps : {X : Type 0} (s t : RegisterStore) (f : ℕ) (c : Comparison) (k : ℕ) (r : Result X Refusal)
    → numbers_of t ≡ numbers_of s → width_of t ≡ width_of s
    → Keeps (width_of s) (open_left s.allowed) (open_left t.allowed) f c k r
    → Keeps (width_of s) (register_left s) (register_left t) f c k r
unfolding both
left_keeps s t f c k (Ok x) e w h = (
  h.0,
  λ i m.
      (ap (λ b. b && open_left t.allowed m) (λ j. is_row (e j) (w j) m)
      ∙ ap (λ T. is_row (numbers_of s) (width_of s) m && T m) h.1
      ∙ sym (and_assoc (is_row (numbers_of s) (width_of s) m) (open_left s.allowed m)
      (holds c (get_or m f 0) k))) i,
)
left_keeps s t f c k (Err x) e w h = (h.0, h.1, λ i m. is_row (e i) (w i) m && h.2 i m)

-- Emptiness and values

module _ (s : RegisterStore) where
  abbrev n : ℕ
  n = width_of s

  abbrev count : ℕ
  count = length (numbers_of s) / n

  abbrev row : ℕ → List ℕ
  row i = row_at (numbers_of s) n i

  -- a mark that is left is a row that each field allows, and the other way round
  left_row : (m : List ℕ) → register_left s m ≡ true
      → (i : ℕ) × (i < count) × (m ≡ row i) × (open_left s.allowed m ≡ true)
  unfolding both
  left_row m e =
      let p = and_parts (is_row (numbers_of s) n m) (open_left s.allowed m) e in
      let w = is_row_row (numbers_of s) n m p.0 in
      (w.0, w.1, w.2, p.1)

  row_left : (i : ℕ) → i < count → open_left s.allowed (row i) ≡ true → register_left s (row i) ≡ true
  unfolding both
  row_left i h e = and_from _ _ (row_is_row (numbers_of s) n i h) e

  pub some_left : (i : ℕ) → i < count → open_left s.allowed (row i) ≡ true
      → some n (register_left s) ≡ true
  some_left i h e = let t = row_left i h e in
      some_complete n (register_left s) (row i) (left_of s (row i) t) t

  pub none_left : ((i : ℕ) → i < count → open_left s.allowed (row i) ≡ false)
      → some n (register_left s) ≡ false
  none_left h =
      empty_some n (register_left s) (λ m t.
      let w = left_row m t in
      both_ways _ (h w.0 w.1) (subst (λ z. open_left s.allowed z ≡ true) w.2 w.3))

  -- a loop over the rows after k of them: what is left of the register, cut at the width
  pub record Stands (rows : ChunksExact ℕ) (k : ℕ) : Type 0 where
    pub size : chunks_exact_size rows ≡ n
    pub rest : chunks_exact_rest rows ≡ drop (k * n) (numbers_of s)
    pub came : k ≤ count

  pub stands_first : (rows : ChunksExact ℕ) → chunks_exact_rest rows ≡ numbers_of s
      → chunks_exact_size rows ≡ n → Stands rows 0
  stands_first rows e w = record { size = w; rest = e ∙ rw zero-mul refl; came = omega arith }

  -- the next of them is row k
  pub stands_turn : (rows after : ChunksExact ℕ) (k : ℕ) (mark : Bor (List ℕ)) → Stands rows k
      → chunks_exact_steps rows (Some mark) after
      → Stands after (k + 1) × (k < count) × (mark.now ≡ row k)
  stands_turn rows after k mark at h =
      let xs = numbers_of s in
      let cut : drop (k * n) xs ≡ mark.now ++ chunks_exact_rest after = sym at.rest ∙ h.1.0 in
      let long : length mark.now ≡ n = h.1.1 ∙ at.size in
      let fits : k * n + n ≤ length xs = omega (
        arith,
        ap length cut,
        length-drop (k * n) xs,
        length-append mark.now (chunks_exact_rest after),
        long,
        s.allowed.few.0,
      ) in
      let here = row_counts (length xs) n k s.allowed.few.0 fits in (
        record {
          size = h.0 ∙ at.size;
          rest = sym (drop_at mark.now (chunks_exact_rest after) n long) ∙ ap (drop n) (sym cut)
              ∙ drop-drop n (k * n) xs ∙ ap (λ i. drop i xs) (omega (arith, add-mul k 1 n));
          came = omega (arith, here);
        },
        here,
        sym (take_at mark.now (chunks_exact_rest after) n long) ∙ ap (take n) (sym cut),
      )

  -- where less than a row is left, each row has come
  pub stands_last : (rows : ChunksExact ℕ) (k : ℕ) → Stands rows k
      → length (chunks_exact_rest rows) < chunks_exact_size rows → k ≡ count
  stands_last rows k at h =
      let xs = numbers_of s in
      ⊎_elim
      (λ t. absurd (omega (
        arith,
        row_fits (length xs) n k t,
        length-drop (k * n) xs,
        ap length at.rest,
        at.size,
      )))
      (λ t. omega (arith, at.came))
      (cases_lt k count)

  -- whether one of the first k rows that are left has v at f
  unfoldable pub seen_in : ℕ → ℕ → ℕ → Bool
  seen_in f k v = any_below (λ i. open_left s.allowed (row i) && eqb (get_or (row i) f 0) v) k

  pub seen_none : (f v : ℕ) → seen_in f 0 v ≡ false
  unfolding seen_in any_below
  seen_none f v = refl

  seen_more : (f i v : ℕ)
      → seen_in f (i + 1) v ≡ ((open_left s.allowed (row i) && eqb (get_or (row i) f 0) v) || seen_in f i v)
  unfolding seen_in any_below
  seen_more f i v = rw add-one

  -- the rows give what the field takes
  seen_all : (f v : ℕ) → takes n (register_left s) f v ≡ seen_in f count v
  unfolding seen_in
  seen_all f v =
      let S = register_left s in
      let p : ℕ → Bool = λ i. open_left s.allowed (row i) && eqb (get_or (row i) f 0) v in
      let d = any_below_decides p count in
      let go : takes n S f v ≡ true → any_below p count ≡ true = λ t.
      let w = takes_sound n S f v t in
      let r = left_row w.0 w.2 in
      d.1 (
        r.0,
        r.1,
        and_from _ _ (subst (λ z. open_left s.allowed z ≡ true) r.2 r.3)
            (eq-eqb _ _ (ap (λ z. get_or z f 0) (sym r.2) ∙ w.3)),
      ) in
      let back : any_below p count ≡ true → takes n S f v ≡ true = λ t.
      let w = d.0 t in
      let q = and_parts (open_left s.allowed (row w.0)) (eqb (get_or (row w.0) f 0) v) w.2 in
      let e = row_left w.0 w.1 q.0 in
      takes_complete n S f v (row w.0) (left_of s (row w.0) e) e (eqb-true _ _ q.1) in
      same_from_decides {P = takes n S f v ≡ true} _ _ ((λ e. e), (λ e. e)) (back, go)

  pub seen_values : (f : ℕ) (r : Row) → f < n → ((v : ℕ) → has r v ≡ seen_in f count v)
      → values n (register_left s) f ≡ below (has r) 1024
  seen_values f r h e = values_by n (register_left s) f (has r) h (λ v l. seen_all f v ∙ sym (e v))

  -- one row more: its number is added to those seen
  pub seen_add : (f i : ℕ) (r r' : Row) → f < n → i < count → open_left s.allowed (row i) ≡ true
      → ((v : ℕ) → has r v ≡ seen_in f i v)
      → ((v : ℕ) → has r' v ≡ (has r v || (ltb v 1024 && eqb (get_or (row i) f 0) v)))
      → (v : ℕ) → has r' v ≡ seen_in f (i + 1) v
  seen_add f i r r' h l o before add v =
      let x = get_or (row i) f 0 in
      let long = row_length (numbers_of s) n i (row_fits (length (numbers_of s)) n i l) in
      let small : x < 1024 = All-get_or (λ z. z < 1024) (row i) f 0 (omega (arith, long))
      (marks_in_of n s.allowed.rows (row i) o).1 in
      let test : (ltb v 1024 && eqb x v) ≡ (open_left s.allowed (row i) && eqb x v) =
      ⊎_elim
      (λ t. ap (λ b. b && eqb x v) (lt-ltb v 1024 t ∙ sym o))
      (λ t. and_left _ _ (le-ltb v 1024 t)
      ∙ sym (and_right (open_left s.allowed (row i)) (eqb x v)
      (ne_eqb x v (λ e. omega (arith, small, e)))))
      (cases_lt v 1024) in
      add v ∙ ap (λ b. b || (ltb v 1024 && eqb x v)) (before v) ∙ ap (λ b. seen_in f i v || b) test
      ∙ or_comm (seen_in f i v) (open_left s.allowed (row i) && eqb x v) ∙ sym (seen_more f i v)

  pub seen_skip : (f i : ℕ) (r : Row) → open_left s.allowed (row i) ≡ false
      → ((v : ℕ) → has r v ≡ seen_in f i v) → (v : ℕ) → has r v ≡ seen_in f (i + 1) v
  seen_skip f i r o before v =
      before v ∙ ap (λ b. (b && eqb (get_or (row i) f 0) v) || seen_in f i v) (sym o) ∙ sym (seen_more f i v)
