-- Writes one after another.
use Rattle.std.proofs.Common.{◌≡◌, ℕ, ◌+◌, ◌-◌, ◌≤◌, List, map, [], ◌++◌, length, take, drop, Ok, sym, ap, ◌∙◌, append_assoc, append-nil, arith, length-append, take-append-drop, drop-drop, length-take, length-drop, ◌∷◌, ◌<◌, get_or, subst}
use borrow.Rule.Slice.PartMut.{put_mid}
use lib.ListN.{length-map}
use Rattle.std.proofs.lemmas.Grind.{flat_map-append}
use Rattle.std.proofs.lemmas.List.{take_all, take_at, take_more, take-take, drop_at}
use Rattle.std.proofs.lemmas.List.Folds.{length-flat_map-take}
use Rattle.std.proofs.lemmas.Slice.{between_is, take-put_mid, drop-put_mid}
use Rattle.std.specs.List.{flat_map}
use Rattle.lines.specs.Lines.{Made}
use Rattle.lines.specs.Putting.{Put}

-- two writes, the second where the first ends
pub put_put :
    {a b c xs ys : List ℕ} {at m r : ℕ}
    → Put a at xs b m
    → Put b m ys c r
    → Put a at (xs ++ ys) c r
put_put {a} {b} {c} {xs} {ys} {at} {m} {r} p q = record {
  size = omega (arith, p.size, q.size, length-append xs ys);
  front = q.front ∙ ap (λ l. l ++ ys) p.front ∙ append_assoc (take at a) xs ys;
  past =
      q.past ∙ ap (λ n. drop n b) q.size ∙ sym (drop-drop (length ys) m b)
      ∙ ap (drop (length ys)) p.past
      ∙ drop-drop (length ys) m a ∙ ap (λ n. drop n a) (sym q.size);
}

pub put_length :
    {a b xs : List ℕ} {at m : ℕ}
    → Put a at xs b m
    → at + length xs ≤ length a
    → length b ≡ length a
put_length {a} {b} {xs} {at} {m} p fits =
    let front = ap length p.front ∙ length-append (take at a) xs in
    let past = ap length p.past in
    omega (arith, p.size, length-take m b, length-take at a, length-drop m b, length-drop m a)

-- bytes written over the part from `at` up to `to`
pub put_part :
    {out bytes : List ℕ} {at to : ℕ} (part : List ℕ)
    → part ≡ bytes
    → to ≡ at + length bytes
    → to ≤ length out
    → Put out at bytes (put_mid at (to - at) out part) to
put_part {out} {bytes} {at} {to} part is size fits =
    let long = ap length is in
    record {
      size = size;
      front =
          take-put_mid at (to - at) out part to (omega arith) (omega arith)
          ∙ ap (λ l. take at out ++ l) is;
      past = drop-put_mid at (to - at) out part to (omega arith) (omega arith) (omega arith);
    }

-- bytes that were put, and then changed where they stand
pub put_changed :
    (f : ℕ → ℕ) {before codes mid : List ℕ} {at to : ℕ} (part : List ℕ)
    → Put before at codes mid to
    → at + length codes ≤ length before
    → part ≡ map f (take (to - at) (drop at mid))
    → Put before at (map f codes) (put_mid at (to - at) mid part) to
put_changed f {before} {codes} {mid} {at} {to} part put fits is =
    let front : length (take at before) ≡ at = omega (arith, length-take at before) in
    let same : take at mid ≡ take at before =
    sym (take-take at to mid (omega (arith, put.size)))
    ∙ ap (take at) put.front
    ∙ take_at (take at before) codes at front in
    let codes_there : take (to - at) (drop at mid) ≡ codes =
    between_is mid at to ∙ ap (drop at) put.front ∙ drop_at (take at before) codes at front in
    let changed =
    put_part {out = mid} {at = at} {to = to} part (is ∙ ap (map f) codes_there)
    (omega (arith, put.size, length-map codes f))
    (omega (arith, put.size, put_length put fits)) in
    record {
      size = changed.size;
      front = changed.front ∙ ap (λ l. l ++ map f codes) same;
      past = changed.past ∙ put.past;
    }

-- a whole line, put from the buffer's first byte on
pub made_by_put :
    {before bytes after : List ℕ} {n : ℕ}
    → Put before 0 bytes after n
    → length bytes ≤ length before
    → Made bytes before after (Ok n)
made_by_put {before} {bytes} {after} {n} p fits = (
  omega (arith, p.size),
  omega (arith, p.size),
  sym (take-append-drop n after) ∙ (λ j. p.front j ++ p.past j),
)

flat_map_take_more :
    {A : Type 0} (f : A → List ℕ) (xs : List A) (i : ℕ) (d : A)
    → i < length xs
    → flat_map f (take (i + 1) xs) ≡ flat_map f (take i xs) ++ f (get_or xs i d)
flat_map_take_more f xs i d inside =
    ap (flat_map f) (take_more xs i d inside) ∙ flat_map-append f (take i xs) (get_or xs i d ∷ [])
    ∙ ap (λ l. flat_map f (take i xs) ++ l) (append-nil (f (get_or xs i d)))

-- the texts of the first items of a list, put one after another: one more of them, and all of them
pub put_more :
    {A : Type 0} (f : A → List ℕ) {a b c : List ℕ} {at m r : ℕ} (xs : List A) (i : ℕ) (d : A)
    → i < length xs
    → Put a at (flat_map f (take i xs)) b m
    → Put b m (f (get_or xs i d)) c r
    → Put a at (flat_map f (take (i + 1) xs)) c r
put_more f {a} {b} {c} {at} {m} {r} xs i d inside before more =
    subst (λ text. Put a at text c r) (sym (flat_map_take_more f xs i d inside)) (put_put before more)

pub put_all :
    {A : Type 0} (f : A → List ℕ) {a b : List ℕ} {at m : ℕ} (xs : List A) (i : ℕ)
    → length xs ≤ i
    → Put a at (flat_map f (take i xs)) b m
    → Put a at (flat_map f xs) b m
put_all f {a} {b} {at} {m} xs i past whole =
    subst (λ l. Put a at (flat_map f l) b m) (take_all i xs past) whole

-- where the text of all fits the buffer, the next item's text does
pub fits_more :
    {A : Type 0} (f : A → List ℕ) {a b : List ℕ} {at m : ℕ} (xs : List A) (i : ℕ) (d : A)
    → i < length xs
    → Put a at (flat_map f (take i xs)) b m
    → at + length (flat_map f xs) ≤ length a
    → m + length (f (get_or xs i d)) ≤ length b
fits_more f xs i d inside before fits =
    let within = length-flat_map-take f xs i d inside in
    omega (arith, before.size, put_length before (omega arith))
