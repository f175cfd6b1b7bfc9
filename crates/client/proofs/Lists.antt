-- Lists of marks that are filled from a place on, and what replies put there.
use Rattle.std.proofs.Common.{◌≡◌, ℕ, ◌+◌, ◌-◌, ◌≤◌, ◌||◌, List, [], ◌∷◌, ◌++◌, length, take, drop, sym, refl, ap, ◌∙◌, append_assoc, append-nil, add-zero, add_assoc, arith, length-append, take-append-drop, length-take-le, drop-drop, take_at, drop_at}
use Rattle.std.proofs.lemmas.List.{drop_all}
use borrow.Rule.Slice.PartMut.{put_mid}
use Rattle.walk.specs.Calls.{Reply, gives, finished}
use Rattle.walk.specs.Law.{outcomes, marks_in}
use Rattle.walk.proofs.Telling.{outcomes_append, marks_append}
use Rattle.client.specs.Sessions.{ended, joined, numbers_in, put_at}

joined_append : (xs ys : List (List ℕ)) → joined (xs ++ ys) ≡ joined xs ++ joined ys
joined_append [] ys = refl
joined_append (x ∷ xs) ys = ap (λ z. x ++ z) (joined_append xs ys) ∙ sym (append_assoc x (joined xs) (joined ys))

pub numbers_append : (rs qs : List Reply) → numbers_in (rs ++ qs) ≡ numbers_in rs ++ numbers_in qs
numbers_append rs qs =
    ap (λ z. joined (marks_in z)) (outcomes_append rs qs)
    ∙ ap joined (marks_append (outcomes rs) (outcomes qs))
    ∙ joined_append (marks_in (outcomes rs)) (marks_in (outcomes qs))

pub ended_append : (rs qs : List Reply) → ended (rs ++ qs) ≡ (ended rs || ended qs)
ended_append [] qs = refl
ended_append (gives a ∷ rs) qs = ended_append rs qs
ended_append (finished ∷ rs) qs = refl

-- nothing put at a place
pub put_none : (k : ℕ) (list : List ℕ) → put_at k [] list ≡ list
put_none k list = ap (λ z. take k list ++ drop z list) (add-zero k) ∙ take-append-drop k list

-- what is put behind something put
pub put_more :
    (k : ℕ) (xs ys list : List ℕ)
    → k ≤ length list
    → put_at (k + length xs) ys (put_at k xs list) ≡ put_at k (xs ++ ys) list
put_more k xs ys list h =
    let front = take k list in
    let rest = drop (k + length xs) list in
    let long : length (front ++ xs) ≡ k + length xs =
    length-append front xs ∙ ap (λ z. z + length xs) (length-take-le k list h) in
    let parted : put_at k xs list ≡ (front ++ xs) ++ rest = sym (append_assoc front xs rest) in
    let before : take (k + length xs) (put_at k xs list) ≡ front ++ xs =
    ap (take (k + length xs)) parted ∙ take_at (front ++ xs) rest (k + length xs) long in
    let behind : drop (k + length xs) (put_at k xs list) ≡ rest =
    ap (drop (k + length xs)) parted ∙ drop_at (front ++ xs) rest (k + length xs) long in
    let past : drop ((k + length xs) + length ys) (put_at k xs list) ≡ drop (k + length (xs ++ ys)) list =
    sym (drop-drop (length ys) (k + length xs) (put_at k xs list)) ∙ ap (drop (length ys)) behind
    ∙ drop-drop (length ys) (k + length xs) list
    ∙ ap (λ z. drop z list) (add_assoc k (length xs) (length ys) ∙ ap (λ z. k + z) (sym (length-append xs ys))) in
    ap (λ z. z ++ (ys ++ drop ((k + length xs) + length ys) (put_at k xs list))) before
    ∙ ap (λ z. (front ++ xs) ++ (ys ++ z)) past
    ∙ append_assoc front xs (ys ++ drop (k + length (xs ++ ys)) list)
    ∙ ap (λ z. front ++ z) (sym (append_assoc xs ys (drop (k + length (xs ++ ys)) list)))

-- a list whose part from a place on was lent and came back with xs in front
pub put_part :
    (k : ℕ) (list part back xs : List ℕ)
    → k ≤ length list
    → part ≡ drop k list
    → back ≡ xs ++ drop (length xs) part
    → put_mid k (length list - k) list back ≡ put_at k xs list
put_part k list part back xs h p q =
    let tail : drop (length list - k) (drop k list) ≡ [] =
    drop-drop (length list - k) k list ∙ drop_all (k + (length list - k)) list (omega arith) in
    let is : back ≡ xs ++ drop (k + length xs) list =
    q ∙ ap (λ z. xs ++ drop (length xs) z) p ∙ ap (λ z. xs ++ z) (drop-drop (length xs) k list) in
    ap (λ z. take k list ++ z) (ap (λ z. back ++ z) tail ∙ append-nil back ∙ is)
