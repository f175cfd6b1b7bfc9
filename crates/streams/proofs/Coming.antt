-- Bytes that come into a buffer by one read after another.
use Rattle.std.proofs.Common.{◌≡◌, ℕ, ◌+◌, ◌≤◌, List, ◌++◌, length, take, Option, Some, None, sym, ap, ◌∙◌, append_assoc}
use Rattle.std.proofs.lemmas.List.{take-append-le, length-take-le}
use Rattle.std.proofs.Math.Seq.{take-append-add}
use Rattle.std.specs.Io.KnownBytes.{Consumes}
use borrow.Rule.Slice.PartMut.{put_mid, post_of}

-- what two reads give is the bytes of the one and then those of the other
pub come_more :
    (a b c : Option (List ℕ)) (xs ys : List ℕ) → Consumes a b xs → Consumes b c ys → Consumes a c (xs ++ ys)
come_more None b c xs ys h k = tt
come_more (Some x) None c xs ys h k = absurd h
come_more (Some x) (Some y) None xs ys h k = absurd k
come_more (Some x) (Some y) (Some z) xs ys h k = h ∙ ap (λ l. xs ++ l) k ∙ sym (append_assoc xs ys z)

-- a read into the buffer from place f on lengthens what stands before
pub filled_more :
    (f k n : ℕ) (xs ys : List ℕ)
    → f ≤ length xs
    → n ≤ length ys
    → take (f + n) (put_mid f k xs ys) ≡ take f xs ++ take n ys
filled_more f k n xs ys within fits =
    ap (λ m. take (m + n) (put_mid f k xs ys)) (sym (length-take-le f xs within))
    ∙ take-append-add (take f xs) (ys ++ post_of f k xs) n
    ∙ ap (λ l. take f xs ++ l) (take-append-le n ys (post_of f k xs) fits)
