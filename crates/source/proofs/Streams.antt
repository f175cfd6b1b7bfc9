-- How long a stream is, how large its numbers are, and how it goes on.
use Rattle.std.proofs.Common.{◌≡◌, ℕ, zero, suc, ◌%◌, ◌^◌, ◌<◌, ◌≤◌, ◌∷◌, length, take, refl, ap, arith}
use Rattle.std.specs.List.{AllByRecursion}
use Rattle.std.proofs.lemmas.Nat.{mod_below}
use Rattle.source.specs.Xorshift.{xorshift, stream, Streams}

length_stream : (s n : ℕ) → length (stream s n) ≡ n
length_stream s zero = refl
length_stream s (suc n) = ap suc (length_stream (xorshift s) n)

small_stream : (s n : ℕ) → AllByRecursion (λ x. x < 2 ^ 32) (stream s n)
small_stream s zero = tt
small_stream s (suc n) = (mod_below (xorshift s) (2 ^ 32) (omega arith), small_stream (xorshift s) n)

take_stream : (s n m : ℕ) → n ≤ m → take n (stream s m) ≡ stream s n
take_stream s zero m h = refl
take_stream s (suc n) zero h = absurd (omega arith)
take_stream s (suc n) (suc m) h =
    ap (λ xs. xorshift s % 2 ^ 32 ∷ xs) (take_stream (xorshift s) n m (omega arith))

pub streams : (s n : ℕ) → Streams s n (stream s n)
streams s n = record {
  value = refl;
  exact = length_stream s n;
  small = small_stream s n;
  begins = λ m h. take_stream s m n h;
}
