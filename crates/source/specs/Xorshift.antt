-- The numbers of a seed, by Marsaglia's xorshift64: a list that the seed and the count alone decide,
-- so that another maker can repeat it.
use Rattle.std.specs.Prelude.{◌≡◌, ℕ, zero, suc, ◌*◌, ◌/◌, ◌%◌, ◌^◌, ◌<◌, ◌≤◌, List, [], ◌∷◌, length, take, bit_xor}
use Rattle.std.specs.List.{AllByRecursion}

-- x, exclusive or x moved left by k within 64 bits
abbrev pub xor_left : (k x : ℕ) → ℕ
xor_left k x = bit_xor x (x * 2 ^ k % 2 ^ 64)

-- x, exclusive or x moved right by k
abbrev pub xor_right : (k x : ℕ) → ℕ
xor_right k x = bit_xor x (x / 2 ^ k)

-- the state that follows x: left 13, right 7, left 17
abbrev pub xorshift : ℕ → ℕ
xorshift x = xor_left 17 (xor_right 7 (xor_left 13 x))

-- the first numbers of a seed, as many as the count says: each step gives the new state modulo 2^32
abbrev pub stream : (seed count : ℕ) → List ℕ
stream seed zero = []
stream seed (suc count) = xorshift seed % 2 ^ 32 ∷ stream (xorshift seed) count

-- seed 1 first gives 1,082,269,761
abbrev pub SeedOne : Type 0
SeedOne = stream 1 1 ≡ 1082269761 ∷ []

-- xs is the stream of that seed and count, and has what every stream has
pub record Streams (seed count : ℕ) (xs : List ℕ) : Type 0 where
  pub value : xs ≡ stream seed count
  -- exactly as many numbers as the count says
  pub exact : length xs ≡ count
  -- each below 2^32
  pub small : AllByRecursion (λ x. x < 2 ^ 32) xs
  -- a longer stream goes on from a shorter one
  pub begins : (n : ℕ) → n ≤ count → take n xs ≡ stream seed n
