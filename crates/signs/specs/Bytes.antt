-- The bytes that may stand in a sheet's text.
use Rattle.std.specs.Prelude.{◌≡◌, ℕ, ◌+◌, ◌-◌, ◌*◌, Bool, true, ◌&&◌, ◌||◌, List, [], ◌∷◌, ◌==◌, nat_le}
use Rattle.std.specs.List.{AllByRecursion}

-- a small letter, `a` to `z`
abbrev pub letter : ℕ → Bool
letter b = nat_le 97 b && nat_le b 122

-- a digit, `0` to `9`
abbrev pub digit : ℕ → Bool
digit b = nat_le 48 b && nat_le b 57

-- a letter or a digit: what a word goes on with
abbrev pub alphanumeric : ℕ → Bool
alphanumeric b = letter b || digit b

-- a blank or a line feed: what may stand between tokens
abbrev pub blank : ℕ → Bool
blank b = b == 32 || b == 10

-- every byte passes the test
abbrev pub Only : (ℕ → Bool) → List ℕ → Type 0
Only test bytes = AllByRecursion (λ b. test b ≡ true) bytes

-- the number that digits write after the number n
abbrev pub value_after : ℕ → List ℕ → ℕ
value_after n [] = n
value_after n (d ∷ ds) = value_after (n * 10 + (d - 48)) ds

-- the number that digits write
abbrev pub value : List ℕ → ℕ
value ds = value_after 0 ds
