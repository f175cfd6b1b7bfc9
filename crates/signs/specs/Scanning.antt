-- What the inner functions of the cutter promise each other; no public call cites this file.
use Rattle.std.specs.Prelude.{◌≡◌, ℕ, ◌+◌, ◌<◌, ◌≤◌, Bool, false, cond, List, ◌++◌, length, take, drop, Some, None, Option, Ok, Err, Result, ◌≢◌, slice_index, slice_range}
use Rattle.refusal.specs.declared.Refusal.{Refusal}
use Rattle.refusal.specs.Table as table
use Rattle.signs.specs.declared.byte.Class.{Class}
use Rattle.signs.specs.declared.byte.Class.TheVariants.{Blank, Letter, Digit, Alphanumeric}
use Rattle.signs.specs.declared.counts.TokenCounts.{TokenCounts}
use Rattle.signs.specs.declared.token.Sign.{Sign}
use Rattle.signs.specs.declared.cut.Leading.{Leading}
use Rattle.signs.specs.Bytes.{letter, digit, alphanumeric, blank}
use Rattle.signs.specs.Tokens.{Tok, sign_bytes, Takes, Within}
use Rattle.signs.specs.Cutting.{FaultHere}
use Rattle.signs.specs.Answers.{spelt, is_word, is_number, is_sign}

-- the test of a class of bytes
abbrev pub has : Class → ℕ → Bool
has Blank = blank
has Letter = letter
has Digit = digit
has Alphanumeric = alphanumeric

-- the bytes of the text from place p to place q
abbrev pub part : List ℕ → ℕ → ℕ → List ℕ
part text p q = slice_range text p q

-- the bytes begin with one that is no blank
abbrev pub BeginsSolid : List ℕ → Type 0
BeginsSolid bytes = (0 < length bytes) × (blank (slice_index bytes 0) ≡ false)

-- the longest sign that begins the bytes, or none where no sign does
abbrev pub LongestSign : List ℕ → Option Sign → Type 0
LongestSign bytes (Some s) =
    (rest : List ℕ) × (bytes ≡ sign_bytes s ++ rest)
    × ((h : Sign) (more : List ℕ) → bytes ≡ sign_bytes h ++ more → length (sign_bytes h) ≤ length (sign_bytes s))
LongestSign bytes None = (s : Sign) (rest : List ℕ) → bytes ≢ sign_bytes s ++ rest

-- one token more is counted
pub record OneMore (t : Tok) (before after : TokenCounts) : Type 0 where
  pub words : after.words ≡ before.words + cond (is_word t) 1 0
  pub numbers : after.numbers ≡ before.numbers + cond (is_number t) 1 0
  pub signs : after.signs ≡ before.signs + cond (is_sign t) 1 0

-- the token that the bytes begin with and how many of them spell it, or the refusal there
abbrev pub Leads : List ℕ → Result Leading Refusal → Type 0
Leads bytes (Ok l) =
    (l.size ≤ length bytes)
    × (0 < l.size)
    × Takes bytes (spelt l.token) (take l.size bytes) (drop l.size bytes)
    × Within (spelt l.token) (take l.size bytes)
Leads bytes (Err r) = FaultHere bytes (table.number r)
