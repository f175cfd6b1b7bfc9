-- What a token is and how it is spelt: words, numbers and signs. The longest spelling is taken.
use Rattle.std.specs.Prelude.{◌≡◌, ℕ, ◌<◌, ◌≤◌, true, List, ◌∷◌, ◌++◌, length, codes}
use Rattle.formula.specs.declared.Comparison.{Comparison}
use Rattle.formula.specs.declared.Comparison.TheVariants.{Equal, Differ, Less, AtMost, More, AtLeast}
use Rattle.signs.specs.declared.token.Sign.{Sign}
use Rattle.signs.specs.declared.token.Sign.TheVariants.{Open, Close, Comma, Semicolon, Colon, Plus, Minus, Compare}
use Rattle.signs.specs.Bytes.{letter, digit, alphanumeric, Only, value}

-- a token: a word by its bytes, a number by its value, or a sign
pub data Tok : Type 0 where
  word : List ℕ → Tok
  number : ℕ → Tok
  sign : Sign → Tok

-- a token and its place, the offset of its first byte from 0
pub data TokAt : Type 0 where
  at : Tok → ℕ → TokAt

-- how a comparison is spelt
abbrev pub comparison_bytes : Comparison → List ℕ
comparison_bytes Equal = codes "="
comparison_bytes Differ = codes "/="
comparison_bytes Less = codes "<"
comparison_bytes AtMost = codes "<="
comparison_bytes More = codes ">"
comparison_bytes AtLeast = codes ">="

-- how a sign is spelt
abbrev pub sign_bytes : Sign → List ℕ
sign_bytes Open = codes "("
sign_bytes Close = codes ")"
sign_bytes Comma = codes ","
sign_bytes Semicolon = codes ";"
sign_bytes Colon = codes ":"
sign_bytes Plus = codes "+"
sign_bytes Minus = codes "-"
sign_bytes (Compare c) = comparison_bytes c

-- Spells t w: the bytes w are a spelling of the token t
pub data Spells : Tok → List ℕ → Type 0 where
  -- a letter and then letters or digits
  a_word :
      {b : ℕ} {bs w : List ℕ}
      → w ≡ b ∷ bs
      → letter b ≡ true
      → Only alphanumeric bs
      → Spells (word w) w
  -- one digit or more
  a_number :
      {n : ℕ} {w : List ℕ}
      → 0 < length w
      → Only digit w
      → n ≡ value w
      → Spells (number n) w
  -- the bytes of a sign
  a_sign :
      {s : Sign} {w : List ℕ}
      → w ≡ sign_bytes s
      → Spells (sign s) w

-- Takes bytes t w rest: of all that begins the bytes and spells a token, w is the longest; it spells t, and rest is
-- left
pub record Takes (bytes : List ℕ) (t : Tok) (w rest : List ℕ) : Type 0 where
  pub split : bytes ≡ w ++ rest
  pub spells : Spells t w
  pub longest : (u : Tok) (v more : List ℕ) → bytes ≡ v ++ more → Spells u v → length v ≤ length w

-- a token keeps its limit: a word at most 16 bytes, a number at most four digits and at most 1,023
abbrev pub Within : Tok → List ℕ → Type 0
Within (word _) w = length w ≤ 16
Within (number n) w = (length w ≤ 4) × (n ≤ 1023)
Within (sign _) w = Unit {0}
