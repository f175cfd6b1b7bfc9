-- How a text is cut into tokens, and where it is refused.
-- Between tokens stand only blanks and line feeds; at each place the longest token is taken.
use Rattle.std.specs.Prelude.{◌≡◌, ℕ, ◌+◌, ◌<◌, ◌≤◌, true, false, List, [], ◌∷◌, ◌++◌, length, drop}
use Rattle.signs.specs.Bytes.{blank}
use Rattle.signs.specs.Tokens.{Tok, TokAt, at, Spells, Takes, Within}

-- Cut p bytes ts rest: the bytes, of which the first is at place p, begin with the tokens ts, and rest is left
pub data Cut : ℕ → List ℕ → List TokAt → List ℕ → Type 0 where
  -- nothing more is cut
  stop :
      {p : ℕ} {bytes : List ℕ}
      → Cut p bytes [] bytes
  -- a blank or a line feed is passed over
  gap :
      {p b : ℕ} {bytes rest : List ℕ} {ts : List TokAt}
      → blank b ≡ true
      → Cut (p + 1) bytes ts rest
      → Cut p (b ∷ bytes) ts rest
  -- the longest token is taken, and keeps its limit
  token :
      {p : ℕ} {bytes w after rest : List ℕ} {t : Tok} {ts : List TokAt}
      → Takes bytes t w after
      → Within t w
      → Cut (p + length w) after ts rest
      → Cut p bytes (at t p ∷ ts) rest

-- from place p on, the whole text is cut into the tokens ts
abbrev pub CutFrom : List ℕ → ℕ → List TokAt → Type 0
CutFrom text p ts = Cut p (drop p text) ts []

-- FaultHere bytes n: the bytes begin with what is refused by the number n
pub data FaultHere : List ℕ → ℕ → Type 0 where
  -- no token begins with a byte that is not permitted, or with a lone `/`
  nothing_begins :
      {b : ℕ} {bytes : List ℕ}
      → blank b ≡ false
      → ((t : Tok) (w rest : List ℕ) → b ∷ bytes ≡ w ++ rest → Spells t w → ⊥)
      → FaultHere (b ∷ bytes) 2
  -- a word or number over its limit
  over_limit :
      {bytes w rest : List ℕ} {t : Tok}
      → Takes bytes t w rest
      → (Within t w → ⊥)
      → FaultHere bytes 3

-- RefusedFrom text p n q: from place p on, the text is cut as far as place q, and refused there by the number n
pub record RefusedFrom (text : List ℕ) (p n q : ℕ) : Type 0 where
  pub before : List TokAt
  pub cut : Cut p (drop p text) before (drop q text)
  pub fault : FaultHere (drop q text) n

-- a text of at most 32,768 bytes is cut into the tokens ts
pub record Tokenized (text : List ℕ) (ts : List TokAt) : Type 0 where
  pub short : length text ≤ 32768
  pub cut : CutFrom text 0 ts

-- Refused text n q: the text is refused by the number n at place q
pub data Refused (text : List ℕ) : ℕ → ℕ → Type 0 where
  -- a text that is too long is refused before its bytes are looked at
  too_long : 32768 < length text → Refused text 1 32768
  -- any other at the first place where it cannot be cut
  not_cut : {n q : ℕ} → length text ≤ 32768 → RefusedFrom text 0 n q → Refused text n q
