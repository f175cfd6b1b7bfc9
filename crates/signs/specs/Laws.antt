-- What holds of every text that is cut into tokens.
use Rattle.std.specs.Prelude.{◌≡◌, ℕ, ◌+◌, List, [], ◌∷◌, ◌++◌, length}
use Rattle.signs.specs.Bytes.{blank, Only}
use Rattle.signs.specs.Tokens.{Tok, TokAt, at, Spells}
use Rattle.signs.specs.Cutting.{Tokenized, Refused}

-- Assembled p text ts: the text, whose first byte is at place p, is gaps and spellings of the tokens ts in turn:
-- each token stands at its place, and only blanks and line feeds stand before it and after the last
pub data Assembled : ℕ → List ℕ → List TokAt → Type 0 where
  last_gap :
      {p : ℕ} (gap : List ℕ)
      → Only blank gap
      → Assembled p gap []
  next_token :
      {p : ℕ} (gap w rest : List ℕ) {t : Tok} {ts : List TokAt}
      → Only blank gap
      → Spells t w
      → Assembled (p + length gap + length w) rest ts
      → Assembled p (gap ++ (w ++ rest)) (at t (p + length gap) ∷ ts)

-- tokens and gaps put together are the text again
abbrev pub PutTogether : List ℕ → Type 0
PutTogether text = (ts : List TokAt) → Tokenized text ts → Assembled 0 text ts

-- the text is cut in one way only, or refused with one number at one place, and never both
pub record OneVerdict (text : List ℕ) : Type 0 where
  pub one_cut : (ts us : List TokAt) → Tokenized text ts → Tokenized text us → ts ≡ us
  pub one_fault : (m n p q : ℕ) → Refused text m p → Refused text n q → (m ≡ n) × (p ≡ q)
  pub not_both : (ts : List TokAt) (n q : ℕ) → Tokenized text ts → Refused text n q → ⊥
