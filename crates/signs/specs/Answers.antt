-- What the answers of the public calls say of a text.
use Rattle.std.specs.Prelude.{◌≡◌, ℕ, ◌<◌, ◌≤◌, Bool, true, false, List, [], ◌∷◌, length, Some, None, Option, Ok, Err, count_by, slice_range, Result}
use Rattle.refusal.specs.declared.Fault.{Fault}
use Rattle.refusal.specs.Table as table
use Rattle.signs.specs.declared.token.Token.{Token}
use Rattle.signs.specs.declared.token.Token.TheVariants as token
use Rattle.signs.specs.declared.token.Placed.{Placed}
use Rattle.signs.specs.declared.counts.TokenCounts.{TokenCounts}
use Rattle.signs.specs.Tokens.{Tok, word, number, sign, TokAt, at, Spells}
use Rattle.signs.specs.Cutting.{CutFrom, RefusedFrom, Tokenized, Refused}

-- a token by its spelling, apart from where its bytes are held
abbrev pub spelt : Token → Tok
spelt (token.Word w) = word w.now
spelt (token.Number n) = number n
spelt (token.Sign s) = sign s

-- a token of the code, at its place
abbrev pub placed : Placed → TokAt
placed t = at (spelt t.token) t.place

-- NextToken text p t: from place p on the first token is t, which the bytes from its place up to its end spell, and
-- the rest is what is cut from its end on
pub record NextToken (text : List ℕ) (p : ℕ) (t : Placed) : Type 0 where
  pub after : p ≤ t.place
  pub some : t.place < t.end
  pub inside : t.end ≤ length text
  pub spells : Spells (spelt t.token) (slice_range text t.place t.end)
  pub onward : (ts : List TokAt) → CutFrom text t.end ts → CutFrom text p (placed t ∷ ts)
  pub only : (ts : List TokAt) → CutFrom text p ts → (us : List TokAt) × (ts ≡ placed t ∷ us) × CutFrom text t.end us
  pub refused : (n q : ℕ) → RefusedFrom text t.end n q → RefusedFrom text p n q

-- from place p on there is no token
pub record NoToken (text : List ℕ) (p : ℕ) : Type 0 where
  pub cut : CutFrom text p []
  pub only : (ts : List TokAt) → CutFrom text p ts → ts ≡ []

-- from place p on the next token is no token: the text is refused there, and cannot be cut
pub record NextFault (text : List ℕ) (p : ℕ) (f : Fault) : Type 0 where
  pub refused : RefusedFrom text p (table.number f.refusal) f.place
  pub uncut : (ts : List TokAt) → CutFrom text p ts → ⊥

-- what comes next from place p on
abbrev pub Follows : List ℕ → ℕ → Result (Option Placed) Fault → Type 0
Follows text p (Ok (Some t)) = NextToken text p t
Follows text p (Ok None) = NoToken text p
Follows text p (Err f) = NextFault text p f

-- whether a token is a word
abbrev pub is_word : Tok → Bool
is_word (word w) = true
is_word (number n) = false
is_word (sign s) = false

-- whether a token is a number
abbrev pub is_number : Tok → Bool
is_number (word w) = false
is_number (number n) = true
is_number (sign s) = false

-- whether a token is a sign
abbrev pub is_sign : Tok → Bool
is_sign (word w) = false
is_sign (number n) = false
is_sign (sign s) = true

-- the token, apart from its place
abbrev pub token_of : TokAt → Tok
token_of (at t p) = t

-- how many of the tokens pass the test
abbrev pub count : (Tok → Bool) → List TokAt → ℕ
count test ts = count_by (λ t. test (token_of t)) ts

-- how many of the tokens are words, numbers and signs
pub record Counts (ts : List TokAt) (s : TokenCounts) : Type 0 where
  pub words : s.words ≡ count is_word ts
  pub numbers : s.numbers ≡ count is_number ts
  pub signs : s.signs ≡ count is_sign ts

-- the counts of the text's tokens, or the refusal of the text
abbrev pub Surveyed : List ℕ → Result TokenCounts Fault → Type 0
Surveyed text (Ok s) = (ts : List TokAt) × Tokenized text ts × Counts ts s
Surveyed text (Err f) = Refused text (table.number f.refusal) f.place
