-- When a list of tokens is refused: where, and with which number.
-- The tokens before the place can go on to a sheet; with the token that stands there, or with the end, they cannot.
-- Whether they could if the limits on nesting and on mixed joins were lifted tells the number.
use Rattle.std.specs.Prelude.{◌≡◌, ℕ, ◌∷◌, ◌++◌}
use Rattle.formula.specs.declared.Join.{Join}
use Rattle.grammar.specs.Syntax.{Sheet}
use Rattle.grammar.specs.Grammar.{Tok, not, pick, join, opening, at, Tokens, Limits, strict, loose, SheetBy, IsSheet}

-- the tokens can go on to a sheet
abbrev pub Begins : Limits → Tokens → Type 0
Begins L before = (more : Tokens) × (s : Sheet) × SheetBy L (before ++ more) s

-- the token t can stand after the tokens before, wherever it is written and whatever follows it
abbrev pub Stands : Limits → Tokens → Tok → Type 0
Stands L before t = (p : ℕ) × (more : Tokens) × (s : Sheet) × SheetBy L (before ++ at t p ∷ more) s

-- a token that opens a level
pub data OpensLevel : Tok → Type 0 where
  by_bracket : OpensLevel opening
  by_not : OpensLevel not
  by_pick : OpensLevel pick

-- why the token t cannot stand after the tokens before, as a number
pub data Why (before : Tokens) (t : Tok) : ℕ → Type 0 where
  -- not even with the limits lifted
  not_permitted : (Stands loose before t → ⊥) → Why before t 4
  -- with the limits lifted it could, and it opens a level
  too_deep : Stands loose before t → OpensLevel t → Why before t 5
  -- with the limits lifted it could, and it is a join
  mixes : (j : Join) → t ≡ join j → Stands loose before t → Why before t 6

-- Refused tokens size number place: the tokens of a text of that many bytes are refused so
pub data Refused (tokens : Tokens) (size : ℕ) : ℕ → ℕ → Type 0 where
  -- at a token
  at_token :
      {n p : ℕ} {t : Tok} (before after : Tokens)
      → tokens ≡ before ++ at t p ∷ after
      → Begins strict before
      → (Stands strict before t → ⊥)
      → Why before t n
      → Refused tokens size n p
  -- at the end of the text
  at_end :
      Begins strict tokens
      → ((s : Sheet) → IsSheet tokens s → ⊥)
      → Refused tokens size 4 size
