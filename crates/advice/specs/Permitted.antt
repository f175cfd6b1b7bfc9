-- What may stand at a place of a text, as far as the grammar tells: after the bytes before the place, a blank and a
-- token, the text can still go on to a sheet.
use Rattle.std.specs.Prelude.{◌≡◌, ℕ, ◌+◌, ◌<◌, ◌≤◌, Bool, List, [], ◌∷◌, ◌++◌, length, Some, Ok, Err, codes, Decides, Result, slice_get}
use Rattle.refusal.specs.declared.Refusal.{Refusal}
use Rattle.refusal.specs.Table.{number}
use Rattle.signs.specs.Tokens.{TokAt}
use Rattle.signs.specs.Cutting.{Tokenized}
use Rattle.grammar.specs.Syntax.{Sheet}
use Rattle.grammar.specs.Grammar.{strict, IsSheet}
use Rattle.grammar.specs.Refusal.{Begins}
use Rattle.grammar.specs.Tokens.{tokens}
use Rattle.lines.specs.Lines.{line_feed}
use Rattle.advice.specs.declared.kind.Kind.{Kind}
use Rattle.advice.specs.declared.kind.Kind.TheVariants as kind

-- the text is cut into tokens that can go on to a sheet
abbrev pub GoesOn : List ℕ → Type 0
GoesOn text = (ts : List TokAt) × Tokenized text ts × Begins strict (tokens ts)

-- the text is cut into the tokens of a sheet
abbrev pub WholeSheet : List ℕ → Type 0
WholeSheet text = (ts : List TokAt) × Tokenized text ts × ((s : Sheet) × IsSheet (tokens ts) s)

-- the kinds in the order in which they are told: what is named or counted, words, signs
abbrev pub kinds : List Kind
kinds =
    kind.Name ∷ kind.Number ∷ kind.Field ∷ kind.Rule ∷ kind.Mark ∷ kind.And ∷ kind.Or ∷ kind.Not ∷ kind.Pick
    ∷ kind.Open ∷ kind.Close ∷ kind.Comma ∷ kind.Semicolon ∷ kind.Colon ∷ kind.Plus ∷ kind.Minus ∷ kind.Compare ∷ []

-- every kind stands in the list
abbrev pub EveryKind : List Kind → Type 0
EveryKind kinds = (k : Kind) → (i : ℕ) × (slice_get kinds i ≡ Some k)

-- a token of the kind
abbrev pub example_of : Kind → List ℕ
example_of kind.Name = codes "a"
example_of kind.Number = codes "0"
example_of kind.Field = codes "field"
example_of kind.Rule = codes "rule"
example_of kind.Mark = codes "mark"
example_of kind.And = codes "and"
example_of kind.Or = codes "or"
example_of kind.Not = codes "not"
example_of kind.Pick = codes "pick"
example_of kind.Open = codes "("
example_of kind.Close = codes ")"
example_of kind.Comma = codes ","
example_of kind.Semicolon = codes ";"
example_of kind.Colon = codes ":"
example_of kind.Plus = codes "+"
example_of kind.Minus = codes "-"
example_of kind.Compare = codes "="

-- the words that name the kind
abbrev pub name_of : Kind → List ℕ
name_of kind.Name = codes "a name"
name_of kind.Number = codes "a number"
name_of kind.Field = codes "field"
name_of kind.Rule = codes "rule"
name_of kind.Mark = codes "mark"
name_of kind.And = codes "and"
name_of kind.Or = codes "or"
name_of kind.Not = codes "not"
name_of kind.Pick = codes "pick"
name_of kind.Open = codes "("
name_of kind.Close = codes ")"
name_of kind.Comma = codes ","
name_of kind.Semicolon = codes ";"
name_of kind.Colon = codes ":"
name_of kind.Plus = codes "+"
name_of kind.Minus = codes "-"
name_of kind.Compare = codes "one of = /= < <= > >="

-- the line that names the kind
abbrev pub kind_text : Kind → List ℕ
kind_text k = codes "here may stand " ++ (name_of k ++ line_feed)

-- the line that says that the text may end
abbrev pub end_text : List ℕ
end_text = codes "here the text may end" ++ line_feed

-- a token of the kind may stand after these bytes
abbrev pub Permitted : List ℕ → Kind → Type 0
Permitted before k = GoesOn (before ++ (codes " " ++ example_of k))

-- whether it may, which is tried in a buffer with room for the bytes and six more; or 19, where the buffer is
-- shorter, and as found
abbrev pub Tried : (before : List ℕ) → Kind → (trial trial' : List ℕ) → Result Bool Refusal → Type 0
Tried before k trial trial' (Ok r) = (length before + 6 ≤ length trial) × Decides r (Permitted before k)
Tried before k trial trial' (Err e) =
    (number e ≡ 19) × (length trial < length before + 6) × (trial' ≡ trial)
