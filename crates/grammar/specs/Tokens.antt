-- The tokens of a text as the grammar sees them: seven words are reserved, and every other word is a name.
use Rattle.std.specs.Prelude.{ℕ, cond, List, [], ◌∷◌, codes}
use Rattle.std.specs.Str.{bytes_eq}
use Rattle.formula.specs.declared.Join.TheVariants.{And, Or}
use Rattle.signs.specs.declared.token.Sign.{Sign}
use Rattle.signs.specs.declared.token.Sign.TheVariants.{Open, Close, Comma, Semicolon, Colon, Plus, Minus, Compare}
use Rattle.signs.specs.Tokens as signs
use Rattle.grammar.specs.Grammar.{Tok, name, number, field, rule, mark, not, pick, join, sign, opening, closing, comma, semicolon, colon, plus, minus, at, Tokens}

-- a word, reserved or not
abbrev pub word_token : List ℕ → Tok
word_token w =
    cond (bytes_eq w (codes "field")) field (
    cond (bytes_eq w (codes "rule")) rule (
    cond (bytes_eq w (codes "mark")) mark (
    cond (bytes_eq w (codes "and")) (join And) (
    cond (bytes_eq w (codes "or")) (join Or) (
    cond (bytes_eq w (codes "not")) not (
    cond (bytes_eq w (codes "pick")) pick (
    name w)))))))

-- a sign
abbrev pub sign_token : Sign → Tok
sign_token Open = opening
sign_token Close = closing
sign_token Comma = comma
sign_token Semicolon = semicolon
sign_token Colon = colon
sign_token Plus = plus
sign_token Minus = minus
sign_token (Compare c) = sign c

-- a word, a number or a sign
abbrev pub token : signs.Tok → Tok
token (signs.word w) = word_token w
token (signs.number n) = number n
token (signs.sign s) = sign_token s

-- the tokens of a text, each at its place
abbrev pub tokens : List signs.TokAt → Tokens
tokens [] = []
tokens (signs.at t p ∷ ts) = at (token t) p ∷ tokens ts
