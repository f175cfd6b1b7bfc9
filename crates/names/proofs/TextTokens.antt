-- What the grammar may rely on of the tokens of a text: their places rise, and their numbers are at most 1,023.
use Rattle.std.proofs.Common.{ℕ, ◌<◌, ◌≤◌, Bool, true, false, cond, List, [], ◌∷◌, ◌++◌, codes, subst, arith}
use Rattle.std.specs.Str.{bytes_eq}
use Rattle.formula.specs.declared.Join.TheVariants.{And, Or}
use Rattle.signs.specs.declared.token.Sign.{Sign}
use Rattle.signs.specs.declared.token.Sign.TheVariants.{Open, Close, Comma, Semicolon, Colon, Plus, Minus, Compare}
use Rattle.signs.specs.Tokens as signs
use Rattle.signs.specs.Cutting.{Cut, stop, gap, token}
use Rattle.signs.proofs.Spelling.{spelling_some}
use Rattle.grammar.specs.Grammar.{Tok, name, number, field, rule, mark, not, pick, join, sign, opening, closing, comma, semicolon, colon, plus, minus, at, Tokens}
use Rattle.grammar.specs.Tables.{BeforeAll, Rising}
use Rattle.grammar.specs.Laws.{token_places, SmallNumbers}
use Rattle.grammar.specs.Tokens.{word_token, sign_token, tokens}
use Rattle.grammar.specs.Tokens.{token as token_of}

-- places

-- the tokens cut from place p on stand at p or later
later :
    {p q : ℕ} {bytes rest : List ℕ} {ts : List signs.TokAt}
    → Cut p bytes ts rest
    → q < p
    → BeforeAll q (token_places (tokens ts))
later stop h = tt
later (gap b c) h = later c (omega arith)
later (token x w c) h = (h, later c (omega arith))

pub rising :
    {p : ℕ} {bytes rest : List ℕ} {ts : List signs.TokAt}
    → Cut p bytes ts rest
    → Rising (token_places (tokens ts))
rising stop = tt
rising (gap b c) = rising c
rising (token x w c) = (later c (omega (arith, spelling_some x.spells)), rising c)

-- numbers

abbrev Small : Tok → Type 0
Small (name w) = Unit {0}
Small (number n) = n ≤ 1023
Small field = Unit {0}
Small rule = Unit {0}
Small mark = Unit {0}
Small not = Unit {0}
Small pick = Unit {0}
Small (join j) = Unit {0}
Small (sign c) = Unit {0}
Small opening = Unit {0}
Small closing = Unit {0}
Small comma = Unit {0}
Small semicolon = Unit {0}
Small colon = Unit {0}
Small plus = Unit {0}
Small minus = Unit {0}

abbrev AllSmall : Tokens → Type 0
AllSmall [] = Unit {0}
AllSmall (at t p ∷ xs) = Small t × AllSmall xs

-- one reserved word more
reserved : (w k : List ℕ) (t u : Tok) → Small t → Small u → Small (cond (bytes_eq w k) t u)
reserved w k t u h j = chosen (bytes_eq w k)
  where
    chosen : (b : Bool) → Small (cond b t u)
    chosen true = h
    chosen false = j

word_small : (w : List ℕ) → Small (word_token w)
word_small w =
    let picked = reserved w (codes "pick") pick (name w) tt tt in
    let negated = reserved w (codes "not") not _ tt picked in
    let any = reserved w (codes "or") (join Or) _ tt negated in
    let all = reserved w (codes "and") (join And) _ tt any in
    let marked = reserved w (codes "mark") mark _ tt all in
    let ruled = reserved w (codes "rule") rule _ tt marked in
    reserved w (codes "field") field _ tt ruled

sign_small : (s : Sign) → Small (sign_token s)
sign_small Open = tt
sign_small Close = tt
sign_small Comma = tt
sign_small Semicolon = tt
sign_small Colon = tt
sign_small Plus = tt
sign_small Minus = tt
sign_small (Compare c) = tt

token_small : (t : signs.Tok) (w : List ℕ) → signs.Within t w → Small (token_of t)
token_small (signs.word v) w h = word_small v
token_small (signs.number n) w h = h.1
token_small (signs.sign s) w h = sign_small s

all_small :
    {p : ℕ} {bytes rest : List ℕ} {ts : List signs.TokAt}
    → Cut p bytes ts rest
    → AllSmall (tokens ts)
all_small stop = tt
all_small (gap b c) = all_small c
all_small (token {w = w} {t = t} x within c) = (token_small t w within, all_small c)

one_small : (before after : Tokens) (n p : ℕ) → AllSmall (before ++ at (number n) p ∷ after) → n ≤ 1023
one_small [] after n p h = h.0
one_small (at t q ∷ before) after n p h = one_small before after n p h.1

pub small_numbers :
    {p : ℕ} {bytes rest : List ℕ} {ts : List signs.TokAt}
    → Cut p bytes ts rest
    → SmallNumbers (tokens ts)
small_numbers c before after n p e = one_small before after n p (subst AllSmall e (all_small c))
