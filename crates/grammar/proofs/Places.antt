-- The tokens that a text is cut into: their places rise, and their numbers are at most 1,023.
use Rattle.std.proofs.Common.{◌≡◌, ℕ, ◌<◌, ◌≤◌, Bool, true, false, cond, List, [], ◌∷◌, ◌++◌, length, codes, ap, arith}
use Rattle.std.specs.Str.{bytes_eq}
use Rattle.formula.specs.declared.Comparison.TheVariants.{Equal, Differ, Less, AtMost, More, AtLeast}
use Rattle.formula.specs.declared.Join.TheVariants.{And, Or}
use Rattle.signs.specs.declared.token.Sign.{Sign}
use Rattle.signs.specs.declared.token.Sign.TheVariants.{Open, Close, Comma, Semicolon, Colon, Plus, Minus, Compare}
use Rattle.signs.specs.Tokens as signs
use Rattle.signs.specs.Tokens.{TokAt, Spells, a_word, a_number, a_sign, sign_bytes, Within}
use Rattle.signs.specs.Cutting.{Cut, stop, gap, token}
use Rattle.grammar.specs.Grammar.{name, number, field, rule, mark, not, pick, join, Placed, at, Tokens}
use Rattle.grammar.specs.Tokens as tokens
use Rattle.grammar.specs.Tables.{BeforeAll, Rising}
use Rattle.grammar.specs.Laws.{token_places, SmallNumbers}
use Rattle.grammar.proofs.Leaves.{no}

-- a spelling has a byte

sign_some : (s : Sign) → 0 < length (sign_bytes s)
sign_some Open = omega arith
sign_some Close = omega arith
sign_some Comma = omega arith
sign_some Semicolon = omega arith
sign_some Colon = omega arith
sign_some Plus = omega arith
sign_some Minus = omega arith
sign_some (Compare Equal) = omega arith
sign_some (Compare Differ) = omega arith
sign_some (Compare Less) = omega arith
sign_some (Compare AtMost) = omega arith
sign_some (Compare More) = omega arith
sign_some (Compare AtLeast) = omega arith

spelling_some : {t : signs.Tok} {w : List ℕ} → Spells t w → 0 < length w
spelling_some (a_word e l o) = let n = ap length e in omega arith
spelling_some (a_number h o e) = h
spelling_some (a_sign {s} e) = let n = ap length e in omega (arith, sign_some s)

-- the places are above every place before the first, and rise
pub rises :
    {p : ℕ} {bytes rest : List ℕ} {ts : List TokAt}
    → Cut p bytes ts rest
    → ((k : ℕ) → k < p → BeforeAll k (token_places (tokens.tokens ts))) × Rising
    (token_places (tokens.tokens ts))
rises stop = (λ k lt. tt, tt)
rises (gap h c) = let r = rises c in (λ k lt. r.0 k (omega arith), r.1)
rises (token t h c) =
    let r = rises c in
    let n = spelling_some t.spells in
    (λ k lt. (lt, r.0 k (omega arith)), (r.0 _ (omega arith), r.1))

-- only a number is a number

no_word :
    (w : List ℕ) (n : ℕ) (a b c d e f g : Bool)
    → cond a field (cond b rule (cond c mark
    (cond d (join And) (cond e (join Or) (cond f not (cond g pick (name w))))))) ≡ number n
    → ⊥
no_word w n true b c d e f g h = no (cc)
no_word w n false true c d e f g h = no (cc)
no_word w n false false true d e f g h = no (cc)
no_word w n false false false true e f g h = no (cc)
no_word w n false false false false true f g h = no (cc)
no_word w n false false false false false true g h = no (cc)
no_word w n false false false false false false true h = no (cc)
no_word w n false false false false false false false h = no (cc)

no_sign : (s : Sign) (n : ℕ) → tokens.sign_token s ≡ number n → ⊥
no_sign Open n h = no (cc)
no_sign Close n h = no (cc)
no_sign Comma n h = no (cc)
no_sign Semicolon n h = no (cc)
no_sign Colon n h = no (cc)
no_sign Plus n h = no (cc)
no_sign Minus n h = no (cc)
no_sign (Compare c) n h = no (cc)

small_token : (t : signs.Tok) (w : List ℕ) (n : ℕ) → Within t w → tokens.token t ≡ number n → n ≤ 1023
small_token (signs.word u) w n h e =
    absurd (no_word u n
    (bytes_eq u (codes "field")) (bytes_eq u (codes "rule")) (bytes_eq u (codes "mark"))
    (bytes_eq u (codes "and"))
    (bytes_eq u (codes "or")) (bytes_eq u (codes "not")) (bytes_eq u (codes "pick")) e)
small_token (signs.number m) w n h e = let f : m ≡ n = cc in omega (arith, h.1)
small_token (signs.sign s) w n h e = absurd (no_sign s n e)

none_there : (before after : Tokens) (x : Placed) → [] ≡ before ++ x ∷ after → ⊥
none_there [] after x e = no (cc)
none_there (y ∷ before) after x e = no (cc)

pub small :
    {p : ℕ} {bytes rest : List ℕ} {ts : List TokAt}
    → Cut p bytes ts rest
    → SmallNumbers (tokens.tokens ts)
small stop before after n q e = absurd (none_there before after (at (number n) q) e)
small (gap h c) before after n q e = small c before after n q e
small (token {p} {w =
    w} {t = t} s h c) [] after n q e = let f : tokens.token t ≡ number n = cc in small_token t w n h f
small (token {ts = ts} s h c) (y ∷ before) after n q e =
    let f : tokens.tokens ts ≡ before ++ at (number n) q ∷ after = cc in
    small c before after n q f
