-- What looking ahead gives: the class of the first token that is left.
use Rattle.std.proofs.Common.{◌≡◌, ℕ, Bool, true, false, cond, List, [], ◌∷◌, ◌++◌, length, take, drop, codes, Some, None, Option, Ok, Err, Result, sym, refl, ap, ◌∙◌, subst, arith, Bor}
use Rattle.std.specs.Result.{result_unwrap_or}
use Rattle.std.specs.Str.{bytes_eq}
use Rattle.refusal.specs.declared.Fault.{Fault}
use Rattle.std.proofs.lemmas.List.{take_at, drop-drop}
use Rattle.formula.specs.declared.Join.TheVariants.{And, Or}
use Rattle.signs.specs.declared.token.Sign.{Sign}
use Rattle.signs.specs.declared.token.Sign.TheVariants as sign
use Rattle.signs.specs.declared.token.Token.TheVariants as token
use Rattle.signs.specs.declared.token.Placed.{Placed}
use Rattle.signs.specs.Tokens as signs
use Rattle.signs.specs.Tokens.{TokAt, Spells, a_word}
use Rattle.signs.specs.Cutting.{Cut, gap, token, CutFrom}
use Rattle.signs.specs.Answers.{spelt, placed, NextToken, Follows}
use Rattle.grammar.specs.declared.token.Class.{Class}
use Rattle.grammar.specs.declared.token.Class.TheVariants as class
use Rattle.grammar.specs.Syntax.{word}
use Rattle.grammar.specs.Grammar.{name, field, rule, mark, not, pick, join, Tokens}
use Rattle.grammar.specs.Tokens as tokens
use Rattle.grammar.specs.Tables.{word_of}
use Rattle.grammar.specs.Parsing.{Left, left, class_of_word, class_of_sign, Says, says_name, says_number, says_field, says_rule, says_mark, says_not, says_pick, says_join, says_sign, says_opening, says_closing, says_comma, says_semicolon, says_colon, says_plus, says_minus, Seen, no_token, a_token, Peeked}

says_by :
    (text w : List ℕ) (p : ℕ) (a b c d e f g : Bool)
    → word_of text (record { place = p; length = length w }) ≡ word w p
    → Says text
    (cond a class.Field (cond b class.Rule (cond c class.Mark
    (cond d (class.Join And) (cond e (class.Join Or)
    (cond f class.Not (cond g class.Pick (class.Name (record { place = p; length = length w })))))))))
    (cond a field (cond b rule (cond c mark (cond d (join And)
    (cond e (join Or) (cond f not (cond g pick (name w)))))))) p
says_by text w p true b c d e f g h = says_field
says_by text w p false true c d e f g h = says_rule
says_by text w p false false true d e f g h = says_mark
says_by text w p false false false true e f g h = says_join
says_by text w p false false false false true f g h = says_join
says_by text w p false false false false false true g h = says_not
says_by text w p false false false false false false true h = says_pick
says_by text w p false false false false false false false h = says_name h

sign_says : (text : List ℕ) (s : Sign) (p : ℕ) → Says text (class_of_sign s) (tokens.sign_token s) p
sign_says text sign.Open p = says_opening
sign_says text sign.Close p = says_closing
sign_says text sign.Comma p = says_comma
sign_says text sign.Semicolon p = says_semicolon
sign_says text sign.Colon p = says_colon
sign_says text sign.Plus p = says_plus
sign_says text sign.Minus p = says_minus
sign_says text (sign.Compare c) p = says_sign

-- the bytes of a word stand at its place
word_spelt : {u w : List ℕ} → Spells (signs.word u) w → w ≡ u
word_spelt (a_word e h k) = refl

word_stands :
    {p q : ℕ} {bytes rest u : List ℕ} {ts : List TokAt} (text : List ℕ)
    → Cut p bytes (signs.at (signs.word u) q ∷ ts) rest
    → drop p text ≡ bytes
    → take (length u) (drop q text) ≡ u
word_stands {p} text (gap h c) e = word_stands text c (sym (drop-drop 1 p text) ∙ ap (drop 1) e)
word_stands {u = u} text (token {after = after} t h c) e =
    ap (take (length u)) (e ∙ t.split ∙ ap (λ z. z ++ after) (word_spelt t.spells)) ∙ take_at u after
    (length u) refl

module _ (text : List ℕ) (p : ℕ) (t : Placed) (n : NextToken text p t) where
  peeked :
      (k : Class)
      → ((us : List TokAt) → CutFrom text p (placed t ∷ us) → Says text k (tokens.token (spelt t.token))
      t.place)
      → Peeked text p (record { class = k; place = t.place; end = t.end })
  peeked k says = record { onward = λ _. (omega (arith, n.after, n.some), n.inside); seen = see }
    where
      see : (xs : Tokens) → Left text p xs → Seen text xs k t.place t.end
      see _ (left {ts} cut) =
          let v = n.only ts cut in
          subst (λ z. Seen text (tokens.tokens z) k t.place t.end) (sym v.1)
          (a_token (says v.0 (subst (CutFrom text p) v.1 cut)) (left v.2))

  pub word_ahead :
      (w : Bor (List ℕ)) (k : Class)
      → t.token ≡ token.Word w
      → k ≡ class_of_word w.now t.place
      → Peeked text p (record { class = k; place = t.place; end = t.end })
  word_ahead w k is e = peeked k (λ us cut.
      let there = word_stands text (subst (λ z. CutFrom text p (signs.at (spelt z) t.place ∷ us)) is cut)
      refl in
      let says = says_by text w.now t.place
      (bytes_eq w.now (codes "field")) (bytes_eq w.now (codes "rule"))
      (bytes_eq w.now (codes "mark"))
      (bytes_eq w.now (codes "and")) (bytes_eq w.now (codes "or")) (bytes_eq w.now (codes "not"))
      (bytes_eq w.now (codes "pick")) (ap (λ z. word z t.place) there) in
      subst (λ z. Says text k (tokens.token (spelt z)) t.place) (sym is)
      (subst (λ z. Says text z (tokens.word_token w.now) t.place) (sym e) says))

  pub number_ahead :
      (m : ℕ)
      → t.token ≡ token.Number m
      → Peeked text p (record { class = class.Number m; place = t.place; end = t.end })
  number_ahead m is = peeked (class.Number m) (λ us cut.
      subst (λ z. Says text (class.Number m) (tokens.token (spelt z)) t.place) (sym is) says_number)

  pub sign_ahead :
      (g : Sign) (k : Class)
      → t.token ≡ token.Sign g
      → k ≡ class_of_sign g
      → Peeked text p (record { class = k; place = t.place; end = t.end })
  sign_ahead g k is e = peeked k (λ us cut.
      subst (λ z. Says text k (tokens.token (spelt z)) t.place) (sym is)
      (subst (λ z. Says text z (tokens.sign_token g) t.place) (sym e) (sign_says text g t.place)))

-- the token that comes next, where one does
pub token_next :
    (text : List ℕ) (p : ℕ) (r : Result (Option Placed) Fault) (t : Placed)
    → Follows text p r
    → Some t ≡ result_unwrap_or r None
    → NextToken text p t
token_next text p (Ok (Some u)) t h e = let same : t ≡ u = cc in subst (NextToken text p) (sym same) h
token_next text p (Ok None) t h e = absurd cc
token_next text p (Err f) t h e = absurd cc

-- where no token comes next, none is left
none_left :
    (text : List ℕ) (p : ℕ) (r : Result (Option Placed) Fault)
    → Follows text p r
    → None ≡ result_unwrap_or r None
    → (ts : List TokAt)
    → CutFrom text p ts
    → ts ≡ []
none_left text p (Ok (Some t)) h e ts cut = absurd cc
none_left text p (Ok None) h e ts cut = h.only ts cut
none_left text p (Err f) h e ts cut = absurd (h.uncut ts cut)

pub end_ahead :
    (text : List ℕ) (p : ℕ) (r : Result (Option Placed) Fault)
    → Follows text p r
    → None ≡ result_unwrap_or r None
    → Peeked text p (record { class = class.End; place = length text; end = length text })
end_ahead text p r h e = record { onward = λ g. absurd (g refl); seen = see }
  where
    see : (xs : Tokens) → Left text p xs → Seen text xs class.End (length text) (length text)
    see _ (left {ts} cut) =
        subst (λ z. Seen text (tokens.tokens z) class.End (length text) (length text))
        (sym (none_left text p r h e ts cut))
        (no_token refl)
