-- Counting the tokens of a text one by one.
use Rattle.std.proofs.Common.{◌≡◌, ℕ, ◌+◌, Bool, cond, List, ◌∷◌, arith, rules}
use Rattle.std.proofs.lemmas.List.Sums.{sum_by-cons}
use Rattle.signs.specs.declared.counts.TokenCounts.{TokenCounts}
use Rattle.signs.specs.declared.token.Placed.{Placed}
use Rattle.signs.specs.Tokens.{Tok, TokAt}
use Rattle.signs.specs.Cutting.{CutFrom}
use Rattle.signs.specs.Answers.{spelt, placed, token_of, is_word, is_number, is_sign, count, Counts, NextToken, NoToken}
use Rattle.signs.specs.Scanning.{OneMore}

-- the tokens us are those counted so far and then ts
pub record Rest (found : TokenCounts) (ts us : List TokAt) : Type 0 where
  pub words : count is_word us ≡ found.words + count is_word ts
  pub numbers : count is_number us ≡ found.numbers + count is_number ts
  pub signs : count is_sign us ≡ found.signs + count is_sign ts

-- whatever the text is cut into from here on, the whole text is cut into what was counted and that
pub CountedOn : List ℕ → ℕ → TokenCounts → Type 0
CountedOn text p found =
    (ts : List TokAt) → CutFrom text p ts → (us : List TokAt) × CutFrom text 0 us × Rest found ts us

pub none_counted :
    (text : List ℕ) (found : TokenCounts)
    → found.words ≡ 0
    → found.numbers ≡ 0
    → found.signs ≡ 0
    → CountedOn text 0 found
unfolding CountedOn
none_counted text found w n s ts c = (ts, c, record { words = omega arith; numbers = omega arith; signs = omega arith })

count_cons :
    (test : Tok → Bool) (t : TokAt) (ts : List TokAt)
    → count test (t ∷ ts) ≡ cond (test (token_of t)) 1 0 + count test ts
count_cons test t ts = sum_by-cons (λ x. cond (test (token_of x)) 1 0) t ts

-- a token is of one kind
pub one_only : (t : Tok) → cond (is_word t) 1 0 + cond (is_number t) 1 0 + cond (is_sign t) 1 0 ≡ 1
one_only = search rules

pub one_counted :
    (text : List ℕ) (p : ℕ) (t : Placed) (found more : TokenCounts)
    → NextToken text p t
    → OneMore (spelt t.token) found more
    → CountedOn text p found
    → CountedOn text t.end more
unfolding CountedOn
one_counted text p t found more next one so ts c =
    let s = so (placed t ∷ ts) (next.onward ts c) in
    let r = s.2 in (
      s.0,
      s.1,
      record {
        words = omega (arith, r.words, one.words, count_cons is_word (placed t) ts);
        numbers = omega (arith, r.numbers, one.numbers, count_cons is_number (placed t) ts);
        signs = omega (arith, r.signs, one.signs, count_cons is_sign (placed t) ts);
      },
    )

pub all_counted :
    (text : List ℕ) (p : ℕ) (found : TokenCounts)
    → NoToken text p
    → CountedOn text p found
    → (us : List TokAt) × CutFrom text 0 us × Counts us found
unfolding CountedOn
all_counted = search rules
