-- Whether a token can stand in a state, for every state and token.
use Rattle.std.proofs.Common.{ℕ}
use Rattle.formula.specs.declared.Join.{Join}
use Rattle.grammar.specs.Grammar.{Tok, name, number, field, rule, mark, not, pick, join, sign, opening, closing, comma, semicolon, colon, plus, minus, Level, only}
use Rattle.grammar.specs.Moves.{Shape, some_name, some_number, some_sign, field_word, opening_sign, closing_sign, semicolon_sign, colon_sign, Is, is_name, is_number, is_sign, is_field, is_opening, is_closing, is_semicolon, is_colon, of_rule, of_mark, Open, whole, inner, allowance, State, expects, fields, rules, ended, names, more_names, term, summed, terms, more_terms, a_unit, named, more, after_join, numbered, compared_with, Need, NoSum, Move, asked, line_field, no_field, line_rule, line_mark, no_names, first_name, names_end, next_name, term_number, term_name, sum_plus, sum_minus, no_sum, no_terms, first_number, first_term, terms_end, next_term, unit_number, unit_name, unit_not, unit_pick, unit_bracket, unit_call, unit_compares, next_join, bracket_end, rule_end, mark_end, join_number, join_name, join_opens, weight_colon, weight_none}

data Shaped (k : Shape) (t : Tok) : Type 0 where
  like_it : Is k t → Shaped k t
  unlike : (Is k t → ⊥) → Shaped k t

pub data Next (s : State) (t : Tok) : Type 0 where
  moves : {n : Need} {u : State} → Move s t n u → Next s t
  stays : ((n : Need) (u : State) → Move s t n u → ⊥) → Next s t

is_of : (k : Shape) (t : Tok) → Shaped k t
is_of some_name t =
    elim t as (Shaped some_name) [
      | name w ↦ like_it is_name
      | number n ↦ unlike (λ i. elim i [ ])
      | field ↦ unlike (λ i. elim i [ ])
      | rule ↦ unlike (λ i. elim i [ ])
      | mark ↦ unlike (λ i. elim i [ ])
      | not ↦ unlike (λ i. elim i [ ])
      | pick ↦ unlike (λ i. elim i [ ])
      | join j ↦ unlike (λ i. elim i [ ])
      | sign c ↦ unlike (λ i. elim i [ ])
      | opening ↦ unlike (λ i. elim i [ ])
      | closing ↦ unlike (λ i. elim i [ ])
      | comma ↦ unlike (λ i. elim i [ ])
      | semicolon ↦ unlike (λ i. elim i [ ])
      | colon ↦ unlike (λ i. elim i [ ])
      | plus ↦ unlike (λ i. elim i [ ])
      | minus ↦ unlike (λ i. elim i [ ])
    ]
is_of some_number t =
    elim t as (Shaped some_number) [
      | name w ↦ unlike (λ i. elim i [ ])
      | number n ↦ like_it is_number
      | field ↦ unlike (λ i. elim i [ ])
      | rule ↦ unlike (λ i. elim i [ ])
      | mark ↦ unlike (λ i. elim i [ ])
      | not ↦ unlike (λ i. elim i [ ])
      | pick ↦ unlike (λ i. elim i [ ])
      | join j ↦ unlike (λ i. elim i [ ])
      | sign c ↦ unlike (λ i. elim i [ ])
      | opening ↦ unlike (λ i. elim i [ ])
      | closing ↦ unlike (λ i. elim i [ ])
      | comma ↦ unlike (λ i. elim i [ ])
      | semicolon ↦ unlike (λ i. elim i [ ])
      | colon ↦ unlike (λ i. elim i [ ])
      | plus ↦ unlike (λ i. elim i [ ])
      | minus ↦ unlike (λ i. elim i [ ])
    ]
is_of some_sign t =
    elim t as (Shaped some_sign) [
      | name w ↦ unlike (λ i. elim i [ ])
      | number n ↦ unlike (λ i. elim i [ ])
      | field ↦ unlike (λ i. elim i [ ])
      | rule ↦ unlike (λ i. elim i [ ])
      | mark ↦ unlike (λ i. elim i [ ])
      | not ↦ unlike (λ i. elim i [ ])
      | pick ↦ unlike (λ i. elim i [ ])
      | join j ↦ unlike (λ i. elim i [ ])
      | sign c ↦ like_it is_sign
      | opening ↦ unlike (λ i. elim i [ ])
      | closing ↦ unlike (λ i. elim i [ ])
      | comma ↦ unlike (λ i. elim i [ ])
      | semicolon ↦ unlike (λ i. elim i [ ])
      | colon ↦ unlike (λ i. elim i [ ])
      | plus ↦ unlike (λ i. elim i [ ])
      | minus ↦ unlike (λ i. elim i [ ])
    ]
is_of field_word t =
    elim t as (Shaped field_word) [
      | name w ↦ unlike (λ i. elim i [ ])
      | number n ↦ unlike (λ i. elim i [ ])
      | field ↦ like_it is_field
      | rule ↦ unlike (λ i. elim i [ ])
      | mark ↦ unlike (λ i. elim i [ ])
      | not ↦ unlike (λ i. elim i [ ])
      | pick ↦ unlike (λ i. elim i [ ])
      | join j ↦ unlike (λ i. elim i [ ])
      | sign c ↦ unlike (λ i. elim i [ ])
      | opening ↦ unlike (λ i. elim i [ ])
      | closing ↦ unlike (λ i. elim i [ ])
      | comma ↦ unlike (λ i. elim i [ ])
      | semicolon ↦ unlike (λ i. elim i [ ])
      | colon ↦ unlike (λ i. elim i [ ])
      | plus ↦ unlike (λ i. elim i [ ])
      | minus ↦ unlike (λ i. elim i [ ])
    ]
is_of opening_sign t =
    elim t as (Shaped opening_sign) [
      | name w ↦ unlike (λ i. elim i [ ])
      | number n ↦ unlike (λ i. elim i [ ])
      | field ↦ unlike (λ i. elim i [ ])
      | rule ↦ unlike (λ i. elim i [ ])
      | mark ↦ unlike (λ i. elim i [ ])
      | not ↦ unlike (λ i. elim i [ ])
      | pick ↦ unlike (λ i. elim i [ ])
      | join j ↦ unlike (λ i. elim i [ ])
      | sign c ↦ unlike (λ i. elim i [ ])
      | opening ↦ like_it is_opening
      | closing ↦ unlike (λ i. elim i [ ])
      | comma ↦ unlike (λ i. elim i [ ])
      | semicolon ↦ unlike (λ i. elim i [ ])
      | colon ↦ unlike (λ i. elim i [ ])
      | plus ↦ unlike (λ i. elim i [ ])
      | minus ↦ unlike (λ i. elim i [ ])
    ]
is_of closing_sign t =
    elim t as (Shaped closing_sign) [
      | name w ↦ unlike (λ i. elim i [ ])
      | number n ↦ unlike (λ i. elim i [ ])
      | field ↦ unlike (λ i. elim i [ ])
      | rule ↦ unlike (λ i. elim i [ ])
      | mark ↦ unlike (λ i. elim i [ ])
      | not ↦ unlike (λ i. elim i [ ])
      | pick ↦ unlike (λ i. elim i [ ])
      | join j ↦ unlike (λ i. elim i [ ])
      | sign c ↦ unlike (λ i. elim i [ ])
      | opening ↦ unlike (λ i. elim i [ ])
      | closing ↦ like_it is_closing
      | comma ↦ unlike (λ i. elim i [ ])
      | semicolon ↦ unlike (λ i. elim i [ ])
      | colon ↦ unlike (λ i. elim i [ ])
      | plus ↦ unlike (λ i. elim i [ ])
      | minus ↦ unlike (λ i. elim i [ ])
    ]
is_of semicolon_sign t =
    elim t as (Shaped semicolon_sign) [
      | name w ↦ unlike (λ i. elim i [ ])
      | number n ↦ unlike (λ i. elim i [ ])
      | field ↦ unlike (λ i. elim i [ ])
      | rule ↦ unlike (λ i. elim i [ ])
      | mark ↦ unlike (λ i. elim i [ ])
      | not ↦ unlike (λ i. elim i [ ])
      | pick ↦ unlike (λ i. elim i [ ])
      | join j ↦ unlike (λ i. elim i [ ])
      | sign c ↦ unlike (λ i. elim i [ ])
      | opening ↦ unlike (λ i. elim i [ ])
      | closing ↦ unlike (λ i. elim i [ ])
      | comma ↦ unlike (λ i. elim i [ ])
      | semicolon ↦ like_it is_semicolon
      | colon ↦ unlike (λ i. elim i [ ])
      | plus ↦ unlike (λ i. elim i [ ])
      | minus ↦ unlike (λ i. elim i [ ])
    ]
is_of colon_sign t =
    elim t as (Shaped colon_sign) [
      | name w ↦ unlike (λ i. elim i [ ])
      | number n ↦ unlike (λ i. elim i [ ])
      | field ↦ unlike (λ i. elim i [ ])
      | rule ↦ unlike (λ i. elim i [ ])
      | mark ↦ unlike (λ i. elim i [ ])
      | not ↦ unlike (λ i. elim i [ ])
      | pick ↦ unlike (λ i. elim i [ ])
      | join j ↦ unlike (λ i. elim i [ ])
      | sign c ↦ unlike (λ i. elim i [ ])
      | opening ↦ unlike (λ i. elim i [ ])
      | closing ↦ unlike (λ i. elim i [ ])
      | comma ↦ unlike (λ i. elim i [ ])
      | semicolon ↦ unlike (λ i. elim i [ ])
      | colon ↦ like_it is_colon
      | plus ↦ unlike (λ i. elim i [ ])
      | minus ↦ unlike (λ i. elim i [ ])
    ]

not_asked : {k : Shape} {t : Tok} {n : Need} {s u : State} → (Is k t → ⊥) → Move (expects k s) t n u → ⊥
not_asked h (asked i) = h i

asked_of : {k : Shape} {t : Tok} (s : State) → Shaped k t → Next (expects k s) t
asked_of s (like_it i) = moves (asked i)
asked_of s (unlike h) = stays (λ n u m. not_asked h m)

-- a token goes on with a sum, or not
data Sum : Tok → Type 0 where
  by_plus : Sum plus
  by_minus : Sum minus
  neither : {t : Tok} → NoSum t → Sum t

sum_of : (t : Tok) → Sum t
sum_of t =
    elim t as Sum [
      | name w ↦ neither tt
      | number n ↦ neither tt
      | field ↦ neither tt
      | rule ↦ neither tt
      | mark ↦ neither tt
      | not ↦ neither tt
      | pick ↦ neither tt
      | join j ↦ neither tt
      | sign c ↦ neither tt
      | opening ↦ neither tt
      | closing ↦ neither tt
      | comma ↦ neither tt
      | semicolon ↦ neither tt
      | colon ↦ neither tt
      | plus ↦ by_plus
      | minus ↦ by_minus
    ]

pub not_summed :
    {t : Tok} {n : Need} {s u : State}
    → NoSum t
    → ((m : Need) (v : State) → Move s t m v → ⊥)
    → Move (summed s) t n u
    → ⊥
not_summed h k sum_plus = h
not_summed h k sum_minus = h
not_summed h k (no_sum z m) = k _ _ m

summed_of : {t : Tok} (s : State) → Sum t → Next s t → Next (summed s) t
summed_of s by_plus k = moves sum_plus
summed_of s by_minus k = moves sum_minus
summed_of s (neither h) (moves m) = moves (no_sum h m)
summed_of s (neither h) (stays k) = stays (λ n u m. not_summed h k m)

pub not_named :
    {t : Tok} {n : Need} {l : Level} {o : Open} {u : State}
    → (Is opening_sign t → ⊥)
    → ((m : Need) (v : State) → Move (summed (compared_with l o)) t m v → ⊥)
    → Move (named l o) t n u
    → ⊥
not_named h k unit_call = h is_opening
not_named h k (unit_compares m) = k _ _ m

named_of :
    {t : Tok} (l : Level) (o : Open)
    → Shaped opening_sign t
    → Next (summed (compared_with l o)) t
    → Next (named l o) t
named_of l o (like_it is_opening) k = moves unit_call
named_of l o (unlike h) (moves m) = moves (unit_compares m)
named_of l o (unlike h) (stays k) = stays (λ n u m. not_named h k m)

pub not_field :
    {t : Tok} {n : Need} {u : State}
    → (Is field_word t → ⊥)
    → ((m : Need) (v : State) → Move rules t m v → ⊥)
    → Move fields t n u
    → ⊥
not_field h k line_field = h is_field
not_field h k (no_field m) = k _ _ m

fields_of : {t : Tok} → Shaped field_word t → Next rules t → Next fields t
fields_of (like_it is_field) k = moves line_field
fields_of (unlike h) (moves m) = moves (no_field m)
fields_of (unlike h) (stays k) = stays (λ n u m. not_field h k m)

rules_of : (t : Tok) → Next rules t
rules_of t =
    elim t as (Next rules) [
      | name w ↦ stays (λ _ _ m. elim m [ ])
      | number n ↦ stays (λ _ _ m. elim m [ ])
      | field ↦ stays (λ _ _ m. elim m [ ])
      | rule ↦ moves line_rule
      | mark ↦ moves line_mark
      | not ↦ stays (λ _ _ m. elim m [ ])
      | pick ↦ stays (λ _ _ m. elim m [ ])
      | join j ↦ stays (λ _ _ m. elim m [ ])
      | sign c ↦ stays (λ _ _ m. elim m [ ])
      | opening ↦ stays (λ _ _ m. elim m [ ])
      | closing ↦ stays (λ _ _ m. elim m [ ])
      | comma ↦ stays (λ _ _ m. elim m [ ])
      | semicolon ↦ stays (λ _ _ m. elim m [ ])
      | colon ↦ stays (λ _ _ m. elim m [ ])
      | plus ↦ stays (λ _ _ m. elim m [ ])
      | minus ↦ stays (λ _ _ m. elim m [ ])
    ]

names_of : (s : State) (t : Tok) → Next (names s) t
names_of s t =
    elim t as (Next (names s)) [
      | name w ↦ moves first_name
      | number n ↦ stays (λ _ _ m. elim m [ ])
      | field ↦ stays (λ _ _ m. elim m [ ])
      | rule ↦ stays (λ _ _ m. elim m [ ])
      | mark ↦ stays (λ _ _ m. elim m [ ])
      | not ↦ stays (λ _ _ m. elim m [ ])
      | pick ↦ stays (λ _ _ m. elim m [ ])
      | join j ↦ stays (λ _ _ m. elim m [ ])
      | sign c ↦ stays (λ _ _ m. elim m [ ])
      | opening ↦ stays (λ _ _ m. elim m [ ])
      | closing ↦ moves no_names
      | comma ↦ stays (λ _ _ m. elim m [ ])
      | semicolon ↦ stays (λ _ _ m. elim m [ ])
      | colon ↦ stays (λ _ _ m. elim m [ ])
      | plus ↦ stays (λ _ _ m. elim m [ ])
      | minus ↦ stays (λ _ _ m. elim m [ ])
    ]

more_names_of : (s : State) (t : Tok) → Next (more_names s) t
more_names_of s t =
    elim t as (Next (more_names s)) [
      | name w ↦ stays (λ _ _ m. elim m [ ])
      | number n ↦ stays (λ _ _ m. elim m [ ])
      | field ↦ stays (λ _ _ m. elim m [ ])
      | rule ↦ stays (λ _ _ m. elim m [ ])
      | mark ↦ stays (λ _ _ m. elim m [ ])
      | not ↦ stays (λ _ _ m. elim m [ ])
      | pick ↦ stays (λ _ _ m. elim m [ ])
      | join j ↦ stays (λ _ _ m. elim m [ ])
      | sign c ↦ stays (λ _ _ m. elim m [ ])
      | opening ↦ stays (λ _ _ m. elim m [ ])
      | closing ↦ moves names_end
      | comma ↦ moves next_name
      | semicolon ↦ stays (λ _ _ m. elim m [ ])
      | colon ↦ stays (λ _ _ m. elim m [ ])
      | plus ↦ stays (λ _ _ m. elim m [ ])
      | minus ↦ stays (λ _ _ m. elim m [ ])
    ]

term_of : (s : State) (t : Tok) → Next (term s) t
term_of s t =
    elim t as (Next (term s)) [
      | name w ↦ moves term_name
      | number n ↦ moves term_number
      | field ↦ stays (λ _ _ m. elim m [ ])
      | rule ↦ stays (λ _ _ m. elim m [ ])
      | mark ↦ stays (λ _ _ m. elim m [ ])
      | not ↦ stays (λ _ _ m. elim m [ ])
      | pick ↦ stays (λ _ _ m. elim m [ ])
      | join j ↦ stays (λ _ _ m. elim m [ ])
      | sign c ↦ stays (λ _ _ m. elim m [ ])
      | opening ↦ stays (λ _ _ m. elim m [ ])
      | closing ↦ stays (λ _ _ m. elim m [ ])
      | comma ↦ stays (λ _ _ m. elim m [ ])
      | semicolon ↦ stays (λ _ _ m. elim m [ ])
      | colon ↦ stays (λ _ _ m. elim m [ ])
      | plus ↦ stays (λ _ _ m. elim m [ ])
      | minus ↦ stays (λ _ _ m. elim m [ ])
    ]

terms_of : (s : State) (t : Tok) → Next (terms s) t
terms_of s t =
    elim t as (Next (terms s)) [
      | name w ↦ moves first_term
      | number n ↦ moves first_number
      | field ↦ stays (λ _ _ m. elim m [ ])
      | rule ↦ stays (λ _ _ m. elim m [ ])
      | mark ↦ stays (λ _ _ m. elim m [ ])
      | not ↦ stays (λ _ _ m. elim m [ ])
      | pick ↦ stays (λ _ _ m. elim m [ ])
      | join j ↦ stays (λ _ _ m. elim m [ ])
      | sign c ↦ stays (λ _ _ m. elim m [ ])
      | opening ↦ stays (λ _ _ m. elim m [ ])
      | closing ↦ moves no_terms
      | comma ↦ stays (λ _ _ m. elim m [ ])
      | semicolon ↦ stays (λ _ _ m. elim m [ ])
      | colon ↦ stays (λ _ _ m. elim m [ ])
      | plus ↦ stays (λ _ _ m. elim m [ ])
      | minus ↦ stays (λ _ _ m. elim m [ ])
    ]

more_terms_of : (s : State) (t : Tok) → Next (more_terms s) t
more_terms_of s t =
    elim t as (Next (more_terms s)) [
      | name w ↦ stays (λ _ _ m. elim m [ ])
      | number n ↦ stays (λ _ _ m. elim m [ ])
      | field ↦ stays (λ _ _ m. elim m [ ])
      | rule ↦ stays (λ _ _ m. elim m [ ])
      | mark ↦ stays (λ _ _ m. elim m [ ])
      | not ↦ stays (λ _ _ m. elim m [ ])
      | pick ↦ stays (λ _ _ m. elim m [ ])
      | join j ↦ stays (λ _ _ m. elim m [ ])
      | sign c ↦ stays (λ _ _ m. elim m [ ])
      | opening ↦ stays (λ _ _ m. elim m [ ])
      | closing ↦ moves terms_end
      | comma ↦ moves next_term
      | semicolon ↦ stays (λ _ _ m. elim m [ ])
      | colon ↦ stays (λ _ _ m. elim m [ ])
      | plus ↦ stays (λ _ _ m. elim m [ ])
      | minus ↦ stays (λ _ _ m. elim m [ ])
    ]

unit_of : (d : ℕ) (l : Level) (o : Open) (t : Tok) → Next (a_unit d l o) t
unit_of d l o t =
    elim t as (Next (a_unit d l o)) [
      | name w ↦ moves unit_name
      | number n ↦ moves unit_number
      | field ↦ stays (λ _ _ m. elim m [ ])
      | rule ↦ stays (λ _ _ m. elim m [ ])
      | mark ↦ stays (λ _ _ m. elim m [ ])
      | not ↦ moves unit_not
      | pick ↦ moves unit_pick
      | join j ↦ stays (λ _ _ m. elim m [ ])
      | sign c ↦ stays (λ _ _ m. elim m [ ])
      | opening ↦ moves unit_bracket
      | closing ↦ stays (λ _ _ m. elim m [ ])
      | comma ↦ stays (λ _ _ m. elim m [ ])
      | semicolon ↦ stays (λ _ _ m. elim m [ ])
      | colon ↦ stays (λ _ _ m. elim m [ ])
      | plus ↦ stays (λ _ _ m. elim m [ ])
      | minus ↦ stays (λ _ _ m. elim m [ ])
    ]

rule_more : (l : Level) (t : Tok) → Next (more l (whole of_rule)) t
rule_more l t =
    elim t as (Next (more l (whole of_rule))) [
      | name w ↦ stays (λ _ _ m. elim m [ ])
      | number n ↦ stays (λ _ _ m. elim m [ ])
      | field ↦ stays (λ _ _ m. elim m [ ])
      | rule ↦ stays (λ _ _ m. elim m [ ])
      | mark ↦ stays (λ _ _ m. elim m [ ])
      | not ↦ stays (λ _ _ m. elim m [ ])
      | pick ↦ stays (λ _ _ m. elim m [ ])
      | join j ↦ moves next_join
      | sign c ↦ stays (λ _ _ m. elim m [ ])
      | opening ↦ stays (λ _ _ m. elim m [ ])
      | closing ↦ stays (λ _ _ m. elim m [ ])
      | comma ↦ stays (λ _ _ m. elim m [ ])
      | semicolon ↦ moves rule_end
      | colon ↦ stays (λ _ _ m. elim m [ ])
      | plus ↦ stays (λ _ _ m. elim m [ ])
      | minus ↦ stays (λ _ _ m. elim m [ ])
    ]

mark_more : (l : Level) (t : Tok) → Next (more l (whole of_mark)) t
mark_more l t =
    elim t as (Next (more l (whole of_mark))) [
      | name w ↦ stays (λ _ _ m. elim m [ ])
      | number n ↦ stays (λ _ _ m. elim m [ ])
      | field ↦ stays (λ _ _ m. elim m [ ])
      | rule ↦ stays (λ _ _ m. elim m [ ])
      | mark ↦ stays (λ _ _ m. elim m [ ])
      | not ↦ stays (λ _ _ m. elim m [ ])
      | pick ↦ stays (λ _ _ m. elim m [ ])
      | join j ↦ moves next_join
      | sign c ↦ stays (λ _ _ m. elim m [ ])
      | opening ↦ stays (λ _ _ m. elim m [ ])
      | closing ↦ stays (λ _ _ m. elim m [ ])
      | comma ↦ stays (λ _ _ m. elim m [ ])
      | semicolon ↦ moves mark_end
      | colon ↦ stays (λ _ _ m. elim m [ ])
      | plus ↦ stays (λ _ _ m. elim m [ ])
      | minus ↦ stays (λ _ _ m. elim m [ ])
    ]

inner_more : (d : ℕ) (k l : Level) (o : Open) (t : Tok) → Next (more l (inner d k o)) t
inner_more d k l o t =
    elim t as (Next (more l (inner d k o))) [
      | name w ↦ stays (λ _ _ m. elim m [ ])
      | number n ↦ stays (λ _ _ m. elim m [ ])
      | field ↦ stays (λ _ _ m. elim m [ ])
      | rule ↦ stays (λ _ _ m. elim m [ ])
      | mark ↦ stays (λ _ _ m. elim m [ ])
      | not ↦ stays (λ _ _ m. elim m [ ])
      | pick ↦ stays (λ _ _ m. elim m [ ])
      | join j ↦ moves next_join
      | sign c ↦ stays (λ _ _ m. elim m [ ])
      | opening ↦ stays (λ _ _ m. elim m [ ])
      | closing ↦ moves bracket_end
      | comma ↦ stays (λ _ _ m. elim m [ ])
      | semicolon ↦ stays (λ _ _ m. elim m [ ])
      | colon ↦ stays (λ _ _ m. elim m [ ])
      | plus ↦ stays (λ _ _ m. elim m [ ])
      | minus ↦ stays (λ _ _ m. elim m [ ])
    ]

more_of : (l : Level) (o : Open) (t : Tok) → Next (more l o) t
more_of l (whole of_rule) t = rule_more l t
more_of l (whole of_mark) t = mark_more l t
more_of l (inner d k o) t = inner_more d k l o t

numbered_of : (j : Join) (o : Open) (t : Tok) → Next (numbered j o) t
numbered_of j o t =
    elim t as (Next (numbered j o)) [
      | name w ↦ stays (λ _ _ m. elim m [ ])
      | number n ↦ stays (λ _ _ m. elim m [ ])
      | field ↦ stays (λ _ _ m. elim m [ ])
      | rule ↦ stays (λ _ _ m. elim m [ ])
      | mark ↦ stays (λ _ _ m. elim m [ ])
      | not ↦ stays (λ _ _ m. elim m [ ])
      | pick ↦ stays (λ _ _ m. elim m [ ])
      | join i ↦ stays (λ _ _ m. elim m [ ])
      | sign c ↦ moves weight_none
      | opening ↦ stays (λ _ _ m. elim m [ ])
      | closing ↦ stays (λ _ _ m. elim m [ ])
      | comma ↦ stays (λ _ _ m. elim m [ ])
      | semicolon ↦ stays (λ _ _ m. elim m [ ])
      | colon ↦ moves weight_colon
      | plus ↦ stays (λ _ _ m. elim m [ ])
      | minus ↦ stays (λ _ _ m. elim m [ ])
    ]

pub not_joined :
    {t : Tok} {n : Need} {j : Join} {o : Open} {u : State}
    → ((m : Need) (v : State) → Move (a_unit (allowance o) (only j) o) t m v → ⊥)
    → Move (after_join j o) t n u
    → ⊥
not_joined k join_number = k _ _ unit_number
not_joined k join_name = k _ _ unit_name
not_joined k (join_opens m) = k _ _ m

-- after a join a unit may stand, and where it begins with a number, weights too
join_of : {t : Tok} (j : Join) (o : Open) → Next (a_unit (allowance o) (only j) o) t → Next (after_join j o) t
join_of j o (moves unit_number) = moves join_number
join_of j o (moves unit_name) = moves join_name
join_of j o (moves unit_not) = moves (join_opens unit_not)
join_of j o (moves unit_pick) = moves (join_opens unit_pick)
join_of j o (moves unit_bracket) = moves (join_opens unit_bracket)
join_of j o (stays k) = stays (λ n u m. not_joined k m)

pub next_of : (s : State) (t : Tok) → Next s t
next_of (expects k s) t = asked_of s (is_of k t)
next_of fields t = fields_of (is_of field_word t) (rules_of t)
next_of rules t = rules_of t
next_of ended t = stays (λ _ _ m. elim m [ ])
next_of (names s) t = names_of s t
next_of (more_names s) t = more_names_of s t
next_of (term s) t = term_of s t
next_of (summed s) t = summed_of s (sum_of t) (next_of s t)
next_of (terms s) t = terms_of s t
next_of (more_terms s) t = more_terms_of s t
next_of (a_unit d l o) t = unit_of d l o t
next_of (named l o) t =
    named_of l o (is_of opening_sign t) (summed_of (compared_with l o) (sum_of t)
    (asked_of (term (more l o)) (is_of some_sign t)))
next_of (more l o) t = more_of l o t
next_of (after_join j o) t = join_of j o (unit_of (allowance o) (only j) o t)
next_of (numbered j o) t = numbered_of j o t
