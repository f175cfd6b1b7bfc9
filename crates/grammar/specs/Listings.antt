-- Only private contracts and proofs cite this file: the moves of the two kinds of lists in brackets.
use Rattle.std.specs.Prelude.{◌≡◌, ℕ, List, refl}
use Rattle.grammar.specs.declared.token.Class.{Class}
use Rattle.grammar.specs.declared.token.Class.TheVariants as class
use Rattle.grammar.specs.Grammar.{Tok, Tokens}
use Rattle.grammar.specs.Moves.{State, expects, some_name, is_name, term, terms, more_terms, names, more_names, Need, Move, asked, term_number, term_name, no_terms, first_number, first_term, terms_end, next_term, no_names, first_name, names_end, next_name, Halts, goes_on, halts_token, halts_deep, halts_mixed, halts_end}
use Rattle.grammar.specs.Parsing.{Says, says_closing, says_comma, Seen, a_token, Brackets, term_listing, name_listing}

-- the terms of a call
terms_stuck :
    {text : List ℕ} {k : Class} {s u : State} {t : Tok} {i : ℕ} {n : Need}
    → (k ≡ class.Comma → ⊥)
    → (k ≡ class.Closing → ⊥)
    → Move (more_terms s) t n u
    → Says text k t i
    → ⊥
terms_stuck y z terms_end says_closing = z refl
terms_stuck y z next_term says_comma = y refl

not_terms :
    {text : List ℕ} {k : Class} {s v u : State} {t : Tok} {i : ℕ} {n : Need}
    → (k ≡ class.Closing → ⊥)
    → ((m : Need) (x : State) → Move (term v) t m x → ⊥)
    → Move (terms s) t n u
    → Says text k t i
    → ⊥
not_terms z h no_terms says_closing = z refl
not_terms z h first_number w = h _ _ term_number
not_terms z h first_term w = h _ _ term_name

terms_begin :
    {text : List ℕ} {k : Class} {q e n : ℕ} {s : State} {xs r : Tokens}
    → (k ≡ class.Closing → ⊥)
    → Seen text xs k q e
    → Halts (term (more_terms s)) xs n r
    → Halts (terms s) xs n r
terms_begin z w (goes_on term_number a h) = goes_on first_number a h
terms_begin z w (goes_on term_name a h) = goes_on first_term a h
terms_begin z (a_token w l) (halts_token h) = halts_token (λ n u m. not_terms z h m w)
terms_begin z w (halts_deep m e) = elim m [ ]
terms_begin z w (halts_mixed m e) = elim m [ ]
terms_begin z w (halts_end h) = halts_end tt

pub term_brackets : Brackets term_listing
term_brackets = record {
  ends_first = λ s. no_terms;
  ends_more = λ s. terms_end;
  goes_more = λ s. next_term;
  unfinished = λ s. tt;
  stuck = λ text k y z s t i n u m w. terms_stuck y z m w;
  begins = λ text k q e xs z w s n r h. terms_begin z w h;
}

-- the names of a rule
names_stuck :
    {text : List ℕ} {k : Class} {s u : State} {t : Tok} {i : ℕ} {n : Need}
    → (k ≡ class.Comma → ⊥)
    → (k ≡ class.Closing → ⊥)
    → Move (more_names s) t n u
    → Says text k t i
    → ⊥
names_stuck y z names_end says_closing = z refl
names_stuck y z next_name says_comma = y refl

not_names :
    {text : List ℕ} {k : Class} {s v u : State} {t : Tok} {i : ℕ} {n : Need}
    → (k ≡ class.Closing → ⊥)
    → ((m : Need) (x : State) → Move (expects some_name v) t m x → ⊥)
    → Move (names s) t n u
    → Says text k t i
    → ⊥
not_names z h no_names says_closing = z refl
not_names z h first_name w = h _ _ (asked is_name)

names_begin :
    {text : List ℕ} {k : Class} {q e n : ℕ} {s : State} {xs r : Tokens}
    → (k ≡ class.Closing → ⊥)
    → Seen text xs k q e
    → Halts (expects some_name (more_names s)) xs n r
    → Halts (names s) xs n r
names_begin z w (goes_on (asked is_name) a h) = goes_on first_name a h
names_begin z (a_token w l) (halts_token h) = halts_token (λ n u m. not_names z h m w)
names_begin z w (halts_deep m e) = elim m [ ]
names_begin z w (halts_mixed m e) = elim m [ ]
names_begin z w (halts_end h) = halts_end tt

pub name_brackets : Brackets name_listing
name_brackets = record {
  ends_first = λ s. no_names;
  ends_more = λ s. names_end;
  goes_more = λ s. next_name;
  unfinished = λ s. tt;
  stuck = λ text k y z s t i n u m w. names_stuck y z m w;
  begins = λ text k q e xs z w s n r h. names_begin z w h;
}
