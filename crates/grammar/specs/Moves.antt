-- Only private contracts and proofs cite this file: the grammar token by token.
-- A state says what is still to come in a text. A move takes one token from a state to the next,
-- and may need a level to be left, or a join to be like the one before.
use Rattle.std.specs.Prelude.{◌≡◌, ℕ, ◌-◌, List, [], ◌∷◌}
use Rattle.formula.specs.declared.Comparison.{Comparison}
use Rattle.formula.specs.declared.Join.{Join}
use Rattle.grammar.specs.Grammar.{Tok, name, number, field, rule, mark, not, pick, join, sign, opening, closing, comma, semicolon, colon, plus, minus, at, Tokens, Level, any, only, Limits, strict, Deeper, Fits}

-- a token that is asked for by its kind
pub data Shape : Type 0 where
  some_name some_number some_sign field_word opening_sign closing_sign semicolon_sign colon_sign : Shape

-- the token is of that kind
pub data Is : Shape → Tok → Type 0 where
  is_name : {w : List ℕ} → Is some_name (name w)
  is_number : {n : ℕ} → Is some_number (number n)
  is_sign : {c : Comparison} → Is some_sign (sign c)
  is_field : Is field_word field
  is_opening : Is opening_sign opening
  is_closing : Is closing_sign closing
  is_semicolon : Is semicolon_sign semicolon
  is_colon : Is colon_sign colon

-- the line whose formula is read
pub data Line : Type 0 where
  of_rule of_mark : Line

-- the formulas that are open: that of a line; or one in brackets, with d levels left, in a formula at level l
pub data Open : Type 0 where
  whole : Line → Open
  inner : (d : ℕ) (l : Level) → Open → Open

-- how many levels may be opened in the innermost formula
abbrev pub allowance : Open → ℕ
allowance (whole n) = 16
allowance (inner d l o) = d

-- what is still to come
pub data State : Type 0 where
  -- a token of a kind, and then s
  expects : Shape → (s : State) → State
  -- field lines if any, and then rule lines and the mark line; rule lines and the mark line; nothing
  fields rules ended : State
  -- the names of a rule, and then s; after one of them
  names more_names : (s : State) → State
  -- a term, and then s; after its name
  term summed : (s : State) → State
  -- the terms of a call, and then s; after one of them
  terms more_terms : (s : State) → State
  -- a unit with d levels left, and then the rest of the open formulas
  a_unit : (d : ℕ) → Level → Open → State
  -- after the name that a unit begins with
  named : Level → Open → State
  -- after a unit
  more : Level → Open → State
  -- after a join; after a join and a number
  after_join numbered : Join → Open → State

-- after a field line's first word
abbrev pub field_rest : State
field_rest =
    expects some_name (expects some_number (expects some_number (expects semicolon_sign fields)))

-- a sheet
abbrev pub start : State
start = expects field_word field_rest

-- after a rule's names
abbrev pub rule_body : State
rule_body = expects colon_sign (a_unit 16 any (whole of_rule))

-- after a rule line's first word
abbrev pub rule_rest : State
rule_rest = expects some_name (expects opening_sign (names rule_body))

-- after the term that a comparison begins with
abbrev pub compared_with : Level → Open → State
compared_with l o = expects some_sign (term (more l o))

-- what a move needs: nothing, a level where d are left, or a join j that fits a level
pub data Need : Type 0 where
  free : Need
  level : ℕ → Need
  like : Level → Join → Need

-- the limits permit it
abbrev pub Allowed : Limits → Need → Type 0
Allowed L free = Unit {0}
Allowed L (level d) = Deeper L d
Allowed L (like l j) = Fits L l j

-- the token does not go on with a sum
abbrev pub NoSum : Tok → Type 0
NoSum (name w) = Unit {0}
NoSum (number n) = Unit {0}
NoSum field = Unit {0}
NoSum rule = Unit {0}
NoSum mark = Unit {0}
NoSum not = Unit {0}
NoSum pick = Unit {0}
NoSum (join j) = Unit {0}
NoSum (sign c) = Unit {0}
NoSum opening = Unit {0}
NoSum closing = Unit {0}
NoSum comma = Unit {0}
NoSum semicolon = Unit {0}
NoSum colon = Unit {0}
NoSum plus = ⊥
NoSum minus = ⊥

-- Move s t n u: in the state s the token t can stand, if the need n is met, and then the state is u
pub data Move : State → Tok → Need → State → Type 0 where
  asked :
      {k : Shape} {t : Tok} {s : State}
      → Is k t
      → Move (expects k s) t free s
  -- lines
  line_field : Move fields field free field_rest
  no_field : {t : Tok} {n : Need} {u : State} → Move rules t n u → Move fields t n u
  line_rule : Move rules rule free rule_rest
  line_mark : Move rules mark free (a_unit 16 any (whole of_mark))
  no_names : {s : State} → Move (names s) closing free s
  first_name : {w : List ℕ} {s : State} → Move (names s) (name w) free (more_names s)
  names_end : {s : State} → Move (more_names s) closing free s
  next_name : {s : State} → Move (more_names s) comma free (expects some_name (more_names s))
  -- terms
  term_number : {n : ℕ} {s : State} → Move (term s) (number n) free s
  term_name : {w : List ℕ} {s : State} → Move (term s) (name w) free (summed s)
  sum_plus : {s : State} → Move (summed s) plus free (expects some_number s)
  sum_minus : {s : State} → Move (summed s) minus free (expects some_number s)
  no_sum : {t : Tok} {n : Need} {s u : State} → NoSum t → Move s t n u → Move (summed s) t n u
  no_terms : {s : State} → Move (terms s) closing free s
  first_number : {n : ℕ} {s : State} → Move (terms s) (number n) free (more_terms s)
  first_term : {w : List ℕ} {s : State} → Move (terms s) (name w) free (summed (more_terms s))
  terms_end : {s : State} → Move (more_terms s) closing free s
  next_term : {s : State} → Move (more_terms s) comma free (term (more_terms s))
  -- units
  unit_number :
      {d n : ℕ} {l : Level} {o : Open}
      → Move (a_unit d l o) (number n) free (compared_with l o)
  unit_name :
      {d : ℕ} {w : List ℕ} {l : Level} {o : Open}
      → Move (a_unit d l o) (name w) free (named l o)
  unit_not :
      {d : ℕ} {l : Level} {o : Open}
      → Move (a_unit d l o) not (level d) (a_unit (d - 1) l o)
  unit_pick :
      {d : ℕ} {l : Level} {o : Open}
      → Move (a_unit d l o) pick (level d) (expects some_name (a_unit (d - 1) l o))
  unit_bracket :
      {d : ℕ} {l : Level} {o : Open}
      → Move (a_unit d l o) opening (level d) (a_unit (d - 1) any (inner (d - 1) l o))
  unit_call : {l : Level} {o : Open} → Move (named l o) opening free (terms (more l o))
  unit_compares :
      {t : Tok} {n : Need} {l : Level} {o : Open} {u : State}
      → Move (summed (compared_with l o)) t n u
      → Move (named l o) t n u
  -- formulas
  next_join : {j : Join} {l : Level} {o : Open} → Move (more l o) (join j) (like l j) (after_join j o)
  bracket_end : {d : ℕ} {l k : Level} {o : Open} → Move (more l (inner d k o)) closing free (more k o)
  rule_end : {l : Level} → Move (more l (whole of_rule)) semicolon free rules
  mark_end : {l : Level} → Move (more l (whole of_mark)) semicolon free ended
  join_number : {n : ℕ} {j : Join} {o : Open} → Move (after_join j o) (number n) free (numbered j o)
  join_name : {w : List ℕ} {j : Join} {o : Open} → Move (after_join j o) (name w) free (named (only j) o)
  join_opens :
      {t : Tok} {d : ℕ} {j : Join} {o : Open} {u : State}
      → Move (a_unit (allowance o) (only j) o) t (level d) u
      → Move (after_join j o) t (level d) u
  weight_colon :
      {j : Join} {o : Open}
      → Move (numbered j o) colon free (expects some_number (a_unit (allowance o) (only j) o))
  weight_none : {c : Comparison} {j : Join} {o : Open} → Move (numbered j o) (sign c) free (term (more (only j) o))

-- something is still to come
abbrev pub Unfinished : State → Type 0
Unfinished (expects k s) = Unit {0}
Unfinished fields = Unit {0}
Unfinished rules = Unit {0}
Unfinished ended = ⊥
Unfinished (names s) = Unit {0}
Unfinished (more_names s) = Unit {0}
Unfinished (term s) = Unit {0}
Unfinished (summed s) = Unit {0}
Unfinished (terms s) = Unit {0}
Unfinished (more_terms s) = Unit {0}
Unfinished (a_unit d l o) = Unit {0}
Unfinished (named l o) = Unit {0}
Unfinished (more l o) = Unit {0}
Unfinished (after_join j o) = Unit {0}
Unfinished (numbered j o) = Unit {0}

-- Halts s xs n r: from the state s the tokens xs are taken up to r, where they cannot go on, by the number n
pub data Halts : State → Tokens → ℕ → Tokens → Type 0 where
  goes_on :
      {s u : State} {t : Tok} {n : Need} {p k : ℕ} {xs r : Tokens}
      → Move s t n u
      → Allowed strict n
      → Halts u xs k r
      → Halts s (at t p ∷ xs) k r
  halts_token :
      {s : State} {t : Tok} {p : ℕ} {xs : Tokens}
      → ((n : Need) (u : State) → Move s t n u → ⊥)
      → Halts s (at t p ∷ xs) 4 (at t p ∷ xs)
  halts_deep :
      {s u : State} {t : Tok} {p d : ℕ} {xs : Tokens}
      → Move s t (level d) u
      → d ≡ 0
      → Halts s (at t p ∷ xs) 5 (at t p ∷ xs)
  halts_mixed :
      {s u : State} {t : Tok} {p : ℕ} {xs : Tokens} {l : Level} {j : Join}
      → Move s t (like l j) u
      → (Fits strict l j → ⊥)
      → Halts s (at t p ∷ xs) 6 (at t p ∷ xs)
  halts_end : {s : State} → Unfinished s → Halts s [] 4 []

-- where the tokens begin, in a text of that many bytes
abbrev pub place_of : ℕ → Tokens → ℕ
place_of size [] = size
place_of size (at t p ∷ xs) = p
