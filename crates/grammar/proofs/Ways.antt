-- From every state there is a way to the end, within the limits.
use Rattle.std.proofs.Common.{ℕ, [], ◌∷◌}
use Rattle.formula.specs.declared.Comparison.TheVariants.{Equal}
use Rattle.grammar.specs.Grammar.{Tok, at, Tokens, Level, only, Limits}
use Rattle.grammar.specs.Moves.{Shape, some_name, some_number, some_sign, field_word, opening_sign, closing_sign, semicolon_sign, colon_sign, is_name, is_number, is_sign, is_field, is_opening, is_closing, is_semicolon, is_colon, of_rule, of_mark, Open, whole, inner, State, expects, fields, rules, ended, names, more_names, term, summed, terms, more_terms, a_unit, named, more, after_join, numbered, free, Move, asked, no_field, line_mark, no_names, names_end, term_number, sum_plus, no_terms, terms_end, unit_number, unit_call, bracket_end, rule_end, mark_end, join_number, weight_none}
use Rattle.grammar.proofs.Accepts.{Accepts, accepted, takes}

-- tokens that are taken to the end
abbrev Way : Limits → State → Type 0
Way L s = (xs : Tokens) × Accepts L s xs

module _ (L : Limits) where
  -- one token, and then the way from the next state
  by : {s u : State} {t : Tok} → Move s t free u → Way L u → Way L s
  by {t = t} m w = (at t 0 ∷ w.0, takes m tt w.1)

  any_of : {s : State} (k : Shape) → Way L s → Way L (expects k s)
  any_of some_name w = by (asked (is_name {w = []})) w
  any_of some_number w = by (asked (is_number {n = 0})) w
  any_of some_sign w = by (asked (is_sign {c = Equal})) w
  any_of field_word w = by (asked is_field) w
  any_of opening_sign w = by (asked is_opening) w
  any_of closing_sign w = by (asked is_closing) w
  any_of semicolon_sign w = by (asked is_semicolon) w
  any_of colon_sign w = by (asked is_colon) w

  any_term : {s : State} → Way L s → Way L (term s)
  any_term w = by (term_number {n = 0}) w

  any_unit : {d : ℕ} {l : Level} {o : Open} → Way L (more l o) → Way L (a_unit d l o)
  any_unit w = by (unit_number {n = 0}) (any_of some_sign (any_term w))

  way_rules : Way L rules
  way_rules = by line_mark (any_unit (by mark_end ([], accepted)))

  way_more : (l : Level) (o : Open) → Way L (more l o)
  way_more l (whole of_rule) = by rule_end way_rules
  way_more l (whole of_mark) = by mark_end ([], accepted)
  way_more l (inner d k o) = by bracket_end (way_more k o)

  pub way : (s : State) → Way L s
  way (expects k s) = any_of k (way s)
  way fields = by (no_field line_mark) (any_unit (by mark_end ([], accepted)))
  way rules = way_rules
  way ended = ([], accepted)
  way (names s) = by no_names (way s)
  way (more_names s) = by names_end (way s)
  way (term s) = any_term (way s)
  way (summed s) = by sum_plus (any_of some_number (way s))
  way (terms s) = by no_terms (way s)
  way (more_terms s) = by terms_end (way s)
  way (a_unit d l o) = any_unit (way_more l o)
  way (named l o) = by unit_call (by no_terms (way_more l o))
  way (more l o) = way_more l o
  way (after_join j o) =
      by (join_number {n = 0}) (by (weight_none {c = Equal}) (any_term (way_more (only j) o)))
  way (numbered j o) = by (weight_none {c = Equal}) (any_term (way_more (only j) o))
