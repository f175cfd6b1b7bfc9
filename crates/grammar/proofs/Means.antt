-- What is taken token by token is read by the grammar.
use Rattle.std.proofs.Common.{◌≡◌, ℕ, ◌-◌, List, [], ◌∷◌, refl, subst}
use Rattle.grammar.specs.Syntax.{Word, word, Term, Weights, absent, Formula, called, negated, Field, Rule, Mark, mark_line, Sheet}
use Rattle.grammar.specs.Grammar.{Tok, name, number, rule, opening, closing, semicolon, at, Tokens, Parted, last, next, Listed, none, some, IsName, a_name, IsTerm, a_constant, a_bare, a_sum, a_difference, IsWeights, no_weights, weights, Level, any, only, Limits, unit, formula, ReadsBy, a_comparison, a_call, a_not, a_pick, brackets, alone, a_join, IsField, a_field, RuleBy, a_rule, MarkBy, a_mark, Many, done, line, SheetBy, a_sheet}
use Rattle.grammar.specs.Moves.{Shape, Is, is_name, is_number, is_sign, is_field, is_opening, is_semicolon, is_colon, of_rule, of_mark, Open, whole, inner, allowance, State, expects, fields, rules, ended, names, more_names, term, summed, terms, more_terms, a_unit, named, more, after_join, numbered, start, rule_body, rule_rest, compared_with, Need, Allowed, Move, asked, line_field, no_field, line_rule, line_mark, no_names, first_name, names_end, next_name, term_number, term_name, sum_plus, sum_minus, no_sum, no_terms, first_number, first_term, terms_end, next_term, unit_number, unit_name, unit_not, unit_pick, unit_bracket, unit_call, unit_compares, next_join, bracket_end, rule_end, mark_end, join_number, join_name, join_opens, weight_colon, weight_none}
use Rattle.grammar.proofs.Accepts.{Accepts, accepted, takes}

-- a token of the kind, and then what P says
data Asked (k : Shape) (P : Tokens → Type 0) : Tokens → Type 0 where
  and_then : {t : Tok} {p : ℕ} {xs : Tokens} → Is k t → P xs → Asked k P (at t p ∷ xs)

-- an item, and then what P says
abbrev Then : (A : Type 0) → (Tokens → Tokens → A → Type 0) → (Tokens → Type 0) → Tokens → Type 0
Then A Item P xs = (r : Tokens) × (a : A) × Item xs r a × P r

-- rule lines if any, and the mark line
abbrev RulesLeft : Limits → Tokens → Type 0
RulesLeft L xs = Then (List Rule) (Many Rule (RuleBy L)) (λ r. (m : Mark) × MarkBy L r [] m) xs

-- field lines if any, rule lines if any, and the mark line
abbrev FieldsLeft : Limits → Tokens → Type 0
FieldsLeft L xs = Then (List Field) (Many Field IsField) (RulesLeft L) xs

-- the token that ends the innermost formula
abbrev end_of : Open → Tok
end_of (whole n) = semicolon
end_of (inner d l o) = closing

-- a formula at level l and the token that ends it, and then what P says
abbrev Ended : Limits → Level → Open → (Tokens → Type 0) → Tokens → Type 0
Ended L l o P xs =
    (p : ℕ) × (r : Tokens) × (f : Formula) × ReadsBy L (formula l) (allowance o) xs (at (end_of o) p ∷ r) f ×
    P r

-- xs stands after a unit: whatever unit stands before, there is such a formula
abbrev Follows : Limits → Level → Open → (Tokens → Type 0) → Tokens → Type 0
Follows L l o P xs = (zs : Tokens) (f : Formula) → ReadsBy L unit (allowance o) zs xs f → Ended L l o P zs

-- what stands after the innermost formula
abbrev After : Limits → Open → Tokens → Type 0
After L (whole of_rule) xs = RulesLeft L xs
After L (whole of_mark) xs = xs ≡ []
After L (inner d l o) xs = Follows L l o (After L o) xs

-- what a state says of the tokens to come
abbrev Means : Limits → State → Tokens → Type 0
Means L (expects k s) xs = Asked k (Means L s) xs
Means L fields xs = FieldsLeft L xs
Means L rules xs = RulesLeft L xs
Means L ended xs = xs ≡ []
Means L (names s) xs = Then (List Word) (Listed Word IsName) (Means L s) xs
Means L (more_names s) xs =
    (zs : Tokens) (w : Word) → IsName zs xs w → Then (List Word) (Parted Word IsName) (Means L s) zs
Means L (term s) xs = Then Term IsTerm (Means L s) xs
Means L (summed s) xs = (w : List ℕ) (p : ℕ) → Then Term IsTerm (Means L s) (at (name w) p ∷ xs)
Means L (terms s) xs = Then (List Term) (Listed Term IsTerm) (Means L s) xs
Means L (more_terms s) xs =
    (zs : Tokens) (t : Term) → IsTerm zs xs t → Then (List Term) (Parted Term IsTerm) (Means L s) zs
Means L (a_unit d l o) xs = Then Formula (ReadsBy L unit d) (Follows L l o (After L o)) xs
Means L (named l o) xs =
    (d : ℕ) (w : List ℕ) (p : ℕ) → Then Formula (ReadsBy L unit d) (Follows L l o (After L o))
    (at (name w) p ∷ xs)
Means L (more l o) xs = Follows L l o (After L o) xs
Means L (after_join j o) xs = Then Weights IsWeights (Ended L (only j) o (After L o)) xs
Means L (numbered j o) xs =
    (n p : ℕ) → Then Weights IsWeights (Ended L (only j) o (After L o)) (at (number n) p ∷ xs)

module _ (L : Limits) where
  -- a formula begins with a unit
  whole_of :
      (l : Level) (o : Open) (xs : Tokens)
      → Means L (a_unit (allowance o) l o) xs
      → Ended L l o (After L o) xs
  whole_of l o xs m = m.3 xs m.1 m.2

  comparison_of :
      (d : ℕ) (l : Level) (o : Open) {xs r : Tokens} {t : Term}
      → IsTerm xs r t
      → Means L (compared_with l o) r
      → Means L (a_unit d l o) xs
  comparison_of d l o t (and_then is_sign m) = (m.0, _, a_comparison t m.2, m.3)

  -- a rule line, and then what is left
  body_of :
      {w : List ℕ} {p q i : ℕ} {xs r : Tokens} {ps : List Word}
      → Listed Word IsName xs r ps
      → Means L rule_body r
      → RulesLeft L (at rule p ∷ at (name w) q ∷ at opening i ∷ xs)
  body_of n (and_then {xs = zs} is_colon m) =
      let v = whole_of any (whole of_rule) zs m in
      let u = v.4 in
      (u.0, _ ∷ u.1, line (a_rule n v.3) u.2, u.3)

  rule_of : (p : ℕ) (xs : Tokens) → Means L rule_rest xs → RulesLeft L (at rule p ∷ xs)
  rule_of p _ (and_then is_name (and_then is_opening m)) = body_of m.2 m.3

  -- the state before a move says so of the token and what follows it
  means_before :
      {s u : State} {t : Tok} {n : Need} (p : ℕ) (xs : Tokens)
      → Move s t n u
      → Allowed L n
      → Means L u xs
      → Means L s (at t p ∷ xs)
  means_before p xs (asked i) h m = and_then i m
  means_before p _ line_field h (and_then is_name
      (and_then is_number (and_then is_number (and_then is_semicolon m)))) =
      (m.0, _, line a_field m.2, m.3)
  means_before p xs (no_field k) h m = (_, [], done, means_before p xs k h m)
  means_before p xs line_rule h m = rule_of p xs m
  means_before p xs line_mark h m =
      let v = whole_of any (whole of_mark) xs m in
      let f = subst (λ z. ReadsBy L (formula any) 16 xs (at semicolon v.0 ∷ z) v.2) v.4 v.3 in
      (_, [], done, (mark_line p v.2, a_mark f))
  means_before p xs no_names h m = (xs, [], none, m)
  means_before p xs first_name h m = let v = m _ _ a_name in (v.0, v.1, some v.2, v.3)
  means_before p xs names_end h m = λ zs w i. (xs, w ∷ [], last i, m)
  means_before p _ next_name h (and_then is_name m) =
      λ zs w i. let v = m _ _ a_name in (v.0, w ∷ v.1, next i v.2, v.3)
  means_before p xs term_number h m = (xs, _, a_constant, m)
  means_before p xs term_name h m = m _ p
  means_before p _ sum_plus h (and_then is_number m) = λ w q. (_, _, a_sum, m)
  means_before p _ sum_minus h (and_then is_number m) = λ w q. (_, _, a_difference, m)
  means_before p xs (no_sum z k) h m = λ w q. (_, _, a_bare, means_before p xs k h m)
  means_before p xs no_terms h m = (xs, [], none, m)
  means_before p xs first_number h m = let v = m _ _ a_constant in (v.0, v.1, some v.2, v.3)
  means_before p xs first_term h m =
      let t = m _ p in let v = t.3 _ _ t.2 in (v.0, v.1, some v.2, v.3)
  means_before p xs terms_end h m = λ zs t i. (xs, t ∷ [], last i, m)
  means_before p xs next_term h m = λ zs t i. let v = m.3 _ _ m.2 in (v.0, t ∷ v.1, next i v.2, v.3)
  means_before p xs (unit_number {d} {l = l} {o = o}) h m = comparison_of d l o a_constant m
  means_before p xs (unit_name {d}) h m = m d _ p
  means_before p xs unit_not h m = (m.0, negated m.1, a_not h m.2, m.3)
  means_before p _ unit_pick h (and_then is_name m) = (m.0, _, a_pick h m.2, m.3)
  means_before p xs (unit_bracket {d} {l} {o}) h m =
      let v = whole_of any (inner (d - 1) l o) xs m in (v.1, v.2, brackets h v.3, v.4)
  means_before p xs unit_call h m = λ d w q. (m.0, called (word w q) m.1, a_call m.2, m.3)
  means_before p xs (unit_compares {l = l} {o = o} k) h m =
      λ d w q. let v = means_before p xs k h m w q in comparison_of d l o v.2 v.3
  means_before p xs next_join h m = λ zs f u. let v = m.3 in (v.0, v.1, _, a_join u h m.2 v.3, v.4)
  means_before p xs bracket_end h m = λ zs f u. (p, xs, f, alone u, m)
  means_before p xs rule_end h m = λ zs f u. (p, xs, f, alone u, m)
  means_before p xs mark_end h m = λ zs f u. (p, xs, f, alone u, m)
  means_before p xs join_number h m = m _ p
  means_before p xs (join_name {w} {j} {o}) h m = (_, absent, no_weights, whole_of (only j) o _ (m _ w p))
  means_before p xs (join_opens {j =
      j} {o = o} k) h m = (_, absent, no_weights, whole_of (only j) o _ (means_before p xs k h m))
  means_before p _ (weight_colon {j} {o}) h (and_then is_number m) =
      λ n q. (_, _, weights, whole_of (only j) o _ m)
  means_before p xs weight_none h m =
      λ n q. (_, absent, no_weights, m.3 _ _ (a_comparison a_constant m.2))

  means : {s : State} {xs : Tokens} → Accepts L s xs → Means L s xs
  means accepted = refl
  means (takes {p = p} {xs = xs} m h a) = means_before p xs m h (means a)

  -- what is taken to its end is a sheet
  sheet_from : (xs : Tokens) → Means L start xs → (s : Sheet) × SheetBy L xs s
  sheet_from _ (and_then is_field (and_then is_name
      (and_then is_number (and_then is_number (and_then is_semicolon m))))) =
      let v = m.3 in (_, a_sheet a_field m.2 v.2 v.3.1)

  pub sheet_of : (xs : Tokens) → Accepts L start xs → (s : Sheet) × SheetBy L xs s
  sheet_of xs a = sheet_from xs (means a)
