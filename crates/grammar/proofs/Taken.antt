-- What the grammar reads is taken token by token.
use Rattle.std.proofs.Common.{◌≡◌, ℕ, ◌-◌, List, [], ◌∷◌, sym, refl, subst}
use Rattle.formula.specs.declared.Comparison.{Comparison}
use Rattle.formula.specs.declared.Join.{Join}
use Rattle.grammar.specs.Syntax.{Word, Term, Weights, Formula, Field, Rule, Mark, Sheet}
use Rattle.grammar.specs.Grammar.{Tok, sign, closing, semicolon, at, Tokens, Parted, last, next, Listed, none, some, IsName, a_name, IsTerm, a_constant, a_bare, a_sum, a_difference, IsWeights, no_weights, weights, Level, only, Limits, Kind, unit, formula, ReadsBy, a_comparison, a_call, a_not, a_pick, brackets, alone, a_join, IsField, a_field, RuleBy, a_rule, MarkBy, a_mark, Many, done, line, SheetBy, a_sheet}
use Rattle.grammar.specs.Moves.{some_name, is_name, is_number, is_sign, is_field, is_opening, is_semicolon, is_colon, of_rule, of_mark, Open, whole, inner, allowance, State, expects, fields, rules, names, more_names, term, summed, terms, more_terms, a_unit, more, after_join, numbered, start, compared_with, NoSum, asked, line_field, no_field, line_rule, line_mark, no_names, first_name, names_end, next_name, term_number, term_name, sum_plus, sum_minus, no_sum, no_terms, first_number, first_term, terms_end, next_term, unit_number, unit_name, unit_not, unit_pick, unit_bracket, unit_call, unit_compares, next_join, bracket_end, rule_end, mark_end, join_number, join_name, join_opens, weight_colon, weight_none}
use Rattle.grammar.proofs.Accepts.{Accepts, accepted, takes}

-- something follows, and no sum
abbrev Apart : Tokens → Type 0
Apart [] = ⊥
Apart (at t p ∷ xs) = NoSum t

-- the token ends a formula
data Ends : Tok → Type 0 where
  by_closing : Ends closing
  by_semicolon : Ends semicolon

ends_apart : {t : Tok} → Ends t → NoSum t
ends_apart by_closing = tt
ends_apart by_semicolon = tt

module _ {L : Limits} where
  fall : {s : State} {xs : Tokens} → Apart xs → Accepts L s xs → Accepts L (summed s) xs
  fall h accepted = absurd h
  fall h (takes m n a) = takes (no_sum h m) n a

  term_taken :
      {s : State} {xs r : Tokens} {t : Term}
      → IsTerm xs r t
      → Apart r
      → Accepts L s r
      → Accepts L (term s) xs
  term_taken a_constant h a = takes term_number tt a
  term_taken a_bare h a = takes term_name tt (fall h a)
  term_taken a_sum h a = takes term_name tt (takes sum_plus tt (takes (asked is_number) tt a))
  term_taken a_difference h a = takes term_name tt (takes sum_minus tt (takes (asked is_number) tt a))

  parted_taken :
      {s : State} {xs r : Tokens} {ts : List Term}
      → Parted Term IsTerm xs r ts
      → Accepts L s r
      → Accepts L (term (more_terms s)) xs
  parted_taken (last i) a = term_taken i tt (takes terms_end tt a)
  parted_taken (next i k) a = term_taken i tt (takes next_term tt (parted_taken k a))

  some_taken : {s : State} {xs : Tokens} → Accepts L (term (more_terms s)) xs → Accepts L (terms s) xs
  some_taken (takes term_number n a) = takes first_number tt a
  some_taken (takes term_name n a) = takes first_term tt a

  terms_taken :
      {s : State} {xs r : Tokens} {ts : List Term}
      → Listed Term IsTerm xs r ts
      → Accepts L s r
      → Accepts L (terms s) xs
  terms_taken none a = takes no_terms tt a
  terms_taken (some k) a = some_taken (parted_taken k a)

  rest_taken :
      {s : State} {xs r : Tokens} {ws : List Word}
      → Parted Word IsName xs r ws
      → Accepts L s r
      → Accepts L (expects some_name (more_names s)) xs
  rest_taken (last a_name) a = takes (asked is_name) tt (takes names_end tt a)
  rest_taken (next a_name k) a = takes (asked is_name) tt (takes next_name tt (rest_taken k a))

  name_taken :
      {s : State} {xs : Tokens}
      → Accepts L (expects some_name (more_names s)) xs
      → Accepts L (names s) xs
  name_taken (takes (asked is_name) n a) = takes first_name tt a

  names_taken :
      {s : State} {xs r : Tokens} {ws : List Word}
      → Listed Word IsName xs r ws
      → Accepts L s r
      → Accepts L (names s) xs
  names_taken none a = takes no_names tt a
  names_taken (some k) a = name_taken (rest_taken k a)

  compared_taken :
      {d p : ℕ} {l : Level} {o : Open} {c : Comparison} {xs ys : Tokens} {t : Term}
      → IsTerm xs (at (sign c) p ∷ ys) t
      → Accepts L (term (more l o)) ys
      → Accepts L (a_unit d l o) xs
  compared_taken a_constant a = takes unit_number tt (takes (asked is_sign) tt a)
  compared_taken a_bare a = takes unit_name tt (takes (unit_compares (no_sum tt (asked is_sign))) tt a)
  compared_taken a_sum a =
      takes unit_name tt (takes (unit_compares sum_plus) tt
      (takes (asked is_number) tt (takes (asked is_sign) tt a)))
  compared_taken a_difference a =
      takes unit_name tt (takes (unit_compares sum_minus) tt
      (takes (asked is_number) tt (takes (asked is_sign) tt a)))

  -- a unit after a join, without weights
  signed_taken :
      {j : Join} {o : Open} {xs : Tokens}
      → Accepts L (compared_with (only j) o) xs
      → Accepts L (numbered j o) xs
  signed_taken (takes (asked is_sign) n a) = takes weight_none tt a

  unit_taken :
      {j : Join} {o : Open} {xs : Tokens}
      → Accepts L (a_unit (allowance o) (only j) o) xs
      → Accepts L (after_join j o) xs
  unit_taken (takes unit_number n a) = takes join_number tt (signed_taken a)
  unit_taken (takes unit_name n a) = takes join_name tt a
  unit_taken (takes unit_not n a) = takes (join_opens unit_not) n a
  unit_taken (takes unit_pick n a) = takes (join_opens unit_pick) n a
  unit_taken (takes unit_bracket n a) = takes (join_opens unit_bracket) n a

  weights_taken :
      {j : Join} {o : Open} {xs ys : Tokens} {w : Weights}
      → IsWeights xs ys w
      → Accepts L (a_unit (allowance o) (only j) o) ys
      → Accepts L (after_join j o) xs
  weights_taken no_weights a = unit_taken a
  weights_taken weights a = takes join_number tt (takes weight_colon tt (takes (asked is_number) tt a))

  -- a formula ends alike at every level
  ends_alike :
      {t : Tok} {p : ℕ} {l k : Level} {o : Open} {xs : Tokens}
      → Ends t
      → Accepts L (more l o) (at t p ∷ xs)
      → Accepts L (more k o) (at t p ∷ xs)
  ends_alike by_closing (takes bracket_end n a) = takes bracket_end n a
  ends_alike by_semicolon (takes rule_end n a) = takes rule_end n a
  ends_alike by_semicolon (takes mark_end n a) = takes mark_end n a

-- a unit or a formula is taken, whatever it stands in
abbrev Taken : Limits → Kind → ℕ → Tokens → Tokens → Type 0
Taken L unit d xs r = (l : Level) (o : Open) → Apart r → Accepts L (more l o) r → Accepts L (a_unit d l o) xs
Taken L (formula l) d xs r =
    (o : Open) (t : Tok) (p : ℕ) (ys : Tokens)
    → r ≡ at t p ∷ ys
    → Ends t
    → allowance o ≡ d
    → Accepts L (more l o) (at t p ∷ ys)
    → Accepts L (a_unit d l o) xs

reads_taken :
    {L : Limits} {k : Kind} {d : ℕ} {xs r : Tokens} {f : Formula}
    → ReadsBy L k d xs r f
    → Taken L k d xs r
reads_taken (a_comparison t u) = λ l o h a. compared_taken t (term_taken u h a)
reads_taken (a_call ts) = λ l o h a. takes unit_name tt (takes unit_call tt (terms_taken ts a))
reads_taken (a_not n b) = λ l o h a. takes unit_not n (reads_taken b l o h a)
reads_taken (a_pick n b) = λ l o h a. takes unit_pick n (takes (asked is_name) tt (reads_taken b l o h a))
reads_taken (brackets {d} {q = q} {r = r} n b) =
    λ l o h a. takes unit_bracket n (reads_taken b (inner (d - 1) l o) closing q r refl by_closing refl
    (takes bracket_end tt a))
reads_taken {L} (alone {d} {l} {xs} b) = λ o t p ys e h z a.
    reads_taken b l o (subst Apart (sym e) (ends_apart h)) (subst (Accepts L (more l o)) (sym e) a)
reads_taken {L} (a_join {d} {l = l} {zs = zs} {j = j} b n w c) = λ o t p ys e h z a.
    reads_taken b l o tt (takes next_join n (weights_taken w
    (subst (λ m. Accepts L (a_unit m (only j) o) zs) (sym z) (reads_taken c o t p ys e h z (ends_alike h a)))))

module _ {L : Limits} where
  fields_taken :
      {xs r : Tokens} {fs : List Field}
      → Many Field IsField xs r fs
      → Accepts L fields r
      → Accepts L fields xs
  fields_taken done a = a
  fields_taken (line a_field m) a =
      takes line_field tt (takes (asked is_name) tt
      (takes (asked is_number) tt (takes (asked is_number) tt
      (takes (asked is_semicolon) tt (fields_taken m a)))))

  rules_taken :
      {xs r : Tokens} {rs : List Rule}
      → Many Rule (RuleBy L) xs r rs
      → Accepts L rules r
      → Accepts L rules xs
  rules_taken done a = a
  rules_taken (line (a_rule {e = e} {r = r} n f) m) a =
      takes line_rule tt (takes (asked is_name) tt
      (takes (asked is_opening) tt (names_taken n (takes (asked is_colon) tt
      (reads_taken f (whole of_rule) semicolon e r refl by_semicolon refl
      (takes rule_end tt (rules_taken m a)))))))

  no_fields : {xs : Tokens} → Accepts L rules xs → Accepts L fields xs
  no_fields (takes m n a) = takes (no_field m) n a

  mark_taken : {xs : Tokens} {m : Mark} → MarkBy L xs [] m → Accepts L rules xs
  mark_taken (a_mark {e =
      e} f) = takes line_mark tt (reads_taken f (whole of_mark) semicolon e [] refl by_semicolon refl
      (takes mark_end tt accepted))

  -- a sheet is taken to its end
  pub sheet_taken : {xs : Tokens} {s : Sheet} → SheetBy L xs s → Accepts L start xs
  sheet_taken (a_sheet a_field fs rs m) =
      takes (asked is_field) tt (takes (asked is_name) tt
      (takes (asked is_number) tt (takes (asked is_number) tt (takes (asked is_semicolon) tt
      (fields_taken fs (no_fields (rules_taken rs (mark_taken m))))))))
