-- A sheet has a first fault, or none.
use Rattle.std.proofs.Common.{◌≡◌, ℕ, ◌+◌, ◌<◌, ◌≤◌, ◌⊎◌, List, [], ◌∷◌, ◌++◌, map, length, take, sym, refl, subst, inl, inr, ⊎_elim}
use Rattle.formula.specs.Trees as tree
use Rattle.grammar.specs.Syntax.{Word, num, Formula, Field, field_line, Rule, rule_line, Mark, mark_line, Sheet, sheet}
use Rattle.grammar.specs.Tables.{place_of, size, joins, Over, many_params, many_joins, many_formulas}
use Rattle.names.specs.Lists.{Stands}
use Rattle.names.specs.Names.{spelling, Means, a_field, a_param, Calls, the_rule}
use Rattle.names.specs.Faults.{Use, term, call, weight, uses, UseFault, unknown_name, unknown_rule, wrong_terms, zero_weight, FormulaFault, field_name, rule_name, all_names, Taken, sizes, FieldFault, field_taken, wrong_range, many_fields, RuleFault, rule_taken, param_taken, rule_formula, many_rules, rule_passes, MarkFault, mark_formula, mark_passes, Faulty, in_field, in_rule, in_mark}
use Rattle.names.proofs.Search.{Among, Dec, Search, same_number, same_word, both, below, upto, negate, search_dec, search_iff, search_or, search_among, search_in, find, stands_in, in_stands}

pub move : (F : ℕ → ℕ → Type 0) {m q n p : ℕ} → n ≡ m → p ≡ q → F m q → F n p
move F {m} {q} {n} {p} e f x = subst (λ k. F k p) (sym e) (subst (λ k. F m k) (sym f) x)

-- Names

FieldNamed : Word → ℕ → Field → Type 0
FieldNamed w i f = spelling (field_name f) ≡ spelling w

found_field :
    {fs : List Field} {ps : List Word} {w : Word} {i : ℕ} (f : Field)
    → Stands Field fs i f → FieldNamed w i f → (x : tree.Name) × Means fs ps w x
unfolding FieldNamed
found_field (field_line p v low high) st e = (tree.field _, a_field st e)

-- a name is known, or not
pub known : (fs : List Field) (ps : List Word) (w : Word) → Dec ((x : tree.Name) × Means fs ps w x)
unfolding FieldNamed
known fs ps w =
    ⊎_elim
    (λ h. inl (found_field h.1 h.2 h.3))
    (λ h. ⊎_elim
    (λ k. inl (tree.param k.0, a_param k.2 k.3))
    (λ k. inr (λ m. no m.0 m.1 h k))
    (find ps (λ i v. spelling v ≡ spelling w) (λ i v. same_word (spelling v) (spelling w))))
    (find fs (FieldNamed w) (λ i f. same_word (spelling (field_name f)) (spelling w)))
  where
    no :
        (x : tree.Name) → Means fs ps w x
        → (((i : ℕ) × (f : Field) × Stands Field fs i f × FieldNamed w i f) → ⊥)
        → (((i : ℕ) × (v : Word) × Stands Word ps i v × (spelling v ≡ spelling w)) → ⊥)
        → ⊥
    no _ (a_field st e) h k = h (_, _, st, e)
    no _ (a_param st e) h k = k (_, _, st, e)

RuleNamed : Word → ℕ → Rule → Type 0
RuleNamed w i r = spelling (rule_name r) ≡ spelling w

found_rule :
    {rs : List Rule} {w : Word} {k : ℕ} (r : Rule)
    → Stands Rule rs k r → RuleNamed w k r → (j : ℕ) × (qs : List Word) × Calls rs w j qs
unfolding RuleNamed
found_rule (rule_line p v qs f) st e = (_, qs, the_rule st e)

-- a rule of that name may be called, or none
pub callable : (rs : List Rule) (w : Word) → Dec ((k : ℕ) × (qs : List Word) × Calls rs w k qs)
unfolding RuleNamed
callable rs w =
    ⊎_elim (λ h. inl (found_rule h.1 h.2 h.3)) (λ h. inr (λ m. no m.0 m.1 m.2 h))
    (find rs (RuleNamed w) (λ i r. same_word (spelling (rule_name r)) (spelling w)))
  where
    no :
        (k : ℕ) (qs : List Word) → Calls rs w k qs
        → (((i : ℕ) × (r : Rule) × Stands Rule rs i r × RuleNamed w i r) → ⊥) → ⊥
    no k qs (the_rule st e) h = h (_, _, st, e)

taken_dec : (names : List Word) (w : Word) → Dec (Taken names w)
taken_dec names w =
    ⊎_elim (λ h. inl (h.1, stands_in h.2, h.3))
    (λ h. inr (λ t. let st = in_stands t.1 in h (st.0, t.0, st.1, t.2)))
    (find names (λ i v. spelling v ≡ spelling w) (λ i v. same_word (spelling v) (spelling w)))

over_dec : (above : ℕ) (ps : List Word) (f : Formula) → Dec (Over above ps f)
over_dec above ps f =
    ⊎_elim (λ h. inl (many_params h))
    (λ h. ⊎_elim (λ k. inl (many_joins k))
    (λ k. ⊎_elim (λ m. inl (many_formulas m)) (λ m. inr (none h k m)) (below 256 (above + size f)))
    (below 16 (joins f)))
    (below 4 (length ps))
  where
    none : (4 < length ps → ⊥) → (16 < joins f → ⊥) → (256 < above + size f → ⊥) → Over above ps f → ⊥
    none a b c (many_params h) = a h
    none a b c (many_joins h) = b h
    none a b c (many_formulas h) = c h

-- Uses

module _ (fs : List Field) (rs : List Rule) (ps : List Word) where
  abbrev TermsAt : Word → ℕ → ℕ → Rule → ℕ → ℕ → Type 0
  TermsAt w k i (rule_line q v qs f) n p = ((spelling v ≡ spelling w) × (length qs ≡ k → ⊥)) × (n ≡ 9) × (p ≡ place_of w)

  abbrev CallAt : Word → ℕ → ℕ → ℕ → Type 0
  CallAt w k n p =
      ((((j : ℕ) × (qs : List Word) × Calls rs w j qs) → ⊥) × (n ≡ 8) × (p ≡ place_of w)) ⊎ Among Rule rs (TermsAt w k) n p

  terms_to : {w : Word} {k i : ℕ} (r : Rule) (n p : ℕ) → Stands Rule rs i r → TermsAt w k i r n p → UseFault fs rs ps (call w k) n p
  terms_to {w} {k} (rule_line q v qs f) n p st t =
      move (UseFault fs rs ps (call w k)) t.1 t.2 (wrong_terms (the_rule st t.0.0) t.0.1)

  call_to : (w : Word) (k n p : ℕ) → CallAt w k n p → UseFault fs rs ps (call w k) n p
  call_to w k n p t =
      ⊎_elim
      (λ x. move (UseFault fs rs ps (call w k)) x.1 x.2 (unknown_rule (λ j qs c. x.0 (j, qs, c))))
      (λ x. terms_to x.1 n p x.2 x.3) t

  calls_terms : {w : Word} {k j : ℕ} {qs : List Word} → Calls rs w j qs → (length qs ≡ k → ⊥) → Among Rule rs (TermsAt w k) 9 (place_of w)
  calls_terms (the_rule st e) h = (_, _, st, ((e, h), refl, refl))

  call_from : (w : Word) (k n p : ℕ) → UseFault fs rs ps (call w k) n p → CallAt w k n p
  call_from w k n p (unknown_rule h) = inl (λ x. h x.0 x.1 x.2, refl, refl)
  call_from w k n p (wrong_terms c h) = inr (calls_terms c h)

  term_from :
      (w : Word) (n p : ℕ) → UseFault fs rs ps (term w) n p
      → (((x : tree.Name) × Means fs ps w x) → ⊥) × (n ≡ 8) × (p ≡ place_of w)
  term_from w n p (unknown_name h) = (λ x. h x.0 x.1, refl, refl)

  weight_to : (v q n p : ℕ) → (v ≡ 0) × (n ≡ 10) × (p ≡ q) → UseFault fs rs ps (weight (num v q)) n p
  weight_to v q n p t =
      subst (λ z. UseFault fs rs ps (weight (num z q)) n p) (sym t.0)
      (move (UseFault fs rs ps (weight (num 0 q))) t.1 t.2 zero_weight)

  pub weight_from : (v q n p : ℕ) → UseFault fs rs ps (weight (num v q)) n p → (v ≡ 0) × (n ≡ 10) × (p ≡ q)
  weight_from v q n p zero_weight = (refl, refl, refl)

  search_terms : (w : Word) (k i : ℕ) (r : Rule) → Search (TermsAt w k i r)
  search_terms w k i (rule_line q v qs f) =
      search_dec (both (same_word (spelling v) (spelling w)) (negate (same_number (length qs) k))) 9 (place_of w)

  search_use : (u : Use) → Search (UseFault fs rs ps u)
  search_use (term w) =
      search_iff (λ n p t. move (UseFault fs rs ps (term w)) t.1 t.2 (unknown_name (λ x m. t.0 (x, m)))) (term_from w)
      (search_dec (negate (known fs ps w)) 8 (place_of w))
  search_use (call w k) =
      search_iff (call_to w k) (call_from w k)
      (search_or (search_dec (negate (callable rs w)) 8 (place_of w)) (search_among rs (TermsAt w k) (search_terms w k)))
  search_use (weight (num v q)) = search_iff (weight_to v q) (weight_from v q) (search_dec (same_number v 0) 10 q)

  pub search_formula : (f : Formula) → Search (FormulaFault fs rs ps f)
  search_formula f = search_in (uses f) (UseFault fs rs ps) search_use

-- Lines

abbrev FieldAt : List Field → Field → ℕ → ℕ → Type 0
FieldAt above (field_line q w (num low a) (num high b)) n p =
    (Taken (map field_name above) w × (n ≡ 7) × (p ≡ place_of w))
    ⊎ (((high < low) × (n ≡ 10) × (p ≡ a)) ⊎ ((8 ≤ length above) × (n ≡ 11) × (p ≡ q)))

field_to : (above : List Field) (f : Field) (n p : ℕ) → FieldAt above f n p → FieldFault above f n p
field_to above (field_line q w (num low a) (num high b)) n p t =
    ⊎_elim (λ x. move (FieldFault above (field_line q w (num low a) (num high b))) x.1 x.2 (field_taken x.0))
    (λ y. ⊎_elim (λ x. move (FieldFault above (field_line q w (num low a) (num high b))) x.1 x.2 (wrong_range x.0))
    (λ x. move (FieldFault above (field_line q w (num low a) (num high b))) x.1 x.2 (many_fields x.0)) y) t

field_from : (above : List Field) (f : Field) (n p : ℕ) → FieldFault above f n p → FieldAt above f n p
field_from above (field_line q w (num low a) (num high b)) n p (field_taken h) = inl (h, refl, refl)
field_from above (field_line q w (num low a) (num high b)) n p (wrong_range h) = inr (inl (h, refl, refl))
field_from above (field_line q w (num low a) (num high b)) n p (many_fields h) = inr (inr (h, refl, refl))

search_field : (above : List Field) (f : Field) → Search (FieldFault above f)
search_field above (field_line q w (num low a) (num high b)) =
    search_iff (field_to above (field_line q w (num low a) (num high b))) (field_from above (field_line q w (num low a) (num high b)))
    (search_or (search_dec (taken_dec (map field_name above) w) 7 (place_of w))
    (search_or (search_dec (below high low) 10 a) (search_dec (upto 8 (length above)) 11 q)))

module _ (fs : List Field) (above : List Rule) where
  abbrev ParamAt : Word → List Word → ℕ → Word → ℕ → ℕ → Type 0
  ParamAt w ps i v n p =
      Taken (map field_name fs ++ (map rule_name above ++ (w ∷ take i ps))) v × (n ≡ 7) × (p ≡ place_of v)

  abbrev RuleAt : Rule → ℕ → ℕ → Type 0
  RuleAt (rule_line q w ps f) n p =
      (Taken (map field_name fs ++ all_names above) w × (n ≡ 7) × (p ≡ place_of w))
      ⊎ (Among Word ps (ParamAt w ps) n p
      ⊎ (FormulaFault fs (above ++ (rule_line q w ps f ∷ [])) ps f n p
      ⊎ (((16 ≤ length above) × (n ≡ 11) × (p ≡ q)) ⊎ (Over (sizes above) ps f × (n ≡ 11) × (p ≡ q)))))

  rule_to : (r : Rule) (n p : ℕ) → RuleAt r n p → RuleFault fs above r n p
  rule_to (rule_line q w ps f) n p t =
      ⊎_elim (λ x. move (RuleFault fs above (rule_line q w ps f)) x.1 x.2 (rule_taken x.0))
      (λ a. ⊎_elim (λ x. move (RuleFault fs above (rule_line q w ps f)) x.3.1 x.3.2 (param_taken x.2 x.3.0))
      (λ c. ⊎_elim (λ x. rule_formula x)
      (λ d. ⊎_elim (λ x. move (RuleFault fs above (rule_line q w ps f)) x.1 x.2 (many_rules x.0))
      (λ x. move (RuleFault fs above (rule_line q w ps f)) x.1 x.2 (rule_passes x.0)) d) c) a) t

  rule_from : (r : Rule) (n p : ℕ) → RuleFault fs above r n p → RuleAt r n p
  rule_from (rule_line q w ps f) n p (rule_taken h) = inl (h, refl, refl)
  rule_from (rule_line q w ps f) n p (param_taken st h) = inr (inl (_, _, st, (h, refl, refl)))
  rule_from (rule_line q w ps f) n p (rule_formula h) = inr (inr (inl h))
  rule_from (rule_line q w ps f) n p (many_rules h) = inr (inr (inr (inl (h, refl, refl))))
  rule_from (rule_line q w ps f) n p (rule_passes h) = inr (inr (inr (inr (h, refl, refl))))

  search_rule : (r : Rule) → Search (RuleFault fs above r)
  search_rule (rule_line q w ps f) =
      search_iff (rule_to (rule_line q w ps f)) (rule_from (rule_line q w ps f))
      (search_or (search_dec (taken_dec (map field_name fs ++ all_names above) w) 7 (place_of w))
      (search_or
      (search_among ps (ParamAt w ps)
      (λ i v. search_dec (taken_dec (map field_name fs ++ (map rule_name above ++ (w ∷ take i ps))) v) 7 (place_of v)))
      (search_or (search_formula fs (above ++ (rule_line q w ps f ∷ [])) ps f)
      (search_or (search_dec (upto 16 (length above)) 11 q) (search_dec (over_dec (sizes above) ps f) 11 q)))))

mark_to :
    (fs : List Field) (rs : List Rule) (q : ℕ) (f : Formula) (n p : ℕ)
    → FormulaFault fs rs [] f n p ⊎ (Over (sizes rs) [] f × (n ≡ 11) × (p ≡ q)) → MarkFault fs rs (mark_line q f) n p
mark_to fs rs q f n p t =
    ⊎_elim (λ x. mark_formula x) (λ x. move (MarkFault fs rs (mark_line q f)) x.1 x.2 (mark_passes x.0)) t

mark_from :
    (fs : List Field) (rs : List Rule) (q : ℕ) (f : Formula) (n p : ℕ)
    → MarkFault fs rs (mark_line q f) n p → FormulaFault fs rs [] f n p ⊎ (Over (sizes rs) [] f × (n ≡ 11) × (p ≡ q))
mark_from fs rs q f n p (mark_formula h) = inl h
mark_from fs rs q f n p (mark_passes h) = inr (h, refl, refl)

search_mark : (fs : List Field) (rs : List Rule) (m : Mark) → Search (MarkFault fs rs m)
search_mark fs rs (mark_line q f) =
    search_iff (mark_to fs rs q f) (mark_from fs rs q f)
    (search_or (search_formula fs rs [] f) (search_dec (over_dec (sizes rs) [] f) 11 q))

-- The sheet

abbrev SheetAt : List Field → List Rule → Mark → ℕ → ℕ → Type 0
SheetAt fs rs m n p =
    Among Field fs (λ i f. FieldFault (take i fs) f) n p
    ⊎ (Among Rule rs (λ i r. RuleFault fs (take i rs) r) n p ⊎ MarkFault fs rs m n p)

sheet_to : (fs : List Field) (rs : List Rule) (m : Mark) (n p : ℕ) → SheetAt fs rs m n p → Faulty (sheet fs rs m) n p
sheet_to fs rs m n p t =
    ⊎_elim (λ x. in_field x.2 x.3) (λ y. ⊎_elim (λ x. in_rule x.2 x.3) (λ x. in_mark x) y) t

sheet_from : (fs : List Field) (rs : List Rule) (m : Mark) (n p : ℕ) → Faulty (sheet fs rs m) n p → SheetAt fs rs m n p
sheet_from fs rs m n p (in_field st h) = inl (_, _, st, h)
sheet_from fs rs m n p (in_rule st h) = inr (inl (_, _, st, h))
sheet_from fs rs m n p (in_mark h) = inr (inr h)

-- a sheet has a first fault, or none
pub first_fault : (s : Sheet) → Search (Faulty s)
first_fault (sheet fs rs m) =
    search_iff (sheet_to fs rs m) (sheet_from fs rs m)
    (search_or (search_among fs (λ i f. FieldFault (take i fs) f) (λ i f. search_field (take i fs) f))
    (search_or (search_among rs (λ i r. RuleFault fs (take i rs) r) (λ i r. search_rule fs (take i rs) r)) (search_mark fs rs m)))
