-- A sheet comes to one tree, or has a first fault.
use Rattle.std.proofs.Common.{◌≡◌, ℕ, ◌<◌, List, [], ◌∷◌, ◌++◌, map, length, take, sym, refl, ap, ◌∙◌, subst, inl, inr, ⊎_elim, append_assoc, arith}
use Rattle.std.proofs.str.Laws.{order}
use Rattle.std.proofs.lemmas.List.{take_at}
use Rattle.formula.specs.Trees as tree
use Rattle.grammar.specs.Syntax.{Word, Number, num, Term, constant, bare, raised, lowered, Formula, compared, called, negated, picked, joined, Field, field_line, Rule, rule_line, Mark, mark_line, Sheet, sheet}
use Rattle.names.specs.Lists.{Stands, In, this, that, Each, end, item}
use Rattle.names.specs.Names.{spelling, Means, a_field, a_param, Calls, the_rule, TermIs, constant_is, bare_is, raised_is, lowered_is, FormulaIs, compared_is, called_is, negated_is, picked_is, joined_is, FieldIs, field_is, RulesAre, no_rules, one_rule, Resolves, resolved}
use Rattle.names.specs.Faults.{Use, term, call, term_uses, terms_uses, weight_uses, uses, unknown_name, unknown_rule, FormulaFault, field_name, rule_name, field_taken, RuleFault, rule_taken, param_taken, rule_formula, mark_formula, Faulty, in_field, in_rule, in_mark, FirstFault, OneVerdict}
use Rattle.names.proofs.Search.{stands_in}
use Rattle.names.proofs.Faults.{known, callable, first_fault}
use Rattle.names.proofs.Places.{in_left, in_right, in_map, stands_take, stands_after, stands_upto, name_in}

-- Where a name stands for one thing, so does a formula
module _ (fs : List Field) (rs : List Rule) (ps : List Word)
    (means_once : (w : Word) (x y : tree.Name) → Means fs ps w x → Means fs ps w y → x ≡ y)
    (calls_once : (w : Word) (i j : ℕ) (qs us : List Word) → Calls rs w i qs → Calls rs w j us → i ≡ j) where
  term_once : {t : Term} {x y : tree.Term} → TermIs fs ps t x → TermIs fs ps t y → x ≡ y
  term_once constant_is constant_is = refl
  term_once (bare_is a) (bare_is b) = ap tree.bare (means_once _ _ _ a b)
  term_once (raised_is {n = n} a) (raised_is b) = ap (λ r. tree.moved r (tree.up n)) (means_once _ _ _ a b)
  term_once (lowered_is {n = n} a) (lowered_is b) = ap (λ r. tree.moved r (tree.down n)) (means_once _ _ _ a b)

  terms_once :
      {ts : List Term} {xs ys : List tree.Term}
      → Each Term tree.Term (TermIs fs ps) ts xs → Each Term tree.Term (TermIs fs ps) ts ys → xs ≡ ys
  terms_once end end = refl
  terms_once (item a b) (item c d) = let x = term_once a c in let y = terms_once b d in cc

  pub formula_once :
      {g : Formula} {x y : tree.Formula} → FormulaIs fs rs ps g x → FormulaIs fs rs ps g y → x ≡ y
  formula_once (compared_is a b) (compared_is c d) = let x = term_once a c in let y = term_once b d in cc
  formula_once (called_is a b) (called_is c d) = let x = calls_once _ _ _ _ _ a c in let y = terms_once b d in cc
  formula_once (negated_is a) (negated_is b) = ap tree.negate (formula_once a b)
  formula_once (picked_is a b) (picked_is c d) = let x = means_once _ _ _ a c in let y = formula_once b d in cc
  formula_once (joined_is a b) (joined_is c d) = let x = formula_once a c in let y = formula_once b d in cc

-- Where no formula is at fault, it comes to a tree
module _ (fs : List Field) (rs : List Rule) (ps : List Word) where
  abbrev Knows : List Use → Type 0
  Knows us = (w : Word) → In Use us (term w) → (x : tree.Name) × Means fs ps w x

  abbrev Finds : List Use → Type 0
  Finds us = (w : Word) (n : ℕ) → In Use us (call w n) → (k : ℕ) × (qs : List Word) × Calls rs w k qs

  term_is : (t : Term) → Knows (term_uses t) → (x : tree.Term) × TermIs fs ps t x
  term_is (constant n) h = (_, constant_is)
  term_is (bare w) h = (_, bare_is (h w this).1)
  term_is (raised w n) h = (_, raised_is (h w this).1)
  term_is (lowered w n) h = (_, lowered_is (h w this).1)

  terms_are : (ts : List Term) → Knows (terms_uses ts) → (xs : List tree.Term) × Each Term tree.Term (TermIs fs ps) ts xs
  terms_are [] h = (_, end)
  terms_are (t ∷ ts) h =
      let a = term_is t (λ w m. h w (in_left (terms_uses ts) m)) in
      let b = terms_are ts (λ w m. h w (in_right (term_uses t) m)) in
      (_, item a.1 b.1)

  formula_is : (f : Formula) → Knows (uses f) → Finds (uses f) → (x : tree.Formula) × FormulaIs fs rs ps f x
  formula_is (compared c t u) h k =
      let a = term_is t (λ w m. h w (in_left (term_uses u) m)) in
      let b = term_is u (λ w m. h w (in_right (term_uses t) m)) in
      (_, compared_is a.1 b.1)
  formula_is (called w ts) h k =
      let a = k w (length ts) this in
      let b = terms_are ts (λ v m. h v (that m)) in
      (_, called_is a.2 b.1)
  formula_is (negated f) h k = (_, negated_is (formula_is f h k).1)
  formula_is (picked w f) h k =
      (_, picked_is (h w this).1 (formula_is f (λ v m. h v (that m)) (λ v n m. k v n (that m))).1)
  formula_is (joined j w f g) h k =
      let a = formula_is f (λ v m. h v (in_left (weight_uses w ++ uses g) m)) (λ v n m. k v n (in_left (weight_uses w ++ uses g) m)) in
      let b = formula_is g (λ v m. h v (in_right (uses f) (in_right (weight_uses w) m))) (λ v n m. k v n (in_right (uses f) (in_right (weight_uses w) m))) in
      (_, joined_is a.1 b.1)

  pub comes_to :
      (f : Formula) → ((n p : ℕ) → FormulaFault fs rs ps f n p → ⊥) → (x : tree.Formula) × FormulaIs fs rs ps f x
  comes_to f none =
      formula_is f
      (λ w m. ⊎_elim (λ h. h) (λ h. absurd (none 8 _ (term w, m, unknown_name (λ r x. h (r, x))))) (known fs ps w))
      (λ w n m. ⊎_elim (λ h. h) (λ h. absurd (none 8 _ (call w n, m, unknown_rule (λ k qs x. h (k, qs, x))))) (callable rs w))

-- Where no name is taken twice, a name stands for one thing
module _ (fs : List Field) (all : List Rule) (m : Mark) (none : (n p : ℕ) → Faulty (sheet fs all m) n p → ⊥) where
  fields_apart :
      {i j p q : ℕ} {v w : Word} {a b c d : Number}
      → Stands Field fs i (field_line p v a b) → Stands Field fs j (field_line q w c d) → spelling v ≡ spelling w → i < j → ⊥
  fields_apart {j = j} s t e h = none 7 _ (in_field t (field_taken (_, in_map field_name (stands_in (stands_take j s h)), e)))

  field_once :
      {i j p q : ℕ} {v w : Word} {a b c d : Number}
      → Stands Field fs i (field_line p v a b) → Stands Field fs j (field_line q w c d) → spelling v ≡ spelling w → i ≡ j
  field_once {i} {j} s t e =
      ⊎_elim (λ h. absurd (fields_apart s t e h))
      (λ h. ⊎_elim (λ k. absurd (fields_apart t s (sym e) k)) (λ k. omega arith) (order j i)) (order i j)

  rules_apart :
      {i j p q : ℕ} {v w : Word} {qs us : List Word} {f g : Formula}
      → Stands Rule all i (rule_line p v qs f) → Stands Rule all j (rule_line q w us g) → spelling v ≡ spelling w → i < j → ⊥
  rules_apart {j = j} s t e h =
      none 7 _ (in_rule t (rule_taken (_, in_right (map field_name fs) (name_in (stands_take j s h)), e)))

  rule_once :
      {i j p q : ℕ} {v w : Word} {qs us : List Word} {f g : Formula}
      → Stands Rule all i (rule_line p v qs f) → Stands Rule all j (rule_line q w us g) → spelling v ≡ spelling w → i ≡ j
  rule_once {i} {j} s t e =
      ⊎_elim (λ h. absurd (rules_apart s t e h))
      (λ h. ⊎_elim (λ k. absurd (rules_apart t s (sym e) k)) (λ k. omega arith) (order j i)) (order i j)

  module _ {l p : ℕ} {w : Word} {ps : List Word} {f : Formula} (line : Stands Rule all l (rule_line p w ps f)) where
    params_apart : {i j : ℕ} {u v : Word} → Stands Word ps i u → Stands Word ps j v → spelling u ≡ spelling v → i < j → ⊥
    params_apart {j = j} s t e h =
        none 7 _ (in_rule line (param_taken t (_, in_right (map field_name fs) (in_right (map rule_name (take l all)) (that (stands_in (stands_take j s h)))), e)))

    field_param :
        {i j q : ℕ} {u v : Word} {a b : Number}
        → Stands Field fs i (field_line q u a b) → Stands Word ps j v → spelling u ≡ spelling v → ⊥
    field_param s t e =
        none 7 _ (in_rule line (param_taken t (_, in_left _ (in_map field_name (stands_in s)), e)))

    rule_means_once : (v : Word) (x y : tree.Name) → Means fs ps v x → Means fs ps v y → x ≡ y
    rule_means_once v _ _ (a_field s e) (a_field t d) = ap tree.field (field_once s t (e ∙ sym d))
    rule_means_once v _ _ (a_field s e) (a_param t d) = absurd (field_param s t (e ∙ sym d))
    rule_means_once v _ _ (a_param s e) (a_field t d) = absurd (field_param t s (d ∙ sym e))
    rule_means_once v _ _ (a_param {i} s e) (a_param {i = j} t d) =
        ⊎_elim (λ h. absurd (params_apart s t (e ∙ sym d) h))
        (λ h. ⊎_elim (λ k. absurd (params_apart t s (d ∙ sym e) k)) (λ k. ap tree.param (omega arith)) (order j i)) (order i j)

    rule_calls_once :
        (v : Word) (i j : ℕ) (qs us : List Word)
        → Calls (take l all ++ (rule_line p w ps f ∷ [])) v i qs → Calls (take l all ++ (rule_line p w ps f ∷ [])) v j us → i ≡ j
    rule_calls_once v i j qs us (the_rule s e) (the_rule t d) = rule_once (stands_upto line s) (stands_upto line t) (e ∙ sym d)

  mark_means_once : (v : Word) (x y : tree.Name) → Means fs [] v x → Means fs [] v y → x ≡ y
  mark_means_once v _ _ (a_field s e) (a_field t d) = ap tree.field (field_once s t (e ∙ sym d))
  mark_means_once v _ _ (a_field s e) (a_param t d) = elim t [ ]
  mark_means_once v _ _ (a_param s e) (a_field t d) = elim s [ ]
  mark_means_once v _ _ (a_param s e) (a_param t d) = elim s [ ]

  mark_calls_once : (v : Word) (i j : ℕ) (qs us : List Word) → Calls all v i qs → Calls all v j us → i ≡ j
  mark_calls_once v i j qs us (the_rule s e) (the_rule t d) = rule_once s t (e ∙ sym d)

  -- the line below the rules above
  line_below :
      (above : List Rule) (r : Rule) (qs : List Rule) → all ≡ above ++ (r ∷ qs) → Stands Rule all (length above) r
  line_below above r qs e = subst (λ z. Stands Rule z (length above) r) (sym e) (stands_after above qs)

  above_is : (above : List Rule) (r : Rule) (qs : List Rule) → all ≡ above ++ (r ∷ qs) → take (length above) all ≡ above
  above_is above r qs e = ap (take (length above)) e ∙ take_at above (r ∷ qs) (length above) refl

  next_is : (above : List Rule) (r : Rule) (qs : List Rule) → all ≡ above ++ (r ∷ qs) → all ≡ (above ++ (r ∷ [])) ++ qs
  next_is above r qs e = e ∙ sym (append_assoc above (r ∷ []) qs)

  rules_once :
      (above qs : List Rule) (xs ys : List tree.Rule)
      → all ≡ above ++ qs → RulesAre fs above qs xs → RulesAre fs above qs ys → xs ≡ ys
  rules_once above _ _ _ at no_rules no_rules = refl
  rules_once above _ _ _ at (one_rule {p = p} {w = w} {ps = ps} {f = f} {rs = qs} c b) (one_rule e d) =
      let line = line_below above (rule_line p w ps f) qs at in
      let Same : List Rule → Type 0 = λ z. (v : Word) (i j : ℕ) (qs us : List Word) → Calls (z ++ (rule_line p w ps f ∷ [])) v i qs → Calls (z ++ (rule_line p w ps f ∷ [])) v j us → i ≡ j in
      let x = formula_once fs (above ++ (rule_line p w ps f ∷ [])) ps (rule_means_once line)
      (subst Same (above_is above (rule_line p w ps f) qs at) (rule_calls_once line)) c e in
      let y = rules_once (above ++ (rule_line p w ps f ∷ [])) qs _ _ (next_is above (rule_line p w ps f) qs at) b d in
      cc

  rules_are : (above qs : List Rule) → all ≡ above ++ qs → (ys : List tree.Rule) × RulesAre fs above qs ys
  rules_are above [] at = (_, no_rules)
  rules_are above (rule_line p w ps f ∷ qs) at =
      let line = line_below above (rule_line p w ps f) qs at in
      let a = comes_to fs (above ++ (rule_line p w ps f ∷ [])) ps f
      (λ n q x. none n q (in_rule line (subst (λ z. RuleFault fs z (rule_line p w ps f) n q) (sym (above_is above (rule_line p w ps f) qs at)) (rule_formula x)))) in
      let b = rules_are (above ++ (rule_line p w ps f ∷ [])) qs (next_is above (rule_line p w ps f) qs at) in
      (_, one_rule a.1 b.1)

fields_once : {fs : List Field} {xs ys : List tree.Range} → Each Field tree.Range FieldIs fs xs → Each Field tree.Range FieldIs fs ys → xs ≡ ys
fields_once end end = refl
fields_once (item field_is b) (item field_is d) = let y = fields_once b d in cc

fields_are : (fs : List Field) → (xs : List tree.Range) × Each Field tree.Range FieldIs fs xs
fields_are [] = (_, end)
fields_are (field_line p w (num low q) (num high i) ∷ fs) = (_, item field_is (fields_are fs).1)

pub resolved_once :
    {s : Sheet} {v u : tree.Sheet} → ((n p : ℕ) → Faulty s n p → ⊥) → Resolves s v → Resolves s u → v ≡ u
resolved_once none (resolved {fs} {rs} {p} {f} a b c) (resolved d e g) =
    let x = fields_once a d in
    let y = rules_once fs rs (mark_line p f) none [] rs _ _ refl b e in
    let z = formula_once fs rs [] (mark_means_once fs rs (mark_line p f) none) (mark_calls_once fs rs (mark_line p f) none) c g in
    cc

resolves : (s : Sheet) → ((n p : ℕ) → Faulty s n p → ⊥) → (v : tree.Sheet) × Resolves s v
resolves (sheet fs rs (mark_line p f)) none =
    let x = fields_are fs in
    let y = rules_are fs rs (mark_line p f) none [] rs refl in
    let z = comes_to fs rs [] f (λ n q h. none n q (in_mark (mark_formula h))) in
    (_, resolved x.1 y.1 z.1)

first_once : (s : Sheet) (n p m q : ℕ) → FirstFault s n p → FirstFault s m q → (n ≡ m) × (p ≡ q)
first_once s n p m q a b =
    ⊎_elim
    (λ h. ⊎_elim (λ k. absurd (omega arith)) (λ k. absurd (omega arith)) (b.least n p a.fault))
    (λ h. ⊎_elim (λ k. absurd (omega arith)) (λ k. (omega arith, omega arith)) (b.least n p a.fault))
    (a.least m q b.fault)

pub one_verdict_lem : OneVerdict
one_verdict_lem s = (
  ⊎_elim (λ none. let v = resolves s none in inl (v.0, record { resolves = v.1; faultless = none })) (λ f. inr f) (first_fault s),
  λ v u a b. resolved_once a.faultless a.resolves b.resolves,
  first_once s,
  λ v n p a f. a.faultless n p f.fault,
)
