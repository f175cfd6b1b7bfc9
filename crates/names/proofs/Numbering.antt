-- What is settled of names, calls and terms.
use Rattle.std.proofs.Common.{◌≡◌, ℕ, ◌≤◌, List, [], ◌∷◌, map, length, Some, None, Ok, Err, Option, Result, MatchOption, MatchResult, sym, refl, ap, ◌∙◌, subst, inr, arith}
use Rattle.std.proofs.lemmas.List.{length-map}
use Rattle.std.specs.Option.{ok_or, option_or}
use Rattle.formula.specs.Trees as tree
use Rattle.formula.specs.declared.term.Shift.{Shift}
use Rattle.formula.specs.declared.term.Shift.TheVariants.{Up, Down}
use Rattle.formula.specs.declared.term.Term.TheVariants as entry
use Rattle.refusal.specs.declared.Fault.{Fault}
use Rattle.refusal.specs.declared.Refusal.TheVariants.{NameUnknown}
use Rattle.grammar.specs.declared.table.Word.{Word as WordEntry}
use Rattle.grammar.specs.declared.table.FieldLine.{FieldLine}
use Rattle.grammar.specs.declared.table.RuleLine.{RuleLine}
use Rattle.grammar.specs.Syntax.{Word, Field, Rule, rule_line}
use Rattle.grammar.specs.Tables.{word_of, TermEntry, term_of, field_of, params_of, place_of}
use Rattle.sheet.specs.declared.node.Name.{Name}
use Rattle.sheet.specs.Table.{SheetTerm, name_of as number_name, term_of as number_term}
use Rattle.sheet.specs.declared.node.Name.TheVariants.{Field as FieldName, Param}
use Rattle.names.specs.declared.scope.Scope.{Scope}
use Rattle.names.specs.Lists.{Stands, here, there, In, this, that, Each, end, item}
use Rattle.names.specs.Names.{spelling, Means, a_field, a_param, Calls, the_rule, TermIs, raised_is, lowered_is}
use Rattle.names.specs.Faults.{Use, term, call, term_uses, UseFault, unknown_name, unknown_rule, wrong_terms, First, NoLater}
use Rattle.names.specs.Looking.{Found, Alike, fields_seen, params_seen, IsHead, Heads, CallsOnce, UsesFault, Settles, NameSettled, CallSettled, TermSettled}
use Rattle.names.proofs.Places.{stands_once}

pub stands_map : {A B : Type 0} {xs : List A} {i : ℕ} {x : A} (g : A → B) → Stands A xs i x → Stands B (map g xs) i (g x)
stands_map g here = here
stands_map g (there s) = there (stands_map g s)

pub map_stands : {A B : Type 0} (g : A → B) (xs : List A) {i : ℕ} {y : B} → Stands B (map g xs) i y → (x : A) × Stands A xs i x × (g x ≡ y)
map_stands g [] s = elim s [ ]
map_stands g (x ∷ xs) here = (x, here, refl)
map_stands g (x ∷ xs) (there s) = let r = map_stands g xs s in (r.0, there r.1, r.2)

-- Names

no_unknown :
    {fs : List Field} {rs : List Rule} {ps : List Word} {w : Word} {x : tree.Name}
    → Means fs ps w x → (n p : ℕ) → UseFault fs rs ps (term w) n p → ⊥
no_unknown {x = x} m n p (unknown_name h) = h x m

only_unknown :
    {fs : List Field} {rs : List Rule} {ps : List Word} {w : Word} (n p : ℕ)
    → UseFault fs rs ps (term w) n p → NoLater 8 (place_of w) n p
only_unknown n p (unknown_name h) = inr (refl, omega arith)

module _ (s : Scope) (w : WordEntry) where
  field_settled :
      (i : ℕ) → ((f : FieldLine) × Stands FieldLine s.fields.now i f × Alike s.text.now f.name w)
      → NameSettled s w (Ok (FieldName i))
  field_settled i h rs =
      let m : Means (fields_seen s) (params_seen s) (word_of s.text.now w) (tree.field i) = a_field (stands_map (field_of s.text.now) h.1) h.2 in
      (no_unknown m, m)

  param_settled :
      (i : ℕ) → ((v : WordEntry) × Stands WordEntry s.params.now i v × Alike s.text.now v w)
      → NameSettled s w (Ok (Param i))
  param_settled i h rs =
      let m : Means (fields_seen s) (params_seen s) (word_of s.text.now w) (tree.param i) = a_param (stands_map (word_of s.text.now) h.1) h.2 in
      (no_unknown m, m)

  no_name :
      ((i : ℕ) (f : FieldLine) → Stands FieldLine s.fields.now i f → Alike s.text.now f.name w → ⊥)
      → ((i : ℕ) (v : WordEntry) → Stands WordEntry s.params.now i v → Alike s.text.now v w → ⊥)
      → (x : tree.Name) → Means (fields_seen s) (params_seen s) (word_of s.text.now w) x → ⊥
  no_name nf np _ (a_field {v = v} st e) =
      let t = map_stands (field_of s.text.now) s.fields.now st in
      let named : word_of s.text.now t.0.name ≡ v = let q = t.2 in cc in
      nf _ t.0 t.1 (ap spelling named ∙ e)
  no_name nf np _ (a_param st e) =
      let t = map_stands (word_of s.text.now) s.params.now st in
      np _ t.0 t.1 (ap spelling t.2 ∙ e)

  unknown_settled :
      ((i : ℕ) (f : FieldLine) → Stands FieldLine s.fields.now i f → Alike s.text.now f.name w → ⊥)
      → ((i : ℕ) (v : WordEntry) → Stands WordEntry s.params.now i v → Alike s.text.now v w → ⊥)
      → (rs : List Rule) → First (UseFault (fields_seen s) rs (params_seen s) (term (word_of s.text.now w))) 8 w.place
  unknown_settled nf np rs = record { fault = unknown_name (no_name nf np); least = only_unknown }

  -- the field of that name, or the parameter of that name, or the fault that it stands for nothing
  pub name_settled :
      (o p : Option ℕ) (x y : Option Name) (q : Result Name Fault)
      → Found (λ (f : FieldLine). Alike s.text.now f.name w) s.fields.now o → Found (λ (v : WordEntry). Alike s.text.now v w) s.params.now p
      → MatchOption o (x ≡ None) (λ i. x ≡ Some (FieldName i)) → MatchOption p (y ≡ None) (λ i. y ≡ Some (Param i))
      → q ≡ ok_or (option_or x y) (record { refusal = NameUnknown; place = w.place }) → NameSettled s w q
  name_settled (Some i) p x y q h k ex ey e = subst (NameSettled s w) (sym (rw ex at e)) (field_settled i h)
  name_settled None (Some i) x y q h k ex ey e =
      subst (NameSettled s w) (sym (rw (ex, ey) at e)) (param_settled i k)
  name_settled None None x y q h k ex ey e = subst (NameSettled s w) (sym (rw (ex, ey) at e)) (unknown_settled h k)

-- Calls

pub each_to : {A B : Type 0} {R : A → B → Type 0} {xs : List A} {ys : List B} {i : ℕ} {x : A} → Each A B R xs ys → Stands A xs i x → (y : B) × Stands B ys i y × R x y
each_to end s = elim s [ ]
each_to (item r e) here = (_, here, r)
each_to (item r e) (there s) = let h = each_to e s in (h.0, there h.1, h.2)

pub each_from : {A B : Type 0} {R : A → B → Type 0} {xs : List A} {ys : List B} {i : ℕ} {y : B} → Each A B R xs ys → Stands B ys i y → (x : A) × Stands A xs i x × R x y
each_from end s = elim s [ ]
each_from (item r e) here = (_, here, r)
each_from (item r e) (there s) = let h = each_from e s in (h.0, there h.1, h.2)

module _ (s : Scope) (w : WordEntry) (n : ℕ) where
  -- a line has as many parameters as its rule
  as_long : {qs : List Word} (l : RuleLine) → params_of s.text.now l ≡ qs → length l.params.items ≡ length qs
  as_long l e = sym (length-map l.params.items (word_of s.text.now)) ∙ ap length e

  -- a rule that may be called has a line of that name
  line_called :
      {rs : List Rule} {k : ℕ} {qs : List Word}
      → Heads s.text.now s.rules.now rs → Calls rs (word_of s.text.now w) k qs
      → (l : RuleLine) × Stands RuleLine s.rules.now k l × Alike s.text.now l.name w × (length l.params.items ≡ length qs)
  line_called hs (the_rule st e) =
      let h = each_from hs st in (h.0, h.1, ap spelling h.2.1 ∙ e, as_long h.0 h.2.2)

  -- a line of that name is a rule that may be called
  called_line :
      {rs : List Rule} (k : ℕ) (l : RuleLine)
      → Heads s.text.now s.rules.now rs → Stands RuleLine s.rules.now k l → Alike s.text.now l.name w
      → (qs : List Word) × Calls rs (word_of s.text.now w) k qs × (length l.params.items ≡ length qs) × (length qs ≤ 4)
  called_line k l hs st e = let h = each_to hs st in go h.0 h.1 h.2
    where
      go :
          {rs : List Rule} (r : Rule) → Stands Rule rs k r → IsHead s.text.now l r
          → (qs : List Word) × Calls rs (word_of s.text.now w) k qs × (length l.params.items ≡ length qs) × (length qs ≤ 4)
      go (rule_line p v qs f) at h = (qs, the_rule at (sym (ap spelling h.1) ∙ e), as_long l h.2, h.3)

  pub no_rule_settled :
      ((i : ℕ) (l : RuleLine) → Stands RuleLine s.rules.now i l → Alike s.text.now l.name w → ⊥)
      → (fs : List Field) (rs : List Rule) (ps : List Word) → Heads s.text.now s.rules.now rs → CallsOnce rs
      → First (UseFault fs rs ps (call (word_of s.text.now w) n)) 8 w.place
  no_rule_settled none fs rs ps hs once =
      record { fault = unknown_rule unknown; least = least }
    where
      unknown : (k : ℕ) (qs : List Word) → Calls rs (word_of s.text.now w) k qs → ⊥
      unknown k qs c = let h = line_called hs c in none k h.0 h.1 h.2

      least : (m q : ℕ) → UseFault fs rs ps (call (word_of s.text.now w) n) m q → NoLater 8 w.place m q
      least m q (unknown_rule h) = inr (refl, omega arith)
      least m q (wrong_terms c h) = inr (refl, omega arith)

  -- the rule line of number k has that name
  module _ (k : ℕ) (l : RuleLine) (stands : Stands RuleLine s.rules.now k l) (alike : Alike s.text.now l.name w) where
    pub wrong_terms_settled :
        (length l.params.items ≡ n → ⊥)
        → (fs : List Field) (rs : List Rule) (ps : List Word) → Heads s.text.now s.rules.now rs → CallsOnce rs
        → First (UseFault fs rs ps (call (word_of s.text.now w) n)) 9 w.place
    wrong_terms_settled other fs rs ps hs once =
        record { fault = wrong_terms called.1 (λ e. other (called.2 ∙ e)); least = least }
      where
        called : (qs : List Word) × Calls rs (word_of s.text.now w) k qs × (length l.params.items ≡ length qs) × (length qs ≤ 4)
        called = called_line k l hs stands alike

        least : (m q : ℕ) → UseFault fs rs ps (call (word_of s.text.now w) n) m q → NoLater 9 w.place m q
        least m q (unknown_rule h) = absurd (h k called.0 called.1)
        least m q (wrong_terms c h) = inr (refl, omega arith)

    pub call_settled : length l.params.items ≡ n → CallSettled s w n (Ok k)
    call_settled same fs rs ps hs once =
        (faultless, (called.0, called.1, sym called.2 ∙ same, omega (arith, called.2, called.3, same)))
      where
        called : (qs : List Word) × Calls rs (word_of s.text.now w) k qs × (length l.params.items ≡ length qs) × (length qs ≤ 4)
        called = called_line k l hs stands alike

        faultless : (m q : ℕ) → UseFault fs rs ps (call (word_of s.text.now w) n) m q → ⊥
        faultless m q (unknown_rule h) = h k called.0 called.1
        faultless m q (wrong_terms {k = i} {qs = us} c h) =
            let o = line_called hs c in
            let at : i ≡ k = once _ i k us called.0 c called.1 in
            let is : o.0 ≡ l = stands_once (subst (λ z. Stands RuleLine s.rules.now z o.0) at o.1) stands in
            h (sym o.3 ∙ (ap (λ z. length z.params.items) is ∙ same))

-- Terms

pub one_to :
    {fs : List Field} {rs : List Rule} {ps : List Word} {u : Use} (n p : ℕ)
    → UseFault fs rs ps u n p → UsesFault fs rs ps (u ∷ []) n p
one_to n p x = (_, this, x)

pub one_from :
    {fs : List Field} {rs : List Rule} {ps : List Word} {u : Use} (n p : ℕ)
    → UsesFault fs rs ps (u ∷ []) n p → UseFault fs rs ps u n p
one_from n p x = go x.1 x.2
  where
    go :
        {fs : List Field} {rs : List Rule} {ps : List Word} {u v : Use} {n p : ℕ}
        → In Use (u ∷ []) v → UseFault fs rs ps v n p → UseFault fs rs ps u n p
    go this f = f
    go (that m) f = elim m [ ]

pub first_like :
    {F G : ℕ → ℕ → Type 0} {n p : ℕ}
    → ((m q : ℕ) → F m q → G m q) → ((m q : ℕ) → G m q → F m q) → First F n p → First G n p
first_like to from f = record { fault = to _ _ f.fault; least = λ m q g. f.least m q (from m q g) }

-- what is settled of a value is settled of what `map` makes of it
pub settles_mapped :
    {A B : Type 0} (F G : ℕ → ℕ → Type 0) (P : A → Type 0) (Q : B → Type 0)
    (f : A → B) (r : Result A Fault) (q : Result B Fault) → MatchResult r (λ x. q ≡ Ok (f x)) (λ e. q ≡ Err e)
    → ((n p : ℕ) → F n p → G n p) → ((n p : ℕ) → G n p → F n p) → ((x : A) → P x → Q (f x))
    → Settles F P r → Settles G Q q
settles_mapped F G P Q f (Ok x) q m to from is h =
    subst (Settles G Q) (sym m) (λ n p g. h.0 n p (from n p g), is x h.1)
settles_mapped F G P Q f (Err e) q m to from is h = subst (Settles G Q) (sym m) (first_like to from h)

module _ (s : Scope) (w : WordEntry) where
  -- a term with that name comes to what its name comes to, in a term
  pub term_mapped :
      (x y : TermEntry) (f : Name → SheetTerm) → x ≡ y → term_uses (term_of s.text.now y) ≡ term (word_of s.text.now w) ∷ []
      → ((b : Name) → Means (fields_seen s) (params_seen s) (word_of s.text.now w) (number_name b)
      → TermIs (fields_seen s) (params_seen s) (term_of s.text.now y) (number_term (f b)))
      → (r : Result Name Fault) (q : Result SheetTerm Fault) → MatchResult r (λ b. q ≡ Ok (f b)) (λ e. q ≡ Err e)
      → NameSettled s w r → TermSettled s x q
  term_mapped x y f same e is r q mapped h rs =
      subst
      (λ z. Settles (UsesFault (fields_seen s) rs (params_seen s) (term_uses (term_of s.text.now z)))
      (λ v. TermIs (fields_seen s) (params_seen s) (term_of s.text.now z) (number_term v)) q)
      (sym same)
      (subst
      (λ us. Settles (UsesFault (fields_seen s) rs (params_seen s) us)
      (λ v. TermIs (fields_seen s) (params_seen s) (term_of s.text.now y) (number_term v)) q)
      (sym e) (settles_mapped _ _ _ _ f r q mapped one_to one_from is (h rs)))

  -- the same of a name under `+` or `-`
  pub moved_mapped :
      (x : TermEntry) (m : Shift) → x ≡ entry.Moved w m
      → (r : Result Name Fault) (q : Result SheetTerm Fault)
      → MatchResult r (λ b. q ≡ Ok (entry.Moved b m)) (λ e. q ≡ Err e)
      → NameSettled s w r → TermSettled s x q
  moved_mapped x (Up n) same =
      term_mapped x (entry.Moved w (Up n)) (λ b. entry.Moved b (Up n)) same refl (λ b m. raised_is m)
  moved_mapped x (Down n) same =
      term_mapped x (entry.Moved w (Down n)) (λ b. entry.Moved b (Down n)) same refl (λ b m. lowered_is m)

pub no_uses : {fs : List Field} {rs : List Rule} {ps : List Word} (n p : ℕ) → UsesFault fs rs ps [] n p → ⊥
no_uses n p x = let m = x.1 in elim m [ ]
