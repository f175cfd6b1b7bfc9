-- What is settled of an entry, from what is settled of its parts.
use Rattle.std.proofs.Common.{◌≡◌, ℕ, ◌<◌, ◌≤◌, List, [], ◌∷◌, map, length, take, Option, Ok, Err, Result, MatchResult, sym, ◌∙◌, subst, arith}
use Rattle.std.proofs.lemmas.List.{take_all, length-take-le}
use Rattle.formula.specs.Trees as tree
use Rattle.formula.specs.declared.Comparison.{Comparison}
use Rattle.formula.specs.declared.Join.{Join}
use Rattle.refusal.specs.declared.Fault.{Fault}
use Rattle.refusal.specs.Table.{number}
use Rattle.grammar.specs.declared.few.Few.{Few}
use Rattle.grammar.specs.declared.table.Word.{Word as WordEntry}
use Rattle.grammar.specs.Tables.{TermEntry}
use Rattle.grammar.specs.declared.table.Weights.{Weights as WeightsEntry}
use Rattle.grammar.specs.declared.table.Node.TheVariants.{Compared, Called, Negated, Picked, Joined}
use Rattle.grammar.specs.Syntax.{Word, Term, Field, Rule}
use Rattle.grammar.specs.Tables.{word_of, term_of, Rising}
use Rattle.sheet.specs.declared.node.Name.{Name}
use Rattle.sheet.specs.Table.{SheetTerm}
use Rattle.sheet.specs.declared.node.Node.{Node}
use Rattle.sheet.specs.declared.node.Node.TheVariants.{Compare, Call, Not, Pick, Join as JoinNode}
use Rattle.sheet.specs.Table.{term_of as number_term}
use Rattle.names.specs.declared.scope.Scope.{Scope}
use Rattle.names.specs.Lists.{Each}
use Rattle.names.specs.Names.{TermIs}
use Rattle.names.specs.Faults.{term, call, term_uses, terms_uses, weight_uses, UseFault, First}
use Rattle.names.specs.Looking.{fields_seen, params_seen, Padded, use_place, UsesFault, Settles, Numbered, an_entry_compared, an_entry_called, an_entry_negated, an_entry_picked, an_entry_joined, numbered_compared, numbered_called, numbered_negated, numbered_picked, numbered_joined, NameSettled, CallSettled, TermSettled, TermsSettled, WeightsSettled, EntrySettled}
use Rattle.names.proofs.Numbering.{one_to, one_from, first_like, settles_mapped, no_uses}
use Rattle.names.proofs.Ordered.{first_left, first_right, none_both, uses_right}

module _ (s : Scope) where
  abbrev Fs : List Field
  Fs = fields_seen s

  abbrev Ps : List Word
  Ps = params_seen s

  -- Comparisons

  module _ (c : Comparison) (x y : TermEntry) where
    pub left_refused : (f : Fault) → TermSettled s x (Err f) → EntrySettled s (Compared c x y) (Err f)
    left_refused f h rs _ hs once (an_entry_compared {x = a} {y = b} e d) up =
        first_left (term_uses a) (term_uses b) up
        (subst (λ z. First (UsesFault Fs rs Ps (term_uses z)) (number f.refusal) f.place) e (h rs))

    pub right_refused :
        (u : SheetTerm) (f : Fault) → TermSettled s x (Ok u) → TermSettled s y (Err f)
        → EntrySettled s (Compared c x y) (Err f)
    right_refused u f g h rs _ hs once (an_entry_compared {x = a} {y = b} e d) up =
        first_right (term_uses a) (term_uses b)
        (subst (λ z. (m q : ℕ) → UsesFault Fs rs Ps (term_uses z) m q → ⊥) e (g rs).0)
        (subst (λ z. First (UsesFault Fs rs Ps (term_uses z)) (number f.refusal) f.place) d (h rs))

    pub compared_settled :
        (u v : SheetTerm) → TermSettled s x (Ok u) → TermSettled s y (Ok v)
        → EntrySettled s (Compared c x y) (Ok (Compare u c v))
    compared_settled u v g h rs _ hs once (an_entry_compared {x = a} {y = b} e d) up = (
      none_both (term_uses a) (term_uses b)
          (subst (λ z. (m q : ℕ) → UsesFault Fs rs Ps (term_uses z) m q → ⊥) e (g rs).0)
          (subst (λ z. (m q : ℕ) → UsesFault Fs rs Ps (term_uses z) m q → ⊥) d (h rs).0),
      numbered_compared (g rs).1 (h rs).1,
    )

  -- Calls

  module _ (w : WordEntry) (ts : Few TermEntry) where
    pub call_refused :
        (f : Fault) → CallSettled s w ts.count (Err f) → EntrySettled s (Called w ts) (Err f)
    call_refused f h rs _ hs once (an_entry_called {w = v} {xs = xs} ew en et) up =
        first_left (call v (length xs) ∷ []) (terms_uses xs) up
        (subst (λ k. First (UsesFault Fs rs Ps (call v k ∷ [])) (number f.refusal) f.place) en
        (subst (λ z. First (UsesFault Fs rs Ps (call z ts.count ∷ [])) (number f.refusal) f.place) ew
        (first_like one_to one_from (h Fs rs Ps hs once))))

    pub many_terms :
        (k : ℕ) (f : Fault) → CallSettled s w ts.count (Ok k) → 4 < ts.count → EntrySettled s (Called w ts) (Err f)
    many_terms k f h gt rs _ hs once is up = absurd (omega (arith, (h Fs rs Ps hs once).1.3))

    -- the terms that are kept are all terms
    all_kept : (xs : List Term) → ts.count ≤ 4 → ts.count ≡ length xs → map (term_of s.text.now) (take ts.count ts.items) ≡ take 4 xs → map (term_of s.text.now) (take ts.count ts.items) ≡ xs
    all_kept xs le en et = et ∙ take_all 4 xs (omega arith)

    call_faultless :
        {rs : List Rule} {v : Word} {m : ℕ}
        → word_of s.text.now w ≡ v → ts.count ≡ m → ((a q : ℕ) → UseFault Fs rs Ps (call (word_of s.text.now w) ts.count) a q → ⊥)
        → (a q : ℕ) → UsesFault Fs rs Ps (call v m ∷ []) a q → ⊥
    call_faultless {rs} {v} {m} ew en none =
        subst (λ k. (a q : ℕ) → UsesFault Fs rs Ps (call v k ∷ []) a q → ⊥) en
        (subst (λ z. (a q : ℕ) → UsesFault Fs rs Ps (call z ts.count ∷ []) a q → ⊥) ew (λ a q f. none a q (one_from a q f)))

    pub terms_refused :
        (k : ℕ) (f : Fault) → CallSettled s w ts.count (Ok k) → TermsSettled s (take ts.count ts.items) (Err f)
        → EntrySettled s (Called w ts) (Err f)
    terms_refused k f h g rs _ hs once (an_entry_called {w = v} {xs = xs} ew en et) up =
        let called = h Fs rs Ps hs once in
        let same = all_kept xs called.1.3 en et in
        first_right (call v (length xs) ∷ []) (terms_uses xs) (call_faultless ew en called.0)
        (subst (λ z. First (UsesFault Fs rs Ps (terms_uses z)) (number f.refusal) f.place) same
        (g rs (subst (λ z. Rising (map use_place (terms_uses z))) (sym same) (uses_right (call v (length xs) ∷ []) (terms_uses xs) up))))

    pub called_settled :
        (k : ℕ) (ys : List SheetTerm) → ts.count ≤ length ts.items → CallSettled s w ts.count (Ok k) → TermsSettled s (take ts.count ts.items) (Ok ys)
        → EntrySettled s (Called w ts) (Ok (Call k ts.count ys))
    called_settled k ys le h g rs _ hs once (an_entry_called {w = v} {xs = xs} ew en et) up =
        let called = h Fs rs Ps hs once in
        let same = all_kept xs called.1.3 en et in
        let terms = g rs (subst (λ z. Rising (map use_place (terms_uses z))) (sym same) (uses_right (call v (length xs) ∷ []) (terms_uses xs) up)) in
        let kept =
        subst (λ m. Each Term tree.Term (TermIs Fs Ps) (map (term_of s.text.now) (take ts.count ts.items)) (map number_term (take m ys)) × Padded m ys)
        (length-take-le ts.count ts.items le) terms.1 in (
          none_both (call v (length xs) ∷ []) (terms_uses xs) (call_faultless ew en called.0)
              (subst (λ z. (a q : ℕ) → UsesFault Fs rs Ps (terms_uses z) a q → ⊥) same terms.0),
          numbered_called called.1.1 called.1.2 kept.0 kept.1,
        )

  -- `not`, `pick` and joins

  pub negated_settled : (a : ℕ) → EntrySettled s (Negated a) (Ok (Not a))
  negated_settled a rs _ hs once an_entry_negated up = (no_uses, numbered_negated)

  module _ (w : WordEntry) (a : ℕ) where
    pub picked_mapped :
        (r : Result Name Fault) (q : Result Node Fault) → MatchResult r (λ b. q ≡ Ok (Pick b a)) (λ e. q ≡ Err e)
        → NameSettled s w r → EntrySettled s (Picked w a) q
    picked_mapped r q mapped h rs _ hs once (an_entry_picked e) up =
        subst (λ z. Settles (UsesFault Fs rs Ps (term z ∷ [])) (Numbered s.text.now Fs rs Ps (Picked w a)) q) e
        (settles_mapped _ _ _ _ (λ b. Pick b a) r q mapped one_to one_from (λ b x. numbered_picked x) (h rs))

  module _ (j : Join) (v : Option WeightsEntry) (a b : ℕ) where
    pub weights_refused : (f : Fault) → WeightsSettled v (Err f) → EntrySettled s (Joined j v a b) (Err f)
    weights_refused f h rs _ hs once (an_entry_joined e) up =
        subst (λ z. First (UsesFault Fs rs Ps (weight_uses z)) (number f.refusal) f.place) e
        (h Fs rs Ps (subst (λ z. Rising (map use_place (weight_uses z))) (sym e) up))

    pub joined_settled :
        (y : ℕ × ℕ) → WeightsSettled v (Ok y) → EntrySettled s (Joined j v a b) (Ok (JoinNode j y.0 y.1 a b))
    joined_settled y h rs _ hs once (an_entry_joined e) up =
        let g = h Fs rs Ps (subst (λ z. Rising (map use_place (weight_uses z))) (sym e) up) in
        (subst (λ z. (m q : ℕ) → UsesFault Fs rs Ps (weight_uses z) m q → ⊥) e g.0, numbered_joined g.1.0 g.1.1)
