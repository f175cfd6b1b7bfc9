-- What is settled of a line, from its names and its entries.
use Rattle.std.proofs.Common.{◌≡◌, ℕ, ◌+◌, ◌<◌, ◌⊎◌, List, [], ◌∷◌, ◌++◌, map, length, take, Ok, Err, Result, sym, refl, subst, inl, inr, ⊎_elim, arith}
use Rattle.std.proofs.lemmas.List.{take_more}
use Rattle.refusal.specs.declared.Fault.{Fault}
use Rattle.grammar.specs.declared.table.Word.{Word as WordEntry}
use Rattle.grammar.specs.declared.table.FieldLine.{FieldLine}
use Rattle.grammar.specs.declared.table.RuleLine.{RuleLine}
use Rattle.grammar.specs.declared.table.MarkLine.{MarkLine}
use Rattle.grammar.specs.declared.table.Node.{Node as NodeEntry}
use Rattle.grammar.specs.Syntax.{Word, Formula, Field, Rule, rule_line, mark_line}
use Rattle.grammar.specs.Tables.{word_of, params_of, place_of, formula_places, Over, Rising}
use Rattle.sheet.specs.declared.node.Node.{Node}
use Rattle.names.specs.Lists.{In, this, that}
use Rattle.names.specs.Faults.{FormulaFault, RuleFault, rule_taken, param_taken, rule_formula, many_rules, rule_passes, MarkFault, mark_formula, mark_passes, sizes, First}
use Rattle.names.specs.Looking.{names_of, fields_in, Heads, NamesFault, NamesSettledWith, EntriesSettledWith, EntriesNumbered, RuleSettled, MarkSettled, Settles, Best, no_rule_line, rule_at}
use Rattle.names.proofs.Search.{stands_in}
use Rattle.names.proofs.Faults.{move}
use Rattle.names.proofs.Places.{in_map}
use Rattle.names.proofs.Once.{once_more}
use Rattle.names.proofs.Ordered.{rising_left, rising_right, rising_across}
use Rattle.names.proofs.Terms.{each_push}
use Rattle.names.proofs.Runs.{settles_like}
use Rattle.names.proofs.Parts.{part_at, are_parts, to_formula, of_formula, uses_are_places}
use Rattle.names.proofs.InOrder.{formula_fault_in}

module _ (fs : List Field) (above : List Rule) (p : ℕ) (w : Word) (ps : List Word) (f : Formula) where
  abbrev R : Rule
  R = rule_line p w ps f

  names_to : (n q : ℕ) → NamesFault fs above w ps n q → RuleFault fs above R n q
  names_to n q x =
      ⊎_elim (λ y. move (RuleFault fs above R) y.1 y.2 (rule_taken y.0))
      (λ y. move (RuleFault fs above R) y.3.1 y.3.2 (param_taken y.2 y.3.0)) x

  names_place : (n q : ℕ) → NamesFault fs above w ps n q → In ℕ (place_of w ∷ map place_of ps) q
  names_place n q x =
      ⊎_elim (λ y. subst (λ z. In ℕ (place_of w ∷ map place_of ps) z) (sym y.2) this)
      (λ y. subst (λ z. In ℕ (place_of w ∷ map place_of ps) z) (sym y.3.2) (that (in_map place_of (stands_in y.2)))) x

  module _ (few : length above < 16) (within : Over (sizes above) ps f → ⊥) where
    -- a fault of the line is one of its names, or one of its formula
    rule_from :
        (n q : ℕ) → RuleFault fs above R n q
        → NamesFault fs above w ps n q ⊎ FormulaFault fs (above ++ (R ∷ [])) ps f n q
    rule_from n q (rule_taken h) = inl (inl (h, refl, refl))
    rule_from n q (param_taken st h) = inl (inr (_, _, st, (h, refl, refl)))
    rule_from n q (rule_formula h) = inr h
    rule_from n q (many_rules h) = absurd (omega arith)
    rule_from n q (rule_passes h) = absurd (within h)

    pub names_first :
        {n q : ℕ} → Rising (p ∷ place_of w ∷ (map place_of ps ++ formula_places f))
        → First (NamesFault fs above w ps) n q → First (RuleFault fs above R) n q
    names_first {n} {q} up h =
        record {
          fault = names_to n q h.fault;
          least = λ m r x.
              ⊎_elim (h.least m r)
              (λ y. inl (rising_across (place_of w ∷ map place_of ps) up.1 (names_place n q h.fault) (formula_fault_in f y)))
              (rule_from m r x);
        }

    pub formula_settled :
        {P Q : Type 0} (r : Result (Unit {0}) Fault) → ((n q : ℕ) → NamesFault fs above w ps n q → ⊥) → (P → Q)
        → Settles (FormulaFault fs (above ++ (R ∷ [])) ps f) (λ _. P) r → Settles (RuleFault fs above R) (λ _. Q) r
    formula_settled r none also b =
        settles_like r (λ n q x. rule_formula x) (λ n q x. ⊎_elim (λ y. absurd (none n q y)) (λ y. y) (rule_from n q x)) also b

module _ (text : List ℕ) (ls : List FieldLine) (ks : List RuleLine) (raw : List NodeEntry) (l : ℕ) (nodes : List Node) where
  abbrev Fs : List Field
  Fs = fields_in text ls

  abbrev Line : RuleLine
  Line = rule_at ks l

  -- what is settled of the names that are read, as they are written
  names_written :
      (r : Result (Unit {0}) Fault) → NamesSettledWith text ls (take l ks) Line.name Line.params.items r
      → (above : List Rule) (w : Word) (ps : List Word) → Heads text (take l ks) above
      → word_of text Line.name ≡ w → params_of text Line ≡ ps → Rising (place_of w ∷ map place_of ps)
      → Best (NamesFault Fs above w ps) r
  names_written r h above w ps hs ew ep up =
      subst (λ z. Best (NamesFault Fs above z ps) r) ew
      (subst (λ z. Best (NamesFault Fs above (word_of text Line.name) z) r) ep
      (h above hs
      (subst (λ z. Rising (place_of z ∷ map place_of (names_of text Line.params.items))) (sym ew)
      (subst (λ z. Rising (place_of w ∷ map place_of z)) (sym ep) up))))

  -- the line that is read is that of number l
  module _ (line : RuleLine) (read : line ≡ Line) where
    pub rule_refused :
        (f : Fault) → NamesSettledWith text ls (take l ks) line.name line.params.items (Err f) → RuleSettled text ls ks raw l nodes (Err f)
    rule_refused f names above (rule_line p w ps g) hs once is up =
        let h = is.head in
        let names' = subst (λ z. NamesSettledWith text ls (take l ks) z.name z.params.items (Err f)) read names in
        names_first Fs above p w ps g is.few_rules is.within up
        (names_written (Err f) names' above w ps hs h.1 h.2 (rising_left (place_of w ∷ map place_of ps) (formula_places g) up.1))

    pub rule_settled :
        (u : Unit {0}) (r : Result (Unit {0}) Fault) → l < length ks
        → NamesSettledWith text ls (take l ks) line.name line.params.items (Ok u)
        → EntriesSettledWith text ls (take (l + 1) ks) line.params.items raw line.start (line.body + 1) nodes r
        → RuleSettled text ls ks raw l nodes r
    rule_settled u r len names entries above (rule_line p w ps g) hs once is up =
        let h = is.head in
        let names' = subst (λ z. NamesSettledWith text ls (take l ks) z.name z.params.items (Ok u)) read names in
        let none = names_written (Ok u) names' above w ps hs h.1 h.2 (rising_left (place_of w ∷ map place_of ps) (formula_places g) up.1) in
        let rs = above ++ (rule_line p w ps g ∷ []) in
        let heads : Heads text (take (l + 1) ks) rs =
        subst (λ z. Heads text z rs) (sym (take_more ks l no_rule_line len)) (each_push hs h) in
        let rising = subst Rising (sym (uses_are_places g)) (rising_right (place_of w ∷ map place_of ps) (formula_places g) up.1) in
        let d = is.entries in
        let entries' = subst (λ z. EntriesSettledWith text ls (take (l + 1) ks) z.params.items raw z.start (z.body + 1) nodes r) read entries in
        let settled = entries' rs (part_at text raw d) heads (once_more Fs above p w ps g once (λ h. none 7 _ (inl (h, refl, refl)))) (are_parts text raw d rising) in
        let Ps : List Word = names_of text Line.params.items in
        formula_settled Fs above p w ps g is.few_rules is.within r none (λ x. x)
        (subst (λ z. Settles (FormulaFault Fs rs z g) (λ _. EntriesNumbered text ls raw rs z nodes Line.start (Line.body + 1)) r) h.2
        (settles_like r (to_formula text raw d Fs rs Ps) (of_formula text raw d Fs rs Ps) (λ x. x) settled))

pub mark_settled :
    (text : List ℕ) (ls : List FieldLine) (ks : List RuleLine) (raw : List NodeEntry) (mark : MarkLine) (nodes : List Node)
    (r : Result (Unit {0}) Fault)
    → EntriesSettledWith text ls ks [] raw mark.start (mark.body + 1) nodes r → MarkSettled text ls ks raw mark nodes r
mark_settled text ls ks raw mark nodes r entries rs p f hs once d within up =
    let Ms = fields_in text ls in
    let rising = subst Rising (sym (uses_are_places f)) up in
    settles_like r
    (λ n q x. mark_formula (to_formula text raw d Ms rs [] n q x))
    (λ n q x. of_formula text raw d Ms rs [] n q (from n q x)) (λ x. x)
    (entries rs (part_at text raw d) hs once (are_parts text raw d rising))
  where
    from : (n q : ℕ) → MarkFault (fields_in text ls) rs (mark_line p f) n q → FormulaFault (fields_in text ls) rs [] f n q
    from n q (mark_formula h) = h
    from n q (mark_passes h) = absurd (within h)

-- what is settled of what equal lines say is the same
pub names_like :
    {text text' : List ℕ} {ls ls' : List FieldLine} {ks ks' : List RuleLine} {ws ws' : List WordEntry}
    (own : WordEntry) (r : Result (Unit {0}) Fault)
    → text ≡ text' → ls ≡ ls' → ks ≡ ks' → ws ≡ ws' → NamesSettledWith text ls ks own ws r → NamesSettledWith text' ls' ks' own ws' r
names_like {text} {text'} {ls} {ls'} {ks} {ks'} {ws} {ws'} own r a b c d h =
    subst (λ z. NamesSettledWith z ls' ks' own ws' r) a
    (subst (λ z. NamesSettledWith text z ks' own ws' r) b
    (subst (λ z. NamesSettledWith text ls z own ws' r) c (subst (λ z. NamesSettledWith text ls ks own z r) d h)))
