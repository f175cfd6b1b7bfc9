-- Lines in the order of the text: what stands in a line comes before what stands in a later one.
use Rattle.std.proofs.Common.{◌≡◌, ℕ, ◌<◌, List, [], ◌∷◌, ◌++◌, map, sym, refl, ap, ◌∙◌, subst, append_assoc, arith}
use Rattle.grammar.specs.Syntax.{Word, num, Formula, Field, field_line, Rule, rule_line, Mark, mark_line}
use Rattle.grammar.specs.Tables.{place_of, formula_places, fields_places, rules_places, Rising}
use Rattle.names.specs.Lists.{Stands, here, there, In, this, that}
use Rattle.names.specs.Faults.{uses, FormulaFault, FieldFault, field_taken, wrong_range, many_fields, RuleFault, rule_taken, param_taken, rule_formula, many_rules, rule_passes, MarkFault, mark_formula, mark_passes}
use Rattle.names.specs.Looking.{use_place}
use Rattle.names.proofs.Search.{stands_in}
use Rattle.names.proofs.Places.{in_left, in_right, in_map}
use Rattle.names.proofs.Ordered.{rising_left, rising_right, rising_across, in_map_use, fault_place}
use Rattle.names.proofs.Parts.{uses_are_places}

-- the places of some lines, one line after the other, and then others
abbrev pub flat : {A : Type 0} → (A → List ℕ) → List A → List ℕ → List ℕ
flat own [] zs = zs
flat own (x ∷ xs) zs = own x ++ flat own xs zs

module _ {A : Type 0} (own : A → List ℕ) (zs : List ℕ) where
  pub in_flat : (xs : List A) {i q : ℕ} {x : A} → Stands A xs i x → In ℕ (own x) q → In ℕ (flat own xs zs) q
  in_flat [] s m = elim s [ ]
  in_flat (x ∷ xs) here m = in_left (flat own xs zs) m
  in_flat (x ∷ xs) (there s) m = in_right (own x) (in_flat xs s m)

  pub in_end : (xs : List A) {q : ℕ} → In ℕ zs q → In ℕ (flat own xs zs) q
  in_end [] m = m
  in_end (x ∷ xs) m = in_right (own x) (in_end xs m)

  pub flat_own : (xs : List A) {i : ℕ} {x : A} → Rising (flat own xs zs) → Stands A xs i x → Rising (own x)
  flat_own [] up s = elim s [ ]
  flat_own (x ∷ xs) up here = rising_left (own x) (flat own xs zs) up
  flat_own (x ∷ xs) up (there s) = flat_own xs (rising_right (own x) (flat own xs zs) up) s

  pub flat_rest : (xs : List A) → Rising (flat own xs zs) → Rising zs
  flat_rest [] up = up
  flat_rest (x ∷ xs) up = flat_rest xs (rising_right (own x) (flat own xs zs) up)

  pub flat_order :
      (xs : List A) {i j p q : ℕ} {x y : A}
      → Rising (flat own xs zs) → Stands A xs i x → Stands A xs j y → i < j → In ℕ (own x) p → In ℕ (own y) q → p < q
  flat_order _ up here here lt m k = absurd (omega arith)
  flat_order (x ∷ xs) up here (there s) lt m k = rising_across (own x) up m (in_flat xs s k)
  flat_order _ up (there r) here lt m k = absurd (omega arith)
  flat_order (x ∷ xs) up (there r) (there s) lt m k =
      flat_order xs (rising_right (own x) (flat own xs zs) up) r s (omega arith) m k

  pub flat_end :
      (xs : List A) {i p q : ℕ} {x : A}
      → Rising (flat own xs zs) → Stands A xs i x → In ℕ (own x) p → In ℕ zs q → p < q
  flat_end [] up s m k = elim s [ ]
  flat_end (x ∷ xs) up here m k = rising_across (own x) up m (in_end xs k)
  flat_end (x ∷ xs) up (there s) m k = flat_end xs (rising_right (own x) (flat own xs zs) up) s m k

-- the places of a field line, of a rule line and of a mark line
abbrev pub field_own : Field → List ℕ
field_own (field_line p w (num low i) high) = p ∷ place_of w ∷ i ∷ []

abbrev pub rule_own : Rule → List ℕ
rule_own (rule_line p w ps f) = p ∷ place_of w ∷ (map place_of ps ++ formula_places f)

abbrev pub mark_own : Mark → List ℕ
mark_own (mark_line p f) = p ∷ formula_places f

pub fields_flat : (fs : List Field) (zs : List ℕ) → fields_places fs zs ≡ flat field_own fs zs
fields_flat [] zs = refl
fields_flat (field_line p w (num low i) high ∷ fs) zs = ap (λ z. p ∷ place_of w ∷ i ∷ z) (fields_flat fs zs)

pub rules_flat : (rs : List Rule) (zs : List ℕ) → rules_places rs zs ≡ flat rule_own rs zs
rules_flat [] zs = refl
rules_flat (rule_line p w ps f ∷ rs) zs =
    ap (λ z. p ∷ place_of w ∷ z)
    (ap (λ z. map place_of ps ++ (formula_places f ++ z)) (rules_flat rs zs)
    ∙ sym (append_assoc (map place_of ps) (formula_places f) (flat rule_own rs zs)))

-- a fault stands at a place of its line
pub field_fault_in : {above : List Field} {f : Field} {n q : ℕ} → FieldFault above f n q → In ℕ (field_own f) q
field_fault_in {f = field_line p w (num low i) high} (field_taken h) = that this
field_fault_in (wrong_range h) = that (that this)
field_fault_in {f = field_line p w (num low i) high} (many_fields h) = this

pub formula_fault_in : {fs : List Field} {rs : List Rule} {ps : List Word} (f : Formula) {n q : ℕ} → FormulaFault fs rs ps f n q → In ℕ (formula_places f) q
formula_fault_in f {n} {q} x =
    subst (λ z. In ℕ z q) (uses_are_places f)
    (subst (λ z. In ℕ (map use_place (uses f)) z) (sym (fault_place x.0 x.2)) (in_map_use x.1))

pub rule_fault_in : {fs : List Field} {above : List Rule} {r : Rule} {n q : ℕ} → RuleFault fs above r n q → In ℕ (rule_own r) q
rule_fault_in (rule_taken h) = that this
rule_fault_in (param_taken {f = f} st h) = that (that (in_left (formula_places f) (in_map place_of (stands_in st))))
rule_fault_in (rule_formula {ps = ps} {f = f} h) = that (that (in_right (map place_of ps) (formula_fault_in f h)))
rule_fault_in (many_rules h) = this
rule_fault_in (rule_passes h) = this

pub mark_fault_in : {fs : List Field} {rs : List Rule} {m : Mark} {n q : ℕ} → MarkFault fs rs m n q → In ℕ (mark_own m) q
mark_fault_in (mark_formula {f = f} h) = that (formula_fault_in f h)
mark_fault_in (mark_passes h) = this
