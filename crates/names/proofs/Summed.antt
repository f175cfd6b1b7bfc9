-- How many fields, rules and formulas the sheet has that a table comes to.
use Rattle.std.proofs.Common.{◌≡◌, ℕ, suc, ◌+◌, List, [], ◌∷◌, ◌++◌, length, sym, refl, ap, subst, ⊎_elim, arith}
use Rattle.std.proofs.lemmas.List.{take_at, length-map}
use Rattle.formula.specs.Trees as tree
use Rattle.grammar.specs.declared.table.Table.{Table}
use Rattle.grammar.specs.Syntax.{Word, Formula, Field, field_line, Rule, rule_line, Mark, Sheet, sheet}
use Rattle.grammar.specs.Tables.{field_of, size, Over, Holds, whole, over_field, over_rule, over_mark}
use Rattle.sheet.specs.Keeping as sheets
use Rattle.sheet.specs.Sheets.{sizes_of}
use Rattle.names.specs.declared.summary.Contents.{Contents}
use Rattle.names.specs.Lists.{Each, end, item}
use Rattle.names.specs.Names.{FormulaIs, compared_is, called_is, negated_is, picked_is, joined_is, FieldIs, RulesAre, one_rule, Resolves, resolved}
use Rattle.names.specs.Names as names
use Rattle.names.specs.Faults.{sizes, FieldFault, many_fields, RuleFault, many_rules, rule_passes, mark_passes, Faulty, in_field, in_rule, in_mark}
use Rattle.names.specs.Reading.{Counted}
use Rattle.names.specs.Layers.{HasContents}
use Rattle.names.proofs.Covered.{size_above}
use Rattle.names.proofs.Places.{stands_after}
use Rattle.names.proofs.Parts.{entries_size}
use Rattle.names.proofs.Loops.{rules_end, rules_long}

-- sizes of what names come to

formula_size :
    {fs : List Field} {rs : List Rule} {ps : List Word} {f : Formula} {x : tree.Formula}
    → FormulaIs fs rs ps f x
    → size f ≡ sheets.size x
formula_size (compared_is t u) = refl
formula_size (called_is k ts) = refl
formula_size (negated_is h) = ap (λ n. 1 + n) (formula_size h)
formula_size (picked_is w h) = ap (λ n. 1 + n) (formula_size h)
formula_size (joined_is h k) = omega (arith, formula_size h, formula_size k)

rules_are_size :
    {fs : List Field} {above rs : List Rule} {ys : List tree.Rule}
    → RulesAre fs above rs ys
    → (length rs ≡ length ys) × (sizes rs ≡ sizes_of ys)
rules_are_size names.no_rules = (refl, refl)
rules_are_size (one_rule h more) =
    let r = rules_are_size more in
    (ap suc r.0, omega (arith, formula_size h, r.1))

fields_are :
    {fs : List Field} {xs : List tree.Range}
    → Each Field tree.Range FieldIs fs xs
    → length fs ≡ length xs
fields_are end = refl
fields_are (item h more) = ap suc (fields_are more)

-- a line that passes a limit is a fault

field_over :
    (fs : List Field) (f : Field) (below : List Field) (rs : List Rule) (m : Mark) (n p : ℕ)
    → FieldFault fs f n p
    → Faulty (sheet (fs ++ f ∷ below) rs m) n p
field_over fs f below rs m n p h =
    in_field (stands_after fs below) (subst (λ l. FieldFault l f n p) (sym (take_at fs (f ∷ below) (length fs) refl)) h)

rule_over :
    (fs : List Field) (rs : List Rule) (r : Rule) (below : List Rule) (m : Mark) (n p : ℕ)
    → RuleFault fs rs r n p
    → Faulty (sheet fs (rs ++ r ∷ below) m) n p
rule_over fs rs r below m n p h =
    in_rule (stands_after rs below) (subst (λ l. RuleFault fs l r n p) (sym (take_at rs (r ∷ below) (length rs) refl)) h)

counted : (text : List ℕ) (t : Table) (s : Sheet) (v : tree.Sheet) (c : Contents)
    → c.fields ≡ length t.fields.items → c.rules ≡ length t.rules.items → c.formulas ≡ t.mark.body + 1
    → Holds text t s → Resolves s v → ((n p : ℕ) → Faulty s n p → ⊥) → Counted v c
counted text t _ _ c f r m (whole {fs = fs} {rs = rs} o above p e h over) (resolved xs ys x) none =
    let rules = rules_are_size ys in (
      omega (arith, fields_are xs, length-map t.fields.items (field_of text), ap length above.fields_held),
      omega (arith, rules.0, rules_long text t.nodes.items above.rules_held),
      omega (arith, entries_size text t.nodes.items h, rules_end text t.nodes.items above.rules_held, rules.1, formula_size x),
    )
counted text t _ v c f r m (over_field {fs = fs} {rs = rs} {m = k} {p = p} o above eight w low high below e) res none =
    absurd (none 11 p (subst (λ l. Faulty (sheet l rs k) 11 p) (sym e)
    (field_over fs (field_line p w low high) below rs k 11 p (many_fields (omega arith)))))
counted text t _ v c f r m (over_rule {fs = fs} {rs = rs} {p = p} {e = n} {ps = ps} {f = g} {m = k} o above why w below e) res none =
    let fault : RuleFault fs rs (rule_line p w ps g) 11 p = ⊎_elim
    (λ h. many_rules h)
    (λ h. rule_passes (subst (λ i. Over i ps g) (size_above text t above) h)) why in
    absurd (none 11 p (subst (λ l. Faulty (sheet fs l k) 11 p) (sym e) (rule_over fs rs (rule_line p w ps g) below k 11 p fault)))
counted text t _ v c f r m (over_mark {fs = fs} {rs = rs} {p = p} {e = n} {f = g} o above over) res none =
    absurd (none 11 p (in_mark (mark_passes (subst (λ i. Over i [] g) (size_above text t above) over))))

pub has_contents : (text : List ℕ) (t : Table) (c : Contents)
    → c.fields ≡ length t.fields.items → c.rules ≡ length t.rules.items → c.formulas ≡ t.mark.body + 1
    → HasContents text t c
has_contents text t c f r m s v h n = counted text t s v c f r m h n.resolves n.faultless
