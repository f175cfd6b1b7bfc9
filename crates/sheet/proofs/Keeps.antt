-- Every sheet keeps the rules of a sheet.
use Rattle.std.proofs.Common.{◌≡◌, ℕ, zero, suc, ◌+◌, ◌<◌, ◌≤◌, true, List, [], ◌∷◌, map, length, get_or, take, sym, refl, ap, ◌∙◌, subst, arith, rules}
use Rattle.std.proofs.lemmas.Bool.{and_parts}
use Rattle.std.proofs.lemmas.Bool.Decides.{nat_tests}
use Rattle.std.proofs.lemmas.List.{length-map, length-take-le, get_or-map}
use Rattle.formula.specs.Trees as tree
use Rattle.sheet.specs.declared.node.Name.{Name}
use Rattle.sheet.specs.Table.{SheetTerm as Term}
use Rattle.sheet.specs.declared.node.Node.{Node}
use Rattle.sheet.specs.declared.node.Node.TheVariants.{Compare, Call, Not, Pick, Join}
use Rattle.sheet.specs.declared.node.Line.{Line}
use Rattle.sheet.specs.declared.node.Range.{Range}
use Rattle.sheet.specs.declared.table.Sheet.{Sheet}
use Rattle.sheet.specs.Table.{name_of, term_of, node_at, line_at, lines_of, range_at, whole, formula_within, formula_at}
use Rattle.sheet.specs.Keeping.{known_name, known_term, known_terms, entry_kept, Within, size, sizes, formula_of}
use Rattle.sheet.proofs.Lines.{rule_in_lines, mark_in_lines}
use Rattle.sheet.proofs.Holding.{parts_of}
use Rattle.sheet.specs.Sheets.{range_of, rule_of, tree_of, lines_in, KnownName, KnownTerm, KnownTerms, params_of, body_of, no_rule, KeptFormula, KeptLine, KeptRange, sizes_of, EverySheetKeeps}

name_known : (fields params : ℕ) (b : Name) → known_name fields params b ≡ true → KnownName fields params (name_of b)
name_known = search rules

term_known : (fields params : ℕ) (t : Term) → known_term fields params t ≡ true → KnownTerm fields params (term_of t)
term_known = search rules

terms_known :
    (fields params k : ℕ) (ts : List Term)
    → known_terms fields params ts ≡ true → KnownTerms fields params (map term_of (take k ts))
terms_known fields params zero ts e = tt
terms_known fields params (suc k) [] e = tt
terms_known fields params (suc k) (t ∷ ts) e =
    let h = and_parts (known_term fields params t) (known_terms fields params ts) e in
    (term_known fields params t h.0, terms_known fields params k ts h.1)

-- the rule of a line
rule_at :
    (nodes : List Node) (rules : List Line) (mark : Line) (l : ℕ) → l < length rules
    → get_or (map (rule_of nodes) rules) l no_rule ≡ rule_of nodes (line_at (lines_of rules mark) l)
rule_at nodes rules mark l lt =
    get_or-map (rule_of nodes) rules l (record { params = 0; start = 0; body = 0 }) no_rule lt
    ∙ ap (rule_of nodes) (sym (rule_in_lines rules mark l lt))

module _ (s : Sheet) where
  abbrev Rules : List tree.Rule
  Rules = map (rule_of s.nodes) s.rules.items

  module _
      (l : ℕ) (le : l ≤ length s.rules.items) (callable : ℕ)
      (reach : (r : ℕ) → r < length s.rules.items → r ≤ l → r < callable) where
    abbrev Fields : ℕ
    Fields = length s.ranges.items

    abbrev Params : ℕ
    Params = (line_at (lines_in s) l).params

    abbrev Known : tree.Formula → Type 0
    Known = KeptFormula Fields Rules callable Params

    whole_known :
        (n i : ℕ) → ((a : ℕ) → (line_at (lines_in s) l).start ≤ a → a < i → Known (formula_within n s.nodes a))
        → (m : Node) → entry_kept Fields (length s.rules.items) (lines_in s) l i m ≡ true
        → Known (whole (formula_within n s.nodes) m)
    whole_known n i parts (Compare t c u) e =
        let h = and_parts (known_term Fields Params t) (known_term Fields Params u) e in
        (term_known _ _ t h.0, term_known _ _ u h.1)
    whole_known n i parts (Call r k ts) e =
        let reaches :
        (r < length s.rules.items) × (r ≤ l) × (k ≡ (line_at (lines_in s) r).params) × (length ts ≡ 4) =
        grind (arith, nat_tests, e) in
        let knows : known_terms Fields Params ts ≡ true = grind (arith, nat_tests, e) in
        let few = s.lines_kept r (omega (arith, reaches.0)) in (
          reach r reaches.0 reaches.1,
          length-map (take k ts) term_of ∙ length-take-le k ts (omega (arith, few, reaches.2, reaches.3))
              ∙ reaches.2
              ∙ sym (ap params_of (rule_at s.nodes s.rules.items s.mark r reaches.0)),
          terms_known _ _ k ts knows,
        )
    whole_known n i parts (Not a) e =
        let h = parts_of Fields (length s.rules.items) (lines_in s) l i (Not a) e in
        parts a h.0 h.1
    whole_known n i parts (Pick b a) e =
        let h = parts_of Fields (length s.rules.items) (lines_in s) l i (Pick b a) e in
        let knows : known_name Fields Params b ≡ true = grind (arith, nat_tests, e) in
        (name_known _ _ b knows, parts a h.0 h.1)
    whole_known n i parts (Join j v w a b) e =
        let h = parts_of Fields (length s.rules.items) (lines_in s) l i (Join j v w a b) e in
        let left : (1 ≤ v) × (v ≤ 1023) = grind (arith, nat_tests, e) in
        let right : (1 ≤ w) × (w ≤ 1023) = grind (arith, nat_tests, e) in
        (left, right, parts a h.0.0 h.0.1, parts b h.1.0 h.1.1)

    within_known :
        (n i : ℕ) → i < n → Within (length s.rules.items) (lines_in s) l i → Known (formula_within n s.nodes i)
    unfolding formula_within
    within_known zero i lt w = absurd (omega arith)
    within_known (suc n) i lt w =
        whole_known n i (λ a ge less. within_known n a (omega arith) (le, ge, omega (arith, w.2)))
        (node_at s.nodes i) (s.entries_kept l i w)

    line_kept : KeptLine Fields Rules callable Params (formula_of (lines_in s) s.nodes l)
    unfolding formula_at
    line_kept =
        let line = s.lines_kept l le in
        record {
          known = within_known 256 (line_at (lines_in s) l).body line.2 (le, line.1, omega arith);
          few_joins = s.few_joins l le;
          shallow = s.shallow l le;
        }

range_kept :
    (ranges : List Range) (i : ℕ) → i < length ranges
    → ((range_at ranges i).low ≤ (range_at ranges i).high) × ((range_at ranges i).high ≤ 1023)
    → KeptRange (get_or (map range_of ranges) i (tree.range 0 0))
range_kept ranges i lt h =
    subst KeptRange (sym (get_or-map range_of ranges i (record { low = 0; high = 0 }) (tree.range 0 0) lt)) h

sizes_are : (nodes : List Node) (lines : List Line) → sizes_of (map (rule_of nodes) lines) ≡ sizes nodes lines
sizes_are nodes [] = refl
sizes_are nodes (l ∷ lines) = ap (λ k. size (formula_at nodes l.body) + k) (sizes_are nodes lines)

pub every_sheet_keeps_lem : EverySheetKeeps
unfolding tree_of
every_sheet_keeps_lem s =
    let ranges = length s.ranges.items in
    let fields : length (map range_of s.ranges.items) ≡ length s.ranges.items = length-map s.ranges.items range_of in
    let rules : length (Rules s) ≡ length s.rules.items = length-map s.rules.items (rule_of s.nodes) in
    record {
      some_fields = omega (arith, fields, s.some_fields);
      few_fields = omega (arith, fields, s.some_fields);
      ranges_kept = λ i lt.
          range_kept s.ranges.items i (omega (arith, fields)) (s.ranges_kept i (omega (arith, fields)));
      few_rules = omega (arith, rules, s.few_rules);
      few_params = λ l lt.
          let less : l < length s.rules.items = omega (arith, rules) in
          subst (λ r. params_of r ≤ 4) (sym (rule_at s.nodes s.rules.items s.mark l less))
          (s.lines_kept l (omega (arith, less))).0;
      rules_kept = λ l lt.
          let less : l < length s.rules.items = omega (arith, rules) in
          subst (λ r. KeptLine (length (map range_of s.ranges.items)) (Rules s) (suc l) (params_of r) (body_of r))
          (sym (rule_at s.nodes s.rules.items s.mark l less))
          (subst (λ k. KeptLine k (Rules s) (suc l) (line_at (lines_in s) l).params (formula_of (lines_in s) s.nodes l))
          (sym fields)
          (line_kept s l (omega (arith, less)) (suc l) (λ r h k. omega arith)));
      mark_kept =
          subst (λ k. KeptLine k (Rules s) (length (Rules s)) 0 (formula_at s.nodes s.mark.body)) (sym fields)
          (subst (λ p. KeptLine ranges (Rules s) (length (Rules s)) p (formula_at s.nodes s.mark.body)) s.mark_plain
          (subst (λ m. KeptLine ranges (Rules s) (length (Rules s)) m.params (formula_at s.nodes m.body))
          (mark_in_lines s.rules.items s.mark)
          (line_kept s (length s.rules.items) (omega arith) (length (Rules s)) (λ r h k. omega (arith, rules)))));
      few_formulas = omega (arith, sizes_are s.nodes s.rules.items, s.few_formulas);
    }
