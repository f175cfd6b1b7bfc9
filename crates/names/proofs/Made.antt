-- The parts that are made of a table without fault keep the rules of a sheet, and are what the sheet comes to.
use Rattle.std.proofs.Common.{◌≡◌, ℕ, suc, ◌+◌, ◌<◌, ◌≤◌, true, List, [], ◌∷◌, ◌++◌, map, length, take, None, Ok, sym, refl, ap, ◌∙◌, subst, ⊎_elim, append_assoc, append-nil, arith}
use Rattle.std.proofs.str.Laws.{order}
use Rattle.std.proofs.lemmas.List.{length-map, length-take, length_push}
use Rattle.formula.specs.Trees as tree
use Rattle.grammar.specs.declared.table.Table.{Table}
use Rattle.grammar.specs.Grammar.{any, formula}
use Rattle.grammar.specs.Syntax.{Word, num, Formula, Field, field_line, Rule, rule_line, mark_line, Sheet, sheet}
use Rattle.grammar.specs.Tables.{word_of, field_of, fields_of, Entries, LinesAbove, Holds, whole, over_field, over_rule, over_mark, Over, many_joins, many_formulas, size, joins, nested, SomeFields, SmallFields, ReadFormula, ReadRules, WellRead}
use Rattle.sheet.specs.declared.node.Node.{Node}
use Rattle.sheet.specs.declared.node.Range.{Range}
use Rattle.sheet.specs.declared.node.Line.{Line}
use Rattle.sheet.specs.Table as table
use Rattle.sheet.specs.Table.{formula_at, formula_within}
use Rattle.sheet.specs.Keeping as keeping
use Rattle.sheet.specs.Keeping.{PartsKept, Within, entry_kept}
use Rattle.sheet.specs.Sheets.{range_of, rule_of, tree_of_parts}
use Rattle.sheet.proofs.Lines.{rule_in_lines, mark_in_lines}
use Rattle.sheet.proofs.Holding.{held_within}
use Rattle.names.specs.Lists.{Stands, here, there, In, Each, end, item}
use Rattle.names.specs.Names.{Calls, the_rule, FormulaIs, FieldIs, field_is, RulesAre, no_rules, one_rule, Resolves, resolved}
use Rattle.names.specs.Faults.{weight, uses, zero_weight, wrong_range, rule_formula, mark_formula, Faulty, in_field, in_rule, in_mark, sizes, Named}
use Rattle.names.specs.Looking.{no_rule_line, IsHead, AllNumbered, LinesSettled, RangesOf, LinesOf, MarkOf, field_at, rule_at, rule_params, rule_body}
use Rattle.names.proofs.Places.{stands_length, stands_upto, stands_once}
use Rattle.names.proofs.Lookups.{stands_at, stands_read}
use Rattle.names.proofs.Numbering.{stands_map, map_stands}
use Rattle.names.proofs.Loops.{LineOf, line_of, rules_long, rules_end}
use Rattle.names.proofs.Parts.{entries_size, size_some}
use Rattle.names.proofs.Covered.{not_both}
use Rattle.names.proofs.Trees.{same_size, same_joins, same_nested, tree_at}
use Rattle.names.proofs.Known.{Weighted, kept_at}

-- lists that agree item by item
each_by_place :
    {A B : Type 0} (R : A → B → Type 0) (xs : List A) (ys : List B)
    → length xs ≡ length ys → ((i : ℕ) (x : A) (y : B) → Stands A xs i x → Stands B ys i y → R x y) → Each A B R xs ys
each_by_place R [] [] e h = end
each_by_place R [] (y ∷ ys) e h = absurd (omega arith)
each_by_place R (x ∷ xs) [] e h = absurd (omega arith)
each_by_place R (x ∷ xs) (y ∷ ys) e h =
    item (h 0 x y here here) (each_by_place R xs ys (omega arith) (λ i a b s u. h (suc i) a b (there s) (there u)))

-- what one rule comes to, below the rules above
RuleIs : List Field → List Rule → Rule → tree.Rule → Type 0
RuleIs fs above x y =
    (z : tree.Formula) × (y ≡ tree.rule (length (rule_params x)) z) × FormulaIs fs (above ++ (x ∷ [])) (rule_params x) (rule_body x) z

rules_by_place :
    (fs : List Field) (above rs : List Rule) (ys : List tree.Rule)
    → length rs ≡ length ys
    → ((i : ℕ) (x : Rule) (y : tree.Rule) → Stands Rule rs i x → Stands tree.Rule ys i y → RuleIs fs (above ++ take i rs) x y)
    → RulesAre fs above rs ys
unfolding RuleIs
rules_by_place fs above [] [] e h = no_rules
rules_by_place fs above [] (y ∷ ys) e h = absurd (omega arith)
rules_by_place fs above (x ∷ rs) [] e h = absurd (omega arith)
rules_by_place fs above (rule_line p w ps f ∷ rs) (y ∷ ys) e h =
    let r = rule_line p w ps f in
    let first = h 0 r y here here in
    let none : above ++ [] ≡ above = append-nil above in
    let one : FormulaIs fs (above ++ (r ∷ [])) ps f first.0 = subst (λ z. FormulaIs fs (z ++ (r ∷ [])) ps f first.0) none first.2 in
    let rest = rules_by_place fs (above ++ (r ∷ [])) rs ys (omega arith)
    (λ i a b s u. subst (λ z. RuleIs fs z a b) (sym (append_assoc above (r ∷ []) (take i rs))) (h (suc i) a b (there s) (there u))) in
    subst (λ z. RulesAre fs above (r ∷ rs) (z ∷ ys)) (sym first.1) (one_rule one rest)

-- sums that agree item by item
sizes_by_place :
    (nodes : List Node) (ls : List Line) (rs : List Rule)
    → length ls ≡ length rs
    → ((i : ℕ) (l : Line) (x : Rule) → Stands Line ls i l → Stands Rule rs i x → keeping.size (formula_at nodes l.body) ≡ size (rule_body x))
    → keeping.sizes nodes ls ≡ sizes rs
sizes_by_place nodes [] [] e h = refl
sizes_by_place nodes [] (x ∷ rs) e h = absurd (omega arith)
sizes_by_place nodes (l ∷ ls) [] e h = absurd (omega arith)
sizes_by_place nodes (l ∷ ls) (rule_line p w ps f ∷ rs) e h =
    let a = h 0 l (rule_line p w ps f) here here in
    let b = sizes_by_place nodes ls rs (omega arith) (λ i m x s u. h (suc i) m x (there s) (there u)) in
    omega arith

some_length : (fs : List Field) → SomeFields fs → 1 ≤ length fs
some_length [] h = absurd h
some_length (f ∷ fs) h = omega arith

SmallField : Field → Type 0
SmallField (field_line p w (num low i) (num high k)) = (low ≤ 1023) × (high ≤ 1023)

small_field : (fs : List Field) {i : ℕ} {f : Field} → SmallFields fs → Stands Field fs i f → SmallField f
unfolding SmallField
small_field [] s st = elim st [ ]
small_field (field_line p w (num low i) (num high k) ∷ fs) s here = (s.0, s.1)
small_field (field_line p w (num low i) (num high k) ∷ fs) s (there st) = small_field fs s.2 st

read_rule : (rs : List Rule) {i : ℕ} {x : Rule} → ReadRules rs → Stands Rule rs i x → ReadFormula (rule_body x)
read_rule [] r st = elim st [ ]
read_rule (rule_line p w ps f ∷ rs) r here = r.0
read_rule (rule_line p w ps f ∷ rs) r (there st) = read_rule rs r.1 st

joins_few : (s : ℕ) (ps : List Word) (f : Formula) → (Over s ps f → ⊥) → joins f ≤ 16
joins_few s ps f fits = ⊎_elim (λ h. absurd (fits (many_joins h))) (λ h. h) (order 16 (joins f))

sizes_few : (s : ℕ) (ps : List Word) (f : Formula) → (Over s ps f → ⊥) → s + size f ≤ 256
sizes_few s ps f fits = ⊎_elim (λ h. absurd (fits (many_formulas h))) (λ h. h) (order 256 (s + size f))

module _ (text : List ℕ) (t : Table) (nodes : List Node) (ranges : List Range) (made : List Line) (made_mark : Line)
    (ranges_are : RangesOf t.fields.items ranges) (lines_are : LinesOf t.rules.items made) (mark_is : MarkOf t.mark made_mark)
    (fs : List Field) (rs : List Rule) (p : ℕ) (f : Formula) (e : ℕ)
    (above : LinesAbove text t fs rs e) (starts : t.mark.start ≡ e)
    (d : Entries text t.nodes.items e t.mark.body f) (fits : Over e [] f → ⊥)
    (well : WellRead (sheet fs rs (mark_line p f)))
    (none : (n q : ℕ) → Faulty (sheet fs rs (mark_line p f)) n q → ⊥)
    (numbered : AllNumbered text t nodes (sheet fs rs (mark_line p f))) where
  abbrev Fs : List Field
  Fs = fields_of text t

  abbrev lines : List Line
  lines = table.lines_of made made_mark

  fields_long : length Fs ≡ length t.fields.items
  fields_long = length-map t.fields.items (field_of text)

  field_count : length t.fields.items ≡ length fs
  field_count = sym fields_long ∙ ap length above.fields_held

  rule_count : length t.rules.items ≡ length rs
  rule_count = rules_long text t.nodes.items above.rules_held

  -- the rule line of number i
  line : (i : ℕ) → i < length rs → LineOf text t.nodes.items 0 rs i (rule_at t.rules.items i)
  line i lt = let c = rule_count in line_of text t.nodes.items above.rules_held (stands_at t.rules.items i no_rule_line (omega arith))

  laid : (i : ℕ) → i < length rs
      → ((table.line_at lines i).start ≡ (rule_at t.rules.items i).start) × ((table.line_at lines i).body ≡ (rule_at t.rules.items i).body)
      × ((table.line_at lines i).params ≡ length (rule_at t.rules.items i).params.items)
  laid i lt =
      subst (λ l. (l.start ≡ (rule_at t.rules.items i).start) × (l.body ≡ (rule_at t.rules.items i).body)
      × (l.params ≡ length (rule_at t.rules.items i).params.items))
      (sym (rule_in_lines made made_mark i (omega (arith, lines_are.0, rule_count)))) (lines_are.1 i (omega (arith, rule_count)))

  mark_laid : ((table.line_at lines (length t.rules.items)).start ≡ t.mark.start) × ((table.line_at lines (length t.rules.items)).body ≡ t.mark.body)
      × ((table.line_at lines (length t.rules.items)).params ≡ 0)
  mark_laid =
      let last : table.line_at lines (length t.rules.items) ≡ made_mark =
      subst (λ n. table.line_at lines n ≡ made_mark) lines_are.0 (mark_in_lines made made_mark) in
      subst (MarkOf t.mark) (sym last) mark_is

  params_at : (i : ℕ) (x : Rule) → Stands Rule rs i x → ((table.line_at lines i).params ≡ length (rule_params x)) × (length (rule_params x) ≤ 4)
  params_at i x st =
      let lt = stands_length st in
      let at = line i lt in
      go at.rule at.head (stands_once at.stands st)
    where
      go : (y : Rule) → IsHead text (rule_at t.rules.items i) y → y ≡ x → ((table.line_at lines i).params ≡ length (rule_params x)) × (length (rule_params x) ≤ 4)
      go (rule_line a w ps g) h same =
          subst (λ z. ((table.line_at lines i).params ≡ length (rule_params z)) × (length (rule_params z) ≤ 4)) same
          ((laid i (stands_length st)).2 ∙ sym (length-map (rule_at t.rules.items i).params.items (word_of text)) ∙ ap length h.2, h.3)

  -- which rules a line may call
  calls_rule :
      (i : ℕ) (x : Rule) → Stands Rule rs i x → (w : Word) (k : ℕ) (qs : List Word) → Calls (take i rs ++ (x ∷ [])) w k qs
      → (k < length t.rules.items) × (k ≤ i) × ((table.line_at lines k).params ≡ length qs) × (length qs ≤ 4)
  calls_rule i x st w k qs (the_rule s eq) =
      let up = stands_upto st s in
      let a = stands_length up in
      let b = stands_length s in
      let h = params_at k _ up in
      (omega (arith, rule_count), omega (arith, length_push (take i rs) x, length-take i rs), h.0, h.1)

  calls_mark :
      (w : Word) (k : ℕ) (qs : List Word) → Calls rs w k qs
      → (k < length t.rules.items) × (k ≤ length t.rules.items) × ((table.line_at lines k).params ≡ length qs) × (length qs ≤ 4)
  calls_mark w k qs (the_rule s eq) =
      let a = stands_length s in
      let h = params_at k _ s in
      (omega (arith, rule_count), omega (arith, rule_count), h.0, h.1)

  weighted_rule : (i : ℕ) (x : Rule) → Stands Rule rs i x → Weighted (rule_body x)
  weighted_rule i (rule_line a w ps g) st v q m =
      ⊎_elim (λ h. h)
      (λ h. let z : v ≡ 0 = omega arith in
      absurd (none 10 q (in_rule st (rule_formula (weight (num 0 q), subst (λ u. In _ (uses g) (weight (num u q))) z m, zero_weight)))))
      (order 0 v)

  weighted_mark : Weighted f
  weighted_mark v q m =
      ⊎_elim (λ h. h)
      (λ h. let z : v ≡ 0 = omega arith in
      absurd (none 10 q (in_mark (mark_formula (weight (num 0 q), subst (λ u. In _ (uses f) (weight (num u q))) z m, zero_weight)))))
      (order 0 v)

  d' : Entries text t.nodes.items t.mark.start t.mark.body f
  d' = subst (λ z. Entries text t.nodes.items z t.mark.body f) (sym starts) d

  -- the trees of the lines
  rule_body_end : (i : ℕ) (lt : i < length rs) → (rule_at t.rules.items i).body < 256
  rule_body_end i lt =
      let at = line i lt in
      let a = entries_size text t.nodes.items at.entries in
      let b = sizes_few _ _ _ at.within in
      omega (arith, at.starts)

  rule_tree :
      (i : ℕ) (x : Rule) → Stands Rule rs i x
      → FormulaIs Fs (take i rs ++ (x ∷ [])) (rule_params x) (rule_body x) (formula_at nodes (rule_at t.rules.items i).body)
  unfolding formula_at
  rule_tree i x st =
      let lt = stands_length st in
      let at = line i lt in
      let same = stands_once at.stands st in
      let entries = subst (λ z. Entries text t.nodes.items (rule_at t.rules.items i).start (rule_at t.rules.items i).body (rule_body z)) same at.entries in
      let h = tree_at text t.nodes.items nodes Fs (take i rs ++ (x ∷ [])) (rule_params x) (rule_at t.rules.items i).start ((rule_at t.rules.items i).body + 1)
      (numbered.0 i x lt st) (λ w k qs c. (calls_rule i x st w k qs c).3) entries (omega arith) (omega arith) in
      subst (FormulaIs Fs (take i rs ++ (x ∷ [])) (rule_params x) (rule_body x)) (held_within nodes 256 (rule_at t.rules.items i).body h.0 (rule_body_end i lt) h.1) h.2

  mark_end : t.mark.body < 256
  mark_end = let a = entries_size text t.nodes.items d in let b = sizes_few _ _ _ fits in omega arith

  mark_tree : FormulaIs Fs rs [] f (formula_at nodes t.mark.body)
  unfolding formula_at
  mark_tree =
      let h = tree_at text t.nodes.items nodes Fs rs [] t.mark.start (t.mark.body + 1) numbered.1 (λ w k qs c. (calls_mark w k qs c).3) d' (omega arith) (omega arith) in
      subst (FormulaIs Fs rs [] f) (held_within nodes 256 t.mark.body h.0 mark_end h.1) h.2

  -- a line of the sheet is a rule line, or the mark line
  abbrev LineTree : ℕ → Type 0
  LineTree l =
      (rs' : List Rule) × (ps : List Word) × (g : Formula)
      × FormulaIs Fs rs' ps g (formula_at nodes (table.line_at lines l).body) × (joins g ≤ 16) × (nested g (formula any) ≤ 16)

  line_tree : (l : ℕ) → l ≤ length t.rules.items → LineTree l
  line_tree l le =
      ⊎_elim
      (λ lt. let less : l < length rs = omega (arith, rule_count) in
      let at = line l less in (
        take l rs ++ (at.rule ∷ []),
        rule_params at.rule,
        rule_body at.rule,
        subst (λ b. FormulaIs Fs (take l rs ++ (at.rule ∷ [])) (rule_params at.rule) (rule_body at.rule) (formula_at nodes b)) (sym (laid l less).1) (rule_tree l at.rule at.stands),
        joins_few _ _ _ at.within,
        (read_rule rs well.2 at.stands).0,
      ))
      (λ ge. let same : length t.rules.items ≡ l = omega arith in
      subst LineTree same
      (rs, [], f, subst (λ b. FormulaIs Fs rs [] f (formula_at nodes b)) (sym mark_laid.1) mark_tree, joins_few _ _ _ fits, well.3.0))
      (order l (length t.rules.items))

  -- the entries of a line are in order
  rule_entries :
      (l : ℕ) (lt : l < length rs) (i : ℕ) → (table.line_at lines l).start ≤ i → i ≤ (table.line_at lines l).body
      → entry_kept (length Fs) (length t.rules.items) lines l i (table.node_at nodes i) ≡ true
  rule_entries l lt i from to =
      let at = line l lt in
      let x = at.rule in
      let a = laid l lt in
      kept_at text t.nodes.items nodes Fs (take l rs ++ (x ∷ [])) (rule_params x) (length t.rules.items) lines l
      (rule_at t.rules.items l).start ((rule_at t.rules.items l).body + 1) (params_at l x at.stands).0 a.0 (numbered.0 l x lt at.stands)
      (calls_rule l x at.stands) at.entries (omega arith) (omega arith) (read_rule rs well.2 at.stands).1 (weighted_rule l x at.stands)
      i (omega arith) (omega arith)

  mark_entries :
      (i : ℕ) → (table.line_at lines (length t.rules.items)).start ≤ i → i ≤ (table.line_at lines (length t.rules.items)).body
      → entry_kept (length Fs) (length t.rules.items) lines (length t.rules.items) i (table.node_at nodes i) ≡ true
  mark_entries i from to =
      let a = mark_laid in
      kept_at text t.nodes.items nodes Fs rs [] (length t.rules.items) lines (length t.rules.items)
      t.mark.start (t.mark.body + 1) a.2 a.0 numbered.1 calls_mark d' (omega arith) (omega arith) well.3.1 weighted_mark
      i (omega arith) (omega arith)

  -- the ranges
  field_of_line : (i : ℕ) → i < length t.fields.items → Stands Field fs i (field_of text (field_at t.fields.items i))
  field_of_line i lt =
      subst (λ z. Stands Field z i (field_of text (field_at t.fields.items i))) above.fields_held
      (stands_map (field_of text) (stands_at t.fields.items i _ lt))

  range_kept :
      (i : ℕ) → i < length t.fields.items
      → ((table.range_at ranges i).low ≤ (table.range_at ranges i).high) × ((table.range_at ranges i).high ≤ 1023)
  unfolding SmallField
  range_kept i lt =
      let at = field_of_line i lt in
      let r = ranges_are.1 i lt in
      let l = field_at t.fields.items i in
      let ordered : l.low.value ≤ l.high.value =
      ⊎_elim (λ h. absurd (none 10 l.low.place (in_field at (wrong_range h)))) (λ h. h) (order l.high.value l.low.value) in
      let small = small_field fs well.1 at in
      (omega arith, omega (arith, small.1))

  -- how the lines of the sheet are read off the list
  lines_fit : length made ≡ length rs
  lines_fit = lines_are.0 ∙ rule_count

  line_is : {i : ℕ} {l : Line} → Stands Line made i l → table.line_at lines i ≡ l
  line_is st = rule_in_lines made made_mark _ (stands_length st) ∙ (stands_read _ st).1

  few_in_all : keeping.FewFormulas made made_mark nodes
  few_in_all =
      let sum : keeping.sizes nodes made ≡ sizes rs =
      sizes_by_place nodes made rs lines_fit
      (λ i l x s u. ap (λ z. keeping.size (formula_at nodes z)) (sym (ap (λ z. z.body) (line_is s)) ∙ (laid i (stands_length u)).1) ∙ same_size (rule_tree i x u)) in
      let last : keeping.size (formula_at nodes made_mark.body) ≡ size f =
      ap (λ z. keeping.size (formula_at nodes z)) mark_is.1 ∙ same_size mark_tree in
      let a = rules_end text t.nodes.items above.rules_held in
      let b = sizes_few e [] f fits in
      omega arith

  -- what the sheet comes to
  rule_at_place :
      (i : ℕ) (x : Rule) (y : tree.Rule) → Stands Rule rs i x → Stands tree.Rule (map (rule_of nodes) made) i y
      → RuleIs Fs (take i rs) x y
  unfolding RuleIs
  rule_at_place i x y u s =
      let m = map_stands (rule_of nodes) made s in
      let lt = stands_length u in
      let body : m.0.body ≡ (rule_at t.rules.items i).body = sym (ap (λ z. z.body) (line_is m.1)) ∙ (laid i lt).1 in
      let params : m.0.params ≡ length (rule_params x) = sym (ap (λ z. z.params) (line_is m.1)) ∙ (params_at i x u).0 in (
        formula_at nodes m.0.body,
        sym m.2 ∙ ap (λ n. tree.rule n (formula_at nodes m.0.body)) params,
        subst (λ b. FormulaIs Fs (take i rs ++ (x ∷ [])) (rule_params x) (rule_body x) (formula_at nodes b)) (sym body) (rule_tree i x u),
      )

  field_at_place :
      (i : ℕ) (x : Field) (y : tree.Range) → Stands Field fs i x → Stands tree.Range (map range_of ranges) i y → FieldIs x y
  field_at_place i x y u s =
      let m = map_stands range_of ranges s in
      let lt : i < length t.fields.items = let h = stands_length u in omega (arith, field_count) in
      let is : table.range_at ranges i ≡ m.0 = (stands_read _ m.1).1 in
      let r = ranges_are.1 i lt in
      let l = field_at t.fields.items i in
      let value : tree.range l.low.value l.high.value ≡ y =
      let a = r.0 in let b = r.1 in let c = m.2 in let d = ap (λ z. z.low) is in let g = ap (λ z. z.high) is in cc in
      subst (λ z. FieldIs z y) (stands_once (field_of_line i lt) u) (subst (FieldIs (field_of text l)) value field_is)

  pub parts_resolve : Resolves (sheet fs rs (mark_line p f)) (tree_of_parts ranges made made_mark nodes)
  parts_resolve =
      let fields_fit : length fs ≡ length (map range_of ranges) =
      sym (length-map ranges range_of ∙ ranges_are.0 ∙ field_count) in
      let rules_fit' : length rs ≡ length (map (rule_of nodes) made) =
      sym (length-map made (rule_of nodes) ∙ lines_fit) in
      let eF = above.fields_held in
      resolved
      (each_by_place FieldIs fs (map range_of ranges) fields_fit field_at_place)
      (subst (λ z. RulesAre z [] rs (map (rule_of nodes) made)) eF
      (rules_by_place Fs [] rs (map (rule_of nodes) made) rules_fit' rule_at_place))
      (subst (λ z. FormulaIs z rs [] f (formula_at nodes made_mark.body)) eF
      (subst (λ b. FormulaIs Fs rs [] f (formula_at nodes b)) (sym mark_is.1) mark_tree))

  pub parts_kept : PartsKept ranges made made_mark nodes
  parts_kept =
      record {
        some_fields =
            let h = some_length fs well.0 in
            (omega (arith, ranges_are.0, field_count), omega (arith, ranges_are.0, field_count, above.few_fields));
        few_rules = omega (arith, lines_are.0, rule_count, above.few_rules);
        ranges_kept = λ i lt. range_kept i (omega (arith, ranges_are.0));
        lines_kept = λ l le. line_kept l (omega (arith, lines_are.0));
        mark_plain = mark_is.2;
        entries_kept = subst (λ n. keeping.EntriesKept (length ranges) n lines nodes) (sym lines_are.0) entries;
        few_joins = λ l le. let h = line_tree l (omega (arith, lines_are.0)) in let s = same_joins h.3 in omega (arith, h.4);
        shallow = λ l le. let h = line_tree l (omega (arith, lines_are.0)) in let s = same_nested (formula any) keeping.alone (λ j. refl) h.3 in omega (arith, h.5);
        few_formulas = few_in_all;
      }
    where
      entries : (l i : ℕ) → Within (length t.rules.items) lines l i → entry_kept (length ranges) (length t.rules.items) lines l i (table.node_at nodes i) ≡ true
      entries l i w =
          subst (λ n. entry_kept n (length t.rules.items) lines l i (table.node_at nodes i) ≡ true) (fields_long ∙ sym ranges_are.0)
          (⊎_elim
          (λ lt. rule_entries l (omega (arith, rule_count)) i w.1 w.2)
          (λ ge. let same : length t.rules.items ≡ l = let a = w.0 in omega arith in
          subst (λ k. (table.line_at lines k).start ≤ i → i ≤ (table.line_at lines k).body → entry_kept (length Fs) (length t.rules.items) lines k i (table.node_at nodes i) ≡ true) same
          (mark_entries i) w.1 w.2)
          (order l (length t.rules.items)))

      line_kept : (l : ℕ) → l ≤ length t.rules.items
          → ((table.line_at lines l).params ≤ 4) × ((table.line_at lines l).start ≤ (table.line_at lines l).body) × ((table.line_at lines l).body < 256)
      line_kept l le =
          ⊎_elim
          (λ lt. let less : l < length rs = omega (arith, rule_count) in
          let at = line l less in
          let a = entries_size text t.nodes.items at.entries in
          let b = size_some text t.nodes.items (rule_body at.rule) in
          let c = params_at l at.rule at.stands in
          let h = laid l less in
          let k = rule_body_end l less in
          (omega (arith, c), omega (arith, h), omega (arith, h)))
          (λ ge. let same : length t.rules.items ≡ l = omega arith in
          let a = entries_size text t.nodes.items d in
          let b = size_some text t.nodes.items f in
          let h = mark_laid in
          let k = mark_end in
          subst (λ z. ((table.line_at lines z).params ≤ 4) × ((table.line_at lines z).start ≤ (table.line_at lines z).body) × ((table.line_at lines z).body < 256)) same
          (omega (arith, h), omega (arith, h), omega (arith, h)))
          (order l (length t.rules.items))

-- so for whatever sheet the table holds
module _ (text : List ℕ) (t : Table) (nodes : List Node) (ranges : List Range) (made : List Line) (made_mark : Line)
    (ranges_are : RangesOf t.fields.items ranges) (lines_are : LinesOf t.rules.items made) (mark_is : MarkOf t.mark made_mark) where
  pub made_kept :
      (s : Sheet) (u : Unit {0}) → Holds text t s → WellRead s → LinesSettled text t nodes (Ok u)
      → PartsKept ranges made made_mark nodes
  made_kept s u holds well settled = let h = settled s holds well in go s holds well h.0 h.1
    where
      go :
          (s : Sheet) → Holds text t s → WellRead s → ((n q : ℕ) → Faulty s n q → ⊥) → (t.over ≡ None) × AllNumbered text t nodes s
          → PartsKept ranges made made_mark nodes
      go _ (whole {fs = fs} {rs = rs} {p = p} {e = e} {f = f} o above first starts d fits) well none h =
          parts_kept text t nodes ranges made made_mark ranges_are lines_are mark_is fs rs p f e above starts d fits well none h.1
      go _ (over_field o above eight w low high below ea) well none h = absurd (not_both h.0 o)
      go _ (over_rule o above over w below ee) well none h = absurd (not_both h.0 o)
      go _ (over_mark o above over) well none h = absurd (not_both h.0 o)

  pub made_named :
      (s : Sheet) (u : Unit {0}) → Holds text t s → WellRead s → LinesSettled text t nodes (Ok u)
      → Named s (tree_of_parts ranges made made_mark nodes)
  made_named s u holds well settled = let h = settled s holds well in go s holds well h.0 h.1
    where
      go :
          (s : Sheet) → Holds text t s → WellRead s → ((n q : ℕ) → Faulty s n q → ⊥) → (t.over ≡ None) × AllNumbered text t nodes s
          → Named s (tree_of_parts ranges made made_mark nodes)
      go _ (whole {fs = fs} {rs = rs} {p = p} {e = e} {f = f} o above first starts d fits) well none h =
          record {
            resolves = parts_resolve text t nodes ranges made made_mark ranges_are lines_are mark_is fs rs p f e above starts d fits well none h.1;
            faultless = none;
          }
      go _ (over_field o above eight w low high below ea) well none h = absurd (not_both h.0 o)
      go _ (over_rule o above over w below ee) well none h = absurd (not_both h.0 o)
      go _ (over_mark o above over) well none h = absurd (not_both h.0 o)
