-- The entries of a sheet's table: what the sheet's type keeps of one, and the formulas of its lines.
use Rattle.std.proofs.Common.{◌≡◌, ℕ, zero, suc, ◌<◌, ◌≤◌, Bool, true, ◌&&◌, List, [], ◌∷◌, map, length, get_or, take, sym, refl, ap, ◌∙◌, subst, arith}
use Rattle.std.proofs.lemmas.Bool.Decides.{nat_tests}
use Rattle.std.proofs.lemmas.List.{length-map, length-take-le, get_or-take, get_or-map}
use Rattle.formula.specs.Trees.{Formula, Rule, rule, compare, call, negate, pick, join, num}
use Rattle.formula.specs.declared.Comparison.TheVariants.{Equal}
use Rattle.meaning.specs.Terms.{rules_of, ranges_of, fields_of, mark_line, body, formula_of}
use Rattle.meaning.specs.Lengths.{joins, FewJoins}
use Rattle.sheet.specs.declared.node.Name.{Name}
use Rattle.sheet.specs.declared.node.Name.TheVariants.{Field, Param}
use Rattle.formula.specs.declared.term.Shift.{Shift}
use Rattle.formula.specs.declared.term.Shift.TheVariants.{Up, Down}
use Rattle.sheet.specs.Table.{SheetTerm as Term}
use Rattle.formula.specs.declared.term.Term.TheVariants.{Number, Bare, Moved}
use Rattle.sheet.specs.declared.node.Node.{Node}
use Rattle.sheet.specs.declared.node.Node.TheVariants.{Compare, Call, Not, Pick, Join}
use Rattle.sheet.specs.declared.node.Line.{Line}
use Rattle.sheet.specs.declared.table.Sheet.{Sheet}
use Rattle.sheet.specs.Table.{node_at, line_at, formula_at}
use Rattle.sheet.specs.Keeping.{Within, known_name, known_shift, known_term, known_terms, entry_kept, size}
use Rattle.sheet.specs.Keeping.{joins as joins_kept}
use Rattle.sheet.specs.Sheets.{range_of, rule_of, tree_of, sizes_of, lines_in}
use Rattle.sheet.proofs.Lines.{rule_in_lines, mark_in_lines}
use Rattle.sheet.proofs.Holding.{parts_of}
use Rattle.run.specs.Frames.{NameOkay, ShiftOkay, TermOkay}
use Rattle.run.specs.Goals.{TermsOkay}

both : (x y : Bool) → (x && y) ≡ true → (x ≡ true) × (y ≡ true)
both x y e = grind (arith, nat_tests, e)

name_okay : (w k : ℕ) (x : Name) → known_name w k x ≡ true → NameOkay w k x
name_okay w k (Field f) e = grind (arith, nat_tests, e)
name_okay w k (Param p) e = grind (arith, nat_tests, e)

shift_okay : (d : Shift) → known_shift d ≡ true → ShiftOkay d
shift_okay (Up n) e = grind (arith, nat_tests, e)
shift_okay (Down n) e = grind (arith, nat_tests, e)

term_okay : (w k : ℕ) (t : Term) → known_term w k t ≡ true → TermOkay w k t
term_okay w k (Number n) e = grind (arith, nat_tests, e)
term_okay w k (Bare x) e = name_okay w k x e
term_okay w k (Moved x d) e =
    let h = both (known_name w k x) (known_shift d) e in
    (name_okay w k x h.0, shift_okay d h.1)

terms_okay :
    (w k : ℕ) (ts : List Term) → known_terms w k ts ≡ true
    → (j : ℕ) → j < length ts → TermOkay w k (get_or ts j (Number 0))
terms_okay w k [] e j l = absurd (omega arith)
terms_okay w k (t ∷ ts) e zero l = term_okay w k t (both (known_term w k t) (known_terms w k ts) e).0
terms_okay w k (t ∷ ts) e (suc j) l =
    terms_okay w k ts (both (known_term w k t) (known_terms w k ts) e).1 j (omega arith)

firsts_okay :
    (w k : ℕ) (ts : List Term) (n : ℕ)
    → n ≤ length ts
    → n ≤ 4
    → ((j : ℕ) → j < length ts → TermOkay w k (get_or ts j (Number 0)))
    → TermsOkay w k (take n ts)
firsts_okay w k ts n l few h =
    let m = length-take-le n ts l in (
      omega (arith, m),
      λ j b. subst (TermOkay w k) (sym (get_or-take n ts j (Number 0) (omega (arith, b, m))))
          (h j (omega (arith, b, m))),
    )

-- what a sheet keeps of the entry i of line l, for w fields and k parameters
abbrev pub NodeOkay : Sheet → (w k l i : ℕ) → Node → Type 0
NodeOkay s w k l i (Compare t c u) = TermOkay w k t × TermOkay w k u
NodeOkay s w k l i (Call r n ts) =
    (r < length s.rules.items) × (n ≡ (line_at (lines_in s) r).params) × (n ≤ length ts) × TermsOkay w k (take n ts)
NodeOkay s w k l i (Not a) = Within (length s.rules.items) (lines_in s) l a
NodeOkay s w k l i (Pick x a) = NameOkay w k x × Within (length s.rules.items) (lines_in s) l a
NodeOkay s w k l i (Join j v u a b) =
    (0 < v) × Within (length s.rules.items) (lines_in s) l a × Within (length s.rules.items) (lines_in s) l b

module _ (s : Sheet) (l i : ℕ) (w : Within (length s.rules.items) (lines_in s) l i) where
  abbrev okay : Node → Type 0
  okay = NodeOkay s (length s.ranges.items) (line_at (lines_in s) l).params l i

  part_within : (a : ℕ) → (line_at (lines_in s) l).start ≤ a → a < i → Within (length s.rules.items) (lines_in s) l a
  part_within a from less = (w.0, from, omega (arith, w.2))

  okay_of : (x : Node) → entry_kept (length s.ranges.items) (length s.rules.items) (lines_in s) l i x ≡ true → okay x
  okay_of (Compare t c u) e =
      let h = both (known_term (length s.ranges.items) (line_at (lines_in s) l).params t)
      (known_term (length s.ranges.items) (line_at (lines_in s) l).params u) e in
      (term_okay _ _ t h.0, term_okay _ _ u h.1)
  okay_of (Call r n ts) e =
      let reaches : (r < length s.rules.items) × (n ≡ (line_at (lines_in s) r).params) × (length ts ≡ 4) = grind
      (arith, nat_tests, e) in
      let knows : known_terms (length s.ranges.items) (line_at (lines_in s) l).params ts ≡ true = grind
      (arith, nat_tests, e) in
      let few = (s.lines_kept r (omega (arith, reaches.0))).0 in (
        reaches.0,
        reaches.1,
        omega (arith, few, reaches.1, reaches.2),
        firsts_okay (length s.ranges.items) (line_at (lines_in s) l).params ts n (omega (arith, few, reaches.1, reaches.2))
            (omega (arith, few, reaches.1)) (terms_okay _ _ ts knows),
      )
  okay_of (Not a) e =
      let h = parts_of (length s.ranges.items) (length s.rules.items) (lines_in s) l i (Not a) e in
      part_within a h.0 h.1
  okay_of (Pick x a) e =
      let h = parts_of (length s.ranges.items) (length s.rules.items) (lines_in s) l i (Pick x a) e in
      let knows : known_name (length s.ranges.items) (line_at (lines_in s) l).params x ≡ true = grind
      (arith, nat_tests, e) in
      (name_okay _ _ x knows, part_within a h.0 h.1)
  okay_of (Join j v u a b) e =
      let h = parts_of (length s.ranges.items) (length s.rules.items) (lines_in s) l i (Join j v u a b) e in
      let left : 0 < v = grind (arith, nat_tests, e) in
      (left, part_within a h.0.0 h.0.1, part_within b h.1.0 h.1.1)

  pub entry_okay : okay (node_at s.nodes i)
  entry_okay = okay_of (node_at s.nodes i) (s.entries_kept l i w)

-- The lines

no_line : Line
no_line = record { params = 0; start = 0; body = 0 }

pub rules_are :
    (s : Sheet)
    → rules_of (tree_of s) ≡ map (rule_of s.nodes) s.rules.items
unfolding tree_of
rules_are s = refl

pub mark_is : (s : Sheet) → mark_line (tree_of s) ≡ formula_at s.nodes s.mark.body
unfolding tree_of
mark_is s = refl

pub ranges_are : (s : Sheet) → ranges_of (tree_of s) ≡ map range_of s.ranges.items
unfolding tree_of
ranges_are s = refl

pub fields_are : (s : Sheet) → fields_of (tree_of s) ≡ length s.ranges.items
fields_are s = ap length (ranges_are s) ∙ length-map s.ranges.items range_of

pub body_is :
    (s : Sheet) (r : ℕ)
    → r < length s.rules.items
    → body (rules_of (tree_of s)) r ≡ formula_at s.nodes (line_at (lines_in s) r).body
unfolding no_line
body_is s r h =
    let none : Rule = rule 0 (compare (num 0) Equal (num 1)) in
    ap (λ q. body q r) (rules_are s)
    ∙ ap formula_of
    (get_or-map (rule_of s.nodes) s.rules.items r no_line none h
    ∙ ap (rule_of s.nodes) (sym (rule_in_lines s.rules.items s.mark r h)))

-- the two counts of joins agree
pub joins_same : (F : Formula) → joins F ≡ joins_kept F
joins_same (compare l c r) = refl
joins_same (call r ts) = refl
joins_same (negate F) = joins_same F
joins_same (pick x F) = joins_same F
joins_same (join j v w F G) = let a = joins_same F in let b = joins_same G in omega arith

pub line_joins :
    (s : Sheet) (l : ℕ)
    → l ≤ length s.rules.items
    → joins (formula_at s.nodes (line_at (lines_in s) l).body) ≤ 16
line_joins s l h = let e = joins_same (formula_at s.nodes (line_at (lines_in s) l).body) in omega
    (arith, s.few_joins l h)

pub mark_joins : (s : Sheet) → joins (mark_line (tree_of s)) ≤ 16
mark_joins s =
    subst (λ G. joins G ≤ 16) (sym (mark_is s))
    (subst (λ l. joins (formula_at s.nodes l.body) ≤ 16) (mark_in_lines s.rules.items s.mark)
    (line_joins s (length s.rules.items) (omega arith)))

joins_in :
    (rules : List Rule) (r : ℕ)
    → ((i : ℕ) → i < length rules → joins (body rules i) ≤ 16)
    → joins (body rules r) ≤ 16
joins_in [] r h = omega arith
joins_in (x ∷ rules) zero h = h 0 (omega arith)
joins_in (x ∷ rules) (suc r) h = joins_in rules r (λ i l. h (suc i) (omega arith))

pub body_joins : (s : Sheet) (r : ℕ) → joins (body (rules_of (tree_of s)) r) ≤ 16
body_joins s r =
    let many : length (rules_of (tree_of s)) ≡ length s.rules.items =
    ap length (rules_are s) ∙ length-map s.rules.items (rule_of s.nodes) in
    joins_in (rules_of (tree_of s)) r (λ i l.
    let less : i < length s.rules.items = omega (arith, many) in
    subst (λ F. joins F ≤ 16) (sym (body_is s i less)) (line_joins s i (omega (arith, less))))

size_in : (rules : List Rule) (r : ℕ) → r < length rules → size (body rules r) ≤ sizes_of rules
size_in [] r h = absurd (omega arith)
size_in (rule n F ∷ rules) zero h = omega arith
size_in (rule n F ∷ rules) (suc r) h = let k = size_in rules r (omega arith) in omega arith

pub body_size :
    (s : Sheet) (r : ℕ)
    → r < length s.rules.items
    → size (formula_at s.nodes (line_at (lines_in s) r).body) ≤ sizes_of (rules_of (tree_of s))
body_size s r h =
    let many : length (rules_of (tree_of s)) ≡ length s.rules.items =
    ap length (rules_are s) ∙ length-map s.rules.items (rule_of s.nodes) in
    subst (λ F. size F ≤ sizes_of (rules_of (tree_of s))) (body_is s r h)
    (size_in (rules_of (tree_of s)) r (omega (arith, many)))

-- the mark line and the rules have few joins
pub few_joins : (s : Sheet) → FewJoins (tree_of s) 16
few_joins s =
    record {
      marked = mark_joins s;
      ruled = body_joins s;
    }
