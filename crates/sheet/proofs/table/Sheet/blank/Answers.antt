use Rattle.std.proofs.Common.{◌≡◌, ℕ, zero, suc, ◌<◌, ◌≤◌, List, [], ◌∷◌, ◌++◌, map, replicate, sym, refl, ap, ◌∙◌, subst, subst₂, arith, lit<, lit≤}
use Rattle.std.proofs.lemmas.Bool.Decides.{nat_tests}
use Rattle.sheet.specs.Table.{formula_at, formula_within}
use Rattle.formula.specs.declared.Comparison.TheVariants.{Equal}
use Rattle.formula.specs.Trees as tree
use Rattle.sheet.specs.declared.node.Node.{Node}
use Rattle.sheet.specs.declared.node.Node.TheVariants.{Compare}
use Rattle.formula.specs.declared.term.Term.TheVariants.{Number}
use Rattle.sheet.specs.declared.node.Range.{Range}
use Rattle.sheet.specs.declared.node.Line.{Line}
use Rattle.sheet.specs.Keeping.{PartsKept}
use Rattle.sheet.specs.Sheets.{range_of, rule_of, tree_of}
use Rattle.sheet.proofs.table.Sheet.blank.Goals as goal

-- there is one number up to 0
at_zero : (P : ℕ → Type 0) → P 0 → (l : ℕ) → l ≤ 0 → P l
at_zero P p zero h = p
at_zero P p (suc l) h = absurd (omega arith)

-- there is one number below 1
below_one : (P : ℕ → Type 0) → P 0 → (l : ℕ) → l < 1 → P l
below_one P p l h = at_zero P p l (omega arith)

-- the one entry of the one line
one_entry :
    (W P : ℕ → ℕ → Type 0)
    → ((l i : ℕ) → W l i → l ≤ 0) → ((i : ℕ) → W 0 i → i ≤ 0)
    → P 0 0 → (l i : ℕ) → W l i → P l i
one_entry W P line entry p l i w =
    at_zero (λ k. W k i → P k i) (λ v. at_zero (P 0) p i (entry i v)) l (line l i w) w

one_range :
    {xs : List Range} {r : Range}
    → xs ≡ [] → (r.low ≡ 0) × (r.high ≡ 0)
    → xs ++ r ∷ [] ≡ record { low = 0; high = 0 } ∷ []
one_range e h = λ i. e i ++ record { low = h.0 i; high = h.1 i } ∷ []

blank_line :
    (l : Line)
    → (l.params ≡ 0) × ((l.start ≡ 0) × (l.body ≡ 0))
    → l ≡ record { params = 0; start = 0; body = 0 }
blank_line l h = λ i. record { params = h.0 i; start = h.1.0 i; body = h.1.1 i }

abbrev comparisons : List Node
comparisons = replicate 256 (Compare (Number 0) Equal (Number 1))

-- one field 0 to 0, no rule, and the mark `0 = 1`
blank_kept :
    PartsKept (record { low = 0; high = 0 } ∷ []) [] (record { params = 0; start = 0; body = 0 }) comparisons
unfolding formula_at formula_within
blank_kept =
    record {
      some_fields = (lit≤ tt, lit≤ tt);
      few_rules = lit≤ tt;
      ranges_kept = below_one _ (lit≤ tt, lit≤ tt);
      lines_kept = at_zero _ (lit≤ tt, lit≤ tt, lit< tt);
      mark_plain = refl;
      entries_kept = one_entry _ _ (λ l i w. w.0) (λ i w. w.2) (grind (arith, nat_tests));
      few_joins = at_zero _ (lit≤ tt);
      shallow = at_zero _ (lit≤ tt);
      few_formulas = lit≤ tt;
    }

pub invariant_of-result : goal.invariant_of-result
invariant_of-result c =
    let one = c.push.ensures.items ∙ one_range c.new-ranges.ensures c.default.ensures in
    let kept =
    subst₂ (λ xs rs. PartsKept xs rs c.default-2.result comparisons) (sym one) (sym c.new.ensures)
    (subst (λ l. PartsKept _ [] l comparisons) (sym (blank_line c.default-2.result c.default-2.ensures)) blank_kept) in
    record {
      long = refl;
      some_fields = kept.some_fields;
      few_rules = kept.few_rules;
      ranges_kept = kept.ranges_kept;
      lines_kept = kept.lines_kept;
      mark_plain = kept.mark_plain;
      entries_kept = kept.entries_kept;
      few_joins = kept.few_joins;
      shallow = kept.shallow;
      few_formulas = kept.few_formulas;
    }

pub returns : goal.returns
unfolding tree_of formula_at formula_within
returns c =
    let one = c.push.ensures.items ∙ one_range c.new-ranges.ensures c.default.ensures in
    λ i. tree.sheet (map range_of (one i)) (map (rule_of comparisons) (c.new.ensures i))
    (formula_at comparisons (c.default-2.ensures.1.1 i))
