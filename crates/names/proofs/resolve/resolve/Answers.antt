use Rattle.std.proofs.Common.{subst}
use Rattle.names.specs.Looking.{RangesOf, LinesOf}
use Rattle.sheet.specs.Sheets.{tree_of}
use Rattle.names.proofs.Made.{made_kept, made_named}
use Rattle.names.proofs.resolve.resolve.Goals as goal

pub invariant_of-sheet : goal.invariant_of-sheet
invariant_of-sheet c =
    let r = subst (λ z. RangesOf z c.ranges_of.result.items) c.deref.ensures.0 c.ranges_of.ensures in
    let l = subst (λ z. LinesOf z c.rules_of.result.items) c.deref-2.ensures.0 c.rules_of.ensures in
    let kept =
    made_kept c.args.text.now c.args.table.now c.number_lines.new.nodes _ _ _ r l c.mark_of.ensures c.requires.0 c.in_ok-number_lines.field-0 c.requires.1 c.requires.2 c.in_ok-number_lines.ensures in
    record {
      long = c.number_lines.array_long;
      some_fields = kept.some_fields;
      few_rules = kept.few_rules;
      ranges_kept = kept.ranges_kept;
      lines_kept = kept.lines_kept;
      mark_plain = kept.mark_plain;
      entries_kept = kept.entries_kept;
      few_joins = kept.few_joins;
      shallow = kept.shallow;
      few_formulas = kept.few_formulas;
    }

pub returns : goal.returns
unfolding tree_of
returns c =
    let r = subst (λ z. RangesOf z c.ranges_of.result.items) c.deref.ensures.0 c.ranges_of.ensures in
    let l = subst (λ z. LinesOf z c.rules_of.result.items) c.deref-2.ensures.0 c.rules_of.ensures in
    λ s holds well.
    made_named c.args.text.now c.args.table.now c.number_lines.new.nodes _ _ _ r l c.mark_of.ensures s c.in_ok-number_lines.field-0 holds well c.in_ok-number_lines.ensures
