use Rattle.std.proofs.lemmas.Result.{err_from_is_err_and}
use Rattle.names.proofs.Covered.{fields_refused, rules_refused, over_refused, mark_answered}
use Rattle.names.proofs.WholeLines.{mark_settled}
use Rattle.names.proofs.lines.number_lines.Goals as goal

pub returns-in_err-check_fields : goal.returns-in_err-check_fields
returns-in_err-check_fields c =
    let p = err_from_is_err_and c.from_residual.result c.from_residual.ensures.1 in
    rw (p.1, p.2)
    (fields_refused c.args.text.now c.args.table.now c.in_err-check_fields.field-0.0 c.args.nodes.now
    (rw c.deref.ensures.0 at c.in_err-check_fields.ensures))

pub returns-in_err-number_rules : goal.returns-in_err-number_rules
returns-in_err-number_rules c =
    let p = err_from_is_err_and c.from_residual-in_err-number_rules.result c.from_residual-in_err-number_rules.ensures.1 in
    rw (p.1, p.2)
    (rules_refused c.args.text.now c.args.table.now c.in_err-number_rules.field-0.0 c.in_ok-check_fields.field-0 c.number_rules.new.nodes
    (rw c.deref.ensures.0 at c.in_ok-check_fields.ensures)
    (rw (c.deref.ensures.0, c.deref-2.ensures.0, c.deref-3.ensures.0) at c.in_err-number_rules.ensures))

pub returns-in-Some : goal.returns-in-Some
returns-in-Some c =
    let nodes = c.number_rules.new.nodes in
    rw c.at.ensures
    (over_refused c.args.text.now c.args.table.now c.in-Some.place c.in_ok-check_fields.field-0 c.in_ok-number_rules.field-0 nodes nodes c.in-Some.is
    (rw c.deref.ensures.0 at c.in_ok-check_fields.ensures)
    (rw (c.deref.ensures.0, c.deref-2.ensures.0, c.deref-3.ensures.0) at c.in_ok-number_rules.ensures))

pub returns : goal.returns
returns c =
    let t = c.args.table.now in
    let r = c.number_entries.result in
    let nodes = c.number_entries.new.nodes in
    let mark = c.mark_of.ensures in
    mark_answered c.args.text.now t r c.in_ok-check_fields.field-0 c.in_ok-number_rules.field-0 c.number_rules.new.nodes nodes c.in_default.is
    (rw c.deref.ensures.0 at c.in_ok-check_fields.ensures)
    (rw (c.deref.ensures.0, c.deref-2.ensures.0, c.deref-3.ensures.0) at c.in_ok-number_rules.ensures)
    (mark_settled c.args.text.now t.fields.items t.rules.items t.nodes.items t.mark nodes r
    (rw (c.deref.ensures.0, c.deref-2.ensures.0, c.deref-4.ensures.0, mark.0, mark.1) at c.number_entries.ensures.settled))
    (rw (mark.0, mark.1) at c.number_entries.ensures.outside)
