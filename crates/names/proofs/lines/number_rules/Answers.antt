use Rattle.std.proofs.Common.{Ok, Err, ◌∙◌, arith}
use Rattle.std.proofs.lemmas.Result.{err_from_is_err_and}
use Rattle.std.proofs.lemmas.List.{get_or_read}
use Rattle.names.specs.Looking.{no_rule_line}
use Rattle.names.proofs.Loops.{rules_more, rules_all, rule_refused as line_refused}
use Rattle.names.proofs.WholeLines.{rule_refused, rule_settled, names_like}
use Rattle.names.proofs.lines.number_rules.Goals as goal

pub returns-in_err-check_names : goal.returns-in_err-check_names
returns-in_err-check_names c =
    let s = c.args.scope in
    let i = c.loop-i.i in
    let rule = c.rule-item.result in
    let f = c.in_err-check_names.field-0.0 in
    let of = c.of_line.ensures in
    let p = err_from_is_err_and c.from_residual.result c.from_residual.ensures.1 in
    let same = get_or_read s.rules.now i rule c.loop-i-test.true c.rule-item.is no_rule_line in
    rw (p.1, p.2)
    (line_refused s.text.now s.fields.now s.rules.now c.args.entries.now s.few_rules i c.loop-i-test.true f c.loop-i.nodes c.loop-i.nodes
    c.loop-i.invariant.0
    (rule_refused s.text.now s.fields.now s.rules.now c.args.entries.now i c.loop-i.nodes rule same f
    (names_like rule.name (Err f) of.text of.fields of.rules (of.params ∙ c.deref.ensures.0) c.in_err-check_names.ensures)))

pub returns-in_err-number_entries : goal.returns-in_err-number_entries
returns-in_err-number_entries c =
    let s = c.args.scope in
    let i = c.loop-i.i in
    let rule = c.rule-item.result in
    let nodes = c.number_entries.new.nodes in
    let f = c.in_err-number_entries.field-0.0 in
    let u = c.in_ok-check_names.field-0 in
    let of = c.of_line.ensures in
    let within = c.of_line-in-loop-i.ensures in
    let p = err_from_is_err_and c.from_residual-in_err-number_entries.result c.from_residual-in_err-number_entries.ensures.1 in
    let same = get_or_read s.rules.now i rule c.loop-i-test.true c.rule-item.is no_rule_line in
    rw (p.1, p.2)
    (line_refused s.text.now s.fields.now s.rules.now c.args.entries.now s.few_rules i c.loop-i-test.true f c.loop-i.nodes nodes
    c.loop-i.invariant.0
    (rule_settled s.text.now s.fields.now s.rules.now c.args.entries.now i nodes rule same u (Err f) c.loop-i-test.true
    (names_like rule.name (Ok u) of.text of.fields of.rules (of.params ∙ c.deref.ensures.0) c.in_ok-check_names.ensures)
    (rw (within.text, within.fields, within.rules, within.params, c.deref-in-loop-i.ensures.0, c.line_of.ensures) at c.in_err-number_entries.ensures.settled)))

pub loop-i-preserved : goal.loop-i-preserved
loop-i-preserved c =
    let s = c.args.scope in
    let i = c.loop-i.i in
    let rule = c.rule-item.result in
    let nodes = c.number_entries.new.nodes in
    let v = c.in_ok-number_entries.field-0 in
    let u = c.in_ok-check_names.field-0 in
    let of = c.of_line.ensures in
    let within = c.of_line-in-loop-i.ensures in
    let same = get_or_read s.rules.now i rule c.loop-i-test.true c.rule-item.is no_rule_line in (
      rules_more s.text.now s.fields.now s.rules.now c.args.entries.now s.few_rules i c.loop-i-test.true v c.loop-i.nodes nodes
          c.loop-i.invariant.0
          (rule_settled s.text.now s.fields.now s.rules.now c.args.entries.now i nodes rule same u (Ok v) c.loop-i-test.true
          (names_like rule.name (Ok u) of.text of.fields of.rules (of.params ∙ c.deref.ensures.0) c.in_ok-check_names.ensures)
          (rw (within.text, within.fields, within.rules, within.params, c.deref-in-loop-i.ensures.0, c.line_of.ensures) at c.in_ok-number_entries.ensures.settled))
          (rw (c.line_of.ensures, same) at c.in_ok-number_entries.ensures.outside),
      c.number_entries.array_long,
    )

pub returns : goal.returns
returns c =
    let s = c.args.scope in
    rules_all s.text.now s.fields.now s.rules.now c.args.entries.now c.loop-i.i c.loop-i.nodes tt (omega arith) c.loop-i.invariant.0
