use Rattle.std.proofs.Common.{refl, ◌∙◌, arith}
use Rattle.std.proofs.lemmas.Result.{err_from_is_err_and}
use Rattle.grammar.proofs.Leaves.{no, real}
use Rattle.grammar.proofs.Cursors.{within}
use Rattle.grammar.proofs.Sheets.{rules_none, rules_more, rules_end, rules_stop}
use Rattle.grammar.proofs.sheet.read_rules.Goals as goal

pub loop-first-init : goal.loop-first-init
loop-first-init c = λ text e. (e, rules_none text _ c.args.table.now (within c.args.cursor.now text e))

pub loop-first-smaller : goal.loop-first-smaller
loop-first-smaller c =
    let text = c.args.cursor.now.text.now in
    let i = c.loop-first.invariant text refl in
    let f = c.in-Some.ensures in
    let m = f.2 in
    let a = real text _ f.0 (f.1 text i.0) (λ z. no (cc)) in
    let o = c.in_ok-read_rule.ensures text (m.3 ∙ i.0) in
    omega (arith, a.0, a.1, m.2, o.1.0, o.1.1)

pub loop-first-preserved : goal.loop-first-preserved
loop-first-preserved c = λ text e.
    let i = c.loop-first.invariant text e in
    let f = c.in-Some.ensures in
    let m = f.2 in
    let o = c.in_ok-read_rule.ensures text (m.3 ∙ i.0) in (
      o.0,
      rules_more text _ c.args.table.now c.loop-first.table _ f.0 (f.1 text i.0) _ _ _ i.1 m.0 m.1 m.2 o.1,
    )

pub returns-in_err-read_rule : goal.returns-in_err-read_rule
returns-in_err-read_rule c =
    let q = err_from_is_err_and c.from_residual.result c.from_residual.ensures.1 in
    let f = c.in-Some.ensures in
    let m = f.2 in
    rw (q.1, q.2) (λ text e.
    let i = c.loop-first.invariant text e in
    let o = c.in_err-read_rule.ensures text (m.3 ∙ i.0) in (
      o.0,
      rules_stop text _ c.args.table.now c.loop-first.table _ f.0 (f.1 text i.0) _ _ _ i.1 m.0 m.1 m.2 o.1,
    ))

pub returns : goal.returns
returns c =
    let f = c.in_default.ensures in
    rw f.2.1 (λ text e.
    let i = c.loop-first.invariant text e in
    (i.0, rules_end text _ c.args.table.now c.loop-first.table _ f.0 (f.1 text i.0) i.1 f.2.0))
