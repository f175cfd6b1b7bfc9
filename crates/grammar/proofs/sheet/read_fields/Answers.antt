use Rattle.std.proofs.Common.{refl, ◌∙◌, arith}
use Rattle.std.proofs.lemmas.Result.{err_from_is_err_and}
use Rattle.grammar.proofs.Leaves.{no, real}
use Rattle.grammar.proofs.Cursors.{within}
use Rattle.grammar.proofs.Sheets.{fields_none, fields_more, fields_end, fields_stop}
use Rattle.grammar.proofs.sheet.read_fields.Goals as goal

pub loop-first-init : goal.loop-first-init
loop-first-init c = (
  refl,
  λ text e. (e, fields_none text _ c.args.table.now (within c.args.cursor.now text e)),
)

pub loop-first-smaller : goal.loop-first-smaller
loop-first-smaller c =
    let text = c.args.cursor.now.text.now in
    let i = c.loop-first.invariant.1 text refl in
    let f = c.in-Some.ensures in
    let m = f.2 in
    let a = real text _ f.0 (f.1 text i.0) (λ z. no (cc)) in
    let o = c.in_ok-read_field.ensures.value text (m.3 ∙ i.0) in
    omega (arith, a.0, a.1, m.2, o.1.0, o.1.1)

pub loop-first-preserved : goal.loop-first-preserved
loop-first-preserved c = (
  c.in_ok-read_field.ensures.entries ∙ c.loop-first.invariant.0,
  λ text e.
      let i = c.loop-first.invariant.1 text e in
      let f = c.in-Some.ensures in
      let m = f.2 in
      let o = c.in_ok-read_field.ensures.value text (m.3 ∙ i.0) in (
        o.0,
        fields_more text _ c.args.table.now c.loop-first.table _ f.0 (f.1 text i.0) _ _ _ i.1 m.0 m.1 m.2 o.1,
      ),
)

pub returns-in_err-read_field-clause-value : goal.returns-in_err-read_field-clause-value
returns-in_err-read_field-clause-value c =
    let q = err_from_is_err_and c.from_residual.result c.from_residual.ensures.1 in
    let f = c.in-Some.ensures in
    let m = f.2 in
    rw (q.1, q.2) (λ text e.
    let i = c.loop-first.invariant.1 text e in
    let o = c.in_err-read_field.ensures.value text (m.3 ∙ i.0) in (
      o.0,
      fields_stop text _ c.args.table.now c.loop-first.table _ f.0 (f.1 text i.0) _ _ _ i.1 m.0 m.1 m.2 o.1,
    ))

pub returns-clause-value : goal.returns-clause-value
returns-clause-value c =
    let f = c.in_default.ensures in
    rw f.2.1 (λ text e.
    let i = c.loop-first.invariant.1 text e in
    (i.0, fields_end text _ c.args.table.now c.loop-first.table _ f.0 (f.1 text i.0) i.1 f.2.0))
