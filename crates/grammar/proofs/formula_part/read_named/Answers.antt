use Rattle.std.proofs.Common.{refl, sym, ◌∙◌, arith, rules}
use Rattle.std.proofs.lemmas.Result.{err_from_is_err_and}
use Rattle.grammar.specs.declared.token.Class.TheVariants as class
use Rattle.grammar.specs.Parsing.{read_to}
use Rattle.grammar.proofs.Leaves.{no, real}
use Rattle.grammar.proofs.Cursors.{passed, not_passed}
use Rattle.grammar.proofs.Formulas.{measured_from, called_from, compared_read, sum_stops}
use Rattle.grammar.proofs.formula_part.read_named.Goals as goal

pub returns-then-is_some : goal.returns-then-is_some
returns-then-is_some c =
    let f = passed class.Opening c.args.cursor.now c.pass_if.new.self _ (sym c.is_some.ensures ∙ c.if-is_some.true)
    c.pass_if.ensures in
    record {
      grown = c.read_call.ensures.grown;
      measured =
          let r = real c.args.cursor.now.text.now _ f.0 (f.1 _ refl) (λ e. no (cc)) in
          measured_from _ _ (read_to c.read_call.new.cursor.at c.read_call.result) (omega (arith, r.0, f.3))
          c.read_call.ensures.measured;
      value = λ text e.
          let o = c.read_call.ensures.value text (f.4 ∙ e) in
          (o.0, called_from text _ f.0 (f.1 text e) c.args.word _ _ _ _ f.2 f.3 o.1);
    }

pub returns-in_err-left : goal.returns-in_err-left
returns-in_err-left c =
    let q = err_from_is_err_and c.from_residual.result c.from_residual.ensures.1 in
    let n = not_passed class.Opening c.args.cursor.now c.pass_if.new.self _
    (sym c.is_some.ensures ∙ c.if-is_some.false) c.pass_if.ensures in
    rw (q.1, q.2, sym n.0) (record {
      grown = search rules;
      measured = tt;
      value = λ text e.
          let o = c.in_err-left.ensures text e in (
            o.0,
            sum_stops text _ n.1.0 (n.1.1 text e) c.args.word c.args.table.now c.args.table.now _ n.1.2 o.1,
          );
    })

pub returns : goal.returns
returns c =
    let n = not_passed class.Opening c.args.cursor.now c.pass_if.new.self _
    (sym c.is_some.ensures ∙ c.if-is_some.false) c.pass_if.ensures in
    rw (sym n.0) (record {
      grown = c.read_comparison.ensures.grown;
      measured =
          let s = c.in_ok-left.ensures _ refl in
          measured_from _ _ _ s.1.0 c.read_comparison.ensures.measured;
      value = λ text e.
          let s = c.in_ok-left.ensures text e in
          let o = c.read_comparison.ensures.value text s.0 in (
            o.0,
            compared_read text _ n.1.0 (n.1.1 text e) c.args.word _ _ _ _ n.1.2 s.1 o.1,
          );
    })
