use Rattle.std.proofs.Common.{◌∙◌, Some, Ok, sym, subst}
use Rattle.std.proofs.lemmas.Result.{err_from_is_err_and}
use Rattle.grammar.specs.Parsing.{WeightsRead}
use Rattle.grammar.proofs.Cursors.{numbered, unnumbered, within}
use Rattle.grammar.proofs.Formulas.{absent_read, no_colon_read, given_read, given_stops}
use Rattle.grammar.proofs.formula_part.read_weights.Goals as goal

pub returns-in_default : goal.returns-in_default
returns-in_default c = λ text e. (
  e,
  absent_read text _ c.peek-first.result (c.peek-first.ensures.sees text e) (within c.args.cursor.now text e)
      (unnumbered _ _ _ c.number.ensures c.in_default.is),
)

pub returns-in_default-class : goal.returns-in_default-class
returns-in_default-class c = λ text e. (
  e,
  no_colon_read text _ c.peek-first.result (c.peek-first.ensures.sees text e) _
      (numbered _ _ c.in-Some.left (sym c.number.ensures ∙ c.in-Some.is)).0
      c.peek-second.result (c.peek-second.ensures.sees text e) (within c.args.cursor.now text e)
      c.in_default-class.not-Colon,
)

pub returns-in_err-right : goal.returns-in_err-right
returns-in_err-right c =
    let q = err_from_is_err_and c.from_residual.result c.from_residual.ensures.1 in
    rw (q.1, q.2) (λ text e.
    let n = c.in_err-right.ensures text e in (
      n.0,
      given_stops text _ c.peek-first.result (c.peek-first.ensures.sees text e) _
          (numbered _ _ c.in-Some.left (sym c.number.ensures ∙ c.in-Some.is)).0
          c.peek-second.result (c.peek-second.ensures.sees text e) _ c.in-Colon.is n.1,
    ))

pub returns : goal.returns
returns c = λ text e.
    let n = c.in_ok-right.ensures text e in
    let left = numbered _ _ c.in-Some.left (sym c.number.ensures ∙ c.in-Some.is) in (
      n.0,
      subst (λ q. WeightsRead text c.args.cursor.now.at (Ok (record {
        value = Some (record {
          left = record { value = c.in-Some.left.value; place = q };
          right = c.in_ok-right.right;
        });
        end = c.number-2.new.self.at;
      }))) (sym left.1)
          (given_read text _ c.peek-first.result (c.peek-first.ensures.sees text e) _ left.0
          c.peek-second.result (c.peek-second.ensures.sees text e) _ c.in-Colon.is n.1),
    )
