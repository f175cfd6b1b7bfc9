use Rattle.std.proofs.Common.{[], ◌∷◌, sym, arith}
use Rattle.std.proofs.lemmas.Result.{err_from_is_err_and}
use Rattle.grammar.specs.Syntax.{num}
use Rattle.names.specs.Faults.{weight}
use Rattle.names.proofs.Ordered.{first_left, first_right, none_both}
use Rattle.names.proofs.WeightsKept.{zero_first, not_zero}
use Rattle.names.proofs.entries.number_weights.Goals as goal

pub returns-in_err-weight : goal.returns-in_err-weight
returns-in_err-weight c =
    let v = c.in-Some.field-0.left in
    let w = c.in-Some.field-0.right in
    let p = err_from_is_err_and c.from_residual.result c.from_residual.ensures.1 in
    let zero = c.in_err-weight.ensures.zero in
    rw (c.in-Some.is, p.1, p.2, zero.1)
    (λ fs rs ps up.
    first_left (weight (num v.value v.place) ∷ []) (weight (num w.value w.place) ∷ []) up (zero_first v.value v.place zero.0))

pub returns-in_err-weight-2 : goal.returns-in_err-weight-2
returns-in_err-weight-2 c =
    let v = c.in-Some.field-0.left in
    let w = c.in-Some.field-0.right in
    let p = err_from_is_err_and c.from_residual-in_err-weight-2.result c.from_residual-in_err-weight-2.ensures.1 in
    let left = c.in_ok-weight.ensures.kept in
    let zero = c.in_err-weight-2.ensures.zero in
    rw (c.in-Some.is, p.1, p.2, zero.1)
    (λ fs rs ps up.
    first_right (weight (num v.value v.place) ∷ []) (weight (num w.value w.place) ∷ [])
    (not_zero v.value v.place (λ e. omega (arith, left))) (zero_first w.value w.place zero.0))

pub returns : goal.returns
returns c =
    let v = c.in-Some.field-0.left in
    let w = c.in-Some.field-0.right in
    let left = c.in_ok-weight.ensures.kept in
    let right = c.in_ok-weight-2.ensures.kept in
    rw c.in-Some.is
    (λ fs rs ps up. (
      none_both (weight (num v.value v.place) ∷ []) (weight (num w.value w.place) ∷ [])
          (not_zero v.value v.place (λ e. omega (arith, left))) (not_zero w.value w.place (λ e. omega (arith, right))),
      (sym left.0, sym right.0),
    ))
