use Rattle.std.proofs.Common.{rules}
use Rattle.grammar.proofs.Formulas.{comparison_read}
use Rattle.grammar.proofs.formula_part.read_comparison.Goals as goal

pub returns : goal.returns
returns c =
    rw c.single.ensures (record {
      grown = search rules;
      measured =
          search rules;
      value =
          λ text e.
          let s = c.in_ok-sign.ensures text e in
          let t = c.in_ok-right.ensures text s.0 in
          (t.0, comparison_read text _ c.args.left _ _ _ s.1 t.1 c.push-body.ensures);
    })
