use Rattle.std.proofs.Common.{rules}
use Rattle.grammar.proofs.Formulas.{call_read}
use Rattle.grammar.proofs.formula_part.read_call.Goals as goal

pub returns : goal.returns
returns c =
    rw c.single.ensures (record {
      grown = search rules;
      measured =
          search rules;
      value =
          λ text e.
          let t = c.in_ok-terms.ensures text e in (t.0, call_read text _ c.args.word _ _ t.1 c.push-body.ensures);
    })
