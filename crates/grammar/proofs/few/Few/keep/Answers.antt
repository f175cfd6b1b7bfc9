use Rattle.std.proofs.Common.{◌+◌, ap}
use Rattle.grammar.proofs.Lists.{kept_more, counted_more}
use Rattle.grammar.proofs.few.Few.keep.Goals as goal
use Rattle.grammar.proofs.few.Few.keep.Goals.{then-self-lt4, else-self-lt4}

pub returns : goal.returns
returns g c = elim c.if-self-lt4.branch [
  | then-self-lt4 w ↦ record {
    counts = ap (λ l. l.count + 1) w.self-is;
    holds = kept_more _ c.args.self.now c.if-self-lt4.self c.args.item w.if-self-lt4.true
        w.self-is;
  }
  | else-self-lt4 w ↦ record {
    counts = ap (λ l. l.count + 1) w.self-is;
    holds = counted_more _ c.args.self.now c.if-self-lt4.self c.args.item w.if-self-lt4.false
        w.self-is;
  }
]
