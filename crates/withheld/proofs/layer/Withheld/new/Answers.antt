use Rattle.std.proofs.Common.{sym, ap, ◌∙◌}
use Rattle.withheld.specs.Withholding.{without}
use Rattle.withheld.proofs.Withholding.{without_none}
use Rattle.withheld.proofs.layer.Withheld.new.Goals as goal

pub returns-clause-starts : goal.returns-clause-starts
returns-clause-starts g c =
    let start = g.S.Store.starting c.args.lower in
    ap (λ ps. without ps start) c.new.ensures ∙ sym (without_none start)
