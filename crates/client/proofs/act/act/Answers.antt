use Rattle.std.proofs.Common.{refl, ap}
use Rattle.walk.specs.Lending.{watch_over}
use Rattle.client.proofs.Taking.{takes_draw, takes_check, takes_tally}
use Rattle.client.proofs.act.act.Goals as goal

pub returns-in-Draw-clause-takes : goal.returns-in-Draw-clause-takes
returns-in-Draw-clause-takes g c =
    takes_draw _ _ _ _ _ c.args.taken.now c.args.lists.now.mark.now _ _ c.in-Draw.fuel c.args.call c.in-Draw.is
    c.practise.ensures.drawn (ap (λ S. watch_over c.args.walk S c.args.lists.now) c.practise.ensures.same.1)

pub returns-in-Check-clause-takes : goal.returns-in-Check-clause-takes
returns-in-Check-clause-takes g c =
    takes_check _ _ _ _ c.args.taken.now c.args.lists.now.mark.now _ _ c.in-Check.fuel _ c.args.call c.in-Check.is refl
    c.check.ensures

pub returns-in-Tally-clause-takes : goal.returns-in-Tally-clause-takes
returns-in-Tally-clause-takes g c =
    let l = c.args.lists.now in
    takes_tally _ _ _ _ c.args.taken.now l.mark.now _ _ c.args.call c.in-Tally.is
    (c.tally.ensures (g.S.Store.starting c.args.store.now) l.picks.now l.widths.now)
