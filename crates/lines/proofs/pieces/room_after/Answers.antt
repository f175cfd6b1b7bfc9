use Rattle.std.proofs.Common.{arith, rules}
use Rattle.lines.specs.Pieces.{bytes_of}
use Rattle.lines.proofs.Folding.{room_settled}
use Rattle.lines.proofs.pieces.room_after.Goals as goal

pub returns : goal.returns
returns c =
    let ran = c.try_fold.ensures.ran in
    let rest = c.iter.ensures.rest in
    rw rest at
    (room_settled bytes_of _ (λ p x q k. search (rules, arith, k)) c.iter.result c.try_fold.new.self
    ran.0 ran.1 (tt, c.args.room) (ran.2, ran.3) c.try_fold.result _ (λ x stop. search (rules, stop))
    ran.4 ran.5 ran.6)
