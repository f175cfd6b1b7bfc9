use Rattle.std.proofs.Common.{replicate, ap, ◌∙◌, arith}
use lib.ListN.{get_or-replicate}
use Rattle.store.specs.Rows.{has}
use Rattle.store.specs.Sounds.{every_has}
use Rattle.store.proofs.Rows.{no_row}
use Rattle.store.proofs.Opens.{marks_full}
use Rattle.store.proofs.open_rows.OpenStore.with_every_mark.Goals as goal

pub returns-clause-starts : goal.returns-clause-starts
returns-clause-starts c = every_has c.args.width

pub returns-clause-left : goal.returns-clause-left
returns-clause-left c =
    let r = c.full.result in
    marks_full c.args.width (replicate 8 r) c.requires.1
    (λ i h v. ap (λ z. has z v) (get_or-replicate 8 i r no_row (omega (arith, c.requires.1, h)))
    ∙ c.full.ensures v)
