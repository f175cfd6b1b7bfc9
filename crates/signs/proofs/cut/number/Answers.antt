use Rattle.std.proofs.Common.{refl, arith}
use Rattle.signs.specs.Bytes.{digit}
use Rattle.signs.specs.Cutting.{over_limit}
use Rattle.signs.proofs.Scans.{front_at, front_within, front_long}
use Rattle.signs.proofs.Spelling.{spelling_some, takes_number}
use Rattle.signs.proofs.cut.number.Goals as goal

pub returns-then-size-gt4 : goal.returns-then-size-gt4
returns-then-size-gt4 c =
    let long = front_long digit c.args.bytes.now c.front-size.result c.front-size.ensures in
    over_limit (takes_number (front_at digit _ _ c.front-size.ensures) c.requires refl)
    (λ h. omega arith)

pub decimal-value-requires-clause-digits : goal.decimal-value-requires-clause-digits
decimal-value-requires-clause-digits c = (front_at _ _ _ c.front-size.ensures).all

pub returns-then-value-gt1023 : goal.returns-then-value-gt1023
returns-then-value-gt1023 c =
    over_limit
    (takes_number (front_at digit _ _ c.front-size.ensures) c.requires c.decimal-value.ensures)
    (λ h. omega arith)

pub returns : goal.returns
returns c =
    let long = front_long digit c.args.bytes.now c.front-size.result c.front-size.ensures in
    let front = front_at digit c.args.bytes.now c.front-size.result c.front-size.ensures in
    let takes = takes_number front c.requires c.decimal-value.ensures in
    let within = front_within _ _ _ c.front-size.ensures in
    (within, omega (arith, spelling_some takes.spells), takes, (omega arith, omega arith))
