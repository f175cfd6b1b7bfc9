use Rattle.std.proofs.Common.{arith}
use Rattle.signs.specs.Bytes.{alphanumeric}
use Rattle.signs.specs.Cutting.{over_limit}
use Rattle.signs.proofs.Scans.{front_within, front_long, front_at}
use Rattle.signs.proofs.Spelling.{spelling_some, takes_word}
use Rattle.signs.proofs.cut.word.Goals as goal

pub returns-then-size-gt16 : goal.returns-then-size-gt16
returns-then-size-gt16 c =
    let long = front_long alphanumeric c.args.bytes.now c.front-size.result c.front-size.ensures in
    over_limit (takes_word (front_at alphanumeric _ _ c.front-size.ensures) c.requires)
    (λ h. omega arith)

pub returns : goal.returns
returns c =
    let long = front_long alphanumeric c.args.bytes.now c.front-size.result c.front-size.ensures in
    let takes = takes_word (front_at alphanumeric _ _ c.front-size.ensures) c.requires in
    (front_within _ _ _ c.front-size.ensures, omega (arith, spelling_some takes.spells), takes, omega arith)
