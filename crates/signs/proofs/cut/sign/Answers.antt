use Rattle.std.proofs.Common.{◌≡◌, Err, subst, arith, rules}
use Rattle.signs.specs.Scanning.{LongestSign, Leads}
use Rattle.signs.proofs.Scans.{sign_here, nothing_here}
use Rattle.signs.proofs.Spelling.{sign_some}
use Rattle.refusal.specs.declared.Refusal.TheVariants.{ByteNotPermitted}
use Rattle.signs.proofs.cut.sign.Goals as goal

pub returns-in_err-sign : goal.returns-in_err-sign
returns-in_err-sign c =
    let bytes = c.args.bytes.now in
    let r = c.requires in
    let none = subst (LongestSign bytes) c.in_err-sign.ensures.ok_part c.longest_sign.ensures in
    let e : Err ByteNotPermitted ≡ c.from_residual.result = search rules in
    subst (Leads bytes) e (nothing_here bytes r.solid.0 r.solid.1 r.wordless r.numberless none)

pub returns : goal.returns
returns c =
    let bytes = c.args.bytes.now in
    let s = c.in_ok-sign.sign in
    let found = subst (LongestSign bytes) c.in_ok-sign.ensures.ok_part c.longest_sign.ensures in
    let here = sign_here bytes _ s c.requires.wordless c.requires.numberless found c.size-size.ensures in
    (here.0, omega (arith, c.size-size.ensures, sign_some s), here.1, tt)
