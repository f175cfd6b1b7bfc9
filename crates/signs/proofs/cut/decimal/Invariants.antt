use Rattle.std.proofs.Common.{◌≡◌, ◌^◌, ◌<◌, drop}
use Rattle.signs.specs.Bytes.{value, value_after}
use Rattle.signs.proofs.cut.decimal.Given as goal

abbrev pub invariant-loop-byte : goal.invariant-loop-byte
invariant-loop-byte l =
    (l.number < 10 ^ l.byte-index) × (value_after l.number (drop l.byte-index l.digits) ≡ value l.digits)
