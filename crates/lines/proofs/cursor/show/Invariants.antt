use Rattle.std.proofs.Common.{◌≡◌, ◌++◌, map, take, drop}
use Rattle.lines.specs.Pieces.{shown}
use Rattle.lines.proofs.cursor.show.Given as goal

abbrev pub invariant-loop-byte : goal.invariant-loop-byte
invariant-loop-byte l =
    l.bytes ≡ map shown (take l.byte-index l.initial.bytes) ++ drop l.byte-index l.initial.bytes
