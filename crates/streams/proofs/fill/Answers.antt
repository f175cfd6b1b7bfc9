use Rattle.std.proofs.Common.{rules, ◌-◌, length, sym, subst}
use Rattle.std.specs.Io.KnownBytes.{Consumes}
use Rattle.streams.proofs.Coming.{come_more, filled_more}
use Rattle.streams.proofs.fill.Goals as goal

pub loop-filled-preserved : goal.loop-filled-preserved
loop-filled-preserved g c =
    let rem = g.R.Read.remaining in
    let f = c.loop-filled.filled in
    let buffer = c.loop-filled.buffer in
    let n = c.in_ok-came.came in (
      search rules,
      subst (Consumes (rem c.args.input.now) (rem c.read.new.self))
          (sym (filled_more f (length buffer - f) n buffer c.read.new.buf (search rules) (search rules)))
          (come_more _ _ _ _ _ c.loop-filled.invariant.1 c.in_ok-came.ensures.bytes.0),
    )
