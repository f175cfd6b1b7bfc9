use Rattle.std.proofs.Common.{sym, ◌∙◌, subst, arith}
use Rattle.lines.specs.Pieces.{parted, slashed}
use Rattle.lines.specs.Putting.{Put}
use Rattle.lines.proofs.Parted.{room_for_others}
use Rattle.lines.proofs.Putting.{put_put, put_length, put_more, put_all, fits_more}
use Rattle.lines.proofs.numbers.put.Goals as goal

pub bytes-requires : goal.bytes-requires
bytes-requires c =
    let others = c.in-Some.others.now in
    let room = room_for_others c.in-Some.first.now others c.in-Some.ensures.cases.0 c.requires c.number.ensures.put in
    let here =
    fits_more slashed others c.loop-number.number-index 0 c.loop-number-test.true c.loop-number.invariant.put room in
    omega arith

pub number-requires-in-loop-number : goal.number-requires-in-loop-number
number-requires-in-loop-number c =
    let others = c.in-Some.others.now in
    let room = room_for_others c.in-Some.first.now others c.in-Some.ensures.cases.0 c.requires c.number.ensures.put in
    let here =
    fits_more slashed others c.loop-number.number-index 0 c.loop-number-test.true c.loop-number.invariant.put room in
    omega (arith, c.bytes.ensures.put.size, put_length c.bytes.ensures.put (omega arith))

pub loop-number-preserved : goal.loop-number-preserved
loop-number-preserved c = record {
  put =
      put_more slashed c.in-Some.others.now c.loop-number.number-index 0 c.loop-number-test.true
      c.loop-number.invariant.put (put_put c.bytes.ensures.put c.number-in-loop-number.ensures.put);
  same_buffer =
      c.number-in-loop-number.ensures.same_buffer ∙ c.bytes.ensures.same_buffer ∙ c.loop-number.invariant.same_buffer;
}

pub returns : goal.returns
returns c =
    let others =
    put_all slashed c.in-Some.others.now c.loop-number.number-index c.loop-number-test.false
    c.loop-number.invariant.put in
    let before = c.args.cursor.now in
    let after = c.loop-number.cursor in
    record {
      put =
          subst (λ ns. Put before.out.now before.at (parted ns) after.out.now after.at)
          (sym c.in-Some.ensures.cases.0)
          (put_put c.number.ensures.put others);
      same_buffer = c.loop-number.invariant.same_buffer ∙ c.number.ensures.same_buffer;
    }
