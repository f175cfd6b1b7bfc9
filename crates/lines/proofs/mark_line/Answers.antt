use Rattle.std.proofs.Common.{◌^◌, ◌<◌, subst, arith}
use Rattle.std.proofs.ByRecursion.{All-from_get_or}
use Rattle.lines.specs.Lines.{Made}
use Rattle.lines.proofs.Reading.{mark_text_parted, made_read_back}
use Rattle.lines.proofs.mark_line.Goals as goal

pub returns-clause-made : goal.returns-clause-made
returns-clause-made c =
    subst (λ text. Made text c.args.out.now c.write.new.out c.write.result) (mark_text_parted c.args.mark.now)
    c.write.ensures

pub returns-clause-read_back : goal.returns-clause-read_back
returns-clause-read_back c =
    let mark = c.args.mark.now in
    let small = All-from_get_or (λ k. k < 2 ^ 64) mark 0 (λ i inside. omega (arith, c.type_inv.mark i)) in
    made_read_back mark _ _ _ small
    (subst (λ text. Made text c.args.out.now c.write.new.out c.write.result) (mark_text_parted mark) c.write.ensures)
