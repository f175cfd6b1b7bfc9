use Rattle.lines.proofs.Reading.{read_back, lines_differ_lem}
use Rattle.lines.proofs.lines_differ.Goals as goal

pub returns : goal.returns
returns c = record { read_back = read_back; differ = lines_differ_lem }
