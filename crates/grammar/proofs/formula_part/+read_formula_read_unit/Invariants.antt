use Rattle.std.proofs.Common.{◌+◌, ◌-◌, ◌*◌, length}
use Rattle.grammar.proofs.formula_part.+read_formula_read_unit.Given as goal

-- the bytes that are left; a formula begins with a unit at the same place
abbrev pub decreases-read_formula : goal.decreases-read_formula
decreases-read_formula l = 2 * (length l.cursor.now.text.now - l.cursor.now.at) + 1

abbrev pub decreases-read_unit : goal.decreases-read_unit
decreases-read_unit l = 2 * (length l.cursor.now.text.now - l.cursor.now.at)
