-- What `+` or `-` and a number stand for.
use Rattle.formula.specs.declared.term.Shift.{Shift}
use Rattle.formula.specs.declared.term.Shift.TheVariants.{Up, Down}
use Rattle.formula.specs.Trees as tree

-- `+` or `-` and a number
abbrev pub shift_of : Shift → tree.Shift
shift_of (Up n) = tree.up n
shift_of (Down n) = tree.down n
