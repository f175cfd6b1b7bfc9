-- What parsing a text answers, of the tokens that the text is cut into.
use Rattle.std.specs.Prelude.{ℕ, List, length, Ok, Err, Result}
use Rattle.refusal.specs.declared.Fault.{Fault}
use Rattle.refusal.specs.Table as table
use Rattle.signs.specs.Tokens.{TokAt}
use Rattle.signs.specs.Cutting.{CutFrom}
use Rattle.grammar.specs.declared.table.Table.{Table}
use Rattle.grammar.specs.Syntax.{Sheet}
use Rattle.grammar.specs.Grammar.{IsSheet}
use Rattle.grammar.specs.Refusal.{Refused}
use Rattle.grammar.specs.Tables.{Holds, WellRead}
use Rattle.grammar.specs.Tokens.{tokens}

-- the table holds the sheet that the tokens are, with all that a sheet keeps that is read;
-- or they are refused, with that number at that place
abbrev pub Parsed : List ℕ → Result Table Fault → Type 0
Parsed text (Ok t) =
    (ts : List TokAt) → CutFrom text 0 ts → (s : Sheet) × IsSheet (tokens ts) s × Holds text t s × WellRead s
Parsed text (Err f) =
    (ts : List TokAt) → CutFrom text 0 ts → Refused (tokens ts) (length text) (table.number f.refusal) f.place
