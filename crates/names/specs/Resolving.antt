-- What resolving the names of a sheet answers.
use Rattle.std.specs.Prelude.{◌≡◌, ℕ, List, Ok, Err, Result}
use Rattle.refusal.specs.declared.Fault.{Fault}
use Rattle.refusal.specs.Table.{number}
use Rattle.grammar.specs.declared.table.Table.{Table}
use Rattle.grammar.specs.Syntax as written
use Rattle.grammar.specs.Tables.{Holds, WellRead}
use Rattle.sheet.specs.declared.table.Sheet.{Sheet}
use Rattle.sheet.specs.Sheets.{tree_of}
use Rattle.names.specs.Faults.{Named, FirstFault}

-- the table holds a sheet that was read from the tokens of the text
abbrev pub Readable : List ℕ → Table → Type 0
Readable text t = (s : written.Sheet) × Holds text t s × WellRead s

-- the sheet as written is without fault and comes to the new sheet; or it has that first fault, and the sheet is as
-- before
abbrev pub Resolved : written.Sheet → (before after : Sheet) → Result (Unit {0}) Fault → Type 0
Resolved s before after (Ok _) = Named s (tree_of after)
Resolved s before after (Err f) = FirstFault s (number f.refusal) f.place × (after ≡ before)
