-- Only private contracts and proofs cite this file.
-- What it says of a text that it is read as a sheet, or refused.
use Rattle.std.specs.Prelude.{◌≡◌, ◌↔◌, ℕ, List, length, Ok, Err, Result}
use Rattle.refusal.specs.declared.Fault.{Fault}
use Rattle.grammar.specs.declared.table.Table.{Table}
use Rattle.advice.specs.Permitted.{GoesOn, WholeSheet}

-- a text that is read is a whole sheet; one that is refused is none, and goes on exactly when it is refused at its end
abbrev pub IsRead : List ℕ → Result Table Fault → Type 0
IsRead text (Ok table) = WholeSheet text × GoesOn text
IsRead text (Err fault) = (WholeSheet text → ⊥) × ((fault.place ≡ length text) ↔ GoesOn text)
