-- Only private contracts and proofs cite this file: what the layers of reading hand on to each other.
use Rattle.std.specs.Prelude.{ℕ, List, Ok, Err, Result}
use Rattle.refusal.specs.declared.Fault.{Fault}
use Rattle.refusal.specs.Table.{number, layer}
use Rattle.formula.specs.Trees as tree
use Rattle.signs.specs.Tokens.{TokAt}
use Rattle.signs.specs.Cutting.{Tokenized}
use Rattle.grammar.specs.declared.table.Table.{Table}
use Rattle.grammar.specs.Syntax as written
use Rattle.grammar.specs.Tokens.{tokens}
use Rattle.grammar.specs.Grammar.{IsSheet}
use Rattle.grammar.specs.Tables.{Holds, WellRead}
use Rattle.names.specs.declared.summary.Contents.{Contents}
use Rattle.names.specs.Faults.{Named}
use Rattle.names.specs.Reading.{Refused, Counted}

-- the text is cut into tokens that are a sheet as written, and the table holds it
pub record Written (text : List ℕ) (t : Table) : Type 0 where
  pub ts : List TokAt
  pub cut : Tokenized text ts
  pub sheet : written.Sheet
  pub is : IsSheet (tokens ts) sheet
  pub holds : Holds text t sheet
  pub well : WellRead sheet

-- the table of a text, or its refusal by one of the first two layers
abbrev pub Tabled : List ℕ → Result Table Fault → Type 0
Tabled text (Ok t) = Written text t
Tabled text (Err f) = Refused text (layer f.refusal) (number f.refusal) f.place

-- the contents of every sheet that the table can come to
abbrev pub HasContents : List ℕ → Table → Contents → Type 0
HasContents text t c = (s : written.Sheet) (v : tree.Sheet) → Holds text t s → Named s v → Counted v c
