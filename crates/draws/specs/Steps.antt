-- Only private contracts and proofs cite this file.
-- One draw of a series, and the line that it writes.
use Rattle.std.specs.Prelude.{◌≡◌, ℕ, Bool, true, List, length, Some, None, Option, nat_eq}
use Rattle.std.specs.Io.KnownBytes.{Appends}
use Rattle.formula.specs.Trees.{Sheet}
use Rattle.marks.specs.Sets.{Marks}
use Rattle.meaning.specs.Traces.{Trace}
use Rattle.meaning.specs.Draws.{Draws}
use Rattle.run.specs.declared.answer.Ended.{Ended}
use Rattle.run.specs.Answering.{drawn_of}
use Rattle.draws.specs.Drawing.{drawn_text}

-- whether none follows a draw with this end and so many choices
abbrev pub is_last : Option Ended → (choices : ℕ) → Bool
is_last None n = true
is_last (Some a) n = nat_eq n 0

-- a draw from the numbers ns, of which ls are left, with whether it is the last, and the writer's contents before it and
-- after its line
pub record DrawLine
    (s : Sheet) (fuel : ℕ) (S : Marks) (ns : List ℕ) (before : Option (List ℕ)) (last : Bool) (ls : List ℕ)
    (after : Option (List ℕ)) : Type 0 where
  pub ended : Option Ended
  pub fields : ℕ
  pub marks : List ℕ
  pub trace : Trace
  pub draw : Draws s fuel S ns (drawn_of ended fields marks) trace ls
  pub ends : last ≡ is_last ended (length trace)
  pub appends : Appends before after (drawn_text (drawn_of ended fields marks))
