-- Only private contracts and proofs cite this file.
-- One next of a listing, and the line that it writes.
use Rattle.std.specs.Prelude.{ℕ, List, [], take, Ok, Option}
use Rattle.std.specs.Io.KnownBytes.{Appends}
use Rattle.formula.specs.Trees.{Sheet}
use Rattle.lines.specs.Lines.{mark_text}
use Rattle.walk.specs.declared.answer.Answer.{Answer}
use Rattle.walk.specs.declared.answer.Answer.TheVariants as answer
use Rattle.walk.specs.Watching.{Watched}
use Rattle.walk.specs.Calls.{Lent, Nexts}

-- what is written at an answer, where the numbers m stand at the front of the mark list
abbrev pub answer_text : Answer → (m : List ℕ) → List ℕ
answer_text answer.Mark m = mark_text m
answer_text answer.DeadEnd m = []
answer_text answer.Spent m = []
answer_text answer.Finished m = []

-- a next that answered a, and the writer's contents before it and after its line
pub record NextLine
    (s : Sheet) (n : ℕ) (v : Watched) (before : Option (List ℕ)) (a : Answer) (v' : Watched)
    (after : Option (List ℕ)) : Type 0 where
  pub lent : Lent
  pub marks : List ℕ
  pub next : Nexts s n v lent (Ok a) v' marks
  pub appends : Appends before after (answer_text a (take n marks))
