-- What a listing writes: a line for each mark of the whole walk, and the closing line with the counts.
use Rattle.std.specs.Prelude.{ℕ, List, [], ◌∷◌, ◌++◌, Option}
use Rattle.std.specs.Io.KnownBytes.{Appends}
use Rattle.formula.specs.Trees.{Sheet}
use Rattle.marks.specs.Sets.{Marks}
use Rattle.meaning.specs.Runs.{Outcome, mark, dead_end, spent_run}
use Rattle.meaning.specs.Walks.{WholeWalk}
use Rattle.lines.specs.Lines.{mark_text, closing_text}
use Rattle.walk.specs.declared.answer.Tallies.{Tallies}
use Rattle.walk.specs.Law.{counts}

-- a line for each mark among the outcomes, in their order; dead ends and spent runs have none
abbrev pub mark_lines : List Outcome → List ℕ
mark_lines [] = []
mark_lines (mark m ∷ l) = mark_text m ++ mark_lines l
mark_lines (dead_end ∷ l) = mark_lines l
mark_lines (spent_run ∷ l) = mark_lines l

-- the closing line of these figures
abbrev pub figures_line : Tallies → List ℕ
figures_line k = closing_text k.issued k.dead k.spent

-- the listing of a walk with the outcomes l: the lines of its marks, and the closing line with the counts
abbrev pub listing_text : List Outcome → List ℕ
listing_text l = mark_lines l ++ figures_line (counts l)

-- what a writer holds grew by the listing of the whole walk, and by nothing else
abbrev pub Listed : Sheet → (fuel : ℕ) → Marks → (before after : Option (List ℕ)) → Type 0
Listed s fuel S before after = (l : List Outcome) × WholeWalk s fuel S l × Appends before after (listing_text l)
