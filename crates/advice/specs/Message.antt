-- The lines printed for a person below the line of a fault: where it is, that line of the text, a mark under
-- the place, and advice.
use Rattle.std.specs.Prelude.{ℕ, ◌-◌, List, ◌++◌, map, replicate, codes}
use Rattle.refusal.specs.declared.Refusal.{Refusal}
use Rattle.lines.specs.Lines.{labelled, line_feed}
use Rattle.lines.specs.Pieces.{shown}
use Rattle.advice.specs.Advice.{advice}
use Rattle.advice.specs.Places.{number_of_line, column, line_of}

-- `line N, column N`
abbrev pub position_of : ℕ → ℕ → List ℕ
position_of line col = labelled (codes "line ") line ++ (labelled (codes ", column ") col ++ line_feed)

-- a line of the text as it is shown
abbrev pub shown_of : List ℕ → List ℕ
shown_of line = map shown line ++ line_feed

-- a mark in a column: a blank for each column before it, then `^`
abbrev pub marker_of : ℕ → List ℕ
marker_of col = replicate (col - 1) 32 ++ (codes "^" ++ line_feed)

-- the line and the column of a place
abbrev pub position_text : List ℕ → ℕ → List ℕ
position_text text place = position_of (number_of_line text place) (column text place)

-- the line in which a place lies
abbrev pub shown_text : List ℕ → ℕ → List ℕ
shown_text text place = shown_of (line_of text place)

-- the mark that stands under a place
abbrev pub marker_text : List ℕ → ℕ → List ℕ
marker_text text place = marker_of (column text place)

-- the advice for a refusal
abbrev pub advice_text : Refusal → List ℕ
advice_text refusal = advice refusal ++ line_feed
