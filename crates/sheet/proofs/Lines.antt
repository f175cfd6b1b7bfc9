-- The lines of a sheet by their numbers: the rules, and then the mark line.
use Rattle.std.proofs.Common.{◌≡◌, ℕ, ◌<◌, List, [], ◌∷◌, length}
use Rattle.std.proofs.Math.ListN.{get_or-append}
use Rattle.std.proofs.Math.Seq.{get_or-append_seam}
use Rattle.sheet.specs.declared.node.Line.{Line}
use Rattle.sheet.specs.Table.{line_at, lines_of}

-- a number below that of the rules is a rule's
pub rule_in_lines :
    (rules : List Line) (mark : Line) (l : ℕ) → l < length rules → line_at (lines_of rules mark) l ≡ line_at rules l
rule_in_lines rules mark l lt = get_or-append rules (mark ∷ []) _ l lt

-- the mark line stands below the rules
pub mark_in_lines : (rules : List Line) (mark : Line) → line_at (lines_of rules mark) (length rules) ≡ mark
mark_in_lines rules mark = get_or-append_seam rules mark [] _
