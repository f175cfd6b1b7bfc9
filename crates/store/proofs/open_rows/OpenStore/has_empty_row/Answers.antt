use Rattle.std.proofs.Common.{take, ◌∙◌, arith, rules}
use borrow.Author.Tests.{tests}
use Rattle.std.proofs.lemmas.Iterator.{YieldsList-from_slice}
use Rattle.std.proofs.lemmas.Iterator.Search.{any_from_yields_List}
use Rattle.store.specs.Opens.{open_left}
use Rattle.store.specs.Sounds.{marks_in_of}
use Rattle.store.proofs.Rules.{tells_empty}
use Rattle.store.proofs.InUse.{bare, rows_bare}
use Rattle.store.proofs.open_rows.OpenStore.has_empty_row.Goals as goal

pub returns : goal.returns
returns c =
    let s = c.args.self.now in
    tells_empty s.width (open_left s) _ (marks_in_of s.width s.rows)
    (any_from_yields_List bare _ _ _ c.any.ensures.ran
    (YieldsList-from_slice (take s.width s.rows) (c.iter.ensures.rest ∙ c.in_use.ensures))
    (λ x b q h. search (rules, tests))
    ∙ rows_bare s.width s.rows (omega arith))
