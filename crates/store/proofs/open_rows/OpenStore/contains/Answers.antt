use Rattle.std.proofs.Common.{ℕ, take, sym, ◌∙◌, arith, rules}
use borrow.Author.Tests.{tests}
use Rattle.std.proofs.lemmas.Bool.{ne_eqb}
use Rattle.std.proofs.lemmas.Iterator.{YieldsList-from_slice, YieldsList-from_zip}
use Rattle.std.proofs.lemmas.Iterator.Consumers.{YieldsList-at}
use Rattle.std.proofs.lemmas.Iterator.Search.{all_from_yields_List}
use Rattle.store.specs.declared.row.Row.{Row}
use Rattle.store.specs.Rows.{has}
use Rattle.store.proofs.Opens.{long_not_in}
use Rattle.store.proofs.InUse.{marks_zip}
use Rattle.store.proofs.open_rows.OpenStore.contains.Goals as goal

pub returns-then-mark-self : goal.returns-then-mark-self
returns-then-mark-self c =
    let s = c.args.self.now in
    let m = c.args.mark.now in
    all_from_yields_List (λ (p : ℕ × Row). has p.1 p.0) c.all.new.self _ c.all.result c.all.ensures.ran
    (YieldsList-from_zip (YieldsList-at c.zip.ensures.first (YieldsList-from_slice m cc))
    (YieldsList-from_slice (take s.width s.rows) (c.zip.ensures.second.0 ∙ c.in_use.ensures)))
    (λ x b q h. search (rules, tests))
    ∙ marks_zip s.width s.rows m (omega arith) c.if-mark-self.true

pub returns-else-mark-self : goal.returns-else-mark-self
returns-else-mark-self c =
    let s = c.args.self.now in
    let ne = c.if-mark-self.false in
    ne_eqb _ _ ne ∙ sym (long_not_in s.width s.rows c.args.mark.now ne)
