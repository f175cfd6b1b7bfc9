use Rattle.std.proofs.Common.{◌≡◌, true, sym, subst, arith}
use Rattle.std.specs.Slice.{IsItemAt}
use Rattle.std.proofs.lemmas.Bool.{not-true, not-false}
use Rattle.marks.specs.Counted.{some}
use Rattle.marks.proofs.Counted.{values_empty, values_taken}
use Rattle.store.specs.Opens.{open_left}
use Rattle.store.specs.Sounds.{marks_in_of}
use Rattle.store.proofs.InUse.{item_taken}
use Rattle.store.proofs.open_rows.OpenStore.taken.Goals as goal

pub returns-then-has_empty_row : goal.returns-then-has_empty_row
returns-then-has_empty_row c =
    let s = c.args.self.now in
    let n = s.width in
    let S = open_left s in
    let f = c.args.field in
    (values_taken n S f (marks_in_of n s.rows), values_empty n S f (not-true _ (sym c.if-has_empty_row.ensures.1)))

pub returns : goal.returns
returns c =
    let s = c.args.self.now in
    let f = c.args.field in
    let there : some s.width (open_left s) ≡ true = not-false _ (sym c.if-has_empty_row.ensures.1) in
    item_taken s.width s.rows f c.get.result (omega arith) there
    (subst (λ rs. IsItemAt rs f c.get.result) c.in_use.ensures c.get.ensures.lookup)
