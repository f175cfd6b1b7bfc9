use Rattle.std.proofs.Common.{false, ⊎_elim}
use lib.ListN.{get_or-replicate}
use Rattle.std.proofs.lemmas.Bool.{cases_lt}
use Rattle.store.proofs.Rows.{row_no, row_past}
use Rattle.store.proofs.row.Row.none.Goals as goal

pub returns : goal.returns
returns c v = ⊎_elim (λ h. row_no _ v (get_or-replicate 1024 v false false h)) (λ h. row_past _ v h)
    (cases_lt v 1024)
