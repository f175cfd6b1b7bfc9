use Rattle.std.proofs.Common.{true, false, sym, ◌∙◌, ⊎_elim}
use lib.ListN.{get_or-replicate}
use Rattle.std.proofs.lemmas.Bool.{cases_lt, lt-ltb, le-ltb}
use Rattle.store.proofs.Rows.{row_yes, row_past}
use Rattle.store.proofs.row.Row.full.Goals as goal

pub returns : goal.returns
returns c v =
    ⊎_elim
    (λ h. row_yes _ v h (get_or-replicate 1024 v true false h) ∙ sym (lt-ltb v 1024 h))
    (λ h. row_past _ v h ∙ sym (le-ltb v 1024 h))
    (cases_lt v 1024)
