use Rattle.std.proofs.Common.{◌+◌, ap}
use Rattle.std.proofs.lemmas.Result.{err_from_is_err_and}
use Rattle.names.specs.Reading.{spelt}
use Rattle.names.proofs.Readings.{names_refused}
use Rattle.names.proofs.Summed.{has_contents}
use Rattle.names.proofs.text.read.Goals as goal

pub returns-in_err-resolve-clause-reads : goal.returns-in_err-resolve-clause-reads
returns-in_err-resolve-clause-reads c =
    let w = c.in_ok-table.ensures in
    let fault = c.in_err-resolve.ensures w.sheet w.holds w.well in
    let p = err_from_is_err_and c.from_residual-in_err-resolve.result c.from_residual-in_err-resolve.ensures.1 in
    rw (p.1, p.2) (names_refused w.cut w.is fault.0, fault.1)

pub returns-clause-reads : goal.returns-clause-reads
returns-clause-reads c =
    let w = c.in_ok-table.ensures in
    let named = c.in_ok-resolve.ensures w.sheet w.holds w.well in (
      spelt w.cut w.is named,
      has_contents c.args.text.now c.in_ok-table.table _ c.len.ensures.value c.len-2.ensures.value (ap (λ n. n + 1) c.from.ensures) w.sheet _ w.holds named,
    )
