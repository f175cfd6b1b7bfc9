use Rattle.std.proofs.Common.{refl}
use Rattle.std.proofs.lemmas.Result.{err_from_is_err_and}
use Rattle.grammar.proofs.Sheets.{parse_first, parse_fields, parse_rules, parsed}
use Rattle.grammar.proofs.sheet.read_sheet.Goals as goal

pub returns-in_err-read_first : goal.returns-in_err-read_first
returns-in_err-read_first c =
    let text = c.args.text.now in
    let f = c.in_err-read_first.ensures.value text refl in
    let q = err_from_is_err_and c.from_residual.result c.from_residual.ensures.1 in
    rw (q.1, q.2) (parse_first text c.args.table.now _ f.1)

pub returns-in_err-read_fields : goal.returns-in_err-read_fields
returns-in_err-read_fields c =
    let text = c.args.text.now in
    let f = c.in_ok-read_first.ensures.value text refl in
    let g = c.in_err-read_fields.ensures.value text f.0 in
    let q = err_from_is_err_and c.from_residual-in_err-read_fields.result c.from_residual-in_err-read_fields.ensures.1 in
    rw (q.1, q.2) (parse_fields text c.args.table.now _ _ f.1 _ g.1)

pub returns-in_err-read_rules : goal.returns-in_err-read_rules
returns-in_err-read_rules c =
    let text = c.args.text.now in
    let f = c.in_ok-read_first.ensures.value text refl in
    let g = c.in_ok-read_fields.ensures.value text f.0 in
    let h = c.in_err-read_rules.ensures text g.0 in
    let q = err_from_is_err_and c.from_residual-in_err-read_rules.result c.from_residual-in_err-read_rules.ensures.1 in
    rw (q.1, q.2) (parse_rules text c.args.table.now _ _ f.1 _ _ g.1 _ h.1)

pub returns : goal.returns
returns c =
    let text = c.args.text.now in
    let f = c.in_ok-read_first.ensures.value text refl in
    let g = c.in_ok-read_fields.ensures.value text f.0 in
    let h = c.in_ok-read_rules.ensures text g.0 in
    let m = c.read_mark.ensures text h.0 in
    parsed text c.args.table.now _ _ f.1 _ _ g.1 _ _ h.1 _ _ m.1
    c.requires.entries c.requires.over (c.requires.lines text)
