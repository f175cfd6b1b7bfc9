use Rattle.std.proofs.Common.{◌∙◌, subst}
use Rattle.std.proofs.lemmas.Result.{err_from_is_err_and}
use Rattle.grammar.specs.Parsing.{MarkKept}
use Rattle.grammar.proofs.Lines.{no_mark, body_at, body_at_stops, mark_body_stops, more_stops, mark_read}
use Rattle.grammar.proofs.line.read_mark.Goals as goal

pub returns-in_err-first : goal.returns-in_err-first
returns-in_err-first c =
    let q = err_from_is_err_and c.from_residual.result c.from_residual.ensures.1 in
    rw (q.1, q.2) (λ text e.
    let m = c.in_err-first.ensures.met in
    (m.2 ∙ e, no_mark text _ c.args.table.now m.0 (m.1 text e) _ m.3.1 m.3.0))

pub returns-in_err-body : goal.returns-in_err-body
returns-in_err-body c =
    let q = err_from_is_err_and c.from_residual-in_err-body.result c.from_residual-in_err-body.ensures.1 in
    rw (q.1, q.2) (λ text e.
    let m = c.in_ok-first.ensures.met in
    let b = c.in_err-body.ensures.value text (m.2 ∙ e) in (
      b.0,
      mark_body_stops text _ c.args.table.now m.0 (m.1 text e) m.3.0 _
          (body_at_stops text _ _ c.args.table.now _ m.3.2 b.1),
    ))

pub returns-in_err-expect : goal.returns-in_err-expect
returns-in_err-expect c =
    let q = err_from_is_err_and c.from_residual-in_err-expect.result c.from_residual-in_err-expect.ensures.1 in
    rw (q.1, q.2) (λ text e.
    let m = c.in_ok-first.ensures.met in
    let b = c.in_ok-body.ensures.value text (m.2 ∙ e) in
    let l = c.in_err-expect.ensures.met in (
      l.2 ∙ b.0,
      more_stops text _ c.args.table.now m.0 (m.1 text e) m.3.0
          (record { value = c.in_ok-body.body; end = c.read_body.new.cursor.at })
          (body_at text _ _ _ _ (record { value = c.in_ok-body.body; end = c.read_body.new.cursor.at }) m.3.2 b.1) l.0 (l.1 text b.0) _ l.3.1 l.3.0,
    ))

pub returns : goal.returns
returns c = λ text e.
    let m = c.in_ok-first.ensures.met in
    let b = c.in_ok-body.ensures.value text (m.2 ∙ e) in
    let l = c.in_ok-expect.ensures.met in (
      l.2 ∙ b.0,
      mark_read text _ c.args.table.now m.0 (m.1 text e) m.3.0
          (record { value = c.in_ok-body.body; end = c.read_body.new.cursor.at })
          (body_at text _ _ _ _ (record { value = c.in_ok-body.body; end = c.read_body.new.cursor.at }) m.3.2 b.1) l.0 (l.1 text b.0) c.in_ok-body.ensures.grown
          (subst (λ z. MarkKept c.read_body.new.table c.keep_mark.new.self z c.in_ok-body.body.start c.in_ok-body.body.part)
          m.3.1 c.keep_mark.ensures) l.3.0,
    )
