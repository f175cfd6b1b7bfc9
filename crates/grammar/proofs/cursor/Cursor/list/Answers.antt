use Rattle.std.proofs.Common.{refl, sym, ◌∙◌, arith}
use Rattle.std.proofs.lemmas.Result.{err_from_is_err_and}
use Rattle.grammar.specs.declared.token.Class.TheVariants as class
use Rattle.grammar.proofs.Leaves.{no, real}
use Rattle.grammar.proofs.Cursors.{within, passed, not_passed}
use Rattle.grammar.proofs.Bracketed.{none_read, reading_first, reading_again, list_read, list_stops, item_stops}
use Rattle.grammar.proofs.cursor.Cursor.list.Goals as goal

pub returns-then-is_some : goal.returns-then-is_some
returns-then-is_some g c =
    let f = passed class.Closing c.args.self.now c.pass_if.new.self _ (sym c.is_some.ensures ∙ c.if-is_some.true)
    c.pass_if.ensures in
    rw f.3 (λ text e. (
      f.4 ∙ e,
      none_read text g.row.T.Denot g.T.Item.is_item g.T.Item.listing g.met.T.Item.brackets
          _ f.0 _ (f.1 text e) c.new-list.ensures f.2,
    ))

pub loop-item-init : goal.loop-item-init
loop-item-init g c =
    let n = not_passed class.Closing c.args.self.now c.pass_if.new.self _
    (sym c.is_some.ensures ∙ c.if-is_some.false) c.pass_if.ensures in
    λ text e. (
      e,
      reading_first text g.row.T.Denot g.T.Item.is_item g.T.Item.listing g.met.T.Item.brackets
          _ n.1.0 _ (n.1.1 text e) (within c.pass_if.new.self text e) c.new-list.ensures n.1.2,
    )

pub returns-in_err-item : goal.returns-in_err-item
returns-in_err-item g c =
    let n = not_passed class.Closing c.args.self.now c.pass_if.new.self _
    (sym c.is_some.ensures ∙ c.if-is_some.false) c.pass_if.ensures in
    let q = err_from_is_err_and c.from_residual.result c.from_residual.ensures.1 in
    rw (q.1, q.2, sym n.0) (λ text e.
    let i = c.loop-item.invariant text e in
    let o = c.in_err-item.ensures text i.0 in (
      o.0,
      item_stops text g.row.T.Denot g.T.Item.is_item g.T.Item.listing g.met.T.Item.brackets
          _ _ c.loop-item.list _ i.1 o.1,
    ))

pub loop-item-smaller : goal.loop-item-smaller
loop-item-smaller g c =
    let text = c.pass_if.new.self.text.now in
    let i = c.loop-item.invariant text refl in
    let o = c.in_ok-item.ensures text i.0 in
    let is = c.in-Comma.is in
    let r = real text _ c.peek-ahead.result (c.peek-ahead.ensures.sees text o.0)
    (λ z. no (cc)) in
    omega (arith, o.1.0, r.0, r.1)

pub loop-item-preserved : goal.loop-item-preserved
loop-item-preserved g c = λ text e.
    let i = c.loop-item.invariant text e in
    let o = c.in_ok-item.ensures text i.0 in (
      o.0,
      reading_again text g.row.T.Denot g.T.Item.is_item g.T.Item.listing g.met.T.Item.brackets
          _ _ _ c.loop-item.list c.keep.new.self c.in_ok-item.item i.1 o.1
          c.keep.ensures.counts c.keep.ensures.holds c.peek-ahead.result
          (c.peek-ahead.ensures.sees text o.0) c.in-Comma.is,
    )

pub returns-in-Closing : goal.returns-in-Closing
returns-in-Closing g c =
    let n = not_passed class.Closing c.args.self.now c.pass_if.new.self _
    (sym c.is_some.ensures ∙ c.if-is_some.false) c.pass_if.ensures in
    rw (sym n.0) (λ text e.
    let i = c.loop-item.invariant text e in
    let o = c.in_ok-item.ensures text i.0 in (
      o.0,
      list_read text g.row.T.Denot g.T.Item.is_item g.T.Item.listing g.met.T.Item.brackets
          _ _ _ c.loop-item.list c.keep.new.self c.in_ok-item.item i.1 o.1
          c.keep.ensures.counts c.keep.ensures.holds c.peek-ahead.result
          (c.peek-ahead.ensures.sees text o.0) c.in-Closing.is,
    ))

pub returns-in_default : goal.returns-in_default
returns-in_default g c =
    let n = not_passed class.Closing c.args.self.now c.pass_if.new.self _
    (sym c.is_some.ensures ∙ c.if-is_some.false) c.pass_if.ensures in
    rw (sym n.0) (λ text e.
    let i = c.loop-item.invariant text e in
    let o = c.in_ok-item.ensures text i.0 in (
      o.0,
      list_stops text g.row.T.Denot g.T.Item.is_item g.T.Item.listing g.met.T.Item.brackets
          _ _ _ c.loop-item.list c.keep.new.self c.in_ok-item.item i.1 o.1
          c.keep.ensures.counts c.keep.ensures.holds c.peek-ahead.result
          (c.peek-ahead.ensures.sees text o.0)
          _ c.not_permitted.ensures c.in_default.not-Comma c.in_default.not-Closing,
    ))
