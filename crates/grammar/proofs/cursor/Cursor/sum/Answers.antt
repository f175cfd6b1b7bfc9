use Rattle.grammar.proofs.Cursors.{within}
use Rattle.grammar.proofs.Terms.{raised_by, lowered_by, bare_read}
use Rattle.grammar.proofs.cursor.Cursor.sum.Goals as goal

pub returns-in-Plus : goal.returns-in-Plus
returns-in-Plus c = λ text e.
    let s = c.shifted.ensures text e in (
      s.0,
      raised_by text _ c.peek-ahead.result (c.peek-ahead.ensures.sees text e) _ c.args.word _ c.in-Plus.is
          (λ m s k. k) s.1,
    )

pub returns-in-Minus : goal.returns-in-Minus
returns-in-Minus c = λ text e.
    let s = c.shifted-in-Minus.ensures text e in (
      s.0,
      lowered_by text _ c.peek-ahead.result (c.peek-ahead.ensures.sees text e) _ c.args.word _ c.in-Minus.is
          (λ m s k. k) s.1,
    )

pub returns-in_default : goal.returns-in_default
returns-in_default c = λ text e. (
  e,
  bare_read text _ c.peek-ahead.result (c.peek-ahead.ensures.sees text e) c.args.word (within c.args.self.now text e)
      c.in_default.not-Plus c.in_default.not-Minus,
)
