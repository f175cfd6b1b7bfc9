use Rattle.grammar.proofs.Terms.{constant_read, named_read, term_stops}
use Rattle.grammar.proofs.cursor.Cursor.term.Goals as goal

pub returns-in-Number : goal.returns-in-Number
returns-in-Number c = λ text e. (
  e,
  constant_read text _ c.peek-ahead.result (c.peek-ahead.ensures.sees text e) c.in-Number.value c.in-Number.is,
)

pub returns-in-Name : goal.returns-in-Name
returns-in-Name c = λ text e.
    let s = c.sum.ensures text e in (
      s.0,
      named_read text _ c.peek-ahead.result (c.peek-ahead.ensures.sees text e) c.in-Name.word _ c.in-Name.is s.1,
    )

pub returns-in_default : goal.returns-in_default
returns-in_default c = λ text e. (
  e,
  term_stops text _ c.peek-ahead.result (c.peek-ahead.ensures.sees text e) _ c.not_permitted.ensures
      c.in_default.not-Name c.in_default.not-Number,
)
