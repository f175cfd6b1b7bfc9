use Rattle.std.proofs.Common.{◌≡◌, false, rules}
use Rattle.grammar.proofs.Leaves.{no, fixed_read, fixed_stops}
use Rattle.grammar.proofs.cursor.Cursor.expect.Goals as goal

pub returns-then-ne-clause-asked : goal.returns-then-ne-clause-asked
returns-then-ne-clause-asked c = λ text e. (
  e,
  λ k i. fixed_stops text _ c.peek-ahead.result (c.peek-ahead.ensures.sees text e) i _ c.not_permitted.ensures
      (λ z.
      let t : c.ne.result ≡ false = search rules in
      let u = c.if-ne.true in
      no (cc)),
)

pub returns-clause-asked : goal.returns-clause-asked
returns-clause-asked c = λ text e. (
  e,
  λ k i. fixed_read text _ c.peek-ahead.result (c.peek-ahead.ensures.sees text e) i (search rules),
)
