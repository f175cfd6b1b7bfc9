use Rattle.std.proofs.Common.{Ok, subst, arith, rules}
use Rattle.std.proofs.lemmas.Result.{err_from_is_err_and}
use Rattle.signs.specs.Cutting.{too_long, not_cut}
use Rattle.signs.specs.Answers.{spelt, Follows}
use Rattle.signs.proofs.Counting.{none_counted, one_counted, all_counted, one_only}
use Rattle.signs.proofs.Once.{one_verdict_lem, put_together}
use Rattle.signs.proofs.counts.survey.Goals as goal

pub returns-then-text-gt-LONGEST_TEXT-clause-found : goal.returns-then-text-gt-LONGEST_TEXT-clause-found
returns-then-text-gt-LONGEST_TEXT-clause-found c = rw c.at.ensures (too_long c.if-text-gt-LONGEST_TEXT.true)

pub tokens-init : goal.tokens-init
tokens-init c =
    let zero = c.default-found.ensures in (
      omega (arith, zero),
      omega arith,
      none_counted c.args.text.now _ (search (rules, zero)) (search (rules, zero)) (search (rules, zero)),
      λ n q r. r,
    )

pub tokens-preserved : goal.tokens-preserved
tokens-preserved c =
    let next = subst (λ o. Follows c.args.text.now c.tokens.at (Ok o)) c.in-Some.is c.in_ok-next.ensures in
    let one = c.count.ensures in
    let kind = one_only (spelt c.in-Some.next.token) in (
      omega (arith, next.inside, one.words, one.numbers, one.signs, kind, next.after, next.some, c.tokens.invariant),
      next.inside,
      one_counted _ _ c.in-Some.next _ _ next one c.tokens.invariant.2,
      λ n q r. c.tokens.invariant.3 n q (next.refused n q r),
    )

pub returns : goal.returns
returns c =
    let text = c.args.text.now in
    let end = subst (λ o. Follows text c.tokens.at (Ok o)) c.in_default.is c.in_ok-next.ensures in
    let all = all_counted _ _ _ end c.tokens.invariant.2 in
    record {
      found = (all.0, record { short = c.if-text-gt-LONGEST_TEXT.false; cut = all.1 }, all.2);
      one_verdict = one_verdict_lem text;
      put_together = put_together text;
    }

pub returns-in_err-next : goal.returns-in_err-next
returns-in_err-next c =
    let text = c.args.text.now in
    let p = err_from_is_err_and c.from_residual.result c.from_residual.ensures.1 in
    record {
      found = rw (p.1, p.2)
          (not_cut c.if-text-gt-LONGEST_TEXT.false (c.tokens.invariant.3 _ _ c.in_err-next.ensures.refused));
      one_verdict = one_verdict_lem text;
      put_together = put_together text;
    }
