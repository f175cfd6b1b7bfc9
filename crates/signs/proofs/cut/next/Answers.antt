use Rattle.std.proofs.Common.{◌≡◌, ◌+◌, length, Ok, Err, Result, refl, ap, ◌∙◌, subst, arith, rules, length-drop}
use Rattle.std.specs.Result.{MatchResult, IsErrAnd}
use Rattle.std.proofs.lemmas.Result.{err_from_is_err_and}
use Rattle.signs.specs.Scanning.{part, Leads}
use Rattle.signs.proofs.Scans.{part_last}
use Rattle.signs.proofs.Steps.{reached, solid_there, past_end, no_token, token_follows, fault_follows}
use Rattle.signs.proofs.cut.next.Goals as goal

-- what a result was before its errors were mapped
module _ {T E D : Type 0} (Q : E → D → Type 0) where
  mapped_ok :
      (before : Result T E) (after : Result T D) (v : T)
      → MatchResult before (λ x. after ≡ Ok x) (λ e. IsErrAnd after (Q e))
      → after ≡ Ok v
      → before ≡ Ok v
  mapped_ok (Ok x) after v m is = cc
  mapped_ok (Err e) (Ok y) v m is = absurd m
  mapped_ok (Err e) (Err d) v m is = absurd cc

  mapped_err :
      (before : Result T E) (after : Result T D) (d : D)
      → MatchResult before (λ x. after ≡ Ok x) (λ e. IsErrAnd after (Q e))
      → after ≡ Err d
      → (e : E) × (before ≡ Err e) × Q e d
  mapped_err (Ok x) after d m is = absurd cc
  mapped_err (Err e) (Ok y) d m is = absurd m
  mapped_err (Err e) (Err b) d m is = let same : b ≡ d = cc in (e, refl, subst (Q e) same m)

pub returns-then-from-text : goal.returns-then-from-text
returns-then-from-text c = past_end c.args.text.now c.args.from c.if-from-text.true

pub returns-then-place-text : goal.returns-then-place-text
returns-then-place-text c =
    no_token c.args.text.now c.args.from _ (reached _ _ _ (omega arith) c.front.ensures) c.if-place-text.true

pub first_token-requires : goal.first_token-requires
first_token-requires c =
    let at = c.args.from + c.front.result in (
      omega (arith, ap length (part_last c.args.text.now at), length-drop at c.args.text.now),
      solid_there c.args.text.now c.args.from c.front.result c.front.ensures c.if-place-text.false,
    )

pub returns : goal.returns
returns c =
    let text = c.args.text.now in
    let place = c.args.from + c.front.result in
    let found =
    mapped_ok _ c.first_token.result _ c.in_ok-token.field-0 c.map_err.ensures.cases c.in_ok-token.was in
    token_follows text c.args.from place _ (reached _ _ _ (omega arith) c.front.ensures) (omega arith)
    (subst (Leads (part text place (length text))) found c.first_token.ensures)

pub returns-in_err-token : goal.returns-in_err-token
returns-in_err-token c =
    let text = c.args.text.now in
    let place = c.args.from + c.front.result in
    let found =
    mapped_err _ c.first_token.result _ c.in_err-token.field-0.0 c.map_err.ensures.cases c.in_err-token.was in
    let at = found.2 in
    let p = err_from_is_err_and c.from_residual.result c.from_residual.ensures.1 in
    let fault : c.in_err-token.field-0.0 ≡ record { place = place; refusal = found.0 } = search (rules, at) in
    rw p.1
    (fault_follows text c.args.from place _ _ (p.2 ∙ fault) (reached _ _ _ (omega arith) c.front.ensures)
    (subst (Leads (part text place (length text))) found.1 c.first_token.ensures))
