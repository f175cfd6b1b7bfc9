use Rattle.std.proofs.Common.{◌≡◌, ◌≢◌, Ok, Err, sym, refl, subst, inl, inr, arith, rules}
use Rattle.meaning.specs.Traces.{branch}
use Rattle.run.specs.Ways.{way_of, Chosen}
use Rattle.run.specs.Goals.{Sided}
use Rattle.run.proofs.Arms.{both_wants, one_wants}
use Rattle.run.proofs.turn.ask.Goals as goal

pub choose-requires : goal.choose-requires
choose-requires g c =
    let h = subst (λ q. c.args.target ≢ q) c.wants.ensures
    (one_wants c.wants.result c.args.target c.if-wants-target.false) in
    c.requires h

pub returns-then-wants-target-clause-left : goal.returns-then-wants-target-clause-left
returns-then-wants-target-clause-left g c =
    inl (
      subst (λ q. c.args.target ≡ q) c.wants.ensures
          (both_wants c.wants.result c.args.target c.if-wants-target.true),
      refl,
      refl,
    )

pub returns-in_err-choose-clause-left : goal.returns-in_err-choose-clause-left
returns-in_err-choose-clause-left g c =
    let z = way_of g.G.Guide.ahead c.args.trail.now in
    let y = way_of g.G.Guide.ahead c.choose.new.self in
    let i = c.from_residual.ensures in
    let is : c.from_residual.result ≡ Err c.in_err-choose.field-0.0 = grind arith in
    subst (λ r. Sided c.args.word (branch c.args.weights.left c.args.weights.right) c.args.target z r y) (sym is) (
      subst (λ q. c.args.target ≢ q) c.wants.ensures
          (one_wants c.wants.result c.args.target c.if-wants-target.false),
      c.in_err-choose.ensures.left,
    )

pub returns-then-branch-eq0-clause-left : goal.returns-then-branch-eq0-clause-left
returns-then-branch-eq0-clause-left g c =
    let z = way_of g.G.Guide.ahead c.args.trail.now in
    let y = way_of g.G.Guide.ahead c.choose.new.self in (
      subst (λ q. c.args.target ≢ q) c.wants.ensures
          (one_wants c.wants.result c.args.target c.if-wants-target.false),
      subst (λ q. Chosen (branch c.args.weights.left c.args.weights.right) z (Ok q) y) c.if-branch-eq0.true
          c.in_ok-choose.ensures.left,
    )

pub returns-clause-left : goal.returns-clause-left
returns-clause-left g c =
    let z = way_of g.G.Guide.ahead c.args.trail.now in
    let y = way_of g.G.Guide.ahead c.choose.new.self in
    let one : c.in_ok-choose.field-0 ≡ 1 = omega (arith, c.in_ok-choose.ensures.left.0, c.if-branch-eq0.false) in
    inr (
      subst (λ q. c.args.target ≢ q) c.wants.ensures
          (one_wants c.wants.result c.args.target c.if-wants-target.false),
      search rules,
      subst (λ q. Chosen (branch c.args.weights.left c.args.weights.right) z (Ok q) y) one c.in_ok-choose.ensures.left,
    )
