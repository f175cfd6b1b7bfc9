use Rattle.std.proofs.Common.{◌≡◌, ℕ, Option, Err, set, sym, refl, ap, ◌∙◌, subst, add-one, arith}
use Rattle.run.specs.Guides.{Picks, NoPick}
use Rattle.std.specs.Option.{ok_or}
use Rattle.run.specs.declared.stop.Stop.TheVariants.{Halted}
use Rattle.run.specs.Ways.{choice_of, trail, way, way_of, Tells, Chosen}
use Rattle.run.proofs.trail.Trail.choose.Goals as goal

pub returns-clause-left : goal.returns-clause-left
returns-clause-left g c =
    let ps = c.args.self.now.picks.now in
    let ws = c.args.self.now.widths.now in
    let k = c.args.self.now.at in
    let p = c.in_ok-pick.pick in
    let w = c.width.result in
    let ahead = g.G.Guide.ahead in
    let h = c.tell.new.self in
    let d = choice_of c.args.choice in
    let told = λ (r : Option ℕ). Tells d k (ahead c.args.self.now.guide.now ps ws) r (ahead h ps ws) in
    let t = subst told c.in_ok-pick.ensures.ok_part (c.tell.ensures.told ps ws refl refl) in (
      t.0,
      subst (Picks (ahead c.args.self.now.guide.now ps ws k) d p)
          (sym (ap (ahead h (set ps k p) (set ws k w)) (add-one k) ∙ g.met.G.Guide.past h ps ws k p w)) t.1,
      (λ j. trail (set ps k p) (set ws k (c.width.ensures j)) (add-one k j)),
    )

pub returns-in_err-pick-clause-left : goal.returns-in_err-pick-clause-left
returns-in_err-pick-clause-left g c =
    let ps = c.args.self.now.picks.now in
    let ws = c.args.self.now.widths.now in
    let k = c.args.self.now.at in
    let ahead = g.G.Guide.ahead in
    let h = c.tell.new.self in
    let d = choice_of c.args.choice in
    let told = λ (r : Option ℕ). Tells d k (ahead c.args.self.now.guide.now ps ws) r (ahead h ps ws) in
    let t = subst told c.in_err-pick.ensures.ok_part (c.tell.ensures.told ps ws refl refl) in
    let e : Err c.in_err-pick.field-0.0 ≡ Err Halted = c.in_err-pick.ensures.value
    ∙ ap (λ r. ok_or r Halted) c.in_err-pick.ensures.ok_part in
    let i = c.from_residual.ensures in
    let is : c.from_residual.result ≡ Err c.in_err-pick.field-0.0 = grind arith in
    let z = way_of ahead c.args.self.now in
    let y = way (ahead h) ps ws k in
    subst (λ r. Chosen d z r y) (sym (is ∙ e)) (
      refl,
      subst (λ q. NoPick q d) (sym t.1) t.0,
      (λ j. record { trail = trail ps ws k; guide = t.1 j }),
    )
