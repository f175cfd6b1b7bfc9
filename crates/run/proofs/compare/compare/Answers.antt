use Rattle.std.proofs.Common.{◌≡◌, true, Ok, Err, sym, ◌∙◌, subst, arith}
use Rattle.marks.specs.Counted.{some}
use Rattle.run.specs.Ways.{way_of}
use Rattle.sheet.specs.Table.{term_of}
use Rattle.run.specs.Frames.{arguments_of, argument_of, Okay, TermOkay, FrameOkay}
use Rattle.run.specs.Comparing.{Resolved, Related, Compared}
use Rattle.run.proofs.Comparing.{one_fits, one_halt, two_fits, two_halt, three_fits, compared}
use Rattle.meaning.proofs.Counting.{counted}
use Rattle.run.proofs.Settling.{some_alive}
use Rattle.run.proofs.compare.compare.Goals as goal

pub resolve-requires : goal.resolve-requires
resolve-requires g c =
    let st = g.S.Store in
    let s = c.args.store.now in
    let w = st.width s in
    let S = st.current s in
    record {
      frame = c.requires.frame;
      okay = c.requires.left;
      some = c.requires.some;
      room = one_fits (arguments_of c.args.frame) (term_of c.args.terms.left) c.args.terms.sign (term_of c.args.terms.right)
          S (counted w S (st.sound.left s)) (some_alive w S c.requires.some) w
          (way_of g.G.Guide.ahead c.args.trail.now) c.requires.room;
    }

pub returns-in_err-left-clause-left : goal.returns-in_err-left-clause-left
returns-in_err-left-clause-left g c =
    let st = g.S.Store in
    let s = c.args.store.now in
    let w = st.width s in
    let S = st.current s in
    let z = way_of g.G.Guide.ahead c.args.trail.now in
    let e = arguments_of c.args.frame in
    let l = term_of c.args.terms.left in
    let r = term_of c.args.terms.right in
    let S₁ = st.current c.resolve.new.store in
    let y₁ = way_of g.G.Guide.ahead c.resolve.new.trail in
    let k = c.in_err-left.field-0.0 in
    let i = c.from_residual.ensures in
    let is : c.from_residual.result ≡ Err k = grind arith in
    subst (λ q. Compared w e l c.args.terms.sign r S z q S₁ y₁) (sym is)
    (one_halt e l c.args.terms.sign r S (counted w S (st.sound.left s)) (some_alive w S c.requires.some)
    w z k S₁ y₁ c.in_err-left.ensures.left)

pub resolve-requires-2 : goal.resolve-requires-2
resolve-requires-2 g c =
    let st = g.S.Store in
    let s = c.args.store.now in
    let w = st.width s in
    let S = st.current s in
    let S₁ = st.current c.resolve.new.store in
    let y₁ = way_of g.G.Guide.ahead c.resolve.new.trail in
    let w₁ = c.resolve.ensures.same.0 in
    let p = c.in_ok-left.ensures.left in
    record {
      frame = subst (λ k. FrameOkay k c.args.frame) (sym w₁) c.requires.frame;
      okay = subst (λ k. TermOkay k c.args.frame.count c.args.terms.right) (sym w₁) c.requires.right;
      some = subst (λ k. some k S₁ ≡ true) (sym w₁) p.alive;
      room = two_fits (arguments_of c.args.frame) (term_of c.args.terms.left) c.args.terms.sign (term_of c.args.terms.right)
          S (counted w S (st.sound.left s)) (some_alive w S c.requires.some) w
          (way_of g.G.Guide.ahead c.args.trail.now) c.in_ok-left.left S₁ y₁ p c.requires.room;
    }

pub returns-in_err-right-clause-left : goal.returns-in_err-right-clause-left
returns-in_err-right-clause-left g c =
    let st = g.S.Store in
    let s = c.args.store.now in
    let w = st.width s in
    let S = st.current s in
    let z = way_of g.G.Guide.ahead c.args.trail.now in
    let e = arguments_of c.args.frame in
    let l = term_of c.args.terms.left in
    let r = term_of c.args.terms.right in
    let i = c.args.terms.sign in
    let C = counted w S (st.sound.left s) in
    let x = some_alive w S c.requires.some in
    let S₁ = st.current c.resolve.new.store in
    let y₁ = way_of g.G.Guide.ahead c.resolve.new.trail in
    let w₁ = c.resolve.ensures.same.0 in
    let a = c.in_ok-left.left in
    let p = c.in_ok-left.ensures.left in
    let S₂ = st.current c.resolve-2.new.store in
    let y₂ = way_of g.G.Guide.ahead c.resolve-2.new.trail in
    let k = c.in_err-right.field-0.0 in
    let told = c.from_residual-in_err-right.ensures in
    let is : c.from_residual-in_err-right.result ≡ Err k = grind arith in
    subst (λ o. Compared w e l i r S z o S₂ y₂) (sym is)
    (two_halt e l i r S C x w z a S₁ y₁ p k S₂ y₂
    (subst (λ n. Resolved n e S₁ r y₁ (Err k) S₂ y₂) w₁ c.in_err-right.ensures.left))

pub relate-requires : goal.relate-requires
relate-requires g c =
    let st = g.S.Store in
    let s = c.args.store.now in
    let w = st.width s in
    let S = st.current s in
    let z = way_of g.G.Guide.ahead c.args.trail.now in
    let e = arguments_of c.args.frame in
    let l = term_of c.args.terms.left in
    let r = term_of c.args.terms.right in
    let i = c.args.terms.sign in
    let C = counted w S (st.sound.left s) in
    let x = some_alive w S c.requires.some in
    let S₁ = st.current c.resolve.new.store in
    let y₁ = way_of g.G.Guide.ahead c.resolve.new.trail in
    let w₁ = c.resolve.ensures.same.0 in
    let a = c.in_ok-left.left in
    let p = c.in_ok-left.ensures.left in
    let S₂ = st.current c.resolve-2.new.store in
    let y₂ = way_of g.G.Guide.ahead c.resolve-2.new.trail in
    let w₂ = c.resolve-2.ensures.same.0 ∙ w₁ in
    let d = c.in_ok-right.right in
    let q = subst (λ k. Resolved k e S₁ r y₁ (Ok d) S₂ y₂) w₁ c.in_ok-right.ensures.left in
    record {
      left = subst (λ k. Okay k a) (sym w₂) p.okay;
      right = subst (λ k. Okay k d) (sym w₂) q.okay;
      some = subst (λ k. some k S₂ ≡ true) (sym w₂) q.alive;
      room = three_fits e l i r S C x w z a S₁ y₁ p d S₂ y₂ q c.requires.room;
    }

pub returns-clause-left : goal.returns-clause-left
returns-clause-left g c =
    let st = g.S.Store in
    let s = c.args.store.now in
    let w = st.width s in
    let S = st.current s in
    let z = way_of g.G.Guide.ahead c.args.trail.now in
    let e = arguments_of c.args.frame in
    let l = term_of c.args.terms.left in
    let r = term_of c.args.terms.right in
    let i = c.args.terms.sign in
    let C = counted w S (st.sound.left s) in
    let x = some_alive w S c.requires.some in
    let S₁ = st.current c.resolve.new.store in
    let y₁ = way_of g.G.Guide.ahead c.resolve.new.trail in
    let w₁ = c.resolve.ensures.same.0 in
    let a = c.in_ok-left.left in
    let p = c.in_ok-left.ensures.left in
    let S₂ = st.current c.resolve-2.new.store in
    let y₂ = way_of g.G.Guide.ahead c.resolve-2.new.trail in
    let w₂ = c.resolve-2.ensures.same.0 ∙ w₁ in
    let d = c.in_ok-right.right in
    let q = subst (λ k. Resolved k e S₁ r y₁ (Ok d) S₂ y₂) w₁ c.in_ok-right.ensures.left in
    let P = st.current c.relate.new.store in
    let y₃ = way_of g.G.Guide.ahead c.relate.new.trail in
    compared e l i r S C x w z a S₁ y₁ p d S₂ y₂ q P y₃ c.relate.result
    (subst (λ n. Related n S₂ (argument_of a) i (argument_of d) y₂ c.relate.result P y₃) w₂ c.relate.ensures.left)
