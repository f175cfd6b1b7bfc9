use Rattle.std.proofs.Common.{◌≡◌, Err, sym, ap, ◌∙◌, subst, arith}
use Rattle.marks.specs.Sets.{Shaped}
use Rattle.meaning.specs.Matching.{the_field}
use Rattle.run.specs.Ways.{way_of}
use Rattle.run.specs.Frames.{argument_of}
use Rattle.run.specs.Comparing.{Narrowed, Related}
use Rattle.run.proofs.Settling.{knows_not}
use Rattle.run.proofs.Leaving.{left_kept, settled_kept, settled_halt, settle_fits}
use Rattle.run.proofs.compare.relate.Goals as goal

pub returns-in-Ok-clause-left : goal.returns-in-Ok-clause-left
returns-in-Ok-clause-left g c =
    let st = g.S.Store in
    let s = c.args.store.now in
    let w = st.width s in
    let z = way_of g.G.Guide.ahead c.args.trail.now in
    let k = c.args.sides in
    let t = c.narrow.new.store in
    left_kept w (st.current s) (argument_of k.left) k.sign (argument_of k.right) z (st.current t)
    (λ m h. subst (λ q. Shaped q m) c.narrow.ensures.same.0 (st.sound.left t m h))
    c.from-field.result c.in-Ok.right c.narrow.result
    (ap argument_of c.in-Field.is ∙ ap the_field (sym c.from-field.ensures)) c.in-Ok.ensures.0 c.narrow.ensures.left

pub settle-requires-clause-room : goal.settle-requires-clause-room
settle-requires-clause-room g c =
    let st = g.S.Store in
    let s = c.args.store.now in
    let w = st.width s in
    let S = st.current s in
    let z = way_of g.G.Guide.ahead c.args.trail.now in
    let k = c.args.sides in
    let b = argument_of k.right in
    let q = knows_not w S (st.sound.left s) b c.in-Err.right c.in-Err.ensures in
    settle_fits w S z k.left k.sign b q c.requires.room

pub returns-in_err-left-in-Err-clause-left : goal.returns-in_err-left-in-Err-clause-left
returns-in_err-left-in-Err-clause-left g c =
    let st = g.S.Store in
    let s = c.args.store.now in
    let w = st.width s in
    let S = st.current s in
    let z = way_of g.G.Guide.ahead c.args.trail.now in
    let k = c.args.sides in
    let a = argument_of k.left in
    let b = argument_of k.right in
    let q = knows_not w S (st.sound.left s) b c.in-Err.right c.in-Err.ensures in
    let y = way_of g.G.Guide.ahead c.settle.new.trail in
    let P = st.current c.settle.new.store in
    let e = c.in_err-left-in-Err.field-0.0 in
    let i = c.from_residual.ensures in
    let is : c.from_residual.result ≡ Err e = grind arith in
    subst (λ r. Related w S a k.sign b z r P y) (sym is)
    (settled_halt w S z k.left k.sign b q e P y c.in_err-left-in-Err.ensures.left)

pub returns-in_ok-left-in-Err-clause-left : goal.returns-in_ok-left-in-Err-clause-left
returns-in_ok-left-in-Err-clause-left g c =
    let st = g.S.Store in
    let s = c.args.store.now in
    let w = st.width s in
    let S = st.current s in
    let z = way_of g.G.Guide.ahead c.args.trail.now in
    let k = c.args.sides in
    let b = argument_of k.right in
    let q = knows_not w S (st.sound.left s) b c.in-Err.right c.in-Err.ensures in
    let y = way_of g.G.Guide.ahead c.settle.new.trail in
    let Q = st.current c.settle.new.store in
    let t = c.narrow-in-Err.new.store in
    let P = st.current t in
    let same = c.settle.ensures.same.0 in
    let r = c.narrow-in-Err.result in
    let f = c.in-Err.right.field in
    let v = c.in_ok-left-in-Err.left in
    let i = c.mirrored.result in
    settled_kept w S z k.left k.sign b q Q P y f v i r
    (λ m h. subst (λ n. Shaped n m) (c.narrow-in-Err.ensures.same.0 ∙ same) (st.sound.left t m h))
    c.in_ok-left-in-Err.ensures.left c.in-Err.ensures.0 c.mirrored.ensures
    (subst (λ n. Narrowed n Q f i v r P) same c.narrow-in-Err.ensures.left)
