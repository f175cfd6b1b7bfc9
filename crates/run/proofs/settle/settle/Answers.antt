use Rattle.std.proofs.Common.{◌≡◌, ℕ, ◌<◌, ◌≢◌, length, Some, None, Ok, Err, Option, MatchOption, IsSome, refl, sym, ◌∙◌, subst, arith}
use Rattle.std.specs.Int.NonZero.{non_zero_u16_get}
use Rattle.std.specs.declared.num.NonZeroU16.{NonZeroU16}
use Rattle.marks.specs.Counted.{values}
use Rattle.marks.proofs.Counted.{few_values}
use Rattle.meaning.specs.Traces.{among}
use Rattle.run.specs.Ways.{way_of, Chosen}
use Rattle.run.specs.Settling.{Settled, KeepsValue}
use Rattle.run.proofs.Settling.{known_done, chosen_done, chosen_halted, some_values, one_fits}
use Rattle.run.proofs.settle.settle.Goals as goal

pub overflow_cast-count : goal.overflow_cast-count
overflow_cast-count g c =
    let st = g.S.Store in
    let s = c.args.store.now in
    let u = c.in-Err.ensures in
    omega (arith, u.2, few_values (st.width s) (st.current s) c.in-Err.field-0.field)

some_number :
    (r : Option NonZeroU16) (n : ℕ)
    → MatchOption r (n ≡ 0) (λ x. non_zero_u16_get x ≡ n)
    → 0 < n
    → IsSome r
some_number None n h l = absurd (omega (arith, h, l))
some_number (Some x) n h l = refl

pub unwrap-count-requires : goal.unwrap-count-requires
unwrap-count-requires g c =
    let st = g.S.Store in
    let s = c.args.store.now in
    let u = c.in-Err.ensures in
    some_number c.new.result c.in-Err.field-0.count c.new.ensures (omega (arith, u.2, some_values (st.width s) (st.current s) c.in-Err.field-0.field (st.sound.left s) u.1 c.requires.some))

pub choose-requires : goal.choose-requires
choose-requires g c =
    let st = g.S.Store in
    let s = c.args.store.now in
    let f = c.in-Err.field-0.field in
    let u = c.in-Err.ensures in
    let wide : length (values (st.width s) (st.current s) f) ≢ 1 = λ e. u.3 (u.2 ∙ e) in
    let z = way_of g.G.Guide.ahead c.args.trail.now in
    one_fits (st.width s) (st.current s) f (st.sound.left s) u.1 z c.requires.some c.args.argument u.0
    z wide c.requires.room

pub returns-in-Ok-clause-left : goal.returns-in-Ok-clause-left
returns-in-Ok-clause-left g c =
    let st = g.S.Store in
    let s = c.args.store.now in
    known_done (st.width s) (st.current s) c.args.argument c.in-Ok.number
    (way_of g.G.Guide.ahead c.args.trail.now) c.in-Ok.ensures c.requires.some

pub returns-in_ok-place-in-Err-clause-left : goal.returns-in_ok-place-in-Err-clause-left
returns-in_ok-place-in-Err-clause-left g c =
    let st = g.S.Store in
    let s = c.args.store.now in
    let z = way_of g.G.Guide.ahead c.args.trail.now in
    let f = c.in-Err.field-0.field in
    let u = c.in-Err.ensures in
    let y = way_of g.G.Guide.ahead c.choose.new.self in
    let wide : length (values (st.width s) (st.current s) f) ≢ 1 = λ e. u.3 (u.2 ∙ e) in
    let asked : non_zero_u16_get c.unwrap-count.result ≡ c.in-Err.field-0.count =
    subst (λ r. MatchOption r (c.in-Err.field-0.count ≡ 0) (λ x. non_zero_u16_get x ≡ c.in-Err.field-0.count))
    c.unwrap-count.ensures c.new.ensures in
    let v = c.keep_value.result in
    let P = st.current c.keep_value.new.store in
    let k = c.in_ok-place-in-Err.place in
    chosen_done (st.width s) (st.current s) f (st.sound.left s) u.1 z c.requires.some c.args.argument u.0 y wide
    k v P (subst (λ q. Chosen (among q) z (Ok k) y) (asked ∙ u.2) c.in_ok-place-in-Err.ensures.left)
    (subst (λ q. KeepsValue (st.width s) (st.current s) f q v P) c.from.ensures c.keep_value.ensures.left)

pub returns-in_err-place-in-Err-clause-left : goal.returns-in_err-place-in-Err-clause-left
returns-in_err-place-in-Err-clause-left g c =
    let st = g.S.Store in
    let s = c.args.store.now in
    let z = way_of g.G.Guide.ahead c.args.trail.now in
    let f = c.in-Err.field-0.field in
    let u = c.in-Err.ensures in
    let y = way_of g.G.Guide.ahead c.choose.new.self in
    let wide : length (values (st.width s) (st.current s) f) ≢ 1 = λ e. u.3 (u.2 ∙ e) in
    let asked : non_zero_u16_get c.unwrap-count.result ≡ c.in-Err.field-0.count =
    subst (λ r. MatchOption r (c.in-Err.field-0.count ≡ 0) (λ x. non_zero_u16_get x ≡ c.in-Err.field-0.count))
    c.unwrap-count.ensures c.new.ensures in
    let e = c.in_err-place-in-Err.field-0.0 in
    let i = c.from_residual.ensures in
    let is : c.from_residual.result ≡ Err e = grind arith in
    subst (λ r. Settled (st.width s) (st.current s) c.args.argument z r (st.current s) y) (sym is)
    (chosen_halted (st.width s) (st.current s) f (st.sound.left s) u.1 z c.requires.some c.args.argument u.0 y wide
    e (st.current s) (subst (λ q. Chosen (among q) z (Err e) y) (asked ∙ u.2) c.in_err-place-in-Err.ensures.left))
