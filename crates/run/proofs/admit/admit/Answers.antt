use Rattle.std.proofs.Common.{◌≡◌, refl, sym, ◌∙◌, subst, arith, length}
use Rattle.run.specs.Answering.{LongEnough, fields_differ, list_short}
use Rattle.run.specs.Lists.{held}
use Rattle.run.proofs.Tables.{fields_are}
use Rattle.run.proofs.admit.admit.Goals as goal

pub returns-then-fields-field_count : goal.returns-then-fields-field_count
returns-then-fields-field_count g c = (
  fields_differ refl (λ e. omega (arith, e, fields_are c.args.sheet.now, c.fields.ensures, c.field_count.ensures, c.if-fields-field_count.true)),
  (λ e. omega (arith, e)),
)

pub returns-then-not-are_long_enough : goal.returns-then-not-are_long_enough
returns-then-not-are_long_enough g c =
    let wide : g.S.Store.width c.args.store.now ≡ length c.args.sheet.now.ranges.items =
    omega (arith, c.fields.ensures, c.field_count.ensures, c.if-fields-field_count.false) in (
      list_short refl (wide ∙ sym (fields_are c.args.sheet.now))
          (subst (λ k. LongEnough c.args.fuel k c.args.given (held c.args.lists.now) → ⊥) (c.field_count-2.ensures ∙ sym wide)
          c.if-not-are_long_enough.ensures),
      (λ e. omega (arith, e)),
    )

pub returns : goal.returns
returns g c =
    let wide : g.S.Store.width c.args.store.now ≡ length c.args.sheet.now.ranges.items =
    omega (arith, c.fields.ensures, c.field_count.ensures, c.if-fields-field_count.false) in (
      wide ∙ sym (fields_are c.args.sheet.now),
      subst (λ k. LongEnough c.args.fuel k c.args.given (held c.args.lists.now)) (c.field_count-2.ensures ∙ sym wide)
          c.if-not-are_long_enough.ensures,
    )
