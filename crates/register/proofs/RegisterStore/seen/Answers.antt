use Rattle.std.proofs.Common.{◌≡◌, ℕ, ◌<◌, ◌≤◌, ◌&&◌, ◌||◌, eqb, ltb, length, get_or, sym, ap, ◌∙◌, subst, arith}
use Rattle.std.proofs.lemmas.List.{length_push}
use Rattle.marks.proofs.Below.{below_none}
use Rattle.marks.proofs.Counted.{values_taken, values_outside}
use Rattle.store.specs.Rows.{has}
use Rattle.store.specs.Opens.{open_left}
use Rattle.register.specs.Registers.{width_of, register_left}
use Rattle.register.specs.Sounds.{left_of}
use Rattle.register.proofs.Registers.{Stands, stands_first, stands_turn, stands_last, seen_in, seen_none, seen_add, seen_skip, seen_values}
use Rattle.register.proofs.RegisterStore.seen.Goals as goal

pub returns-then-field-fields : goal.returns-then-field-fields
returns-then-field-fields c =
    let s = c.args.self.now in
    let f = c.args.field in
    let out : width_of s ≤ f = omega (arith, c.if-field-fields.true, c.fields.ensures) in (
      values_taken (width_of s) (register_left s) f (left_of s),
      below_none (has c.none-seen.result) 1024 (λ v l. c.none-seen.ensures v)
          ∙ sym (values_outside (width_of s) (register_left s) f out),
    )

pub loop-mark-init : goal.loop-mark-init
loop-mark-init c = record {
  place = stands_first c.args.self.now c.into_iter-mark-iterator.result (cc) (cc);
  seen = λ v. c.none-seen.ensures v ∙ sym (seen_none c.args.self.now c.args.field v);
}

pub loop-mark-preserved-then-contains : goal.loop-mark-preserved-then-contains
loop-mark-preserved-then-contains c =
    let s = c.args.self.now in
    let f = c.args.field in
    let i = length c.loop-mark.yielded in
    let turn = stands_turn s c.loop-mark.mark-iterator c.next.new.self i c.in-Some.mark
    c.loop-mark.invariant.place c.in-Some.ensures.steps in
    let more = sym (length_push c.loop-mark.yielded c.in-Some.mark) in
    let h : f < width_of s = omega (arith, c.if-field-fields.false, c.fields.ensures) in
    record {
      place = subst (Stands s c.next.new.self) more turn.0;
      seen = subst (λ j. (v : ℕ) → has c.add.new.self v ≡ seen_in s f j v) more
          (seen_add s f i c.loop-mark.seen c.add.new.self h turn.1
          (ap (open_left s.allowed) (sym turn.2) ∙ sym c.if-contains.ensures) c.loop-mark.invariant.seen
          (λ v. c.add.ensures v
          ∙ ap (λ m. has c.loop-mark.seen v || (ltb v 1024 && eqb (get_or m f 0) v)) turn.2));
    }

pub loop-mark-preserved : goal.loop-mark-preserved
loop-mark-preserved c =
    let s = c.args.self.now in
    let f = c.args.field in
    let i = length c.loop-mark.yielded in
    let turn = stands_turn s c.loop-mark.mark-iterator c.next.new.self i c.in-Some.mark
    c.loop-mark.invariant.place c.in-Some.ensures.steps in
    let more = sym (length_push c.loop-mark.yielded c.in-Some.mark) in
    record {
      place = subst (Stands s c.next.new.self) more turn.0;
      seen = subst (λ j. (v : ℕ) → has c.loop-mark.seen v ≡ seen_in s f j v) more
          (seen_skip s f i c.loop-mark.seen
          (ap (open_left s.allowed) (sym turn.2) ∙ sym c.if-contains.ensures) c.loop-mark.invariant.seen);
    }

pub returns : goal.returns
returns c =
    let s = c.args.self.now in
    let f = c.args.field in
    let h : f < width_of s = omega (arith, c.if-field-fields.false, c.fields.ensures) in
    let last = stands_last s c.loop-mark.mark-iterator _ c.loop-mark.invariant.place c.in-None.ensures.steps.1.0 in (
      values_taken (width_of s) (register_left s) f (left_of s),
      sym (seen_values s f c.loop-mark.seen h (λ v. c.loop-mark.invariant.seen v ∙ ap (λ j. seen_in s f j v) last)),
    )
