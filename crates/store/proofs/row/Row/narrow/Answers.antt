use Rattle.std.proofs.Common.{Bool, ℕ, ◌+◌, ◌&&◌, List, sym, ap, ◌∙◌, subst, ⊎_elim, arith}
use Rattle.std.proofs.lemmas.Bool.{cases_lt}
use Rattle.formula.specs.Comparing.{holds}
use Rattle.store.specs.declared.row.Row.{Row}
use Rattle.store.proofs.Rows.{row_past, Narrowing, narrow_left, narrow_drop}
use Rattle.store.proofs.row.Row.narrow.Goals as goal
use Rattle.store.proofs.row.Row.narrow.Goals.{then-not-holds, else-not-holds}

pub loop-v-preserved : goal.loop-v-preserved
loop-v-preserved c =
    let p : ℕ → Bool = λ k. holds c.args.sign k c.args.number in
    let P : List Bool → Type 0 = λ xs. Narrowing p c.args.self.now (record { present = xs }) (c.loop-v.v + 1) in
    let before : Row = record { present = c.loop-v.present-items } in
    elim c.if-not-holds.branch [
      | then-not-holds w ↦ subst P (sym w.present-items-is)
          (narrow_drop p c.args.self.now before c.loop-v.v (omega arith)
          c.loop-v.invariant (sym w.if-not-holds.ensures))
      | else-not-holds w ↦ subst P (sym w.present-items-is)
          (narrow_left p c.args.self.now before c.loop-v.v c.loop-v.invariant
          (sym w.if-not-holds.ensures))
    ]

pub returns : goal.returns
returns c v =
    let i = c.loop-v.invariant in
    ⊎_elim
    (λ h. i.1 v (omega (arith, c.loop-v-test.false)))
    (λ h. row_past (record { present = c.loop-v.present-items }) v h
    ∙ sym (ap (λ b. b && holds c.args.sign v c.args.number) (row_past c.args.self.now v h)))
    (cases_lt v 1024)
