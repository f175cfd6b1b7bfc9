use Rattle.std.proofs.Common.{◌≡◌, ℕ, ◌<◌, false, not, sym, ap, ◌∙◌, subst, arith, below_more}
use Rattle.std.proofs.lemmas.List.{length_push}
use Rattle.store.specs.Opens.{open_left}
use Rattle.store.proofs.Rules.{tells_empty}
use Rattle.register.specs.Registers.{row_at, numbers_of, width_of, register_left}
use Rattle.register.specs.Sounds.{left_of}
use Rattle.register.proofs.Registers.{Stands, stands_turn, stands_last, some_left, none_left}
use Rattle.register.proofs.RegisterStore.none_left.Goals as goal

pub returns-then-contains : goal.returns-then-contains
returns-then-contains c =
    let s = c.args.self.now in
    let at = c.loop-mark.invariant.place in
    let turn = stands_turn s c.loop-mark.mark-iterator c.next.new.self _ c.in-Some.mark at c.in-Some.ensures.steps in
    tells_empty (width_of s) (register_left s) _ (left_of s)
    (sym (ap not (some_left s _ turn.1 (ap (open_left s.allowed) (sym turn.2) ∙ sym c.if-contains.ensures))))

pub loop-mark-preserved : goal.loop-mark-preserved
loop-mark-preserved c =
    let s = c.args.self.now in
    let at = c.loop-mark.invariant.place in
    let turn = stands_turn s c.loop-mark.mark-iterator c.next.new.self _ c.in-Some.mark at c.in-Some.ensures.steps in
    let more = sym (length_push c.loop-mark.yielded c.in-Some.mark) in
    let Passed : ℕ → Type 0 = λ j. (k : ℕ) → k < j
    → open_left s.allowed (row_at (numbers_of s) (width_of s) k) ≡ false in
    record {
      place = subst (Stands s c.next.new.self) more turn.0;
      passed = subst Passed more
          (below_more _ _ c.loop-mark.invariant.passed
          (ap (open_left s.allowed) (sym turn.2) ∙ sym c.if-contains.ensures));
    }

pub returns : goal.returns
returns c =
    let s = c.args.self.now in
    let last = stands_last s c.loop-mark.mark-iterator _ c.loop-mark.invariant.place c.in-None.ensures.steps.1.0 in
    tells_empty (width_of s) (register_left s) _ (left_of s)
    (sym (ap not (none_left s (λ i h. c.loop-mark.invariant.passed i (omega (arith, last, h))))))
