use Rattle.std.proofs.Common.{◌≡◌, ℕ, ◌+◌, ◌-◌, ◌≤◌, Some, None, Option, arith, rules}
use Rattle.std.specs.Option.{SomeIff}
use Rattle.lines.specs.Pieces.{slashed}
use Rattle.lines.proofs.Folding.{room_settled}
use Rattle.lines.proofs.Parted.{length_parted}
use Rattle.lines.proofs.numbers.room_after.Goals as goal

-- what the numbers after the first leave of what that leaves
after_first :
    (r : Option ℕ) (first others whole left room : ℕ)
    → left + first ≡ room
    → whole ≡ first + others
    → SomeIff r (others ≤ left) (left - others)
    → SomeIff r (whole ≤ room) (room - whole)
after_first None first others whole left room e w s = λ fits. s (omega arith)
after_first (Some x) first others whole left room e w s = (omega (arith, s), omega (arith, s))

pub returns : goal.returns
returns c =
    let ran = c.try_fold.ensures.ran in
    let rest = c.iter.ensures.rest in
    let others = rw rest at
    (room_settled slashed _ (λ p x q k. search (rules, arith, k)) c.iter.result c.try_fold.new.self
    ran.0 ran.1 (tt, c.in_ok-left.left) (ran.2, ran.3) c.try_fold.result _ (λ x stop. search (rules, stop))
    ran.4 ran.5 ran.6) in
    after_first c.try_fold.result _ _ _ _ _ (omega (arith, c.in_ok-left.ensures))
    (length_parted c.in-Some.first.now c.in-Some.others.now c.in-Some.ensures.cases.0) others
