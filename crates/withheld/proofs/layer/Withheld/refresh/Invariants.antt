use Rattle.std.proofs.Common.{◌≡◌, take}
use Rattle.withheld.specs.Withholding.{without}
use Rattle.withheld.proofs.layer.Withheld.refresh.Given as goal

abbrev pub invariant-loop-pair : goal.invariant-loop-pair
invariant-loop-pair g l =
    let s = g.S.Store in
    record {
      width : s.width l.lower ≡ s.width l.initial.lower;
      starting : s.starting l.lower ≡ s.starting l.initial.lower;
      left : s.current l.lower ≡ without (take l.pair-index l.pair-items) (s.starting l.lower);
    }
