-- Cited by a private contract only: a layer that restarts.
use Rattle.std.specs.Prelude.{◌≡◌, ℕ}
use Rattle.marks.specs.Sets.{Marks}
use Rattle.store.specs.Rules.{Stays}
use Rattle.withheld.specs.declared.layer.Withheld.{Withheld}
use Rattle.withheld.specs.Withholding.{pairs_of, without}

-- the pairs and the lower store's start are as before, and the current set is the start without the pairs
pub record Restarts {X : Type 0} (width : X → ℕ) (starting current : X → Marks) (before after : Withheld X)
    : Type 0 where
  pub pairs : pairs_of after ≡ pairs_of before
  pub stays : Stays width starting before.lower after.lower
  pub left : current after.lower ≡ without (pairs_of before) (starting before.lower)
