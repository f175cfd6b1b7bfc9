-- Proof that the layer's sets are sets of marks; it stands here since a ghost member cites it.
use Rattle.std.specs.Prelude.{◌≡◌, ℕ, true, not, List}
use Rattle.std.proofs.lemmas.Bool.{and_parts}
use Rattle.marks.specs.Sets.{Marks}
use Rattle.store.specs.Rules.{Sound}
use Rattle.withheld.specs.declared.pair.Pair.{Pair}
use Rattle.withheld.specs.declared.layer.Withheld.{Withheld}
use Rattle.withheld.specs.Withholding.{holds_one, without, pairs_of}

without_in : (ps : List Pair) (S : Marks) (m : List ℕ) → without ps S m ≡ true → S m ≡ true
unfolding without
without_in ps S m e = (and_parts (S m) (not (holds_one ps m)) e).0

pub layer_sound : {X : Type 0} {width : X → ℕ} {starting current : X → Marks} → Sound width starting current
    → Sound {X = Withheld X}
    (λ w. width w.lower)
    (λ w. without (pairs_of w) (starting w.lower))
    (λ w. current w.lower)
layer_sound {starting = starting} h = record {
  started = λ w m e. h.started w.lower m (without_in (pairs_of w) (starting w.lower) m e);
  left = λ w. h.left w.lower;
}
