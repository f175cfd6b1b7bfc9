-- What a maker of a store shows, and what a caller of one learns, of the rules.
use Rattle.std.proofs.Common.{◌≡◌, ℕ, Bool, not, get_or, Some, Ok, Err, Result, sym, ap, ◌∙◌, arith}
use Rattle.std.proofs.lemmas.Bool.{not-true}
use Rattle.formula.specs.declared.Comparison.{Comparison}
use Rattle.refusal.specs.declared.Refusal.{Refusal}
use Rattle.marks.specs.Sets.{Marks, MarksOf, kept}
use Rattle.marks.specs.Counted.{some, values}
use Rattle.marks.proofs.Counted.{empty_some, none_empty, value_taken, in_get_or}
use Rattle.store.specs.Rules.{Inside, Keeps, TellsEmpty, Answers}

pub tells_empty : (n : ℕ) (S : Marks) (r : Bool) → MarksOf n S → r ≡ not (some n S) → TellsEmpty n S r
tells_empty n S r sh e =
    (((λ t. none_empty n S sh (not-true _ (sym e ∙ t))), (λ h. e ∙ ap not (empty_some n S h))), e)

-- a keep of a field of the store and a number up to 1,023 is not refused
pub keeps_inside : {X : Type 0} (n : ℕ) (S after : Marks) (f : ℕ) (c : Comparison) (k : ℕ)
    (r : Result X Refusal)
    → Inside n f k → Keeps n S after f c k r → after ≡ kept S f c k
keeps_inside n S after f c k (Ok x) i h = h.1
keeps_inside n S after f c k (Err e) i h = absurd (h.0 i)

-- a value that is answered is inside, so that a keep of it is not refused
pub value_inside : (n : ℕ) (S : Marks) (f k v : ℕ) → Answers n S f k (Some v) → Inside n f v
value_inside n S f k v h =
    let r = value_taken n S f (get_or (values n S f) k 0) (in_get_or (values n S f) k h.1.0) in
    (r.0, omega (arith, h.1.1, r.1))
