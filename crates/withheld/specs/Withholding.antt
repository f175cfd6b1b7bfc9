-- A layer over a store: up to 32 pairs of field and number, a repeat counted again.
-- Its starting set is the lower one without the marks that hold such a pair.
use Rattle.std.specs.Prelude.{◌≡◌, ℕ, ◌<◌, Bool, false, not, ◌&&◌, ◌||◌, ◌⊎◌, List, [], ◌∷◌, ◌++◌, length, Ok, Err, Result, ◌==◌, nat_lt, slice_index}
use Rattle.refusal.specs.declared.Refusal.{Refusal}
use Rattle.refusal.specs.Table.{number}
use Rattle.marks.specs.Sets.{Marks}
use Rattle.store.specs.Rules.{Inside, Stays}
use Rattle.withheld.specs.declared.pair.Pair.{Pair}
use Rattle.withheld.specs.declared.layer.Withheld.{Withheld}

-- whether the mark has the pair's number at the pair's field
unfoldable pub holds_pair : Pair → List ℕ → Bool
holds_pair p m = nat_lt p.field (length m) && slice_index m p.field == p.number

-- whether the mark holds one of the pairs
unfoldable pub holds_one : List Pair → List ℕ → Bool
holds_one [] m = false
holds_one (p ∷ ps) m = holds_pair p m || holds_one ps m

-- the marks of S that hold none of the pairs
unfoldable pub without : List Pair → Marks → Marks
without ps S m = S m && not (holds_one ps m)

-- the pairs of a layer, first to last
abbrev pub pairs_of : {X : Type 0} → Withheld X → List Pair
pairs_of w = w.pairs.items

-- 20 when the field is not one of the n or the number above 1,023, else 21 when there are 32 pairs
abbrev pub RefusedWith : (n pairs f k : ℕ) → ℕ → Type 0
RefusedWith n pairs f k r = ((Inside n f k → ⊥) × (r ≡ 20)) ⊎ (Inside n f k × (pairs ≡ 32) × (r ≡ 21))

-- Over a lower store with its width, starting set and current set

module _ {X : Type 0} (width : X → ℕ) (starting current : X → Marks) where
  -- the pair of f and k is set, last of the layer's pairs, and the layer restarts
  pub record PairSet (before after : Withheld X) (f k : ℕ) : Type 0 where
    pub inside : Inside (width before.lower) f k
    pub room : length (pairs_of before) < 32
    pub pairs : pairs_of after ≡ pairs_of before ++ record { field = f; number = k } ∷ []
    pub stays : Stays width starting before.lower after.lower
    pub left : current after.lower ≡ without (pairs_of after) (starting after.lower)

  -- withhold sets the pair, or returns 20 or 21 and changes nothing
  abbrev pub Withholds : {Y : Type 0} (before after : Withheld X) (f k : ℕ) → Result Y Refusal → Type 0
  Withholds before after f k (Ok x) = PairSet before after f k
  Withholds before after f k (Err e) =
      (after ≡ before) × RefusedWith (width before.lower) (length (pairs_of before)) f k (number e)
