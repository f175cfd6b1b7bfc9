-- A comparison with at most one unknown field, case by case: two known numbers pass or are a dead end; one
-- unknown field is kept by the sign, mirrored when the field stands on the right.
use Rattle.std.specs.Prelude.{◌≡◌, ℕ, true, false, [], ◌∷◌}
use Rattle.formula.specs.declared.Comparison.{Comparison}
use Rattle.formula.specs.Comparing.{holds, mirrored}
use Rattle.marks.specs.Sets.{Marks, Empty, kept, Values}
use Rattle.meaning.specs.Matching.{Argument, the_field, the_number, passing}

-- the argument is known to be v: a number, or a field that takes one number
abbrev pub Is : Marks → Argument → ℕ → Type 0
Is S (the_number n) v = n ≡ v
Is S (the_field f) v = Values S f (v ∷ [])

-- what a comparison keeps of the set S
pub record Comparing (S : Marks) (c : Comparison) : Type 0 where
  -- two known numbers that pass change nothing
  pub two_pass :
      (a b : Argument) (x y : ℕ)
      → Is S a x
      → Is S b y
      → holds c x y ≡ true
      → passing S c a b ≡ S
  -- two known numbers that fail leave no mark
  pub two_fail :
      (a b : Argument) (x y : ℕ)
      → Is S a x
      → Is S b y
      → holds c x y ≡ false
      → Empty (passing S c a b)
  -- a field on the left is kept by the sign
  pub left_field :
      (f : ℕ) (b : Argument) (y : ℕ)
      → Is S b y
      → passing S c (the_field f) b ≡ kept S f c y
  -- a field on the right is kept by the mirrored sign
  pub right_field :
      (a : Argument) (g : ℕ) (x : ℕ)
      → Is S a x
      → passing S c a (the_field g) ≡ kept S g (mirrored c) x

-- so for every set and sign
abbrev pub ComparisonsKeep : Type 0
ComparisonsKeep = (S : Marks) (c : Comparison) → Comparing S c
