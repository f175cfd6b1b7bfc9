-- Frames as lists of arguments.
use Rattle.std.proofs.Common.{◌≡◌, ℕ, zero, suc, ◌<◌, List, [], ◌∷◌, map, length, get_or, take, refl, arith}
use Rattle.meaning.specs.Matching.{the_number}
use Rattle.sheet.specs.declared.node.Name.{Name}
use Rattle.sheet.specs.declared.node.Name.TheVariants.{Field as NamedField, Param}
use Rattle.run.specs.declared.goal.Argument.{Argument as Held}
use Rattle.run.specs.declared.goal.Argument.TheVariants.{Field}
use Rattle.run.specs.Frames.{argument_of, NameOkay, KnownIn}

pub argument_at :
    (xs : List Held) (n p : ℕ) → p < n → p < length xs
    → argument_of (get_or xs p (Field 0)) ≡ get_or (map argument_of (take n xs)) p (the_number 0)
argument_at [] n p h l = absurd (omega arith)
argument_at (x ∷ xs) zero p h l = absurd (omega arith)
argument_at (x ∷ xs) (suc n) zero h l = refl
argument_at (x ∷ xs) (suc n) (suc p) h l = argument_at xs n p (omega arith) (omega arith)

pub known_in : (w n : ℕ) (x : Name) → NameOkay w n x → KnownIn n x
known_in w n (NamedField f) h = tt
known_in w n (Param p) h = h
