-- A mark's numbers, parted: the first, and those after it.
use Rattle.std.proofs.Common.{◌≡◌, ℕ, ◌+◌, ◌≤◌, List, ◌∷◌, length, decimal, ap, arith, length-append}
use Rattle.std.specs.List.{flat_map}
use Rattle.lines.specs.Pieces.{parted, slashed}
use Rattle.lines.specs.Putting.{Put}
use Rattle.lines.proofs.Putting.{put_length}

pub length_parted :
    {numbers : List ℕ} (first : ℕ) (others : List ℕ)
    → numbers ≡ first ∷ others
    → length (parted numbers) ≡ length (decimal first) + length (flat_map slashed others)
length_parted first others is =
    omega (arith, ap (λ ns. length (parted ns)) is, length-append (decimal first) (flat_map slashed others))

-- once the first stands, those after it have room
pub room_for_others :
    {numbers a b : List ℕ} {at m : ℕ} (first : ℕ) (others : List ℕ)
    → numbers ≡ first ∷ others
    → at + length (parted numbers) ≤ length a
    → Put a at (decimal first) b m
    → m + length (flat_map slashed others) ≤ length b
room_for_others first others is fits put =
    let whole = length_parted first others is in
    omega (arith, put.size, put_length put (omega arith))
