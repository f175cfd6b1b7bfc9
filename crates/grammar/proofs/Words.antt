-- What a comparison of bytes says of a literal.
use Rattle.std.proofs.Common.{◌≡◌, ℕ, Bool, List, sym, subst}
use Rattle.std.specs.Str.{bytes_eq}

-- a comparison with a literal's bytes
pub tested : (xs ys zs : List ℕ) (r : Bool) → ys ≡ zs → r ≡ bytes_eq xs ys → bytes_eq xs zs ≡ r
tested xs ys zs r e h = subst (λ (bytes : List ℕ). bytes_eq xs bytes ≡ r) e (sym h)
