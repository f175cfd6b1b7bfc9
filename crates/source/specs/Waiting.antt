-- What it means to take a number from a source, by the lists that wait before and after.
use Rattle.std.specs.Prelude.{◌≡◌, ℕ, ◌^◌, ◌<◌, List, [], ◌∷◌, Some, None, Option}

-- the first number is answered and removed; none is answered exactly when nothing waits
abbrev pub Taken : (before after : List ℕ) → Option ℕ → Type 0
Taken before after (Some x) = (before ≡ x ∷ after) × (x < 2 ^ 32)
Taken before after None = (before ≡ []) × (after ≡ [])
