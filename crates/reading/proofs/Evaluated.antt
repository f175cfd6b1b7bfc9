-- The terms of a call.
use Rattle.std.proofs.Common.{◌≡◌, ℕ, zero, suc, ◌<◌, true, List, [], ◌∷◌, length, get_or, arith}
use Rattle.std.proofs.lemmas.Bool.{and_parts}
use Rattle.sheet.specs.Table.{SheetTerm as Term}
use Rattle.formula.specs.declared.term.Term.TheVariants.{Number}
use Rattle.sheet.specs.Keeping.{known_term, known_terms}

-- each of the terms is known
pub known_at :
    (fields params : ℕ) (ts : List Term) (k : ℕ) → k < length ts
    → known_terms fields params ts ≡ true → known_term fields params (get_or ts k (Number 0)) ≡ true
known_at fields params [] k lt h = absurd (omega arith)
known_at fields params (t ∷ ts) zero lt h = (and_parts (known_term fields params t) _ h).0
known_at fields params (t ∷ ts) (suc k) lt h =
    known_at fields params ts k (omega arith) (and_parts (known_term fields params t) _ h).1
