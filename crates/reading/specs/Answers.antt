-- What a check of a mark answers, and when the answer is right.
use Rattle.std.specs.Prelude.{◌≡◌, ℕ, List, Ok, Err, Result}
use Rattle.refusal.specs.declared.Refusal.{Refusal}
use Rattle.refusal.specs.Table.{number}
use Rattle.formula.specs.Trees.{Sheet}
use Rattle.marks.specs.Sets.{Shaped}
use Rattle.meaning.specs.Terms.{fields_of}
use Rattle.meaning.specs.Reading as plain
use Rattle.reading.specs.declared.Verdict.{Verdict}
use Rattle.reading.specs.declared.Verdict.TheVariants.{Allowed, NotAllowed, Spent}
use Rattle.reading.specs.declared.Reading.{Reading}

-- an answer by its values: the verdict and the number of calls made, or the number of a refusal
pub data Answer : Type 0 where
  checked : plain.Verdict → (calls : ℕ) → Answer
  refused : (number : ℕ) → Answer

-- the verdict that each case stands for
abbrev pub verdict_of : Verdict → plain.Verdict
verdict_of Allowed = plain.allowed
verdict_of NotAllowed = plain.not_allowed
verdict_of Spent = plain.spent

-- the values of a check's answer
abbrev pub answer_of : Result Reading Refusal → Answer
answer_of (Ok r) = checked (verdict_of r.verdict) r.calls
answer_of (Err e) = refused (number e)

-- the answer to a check of the list m against the sheet s is right: a mark of the sheet's fields has the
-- verdict and the calls of its plain reading, and 16 refuses exactly a list of the wrong length or with a
-- number above 1,023
abbrev pub Right : Sheet → List ℕ → (fuel : ℕ) → Answer → Type 0
Right s m fuel (checked v calls) = Shaped (fields_of s) m × plain.Checks s m fuel v calls
Right s m fuel (refused n) = (n ≡ 16) × (Shaped (fields_of s) m → ⊥)
