-- For the contracts of inner functions: what settling comes to.
use Rattle.std.specs.Prelude.{◌≡◌, ℕ, ◌<◌, true, Ok, Err, Result, slice_index}
use Rattle.formula.specs.declared.Comparison.TheVariants.{Equal}
use Rattle.marks.specs.Sets.{Marks, kept}
use Rattle.marks.specs.Counted.{some, values}
use Rattle.meaning.specs.Traces.{Trace}
use Rattle.meaning.specs.Matching.{Argument, Settles}
use Rattle.run.specs.declared.goal.Argument.{Argument as Held}
use Rattle.run.specs.declared.stop.Stop.{Stop}
use Rattle.run.specs.Answering.{Inside}
use Rattle.run.specs.Frames.{argument_of}
use Rattle.run.specs.Ways.{Way, Took, Halts}

-- a call leaves the number of fields and the starting set of a store, and no mark comes into the current set
abbrev pub Narrows : {X : Type 0} (width : X → ℕ) (starting current : X → Marks) (before after : X) → Type 0
Narrows width starting current before after =
    (width after ≡ width before) × (starting after ≡ starting before)
    × Inside (current after) (current before)

-- the k-th number of the field f is answered, and just its marks are kept
abbrev pub KeepsValue : (w : ℕ) → Marks → (f k v : ℕ) → Marks → Type 0
KeepsValue w S f k v P = (v ≡ slice_index (values w S f) k) × (P ≡ kept S f Equal v)

-- the traces of settling a
abbrev pub Settling : Marks → Argument → Trace → Type 0
Settling S a t = (P : Marks) × (v : ℕ) × Settles S a t P v

-- a is settled to v, and marks are left
pub record SettledTo (w : ℕ) (S : Marks) (a : Held) (z : Way) (v : ℕ) (P : Marks) (y : Way) : Type 0 where
  pub took : Took z (λ t. Settles S (argument_of a) t P v) y
  pub small : v < 1024
  pub alive : some w P ≡ true

-- settled, or halted
abbrev pub Settled : ℕ → Marks → Held → Way → Result ℕ Stop → Marks → Way → Type 0
Settled w S a z (Ok v) P y = SettledTo w S a z v P y
Settled w S a z (Err s) P y = Halts z (Settling S (argument_of a)) s y
