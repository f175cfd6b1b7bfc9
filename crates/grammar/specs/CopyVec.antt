-- What a contract sees of a vector that is copied.
use Rattle.std.specs.Prelude.{List}

-- the elements in order, and what stands in the places past them, of which no promise speaks
pub record CopyVec (T : Type 0) : Type 0 where
  pub items : List T
  pub spare : List T
