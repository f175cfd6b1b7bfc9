-- The laws of matching one formula: its traces form a tree, each pick is below its width, and the matches
-- that stay live share out exactly the marks that read as the target.
use Rattle.std.specs.Prelude.{◌≡◌, ℕ, Bool, true, ◌⊎◌, List, map}
use Rattle.formula.specs.Trees.{Formula, Rule}
use Rattle.marks.specs.Sets.{Marks, MarksOf}
use Rattle.meaning.specs.Reading.{said, Reads}
use Rattle.meaning.specs.Traces.{Trace, Within, Apart}
use Rattle.meaning.specs.Matching.{Argument, at, State, live, Matches}

-- two matches from one state are the same, or their traces part at one choice
abbrev pub MatchesPart : Type 0
MatchesPart =
    (rules : List Rule) (e : List Argument) (F : Formula) (b : Bool) (n : ℕ) (S : Marks)
    (t u : Trace) (o p : State)
    → Matches rules e F b (live n S) t o
    → Matches rules e F b (live n S) u p
    → ((t ≡ u) × (o ≡ p)) ⊎ Apart t u

-- each pick of a match is below its width
abbrev pub MatchesWithin : Type 0
MatchesWithin =
    (rules : List Rule) (e : List Argument) (F : Formula) (b : Bool) (n : ℕ) (S : Marks)
    (t : Trace) (o : State)
    → Matches rules e F b (live n S) t o
    → Within t

-- soundness: a mark that a live match leaves was there, and reads as the target, with the same fuel left
abbrev pub MatchesSound : Type 0
MatchesSound =
    (rules : List Rule) (e : List Argument) (F : Formula) (b : Bool) (n k : ℕ) (S P : Marks) (t : Trace)
    → Matches rules e F b (live n S) t (live k P)
    → (m : List ℕ)
    → P m ≡ true
    → (S m ≡ true) × Reads rules m (map (at m) e) F n (said b k)

-- completeness: a mark that reads as the target is left by some live match
abbrev pub MatchesComplete : Type 0
MatchesComplete =
    (rules : List Rule) (e : List Argument) (F : Formula) (b : Bool) (n k fields : ℕ) (S : Marks)
    → MarksOf fields S
    → (m : List ℕ)
    → S m ≡ true
    → Reads rules m (map (at m) e) F n (said b k)
    → (t : Trace) × (P : Marks) × Matches rules e F b (live n S) t (live k P) × (P m ≡ true)

-- and by no two
abbrev pub MatchesDiffer : Type 0
MatchesDiffer =
    (rules : List Rule) (e : List Argument) (F : Formula) (b : Bool) (n k l : ℕ) (S P Q : Marks)
    (t u : Trace) (m : List ℕ)
    → Matches rules e F b (live n S) t (live k P)
    → Matches rules e F b (live n S) u (live l Q)
    → P m ≡ true
    → Q m ≡ true
    → t ≡ u
