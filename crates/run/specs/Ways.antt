-- For the contracts of inner functions: the trace lists and the guide of a run under way; that a part of it
-- took a trace, or came to a choice at which no pick is told.
use Rattle.std.specs.Prelude.{◌≡◌, ℕ, suc, ◌+◌, ◌<◌, ◌≤◌, List, [], ◌∷◌, ◌++◌, length, Some, None, Ok, Err, Option, Result, slice_index, slice_set}
use Rattle.std.specs.Int.NonZero.{non_zero_u16_get}
use Rattle.meaning.specs.Traces.{Choice, among, branch, width, took, Trace}
use Rattle.run.specs.declared.choice.Choice.{Choice as ChoiceMade}
use Rattle.run.specs.declared.choice.Choice.TheVariants.{Among, Branch}
use Rattle.run.specs.declared.stop.Stop.{Stop}
use Rattle.run.specs.declared.stop.Stop.TheVariants.{Halted}
use Rattle.run.specs.declared.trail.Trail.{Trail as TrailKept}
use Rattle.run.specs.Guides.{Guide, Picks, NoPick, Guided}

-- the choice of the definitions
abbrev pub choice_of : ChoiceMade → Choice
choice_of (Among c) = among (non_zero_u16_get c)
choice_of (Branch w) = branch w.left w.right

-- the two trace lists, and how many entries are written
pub record Trail : Type 0 where
  pub picks : List ℕ
  pub widths : List ℕ
  pub at : ℕ

-- the trail of these three
abbrev pub trail : List ℕ → List ℕ → ℕ → Trail
trail ps ws k = record { picks = ps; widths = ws; at = k }

-- n more entries have room
pub record Room (n : ℕ) (z : Trail) : Type 0 where
  pub picks_hold : z.at + n ≤ length z.picks
  pub widths_hold : z.at + n ≤ length z.widths

-- the trail with one entry more
abbrev pub put : Trail → ℕ → ℕ → Trail
put z p w = trail (slice_set z.picks z.at p) (slice_set z.widths z.at w) (suc z.at)

-- the trail with a trace written at its end
abbrev pub written : Trail → Trace → Trail
written z [] = z
written z (took p c ∷ t) = written (put z p (width c)) t

-- a run under way: the trace so far, and what guides it on
pub record Way : Type 0 where
  pub trail : Trail
  pub guide : Guide

-- the way from place k on, by what guides it there
abbrev pub way : ((picks widths : List ℕ) (k : ℕ) → Guide) → (picks widths : List ℕ) (k : ℕ) → Way
way ahead ps ws k = record { trail = trail ps ws k; guide = ahead ps ws k }

-- the way that a trail with its guide goes on
abbrev pub way_of : {G : Type 0} → (G → (picks widths : List ℕ) (k : ℕ) → Guide) → TrailKept G → Way
way_of ahead t = way (ahead t.guide.now) t.picks.now t.widths.now t.at

-- the same lists, as long as before, and the same guide, and of it what no telling changes
abbrev pub SameTrail : {G : Type 0} → (fixed : G → ℕ) → (before after : TrailKept G) → Type 0
SameTrail fixed before after =
    (after.picks.ghost_name ≡ before.picks.ghost_name)
    × (after.widths.ghost_name ≡ before.widths.ghost_name)
    × (length after.picks.now ≡ length before.picks.now)
    × (length after.widths.now ≡ length before.widths.now)
    × (after.guide.ghost_name ≡ before.guide.ghost_name)
    × (fixed after.guide.now ≡ fixed before.guide.now)

-- a trace of M was taken: the guide told its picks, and it is written at the end of the trail
pub record Took (z : Way) (M : Trace → Type 0) (y : Way) : Type 0 where
  pub trace : Trace
  pub does : M trace
  pub guided : Guided z.guide trace y.guide
  pub end : y.trail ≡ written z.trail trace

-- every trace of M has room
pub record Fits (z : Way) (M : Trace → Type 0) : Type 0 where
  pub room : (t : Trace) → M t → Room (length t) z.trail

-- a choice was met at which no pick is told, on a way that there is
pub record Halt (z : Way) (M : Trace → Type 0) (y : Way) : Type 0 where
  pub before : Trace
  pub choice : Choice
  pub after : Trace
  pub does : M (before ++ took 0 choice ∷ after)
  pub guided : Guided z.guide before y.guide
  pub stuck : NoPick y.guide choice
  pub end : y.trail ≡ written z.trail before

-- the run stops since it is halted, and for no other reason
pub record Halts (z : Way) (M : Trace → Type 0) (s : Stop) (y : Way) : Type 0 where
  pub is : s ≡ Halted
  pub at : Halt z M y

-- the pick that is told at place k, of what is told there and past it; or none, and the same is told there
abbrev pub Tells : Choice → (k : ℕ) → (before : ℕ → Guide) → Option ℕ → (after : ℕ → Guide) → Type 0
Tells c k before (Some p) after = (p < width c) × Picks (before k) c p (after (suc k))
Tells c k before None after = NoPick (before k) c × (after k ≡ before k)

-- the same, whatever lists have that entry at the place
abbrev pub TellsAt :
    Choice
    → (k pick width : ℕ)
    → (before : (picks widths : List ℕ) (k : ℕ) → Guide)
    → Option ℕ
    → (after : (picks widths : List ℕ) (k : ℕ) → Guide)
    → Type 0
TellsAt c k p w before r after =
    (ps ws : List ℕ) → slice_index ps k ≡ p → slice_index ws k ≡ w → Tells c k (before ps ws) r (after ps ws)

-- a choice made: one entry more, or nothing written
abbrev pub Chosen : Choice → Way → Result ℕ Stop → Way → Type 0
Chosen c z (Ok p) y =
    (p < width c) × Picks z.guide c p y.guide × (y.trail ≡ put z.trail p (width c))
Chosen c z (Err s) y = (s ≡ Halted) × NoPick y.guide c × (y ≡ z)
