-- Worked examples of the definitions, collected: walks over every mark and over a register, checks, draws, and
-- the numbers of a seed.
use Rattle.std.specs.Prelude.{◌≡◌, ℕ, Bool, true, false, ◌&&◌, ◌||◌, List, [], ◌∷◌, length, ◌==◌, nat_lt}
use Rattle.formula.specs.declared.Comparison.TheVariants.{Equal, Less, AtMost, More, AtLeast}
use Rattle.formula.specs.declared.Join.TheVariants.{And, Or}
use Rattle.formula.specs.Trees.{field, param, up, down, num, bare, moved, Formula, compare, call, join}
use Rattle.formula.specs.Trees.{range, rule, Sheet, sheet}
use Rattle.marks.specs.Sets.{Marks}
use Rattle.source.specs.Xorshift.{stream}
use Rattle.meaning.specs.Reading.{allowed, spent, Checks}
use Rattle.meaning.specs.Traces.{Trace}
use Rattle.meaning.specs.Runs.{mark, dead_end, spent_run}
use Rattle.meaning.specs.Draws.{ran, dry, Draws}
use Rattle.meaning.specs.Walks.{WholeWalk}

-- each number is at most 1,023
abbrev pub small : List ℕ → Bool
small [] = true
small (v ∷ m) = nat_lt v 1024 && small m

-- every mark of n fields
abbrev pub every : ℕ → Marks
every n = λ m. (length m == n) && small m

-- two marks have the same numbers
abbrev pub equal : List ℕ → List ℕ → Bool
equal [] [] = true
equal [] (w ∷ r) = false
equal (v ∷ m) [] = false
equal (v ∷ m) (w ∷ r) = v == w && equal m r

-- the marks that stand in the rows of a register
abbrev pub in_rows : List (List ℕ) → Marks
in_rows [] = λ m. false
in_rows (r ∷ rows) = λ m. equal m r || in_rows rows m

-- field box 1 3 ; field item 0 2 ; mark box = 2 or item < 1 ;
abbrev pub shelf_sheet : Sheet
shelf_sheet =
    sheet (range 1 3 ∷ range 0 2 ∷ []) []
    (join Or 1 1 (compare (bare (field 0)) Equal (num 2)) (compare (bare (field 1)) Less (num 1)))

-- a = 1 or ( a > 1 and odd ( a - 2 ) )
abbrev pub odd : Formula
odd =
    join Or 1 1 (compare (bare (param 0)) Equal (num 1))
    (join And 1 1 (compare (bare (param 0)) More (num 1)) (call 0 (moved (param 0) (down 2) ∷ [])))

-- field n 0 3 ; rule odd ( a ) : a = 1 or ( a > 1 and odd ( a - 2 ) ) ; mark odd ( n ) ;
abbrev pub odd_sheet : Sheet
odd_sheet = sheet (range 0 3 ∷ []) (rule 1 odd ∷ []) (call 0 (bare (field 0) ∷ []))

-- field box 0 9 ; field item 0 9 ; mark box >= 1 ;
abbrev pub box_sheet : Sheet
box_sheet = sheet (range 0 9 ∷ range 0 9 ∷ []) [] (compare (bare (field 0)) AtLeast (num 1))

-- the rows 1/0, 1/0 and 2/5
abbrev pub rows : List (List ℕ)
rows = (1 ∷ 0 ∷ []) ∷ (1 ∷ 0 ∷ []) ∷ (2 ∷ 5 ∷ []) ∷ []

-- field x 1023 1023 ; mark x <= x + 1 ;
abbrev pub top_sheet : Sheet
top_sheet = sheet (range 1023 1023 ∷ []) [] (compare (bare (field 0)) AtMost (moved (field 0) (up 1)))

-- what the definitions give
pub record Samples : Type 0 where
  -- the shelves: 2/0, 2/1, 2/2, 1/0, 3/0, each once
  pub shelves :
      WholeWalk shelf_sheet 255 (every 2)
      (mark (2 ∷ 0 ∷ []) ∷ mark (2 ∷ 1 ∷ []) ∷ mark (2 ∷ 2 ∷ []) ∷ mark (1 ∷ 0 ∷ []) ∷ mark (3 ∷ 0 ∷ []) ∷ [])
  -- odd numbers with fuel 2: 1, two dead ends, 3, a dead end
  pub odd_walk :
      WholeWalk odd_sheet 2 (every 1) (mark (1 ∷ []) ∷ dead_end ∷ dead_end ∷ mark (3 ∷ []) ∷ dead_end ∷ [])
  -- with fuel 1: 1 and two spent runs
  pub odd_spent : WholeWalk odd_sheet 1 (every 1) (mark (1 ∷ []) ∷ spent_run ∷ spent_run ∷ [])
  -- the check of 3 with fuel 2: allowed, 2 calls
  pub three_allowed : Checks odd_sheet (3 ∷ []) 2 allowed 2
  -- with fuel 1: spent, 1 call
  pub three_spent : Checks odd_sheet (3 ∷ []) 1 spent 1
  -- a register with a row twice: 1/0 and 2/5, once each
  pub register : WholeWalk box_sheet 255 (in_rows rows) (mark (1 ∷ 0 ∷ []) ∷ mark (2 ∷ 5 ∷ []) ∷ [])
  -- a draw of the shelves from 7 and 4: 1/0
  pub draw : (t : Trace) × Draws shelf_sheet 255 (every 2) (7 ∷ 4 ∷ []) (ran (mark (1 ∷ 0 ∷ []))) t []
  -- from 7 alone: dry after one choice
  pub draw_dry : (t : Trace) × Draws shelf_sheet 255 (every 2) (7 ∷ []) dry t [] × (length t ≡ 1)
  -- `+` stops at 1,023, so 1023 is issued
  pub top : WholeWalk top_sheet 255 (every 1) (mark (1023 ∷ []) ∷ [])
  -- seed 1 first gives 1,082,269,761
  pub seed : stream 1 1 ≡ 1082269761 ∷ []
