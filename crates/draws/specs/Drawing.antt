-- What practice draws write: a line for each, one draw after the other from the same waiting numbers.
use Rattle.std.specs.Prelude.{ℕ, List, [], ◌∷◌, ◌++◌, codes, Option}
use Rattle.std.specs.List.{flat_map}
use Rattle.std.specs.Io.KnownBytes.{Appends}
use Rattle.formula.specs.Trees.{Sheet}
use Rattle.marks.specs.Sets.{Marks}
use Rattle.meaning.specs.Traces.{Entry, Trace}
use Rattle.meaning.specs.Runs.{Outcome, mark, dead_end, spent_run}
use Rattle.meaning.specs.Draws.{Drawn, ran, dry, Draws}
use Rattle.lines.specs.Lines.{line_feed, mark_text}

-- Series s fuel S ns ds ls: from the waiting numbers ns, draws one after the other come to ds, up to the first that is
-- dry or has an empty trace; ls are left
pub data Series (s : Sheet) (fuel : ℕ) (S : Marks) : List ℕ → List Drawn → List ℕ → Type 0 where
  -- the draw is dry, and none follows
  runs_dry :
      {ns ls : List ℕ} {t : Trace}
      → Draws s fuel S ns dry t ls
      → Series s fuel S ns (dry ∷ []) ls
  -- the draw makes no choice, so that another would be the same, and none follows
  without_choice :
      {ns ls : List ℕ} {a : Outcome}
      → Draws s fuel S ns (ran a) [] ls
      → Series s fuel S ns (ran a ∷ []) ls
  -- the draw makes a choice, and the next goes on from the numbers that it leaves
  goes_on :
      {ns ms ls : List ℕ} {a : Outcome} {e : Entry} {t : Trace} {ds : List Drawn}
      → Draws s fuel S ns (ran a) (e ∷ t) ms
      → Series s fuel S ms ds ls
      → Series s fuel S ns (ran a ∷ ds) ls

-- the line of a draw
abbrev pub drawn_text : Drawn → List ℕ
drawn_text (ran (mark m)) = mark_text m
drawn_text (ran dead_end) = codes "dead end" ++ line_feed
drawn_text (ran spent_run) = codes "spent" ++ line_feed
drawn_text dry = codes "dry" ++ line_feed

-- a line for each draw, in their order
abbrev pub series_text : List Drawn → List ℕ
series_text ds = flat_map drawn_text ds

-- from the waiting numbers ns, of which ls are left, what a writer holds grew by the lines of the series of draws, and by
-- nothing else
abbrev pub ListedDraws : Sheet → (fuel : ℕ) → Marks → (ns ls : List ℕ) → (before after : Option (List ℕ)) → Type 0
ListedDraws s fuel S ns ls before after =
    (ds : List Drawn) × Series s fuel S ns ds ls × Appends before after (series_text ds)
