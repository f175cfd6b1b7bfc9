-- A whole run, from its beginning, its match and its end.
use Rattle.std.proofs.Common.{◌≡◌, ℕ, ◌+◌, ◌*◌, ◌≤◌, true, List, [], ◌++◌, length, Ok, Err, Result, sym, subst, append-nil, arith}
use Rattle.arrayvec.specs.ArrayVec.{ArrayVec}
use Rattle.std.proofs.lemmas.Bool.{and_parts}
use Rattle.formula.specs.Trees.{Sheet}
use Rattle.marks.specs.Sets.{Marks, MarksOf, Empty}
use Rattle.meaning.specs.Terms.{ranges_of, fields_of, rules_of, mark_line}
use Rattle.meaning.specs.Traces.{Trace}
use Rattle.meaning.specs.Lengths.{FewJoins}
use Rattle.meaning.specs.Matching.{live, dead, spent, some_left, none_left, Matches, stays_dead}
use Rattle.meaning.specs.Runs.{mark, dead_end, spent_run, Ends, whole, at_dead, at_spent, inside, Run, runs}
use Rattle.meaning.proofs.Counting.{Counted, counted, counted_part}
use Rattle.meaning.proofs.Lengths.{lengths}
use Rattle.meaning.proofs.Soundness.{sound as matched_sound}
use Rattle.meaning.proofs.Runs.{matches_alive}
use Rattle.meaning.proofs.Picks.{finishes_told}
use Rattle.run.specs.declared.stop.Stop.{Stop}
use Rattle.run.specs.declared.stop.Stop.TheVariants.{DeadEnd, Spent, Halted}
use Rattle.run.specs.Ways.{Way, Took, Halt, Fits}
use Rattle.marks.proofs.Counted.{none_empty}
use Rattle.run.specs.Comparing.{Lives}
use Rattle.run.specs.Works.{Matching, Worked, Ending, Finished}
use Rattle.run.specs.Whole.{Running, Along}
use Rattle.run.proofs.Ways.{took_map, took_none, took_join, halt_on, halt_after, fits_on, fits_after}
use Rattle.run.proofs.Comparing.{first, first_fair}
use Rattle.run.proofs.Ended.{ends_long}
use Rattle.std.specs.Result.{IfOk}

pub inside_counted : (s : Sheet) (S : Marks) → MarksOf (fields_of s) S → Counted (inside S (ranges_of s))
inside_counted s S B = counted_part S (inside S (ranges_of s)) (counted (fields_of s) S B)
    (λ m h. (and_parts (S m) _ h).0)

module _ (s : Sheet) (fuel : ℕ) (S : Marks) (B : MarksOf (fields_of s) S) where
  pub run_fits :
      (z : Way)
      → z.trail.at ≡ 0
      → FewJoins s 16
      → 16 * (fuel + 1) + fields_of s ≤ length z.trail.picks
      → 16 * (fuel + 1) + fields_of s ≤ length z.trail.widths
      → Fits z (Running s fuel S)
  run_fits z e few hp hw =
      record {
        room = λ t r.
            let l = lengths s fuel S B 16 few t r.0 r.1 in
            record { picks_hold = omega arith; widths_hold = omega arith };
      }

  pub dead_at_once : (z : Way) → Empty (inside S (ranges_of s)) → Took z (λ v. Run s fuel S v dead_end) z
  dead_at_once z e = took_none (runs (none_left e) stays_dead at_dead)

  -- no mark is in the ranges
  pub ends_at_once :
      (w : ℕ) (z : Way) (e : Stop) (a : Result (ArrayVec ℕ) Stop)
      → a ≡ Err e
      → MarksOf w (inside S (ranges_of s))
      → Lives w (inside S (ranges_of s)) (Err e)
      → Along s fuel S z a z
  ends_at_once w z DeadEnd a is sh h = subst (λ q. Along s fuel S z q z) (sym is)
      (dead_at_once z (none_empty w (inside S (ranges_of s)) sh h))
  ends_at_once w z Spent a is sh h = absurd h
  ends_at_once w z Halted a is sh h = absurd h

  module _ (C : Counted (inside S (ranges_of s))) (alive : Empty (inside S (ranges_of s)) → ⊥) (z : Way) where
    abbrev pub matches : Trace → Type 0
    matches = Matching (rules_of s) (mark_line s) fuel (inside S (ranges_of s))

    on : (v : Trace) → matches v → (u : Trace) × Running s fuel S (v ++ u)
    on v m =
        let rules = rules_of s in
        let q = finishes_told first first_fair rules (fields_of s) (inside S (ranges_of s)) C m.0
        (matches_alive rules m.1) (λ k h. (matched_sound rules k m.1 h).0) [] in
        (q.0, (q.1, runs (some_left alive) m.1 q.3))

    pub match_fits : Fits z (Running s fuel S) → Fits z matches
    match_fits = fits_on on

    pub match_halt : (y : Way) → Halt z matches y → Halt z (Running s fuel S) y
    match_halt y = halt_on on

    pub match_dead :
        (y : Way)
        → Took z (λ v. Matches (rules_of s) [] (mark_line s) true (live fuel (inside S (ranges_of s))) v dead)
        y
        → Took z (λ v. Run s fuel S v dead_end) y
    match_dead y = took_map (λ v m. subst (λ q. Run s fuel S q dead_end) (append-nil v)
        (runs (some_left alive) m at_dead))

    pub match_spent :
        (y : Way)
        → Took z (λ v. Matches (rules_of s) [] (mark_line s) true (live fuel (inside S (ranges_of s))) v
        spent) y
        → Took z (λ v. Run s fuel S v spent_run) y
    match_spent y = took_map (λ v m. subst (λ q. Run s fuel S q spent_run) (append-nil v)
        (runs (some_left alive) m at_spent))

    -- the match stops, and the run with it
    pub match_stops :
        (w : ℕ) (P : Marks) (y : Way) (e : Stop) (a : Result (ArrayVec ℕ) Stop)
        → a ≡ Err e
        → Worked w (rules_of s) (mark_line s) fuel (inside S (ranges_of s)) z (Err e) P y
        → Along s fuel S z a y
    match_stops w P y DeadEnd a is h = subst (λ q. Along s fuel S z q y) (sym is) (match_dead y h)
    match_stops w P y Spent a is h = subst (λ q. Along s fuel S z q y) (sym is) (match_spent y h)
    match_stops w P y Halted a is h = subst (λ q. Along s fuel S z q y) (sym is) (match_halt y h)

    module _ (k : ℕ) (P : Marks) (y : Way) (led : Took z
        (λ v. Matches (rules_of s) [] (mark_line s) true (live fuel (inside S (ranges_of s))) v (live k P)) y)
      where
        pub end_fits : Fits z (Running s fuel S) → Fits y (Ending 0 (fields_of s) P)
        end_fits h = fits_after {L = Running s fuel S}
            (λ t u m n. (mark n.1, runs (some_left alive) m (whole n.2))) led h

        pub end_halt : (y' : Way) → Halt y (Ending 0 (fields_of s) P) y' → Halt z (Running s fuel S) y'
        end_halt y' h = halt_after {L = Running s fuel S}
            (λ t u m n. (mark n.1, runs (some_left alive) m (whole n.2))) led h

        pub end_mark :
            (vs : List ℕ) (Q : Marks) (y' : Way)
            → Took y (λ v. Ends 0 (fields_of s) P v Q vs) y'
            → Took z (λ v. Run s fuel S v (mark vs)) y'
        end_mark vs Q y' h = took_join (λ t u m n. runs (some_left alive) m (whole n)) led h

        -- the fields are settled, or the run halted there
        pub ends_as :
            (Q : Marks) (y' : Way) (o : Result (ArrayVec ℕ) Stop)
            → Finished (fields_of s) P y o Q y'
            → Along s fuel S z o y'
        ends_as Q y' (Ok vs) h = end_mark vs.items Q y' h
        ends_as Q y' (Err e) h = subst (λ q. Along s fuel S z (Err q) y') (sym h.is) (end_halt y' h.at)

-- the numbers are as many as the fields
pub finished_long :
    (w : ℕ) (S : Marks) (z : Way) (o : Result (ArrayVec ℕ) Stop) (P : Marks) (y : Way)
    → Finished w S z o P y
    → IfOk o (λ m. length m.items ≡ w)
finished_long w S z (Ok vs) P y h = ends_long h.does
finished_long w S z (Err e) P y h = tt
