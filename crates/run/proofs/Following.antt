-- What a run along recorded entries, and a draw, answer by how the run ended.
use Rattle.std.proofs.Common.{◌≡◌, ℕ, ◌-◌, ◌<◌, ◌≤◌, List, ◌++◌, ◌∷◌, [], length, Some, None, Option, Ok, Err, Result, refl, sym, ap, ◌∙◌, subst, inr, arith, length-append}
use Rattle.refusal.specs.declared.Refusal.TheVariants.{TraceUnfit}
use Rattle.std.specs.Result.{IfOk}
use Rattle.arrayvec.specs.ArrayVec.{ArrayVec}
use Rattle.formula.specs.Trees.{Sheet}
use Rattle.marks.specs.Sets.{Marks, MarksOf}
use Rattle.meaning.specs.Terms.{fields_of}
use Rattle.meaning.specs.Traces.{took, Trace}
use Rattle.meaning.specs.Runs.{Outcome, Run}
use Rattle.meaning.specs.Draws.{Takes, Draws, draws, runs_dry, ran, dry}
use Rattle.meaning.proofs.Lengths.{lengths}
use Rattle.sheet.specs.declared.table.Sheet.{Sheet as Table}
use Rattle.sheet.specs.Sheets.{tree_of}
use Rattle.run.specs.Rooms.{needed_entries}
use Rattle.run.specs.declared.stop.Stop.{Stop}
use Rattle.run.specs.declared.answer.Ended.{Ended}
use Rattle.run.specs.Guides.{Guide, recorded, NoPick, Guided, entries}
use Rattle.run.specs.Answering.{Lists, setting, LongEnough, Written, Follows, DrawsTo, outcome_of}
use Rattle.run.specs.Ways.{trail, Way, way, written}
use Rattle.run.specs.Ahead.{recorded_ahead, drawn_ahead}
use Rattle.run.specs.Whole.{Along, Reported}
use Rattle.run.proofs.Ways.{written_at}
use Rattle.run.proofs.Guides.{entries_next}
use Rattle.run.proofs.Tables.{fields_are, few_joins}
use Rattle.run.proofs.Answering.{written_over, only_run, unfit_none, unfit_same, along_took, along_halt, entries_over, numbers_over, guided_takes}

-- a run under way, by equal guides
pub lands :
    (s : Sheet) (fuel : ℕ) (S : Marks) (z : Way) (end : Result (ArrayVec ℕ) Stop)
    (g h : (picks widths : List ℕ) (k : ℕ) → Guide) (k : ℕ) (ps ws : List ℕ)
    → g ≡ h
    → Along s fuel S z end (way g ps ws k)
    → Along s fuel S z end (way h ps ws k)
lands s fuel S z end g h k ps ws a = subst (Along s fuel S z end) (λ i. way (a i) ps ws k)

-- a mark list that is long enough for the mark
pub mark_room :
    (end : Result (ArrayVec ℕ) Stop) (k n : ℕ)
    → k ≤ n
    → IfOk end (λ vs. length vs.items ≡ k)
    → IfOk end (λ vs. length vs.items ≤ n)
mark_room (Ok vs) k n l e = omega arith
mark_room (Err e) k n l h = tt

-- a trace for which the lists are long enough, as they hold it
trace_written :
    (fuel n given at : ℕ) (before after : Lists) (t : Trace)
    → LongEnough fuel n given before
    → length t ≤ needed_entries fuel
    → trail after.picks after.widths at ≡ written (trail before.picks before.widths 0) t
    → (at ≡ length t) × Written before t after
trace_written fuel n given at before after t long short end =
    let hp : length t ≤ length before.picks = omega (arith, short, long.picks) in
    let hw : length t ≤ length before.widths = omega (arith, short, long.widths) in
    let over = written_over before.picks before.widths t hp hw in (
      omega (arith, ap (λ q. q.at) end, written_at (trail before.picks before.widths 0) t),
      record { picks = ap (λ q. q.picks) end ∙ over.0; widths = ap (λ q. q.widths) end ∙ over.1 },
    )

module _ (sh : Table) (fuel n : ℕ) (S : Marks) (C : MarksOf n S) (agree : n ≡ fields_of (tree_of sh)) where
  -- no run has more entries than the lists have room for
  pub few_entries :
      (t : Trace) (o : Outcome)
      → Run (tree_of sh) fuel S t o
      → length t ≤ needed_entries fuel
  few_entries t o r =
      let h = lengths (tree_of sh) fuel S (subst (λ k. MarksOf k S) agree C) 16 (few_joins sh) t o r in
      omega (arith, h, fields_are sh, sh.some_fields)

  -- a mark has as many numbers as the store has fields
  as_wide :
      (end : Result (ArrayVec ℕ) Stop)
      → IfOk end (λ vs. length vs.items ≡ length sh.ranges.items)
      → IfOk end (λ vs. length vs.items ≡ n)
  as_wide end = subst (λ k. IfOk end (λ vs. length vs.items ≡ k)) (sym (agree ∙ fields_are sh))

  module _
      (given at : ℕ) (before after : Lists) (long : LongEnough fuel n given before) (end : Result (ArrayVec ℕ) Stop)
      (went : Along (tree_of sh) fuel S (way (recorded_ahead given) before.picks before.widths 0) end
      (way (recorded_ahead given) after.picks after.widths at)) where
    abbrev start : Way
    start = record {
      trail = trail before.picks before.widths 0;
      guide = recorded (entries before.picks before.widths 0 given);
    }

    abbrev left : Way
    left = way (recorded_ahead given) after.picks after.widths at

    whole : Along (tree_of sh) fuel S start end left
    whole =
        let off : given - 0 ≡ given = omega arith in
        subst (λ k. Along (tree_of sh) fuel S (record {
          trail = trail before.picks before.widths 0;
          guide = recorded (entries before.picks before.widths 0 k);
        }) end left) off went

    over : given ≤ at → left.guide ≡ recorded []
    over h =
        let none : given - at ≡ 0 = omega arith in
        ap (λ k. recorded (entries after.picks after.widths at k)) none

    -- entries are left
    pub follows_unfit :
        at < given
        → after.mark ≡ before.mark
        → Follows (setting (tree_of sh) fuel n S) given before (Err TraceUnfit) after
    follows_unfit h marked =
        let B = subst (λ k. MarksOf k S) agree C in
        let more = ap recorded (entries_next given after.picks after.widths at h) in
        let same = unfit_same (tree_of sh) fuel S B before.picks before.widths given left end _ _ whole more in (
          inr (record {
            number = refl;
            fields = agree;
            long = long;
            none = unfit_none (tree_of sh) fuel S B start left end _ _ whole more;
          }),
          record { picks = same.0; widths = same.1; mark = marked },
        )

    -- the run took all entries
    pub follows_whole :
        (ended : Ended)
        → given ≤ at
        → IfOk end (λ vs. length vs.items ≡ length sh.ranges.items)
        → Reported end before.mark (Some ended) after.mark
        → Follows (setting (tree_of sh) fuel n S) given before (Ok (record { ended = ended; length = at })) after
    follows_whole ended h wide told =
        let B = subst (λ k. MarksOf k S) agree C in
        let o = outcome_of ended n after.mark in
        let j = along_took (tree_of sh) fuel S start left before.mark after.mark end n ended (as_wide end wide) told
        whole in
        let k = j.0 in
        let all = subst (Guided start.guide k.trace) (over h) k.guided in
        let hold = trace_written fuel n given at before after k.trace long (few_entries k.trace o k.does) k.end in (
          agree,
          long,
          record {
            trace = k.trace;
            outcome = o;
            run = k.does;
            guided = all;
            only = λ u a r p. only_run (tree_of sh) fuel S B start.guide (recorded []) k.trace u o a k.does all r p;
            long = hold.0;
            written = hold.1;
            told = refl;
            marked = j.1;
          },
        )

    -- past the entries no run is halted
    pub follows_on :
        given ≤ at
        → Reported end before.mark None after.mark
        → ⊥
    follows_on h told =
        let k = (along_halt (tree_of sh) fuel S start left before.mark after.mark end told whole).0 in
        entries_over k.choice (subst (λ q. NoPick q k.choice) (over h) k.stuck)

  module _
      (at : ℕ) (before after : Lists) (long : LongEnough fuel n 0 before) (ns rest : List ℕ) (end : Result (ArrayVec ℕ) Stop)
      (went : Along (tree_of sh) fuel S (way (drawn_ahead ns) before.picks before.widths 0) end
      (way (drawn_ahead rest) after.picks after.widths at)) where
    -- a draw to the end of its run, and one that finds no number
    pub draws_to :
        (ended : Option Ended)
        → IfOk end (λ vs. length vs.items ≡ length sh.ranges.items)
        → Reported end before.mark ended after.mark
        → DrawsTo (setting (tree_of sh) fuel n S) ns rest before (record { ended = ended; length = at }) after
    draws_to (Some ended) wide told =
        let o = outcome_of ended n after.mark in
        let j = along_took (tree_of sh) fuel S (way (drawn_ahead ns) before.picks before.widths 0)
        (way (drawn_ahead rest) after.picks after.widths at) before.mark after.mark end n ended (as_wide end wide) told
        went in
        let k = j.0 in
        let hold = trace_written fuel n 0 at before after k.trace long (few_entries k.trace o k.does) k.end in
        record {
          trace = k.trace;
          result = ran o;
          draw = draws k.does (guided_takes ns k.trace rest k.guided);
          long = hold.0;
          written = hold.1;
          told = refl;
          marked = j.1;
        }
    draws_to None wide told =
        let j = along_halt (tree_of sh) fuel S (way (drawn_ahead ns) before.picks before.widths 0)
        (way (drawn_ahead rest) after.picks after.widths at) before.mark after.mark end told went in
        let k = j.0 in
        let none = numbers_over rest k.choice k.stuck in
        let short = few_entries (k.before ++ took 0 k.choice ∷ k.after) k.does.0 k.does.1 in
        let parts = length-append k.before (took 0 k.choice ∷ k.after) in
        let hold = trace_written fuel n 0 at before after k.before long (omega (arith, short, parts)) k.end in
        let takes = guided_takes ns k.before rest k.guided in
        record {
          trace = k.before;
          result = dry;
          draw =
              subst (λ q. Draws (tree_of sh) fuel S ns dry k.before q) (sym none)
              (runs_dry (took 0 k.choice) k.after k.does.1 (subst (Takes ns k.before) none takes));
          long = hold.0;
          written = hold.1;
          told = refl;
          marked = j.1;
        }
