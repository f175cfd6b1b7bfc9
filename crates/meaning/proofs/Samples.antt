-- The worked examples, computed: the proof that picks tell a run is an evaluator of runs.
use Rattle.std.proofs.Common.{◌≡◌, ℕ, true, List, [], ◌∷◌, length, sym, refl, ap₂, inl, inr, ⊎_elim, arith, eqb-true}
use Rattle.std.proofs.lemmas.Bool.{and_parts, or_cases}
use borrow.Author.Tests.{clash}
use Rattle.formula.specs.Trees.{Sheet}
use Rattle.marks.specs.Sets.{Marks}
use Rattle.meaning.specs.Terms.{ranges_of, fields_of}
use Rattle.meaning.specs.Reading.{allowed, spent, Checks, tells, called, uncalled, left_only, right_too}
use Rattle.meaning.specs.Reading.{in_range}
use Rattle.meaning.specs.Traces.{among, branch, took, Trace}
use Rattle.meaning.specs.Runs.{Outcome, mark, dead_end, spent_run, inside, Run}
use Rattle.meaning.specs.Picks.{Telling, Fair, Told}
use Rattle.meaning.specs.Draws.{drawn, takes_none, takes_one, ran, dry, Draws, draws, runs_dry}
use Rattle.meaning.specs.Walks.{no_entry, zero_more, no_raise, last_more, raised, beyond, finished, goes_on}
use Rattle.meaning.specs.Walks.{WholeWalk}
use Rattle.meaning.specs.Samples.{small, every, equal, in_rows, shelf_sheet, odd_sheet, box_sheet, rows}
use Rattle.meaning.specs.Samples.{top_sheet, Samples}
use Rattle.meaning.proofs.Counting.{Counted, counted_part}
use Rattle.meaning.proofs.Completeness.{unknown_dec}
use Rattle.meaning.proofs.Listed.{Mem, counted_list}
use Rattle.meaning.proofs.Boxes.{counted_box}
use Rattle.meaning.proofs.Draws.{drawn_fair}
use Rattle.meaning.proofs.Endings.{along, along_fair}
use Rattle.meaning.proofs.Picks.{empty_dec, lives_some, next_pick, settles_told, resolves_told, passes_told}
use Rattle.meaning.proofs.Picks.{leaves_told, ends_told, comparison, then_on, joined, step, more, total}
use Rattle.meaning.proofs.Picks.{finishes_told, run_told}

-- the run that some numbers tell
module _ (ρ : Telling) (fair : Fair ρ) where
  runs_by :
      (sh : Sheet) (fuel : ℕ) (S : Marks) → Counted (inside S (ranges_of sh)) → (ns : List ℕ)
      → (t : Trace) × (a : Outcome) × (l : List ℕ) × Run sh fuel S t a × Told ρ ns t l
  unfolding counted_box counted_list counted_part unknown_dec along empty_dec lives_some next_pick
      settles_told resolves_told passes_told leaves_told ends_told comparison then_on joined step more total
      finishes_told run_told
  runs_by sh fuel S C ns = run_told ρ fair sh fuel S C ns

every_long : (n : ℕ) (m : List ℕ) → every n m ≡ true → length m ≡ n
every_long n m h = eqb-true (length m) n (and_parts _ (small m) h).0

counts : (sh : Sheet) → Counted (inside (every (fields_of sh)) (ranges_of sh))
unfolding counted_box counted_list counted_part
counts sh = counted_box (every (fields_of sh)) (ranges_of sh) (every_long (fields_of sh))

-- a walk's runs follow recorded picks
walks_by :
    (sh : Sheet) (fuel : ℕ) (ns : List ℕ)
    → (t : Trace) × (a : Outcome) × (l : List ℕ) × Run sh fuel (every (fields_of sh)) t a × Told along ns t l
unfolding runs_by counts
walks_by sh fuel ns = runs_by along along_fair sh fuel (every (fields_of sh)) (counts sh) ns

shelves :
    WholeWalk shelf_sheet 255 (every 2) (mark (2 ∷ 0 ∷ []) ∷ mark (2 ∷ 1 ∷ []) ∷ mark (2 ∷ 2 ∷ []) ∷ mark
    (1 ∷ 0 ∷ []) ∷ mark (3 ∷ 0 ∷ []) ∷ [])
unfolding walks_by
shelves = (
  took 0 (branch 1 1) ∷ took 0 (among 3) ∷ [],
  zero_more (zero_more no_entry),
  goes_on (walks_by shelf_sheet 255 []).3 (beyond (raised (omega arith) no_raise no_entry))
      (goes_on (walks_by shelf_sheet 255 (0 ∷ 1 ∷ [])).3 (beyond (raised (omega arith) no_raise no_entry))
      (goes_on (walks_by shelf_sheet 255 (0 ∷ 2 ∷ [])).3
      (raised (omega arith) (last_more (omega arith) no_raise) (zero_more no_entry))
      (goes_on (walks_by shelf_sheet 255 (1 ∷ [])).3 (beyond (raised (omega arith) no_raise no_entry))
      (finished (walks_by shelf_sheet 255 (1 ∷ 1 ∷ [])).3
      (last_more (omega arith) (last_more (omega arith) no_raise)))))),
)

odd_walk :
    WholeWalk odd_sheet 2 (every 1) (mark (1 ∷ []) ∷ dead_end ∷ dead_end ∷ mark (3 ∷ []) ∷ dead_end ∷ [])
unfolding walks_by
odd_walk = (
  took 0 (branch 1 1) ∷ [],
  zero_more no_entry,
  goes_on (walks_by odd_sheet 2 []).3 (raised (omega arith) no_raise (zero_more (zero_more no_entry)))
      (goes_on (walks_by odd_sheet 2 (1 ∷ [])).3 (beyond (beyond (raised (omega arith) no_raise no_entry)))
      (goes_on (walks_by odd_sheet 2 (1 ∷ 0 ∷ 1 ∷ [])).3
      (beyond (raised (omega arith) (last_more (omega arith) no_raise) (zero_more no_entry)))
      (goes_on (walks_by odd_sheet 2 (1 ∷ 1 ∷ [])).3
      (beyond (beyond (raised (omega arith) no_raise no_entry)))
      (finished (walks_by odd_sheet 2 (1 ∷ 1 ∷ 1 ∷ [])).3
      (last_more (omega arith) (last_more (omega arith) (last_more (omega arith) no_raise))))))),
)

odd_spent : WholeWalk odd_sheet 1 (every 1) (mark (1 ∷ []) ∷ spent_run ∷ spent_run ∷ [])
unfolding walks_by
odd_spent = (
  took 0 (branch 1 1) ∷ [],
  zero_more no_entry,
  goes_on (walks_by odd_sheet 1 []).3 (raised (omega arith) no_raise (zero_more no_entry))
      (goes_on (walks_by odd_sheet 1 (1 ∷ [])).3 (beyond (raised (omega arith) no_raise no_entry))
      (finished (walks_by odd_sheet 1 (1 ∷ 1 ∷ [])).3
      (last_more (omega arith) (last_more (omega arith) no_raise)))),
)

three_allowed : Checks odd_sheet (3 ∷ []) 2 allowed 2
three_allowed =
    in_range refl (called (right_too refl tells (right_too refl tells
    (called (left_only (λ p. clash (sym p)) tells)))))

three_spent : Checks odd_sheet (3 ∷ []) 1 spent 1
three_spent = in_range refl (called (right_too refl tells (right_too refl tells uncalled)))

-- a register's rows are its marks

equal_same : (m r : List ℕ) → equal m r ≡ true → m ≡ r
equal_same [] [] h = refl
equal_same [] (w ∷ r) h = absurd (clash h)
equal_same (v ∷ m) [] h = absurd (clash h)
equal_same (v ∷ m) (w ∷ r) h =
    ap₂ {C = List ℕ} ◌∷◌ (eqb-true v w (and_parts _ (equal m r) h).0)
    (equal_same m r (and_parts _ (equal m r) h).1)

row_listed : (l : List (List ℕ)) (m : List ℕ) → in_rows l m ≡ true → Mem m l
row_listed [] m h = absurd (clash h)
row_listed (r ∷ l) m h =
    ⊎_elim (λ p. inl (equal_same m r p)) (λ q. inr (row_listed l m q)) (or_cases (equal m r) (in_rows l m) h)

row_counts : Counted (inside (in_rows rows) (ranges_of box_sheet))
unfolding counted_list counted_part
row_counts =
    counted_list rows (inside (in_rows rows) (ranges_of box_sheet))
    (λ m h. row_listed rows m (and_parts (in_rows rows m) _ h).0)

register : WholeWalk box_sheet 255 (in_rows rows) (mark (1 ∷ 0 ∷ []) ∷ mark (2 ∷ 5 ∷ []) ∷ [])
unfolding runs_by row_counts
register = (
  took 0 (among 2) ∷ [],
  zero_more no_entry,
  goes_on (runs_by along along_fair box_sheet 255 (in_rows rows) row_counts []).3
      (raised (omega arith) no_raise no_entry)
      (finished (runs_by along along_fair box_sheet 255 (in_rows rows) row_counts (1 ∷ [])).3
      (last_more (omega arith) no_raise)),
)

draw : (t : Trace) × Draws shelf_sheet 255 (every 2) (7 ∷ 4 ∷ []) (ran (mark (1 ∷ 0 ∷ []))) t []
unfolding runs_by counts
draw = (
  took 1 (branch 1 1) ∷ took 0 (among 2) ∷ [],
  draws (runs_by drawn drawn_fair shelf_sheet 255 (every 2) (counts shelf_sheet) (7 ∷ 4 ∷ [])).3
      (takes_one {k = 1} {c = branch 1 1} refl (takes_one {k = 0} {c = among 2} refl takes_none)),
)

draw_dry : (t : Trace) × Draws shelf_sheet 255 (every 2) (7 ∷ []) dry t [] × (length t ≡ 1)
unfolding runs_by counts
draw_dry = (
  took 1 (branch 1 1) ∷ [],
  runs_dry (took 0 (among 2)) [] (runs_by drawn drawn_fair shelf_sheet 255 (every 2) (counts shelf_sheet)
      (7 ∷ [])).3 (takes_one {k = 1} {c = branch 1 1} refl takes_none),
  refl,
)

top : WholeWalk top_sheet 255 (every 1) (mark (1023 ∷ []) ∷ [])
unfolding walks_by
top = ([], no_entry, finished (walks_by top_sheet 255 []).3 no_raise)

pub samples : Samples
samples =
    record {
      shelves = shelves;
      odd_walk = odd_walk;
      odd_spent = odd_spent;
      three_allowed = three_allowed;
      three_spent = three_spent;
      register = register;
      draw = draw;
      draw_dry = draw_dry;
      top = top;
      seed = refl;
    }
