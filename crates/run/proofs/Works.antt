-- The loop over the goals, from its turns.
use Rattle.std.proofs.Common.{◌≡◌, ℕ, ◌+◌, ◌<◌, ◌≤◌, true, List, [], ◌∷◌, ◌++◌, length, get_or, set, Err, Result, sym, ap, ◌∙◌, subst, append_assoc, append-nil, arith, length-set, get_or-set_same}
use Rattle.formula.specs.Trees.{Formula, Rule}
use Rattle.marks.specs.Sets.{Marks}
use Rattle.marks.specs.Counted.{some}
use Rattle.meaning.specs.Terms.{mark_line, rules_of}
use Rattle.meaning.specs.Matching.{State, live, dead, spent, Matches}
use Rattle.meaning.specs.Pending.{goal, Solves, solved, load}
use Rattle.meaning.specs.Pending.{Goal as Waiting}
use Rattle.meaning.proofs.Pending.{alone}
use Rattle.sheet.specs.declared.table.Sheet.{Sheet}
use Rattle.sheet.specs.Sheets.{tree_of}
use Rattle.run.specs.Rooms.{needed_entries}
use Rattle.run.specs.declared.goal.Goal.{Goal}
use Rattle.run.specs.declared.goal.Frame.{Frame}
use Rattle.run.specs.declared.stop.Stop.{Stop}
use Rattle.run.specs.declared.stop.Stop.TheVariants.{DeadEnd, Spent, Halted}
use Rattle.run.specs.Frames.{arguments_of, FrameOkay}
use Rattle.run.specs.Ways.{Way, Took, Halt, Fits}
use Rattle.run.specs.Goals.{Spot, spot, pending, Stood, Fit, no_goal, no_frame, Leads, Solving, Turned}
use Rattle.run.specs.Works.{Matching, Matched, Worked}
use Rattle.run.proofs.Ways.{took_map, took_none, took_join, halt_after, fits_after}
use Rattle.run.proofs.Passing.{blank, blank_okay}
use Rattle.sheet.proofs.Lines.{mark_in_lines}
use Rattle.run.proofs.Tables.{mark_is, mark_joins}
use Rattle.run.proofs.Turns.{depth, pending_push}

-- the beginning
module _ (s : Sheet) (gs : List Goal) (fs : List Frame) (fuel : ℕ) (hg : needed_entries fuel ≤ length gs)
    (hf : fuel + 1 ≤ length fs) (few : fuel ≤ 255) where
  abbrev pub start_goal : Goal
  start_goal = record { formula = s.mark.body; target = true; frame = 0 }

  pub first_stack : pending s (set gs 0 start_goal) (set fs 0 blank) 1 ≡ goal [] (mark_line (tree_of s)) true
      ∷ []
  first_stack =
      let a : 0 < length gs = omega arith in
      let b : 0 < length fs = omega arith in
      pending_push s gs (set fs 0 blank) 0 start_goal a
      ∙ (λ j. goal (arguments_of (get_or-set_same fs 0 blank no_frame b j)) (sym (mark_is s) j) true ∷ [])

  pub first_fit : Fit s (spot (set gs 0 start_goal) (set fs 0 blank) (depth 1 1 fuel))
  first_fit =
      let a : 0 < length gs = omega arith in
      let b : 0 < length fs = omega arith in
      let lg = length-set gs 0 start_goal in
      let lf = length-set fs 0 blank in
      let l = ap load first_stack in
      let few_joins = mark_joins s in
      let at = mark_in_lines s.rules.items s.mark in
      let line = s.lines_kept (length s.rules.items) (omega arith) in
      let stood : Stood s (set fs 0 blank) 1 start_goal =
      record {
        line = (length s.rules.items);
        within = (omega arith, omega (arith, line.1, ap (λ l. l.body) at), omega (arith, ap (λ l. l.body) at));
        frame = omega arith;
        count = ap (λ q. q.count) (get_or-set_same fs 0 blank no_frame b) ∙ sym (ap (λ l. l.params) at ∙ s.mark_plain);
      } in
      let okay : FrameOkay (length s.ranges.items) blank = record
      { few = omega arith; each = blank_okay (length s.ranges.items) } in (
        record {
          hold = omega arith;
          frames_hold = omega arith;
          few = omega arith;
          stood = λ i h.
              let z : 0 ≡ i = omega arith in
              subst (λ q. Stood s (set fs 0 blank) 1 (get_or (set gs 0 start_goal) q no_goal)) z
              (subst (Stood s (set fs 0 blank) 1) (sym (get_or-set_same gs 0 start_goal no_goal a)) stood);
          okay = λ i h.
              let z : 0 ≡ i = omega arith in
              subst (λ q. FrameOkay (length s.ranges.items) (get_or (set fs 0 blank) q no_frame)) z
              (subst (FrameOkay (length s.ranges.items)) (sym (get_or-set_same fs 0 blank no_frame b)) okay);
        },
        omega arith,
      )

module _ (rules : List Rule) (F : Formula) (n : ℕ) (S : Marks) (z : Way) where
  abbrev pub Whole : List Waiting → ℕ → Marks → Way → Type 0
  Whole gs k P y = Took z (Leads rules (goal [] F true ∷ []) n S gs k P) y

  pub begun : (gs : List Waiting) → gs ≡ goal [] F true ∷ [] → Whole gs n S z
  begun gs e = took_none (λ u o s. subst (λ q. Solves rules q (live n S) u o) e s)

  module _ (gs : List Waiting) (k : ℕ) (P : Marks) (y : Way) (whole : Whole gs k P y) where
    pub work_fits : Fits z (Matching rules F n S) → Fits y (Solving rules gs k P)
    work_fits h = fits_after {L = Matching rules F n S} (λ t u m s. (s.0, alone rules (m u s.0 s.1)))
        whole h

    pub work_halt : (y' : Way) → Halt y (Solving rules gs k P) y' → Halt z (Matching rules F n S) y'
    work_halt y' h = halt_after (λ t u m s. (s.0, alone rules (m u s.0 s.1))) whole h

    pub work_more :
        (gs' : List Waiting) (k' : ℕ) (Q : Marks) (y' : Way)
        → Took y (Leads rules gs k P gs' k' Q) y'
        → Whole gs' k' Q y'
    work_more gs' k' Q y' h = took_join (λ t u m s v o x. subst
        (λ q. Solves rules (goal [] F true ∷ []) (live n S) q o) (sym (append_assoc t u v))
        (m (u ++ v) o (s v o x))) whole h

    pub work_ends :
        (o : State) (y' : Way)
        → Took y (λ v. Solves rules gs (live k P) v o) y'
        → Took z (λ v. Matches rules [] F true (live n S) v o) y'
    work_ends o y' h = took_join (λ t u m s. alone rules (m u o s)) whole h

    -- the loop is left as its last turn is
    pub work_stop :
        (w : ℕ) (s : Sheet) (p : Spot) (r : Stop) (a : Result Unit Stop) (Q : Marks) (y' : Way)
        → rules ≡ rules_of (tree_of s)
        → a ≡ Err r
        → Turned s gs k P y (Err r) p Q y'
        → Worked w rules F n S z a Q y'
    work_stop w s p DeadEnd a Q y' e is h = subst (λ q. Worked w rules F n S z q Q y') (sym is)
        (work_ends dead y' (subst (λ R. Took y (λ v. Solves R gs (live k P) v dead) y') (sym e) h))
    work_stop w s p Spent a Q y' e is h = subst (λ q. Worked w rules F n S z q Q y') (sym is)
        (work_ends spent y' (subst (λ R. Took y (λ v. Solves R gs (live k P) v spent) y') (sym e) h))
    work_stop w s p Halted a Q y' e is h = subst (λ q. Worked w rules F n S z q Q y') (sym is)
        (work_halt y' (subst (λ R. Halt y (Solving R gs k P) y') (sym e) h))

    pub work_done : (w : ℕ) → some w P ≡ true → gs ≡ [] → Matched w rules F n S z P y
    work_done w l e = record {
      fuel = k;
      took = took_map (λ v m. subst (λ q. Matches rules [] F true (live n S) q (live k P)) (append-nil v)
          (alone rules (m [] (live k P) (subst (λ q. Solves rules q (live k P) [] (live k P)) (sym e)
          solved)))) whole;
      alive = l;
    }
