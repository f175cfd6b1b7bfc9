-- One turn of the loop, from what its parts come to.
use Rattle.std.proofs.Common.{◌≡◌, ℕ, zero, suc, ◌+◌, ◌-◌, ◌*◌, ◌<◌, ◌≤◌, Bool, true, ◌≢◌, List, [], ◌∷◌, ◌++◌, length, get_or, set, Ok, Err, Result, sym, refl, ap, ◌∙◌, subst, suc-mul, add-one, arith, length-set, get_or-set_other, get_or-set_same, below_more}
use Rattle.formula.specs.Trees.{Formula, Rule}
use Rattle.marks.specs.Sets.{Marks}
use Rattle.marks.specs.Counted.{some}
use Rattle.meaning.specs.Terms.{rules_of}
use Rattle.meaning.specs.Traces.{Trace}
use Rattle.meaning.specs.Lengths.{joins}
use Rattle.meaning.specs.Matching.{Argument, State}
use Rattle.meaning.specs.Pending.{goal, Solves, solved, solves, load}
use Rattle.meaning.specs.Pending.{Goal as Waiting}
use Rattle.meaning.proofs.Pending.{waiting}
use Rattle.meaning.proofs.Counting.{Counted}
use Rattle.meaning.proofs.Soundness.{Held, fuel_of}
use Rattle.meaning.proofs.Soundness.{sound as matched_sound}
use Rattle.meaning.proofs.Runs.{Alive, matches_alive}
use Rattle.meaning.proofs.Picks.{then_on, total}
use Rattle.sheet.specs.declared.node.Node.{Node}
use Rattle.sheet.specs.declared.table.Sheet.{Sheet}
use Rattle.sheet.specs.Table.{node_at, line_at, formula_at, whole}
use Rattle.sheet.specs.Keeping.{Within, size}
use Rattle.sheet.specs.Sheets.{tree_of, sizes_of, lines_in}
use Rattle.sheet.proofs.Holding.{formula_step}
use Rattle.run.specs.declared.goal.Goal.{Goal}
use Rattle.run.specs.declared.goal.Frame.{Frame}
use Rattle.run.specs.declared.stack.Depth.{Depth}
use Rattle.run.specs.Frames.{arguments_of, FrameOkay}
use Rattle.run.specs.Ways.{Way, Took}
use Rattle.run.specs.declared.stop.Stop.{Stop}
use Rattle.run.specs.declared.stop.Stop.TheVariants.{DeadEnd, Spent, Halted}
use Rattle.run.specs.Goals.{no_goal, no_frame, goal_of, pending, Spot, spot, Stood, Good, Fit, mass, Leads, Moves, Turned, Entered}
use Rattle.run.proofs.Comparing.{first, first_fair}
use Rattle.run.proofs.Tables.{NodeOkay, entry_okay, line_joins, body_size}

-- the stack under a write
module _ (s : Sheet) where
  pub pop :
      (gs : List Goal) (fs : List Frame) (n : ℕ) → 0 < n
      → pending s gs fs n ≡ goal_of s fs (get_or gs (n - 1) no_goal) ∷ pending s gs fs (n - 1)
  pop gs fs zero h = absurd (omega arith)
  pop gs fs (suc n) h =
      let e : n ≡ suc n - 1 = omega arith in
      ap (λ m. goal_of s fs (get_or gs m no_goal) ∷ pending s gs fs m) e

  pub pending_past :
      (gs : List Goal) (fs : List Frame) (i : ℕ) (g : Goal) (n : ℕ) → n ≤ i
      → pending s (set gs i g) fs n ≡ pending s gs fs n
  pending_past gs fs i g zero h = refl
  pending_past gs fs i g (suc n) h =
      let ne : n ≢ i = omega arith in
      (λ j. goal_of s fs (get_or-set_other gs i n g no_goal ne j) ∷ pending_past gs fs i g n (omega arith) j)

  pub pending_push :
      (gs : List Goal) (fs : List Frame) (i : ℕ) (g : Goal) → i < length gs
      → pending s (set gs i g) fs (i + 1) ≡ goal_of s fs g ∷ pending s gs fs i
  pending_push gs fs i g h =
      rw add-one (λ j. goal_of s fs (get_or-set_same gs i g no_goal h j) ∷ pending_past gs fs i g i
      (omega arith) j)

  pub pending_frame :
      (gs : List Goal) (fs : List Frame) (f : ℕ) (x : Frame) (n : ℕ)
      → ((i : ℕ) → i < n → (get_or gs i no_goal).frame < f)
      → pending s gs (set fs f x) n ≡ pending s gs fs n
  pending_frame gs fs f x zero h = refl
  pending_frame gs fs f x (suc n) h =
      let g = get_or gs n no_goal in
      let ne : g.frame ≢ f = omega (arith, h n (omega arith)) in
      (λ j.
      goal (arguments_of (get_or-set_other fs f g.frame x no_frame ne j))
      (formula_at s.nodes g.formula) g.target
      ∷ pending_frame gs fs f x n (λ i l. h i (omega arith)) j)

  pub pending_length : (gs : List Goal) (fs : List Frame) (n : ℕ) → length (pending s gs fs n) ≡ n
  pending_length gs fs zero = refl
  pending_length gs fs (suc n) = ap suc (pending_length gs fs n)

abbrev pub depth : ℕ → ℕ → ℕ → Depth
depth n f u = record { goals = n; frames = f; fuel = u }

pushed_all :
    (P : Goal → Type 0) (gs : List Goal) (n : ℕ) (g : Goal) → n < length gs → P g
    → ((i : ℕ) → i < n → P (get_or gs i no_goal)) → (i : ℕ) → i < n + 1 → P (get_or (set gs n g) i no_goal)
pushed_all P gs n g l p h i b =
    below_more (λ i. P (get_or (set gs n g) i no_goal)) n
    (λ k lt. let ne : k ≢ n = omega arith in subst P (sym (get_or-set_other gs n k g no_goal ne)) (h k lt))
    (subst P (sym (get_or-set_same gs n g no_goal l)) p) i b

framed_all :
    (P : Frame → Type 0) (fs : List Frame) (n : ℕ) (x : Frame) → n < length fs → P x
    → ((i : ℕ) → i < n → P (get_or fs i no_frame)) → (i : ℕ) → i < n + 1 → P (get_or (set fs n x) i no_frame)
framed_all P gs n g l p h i b =
    below_more (λ i. P (get_or (set gs n g) i no_frame)) n
    (λ k lt. let ne : k ≢ n = omega arith in subst P (sym (get_or-set_other gs n k g no_frame ne)) (h k lt))
    (subst P (sym (get_or-set_same gs n g no_frame l)) p) i b

-- a goal stands as it did when a frame is added
stood_more :
    (s : Sheet) (fs : List Frame) (f : ℕ) (x : Frame) (g : Goal)
    → Stood s fs f g
    → Stood s (set fs f x) (f + 1) g
stood_more s fs f x g h =
    let ne : g.frame ≢ f = omega (arith, h.frame) in
    record {
      line = h.line;
      within = h.within;
      frame = omega (arith, h.frame);
      count = ap (λ q. q.count) (get_or-set_other fs f g.frame x no_frame ne) ∙ h.count;
    }

module _ {s : Sheet} {gs : List Goal} {fs : List Frame} {n f u : ℕ} (h : Good s (spot gs fs (depth n f u)))
  where
    pub good_pop : Good s (spot gs fs (depth (n - 1) f u))
    good_pop =
        record {
          hold = omega (arith, h.hold);
          frames_hold = h.frames_hold;
          few = h.few;
          stood = λ i b. h.stood i (omega arith);
          okay = h.okay;
        }

    pub good_push :
        (g : Goal)
        → n < length gs
        → Stood s fs f g
        → Good s (spot (set gs n g) fs (depth (n + 1) f u))
    good_push g l a =
        record {
          hold = simp length-set (omega arith);
          frames_hold = h.frames_hold;
          few = h.few;
          stood = pushed_all (Stood s fs f) gs n g l a h.stood;
          okay = h.okay;
        }

    pub good_call :
        (x : Frame)
        → 0 < u
        → FrameOkay (length s.ranges.items) x
        → Good s (spot gs (set fs f x) (depth n (f + 1) (u - 1)))
    good_call x l ok =
        record {
          hold = h.hold;
          frames_hold = simp length-set (omega (arith, h.frames_hold));
          few = omega (arith, h.few);
          stood = λ i b. stood_more s fs f x (get_or gs i no_goal) (h.stood i b);
          okay = framed_all (FrameOkay (length s.ranges.items)) fs f x (omega (arith, h.frames_hold)) ok h.okay;
        }

-- whatever is left can be solved
pub solves_some :
    (rules : List Rule) (gs : List Waiting) (S : Marks) → Counted S → (i : State) → Alive i
    → ((m : List ℕ) → Held i m → S m ≡ true) → (v : Trace) × (o : State) × Solves rules gs i v o
solves_some rules [] S C i a h = ([], i, solved)
solves_some rules (goal e F b ∷ gs) S C i a h =
    let r = then_on first first_fair rules (fuel_of i) F (total first first_fair rules (fuel_of i) F) e b S C
    i (omega arith) a h [] in
    let q = solves_some rules gs S C r.1 (matches_alive rules r.3)
    (λ m k. h m (matched_sound rules m r.3 k).0) in
    (r.0 ++ q.0, q.1, solves r.3 q.2)

module _ (s : Sheet) (w : ℕ) (wide : w ≡ length s.ranges.items) (gs : List Goal) (fs : List Frame) (n f u : ℕ)
    (fit : Fit s (spot gs fs (depth n f u))) (more : 0 < n) where
  abbrev pub top : Goal
  top = get_or gs (n - 1) no_goal

  abbrev pub framed : Frame
  framed = get_or fs top.frame no_frame

  abbrev pub above : List Argument
  above = arguments_of framed

  abbrev pub rest : List Waiting
  rest = pending s gs fs (n - 1)

  pub stands : Stood s fs f top
  stands = fit.0.stood (n - 1) (omega arith)

  -- a part of the same line stands in the same frame
  pub stands_part :
      (k : ℕ) (c : Bool)
      → Within (length s.rules.items) (lines_in s) stands.line k
      → Stood s fs f (record { formula = k; target = c; frame = top.frame })
  stands_part k c i = record { line = stands.line; within = i; frame = stands.frame; count = stands.count }

  pub opened :
      (x : Node)
      → node_at s.nodes top.formula ≡ x
      → pending s gs fs n ≡ goal above (whole (formula_at s.nodes) x) top.target ∷ rest
  opened x e =
      pop s gs fs n more
      ∙ ap (λ F. goal above F top.target ∷ rest)
      (formula_step s stands.line top.formula stands.within ∙ ap (whole (formula_at s.nodes)) e)

  pub node_okay :
      (x : Node)
      → node_at s.nodes top.formula ≡ x
      → NodeOkay s w framed.count stands.line top.formula x
  node_okay x e =
      subst (NodeOkay s w framed.count stands.line top.formula) e
      (subst (λ k. NodeOkay s k framed.count stands.line top.formula
      (node_at s.nodes top.formula)) (sym wide)
      (subst (λ k. NodeOkay s (length s.ranges.items) k stands.line top.formula
      (node_at s.nodes top.formula)) (sym stands.count)
      (entry_okay s stands.line top.formula stands.within)))

  pub frame_okay : FrameOkay w framed
  frame_okay = subst (λ k. FrameOkay k framed) (sym wide) (fit.0.okay top.frame stands.frame)

  module _ (S P : Marks) (z y : Way) (alive : some w P ≡ true) (F : Formula) (b : Bool)
      (is : pending s gs fs n ≡ goal above F b ∷ rest) where
    alive_in : some (length s.ranges.items) P ≡ true
    alive_in = subst (λ k. some k P ≡ true) wide alive

    -- the goal is gone
    pub none_put :
        Took z (Leads (rules_of (tree_of s)) (goal above F b ∷ rest) u S rest u P) y
        → 0 < size F
        → Moves s (pending s gs fs n) u S z (spot gs fs (depth (n - 1) f u)) P y
    none_put k h =
        let l = ap load is in
        let m = ap mass is in
        record {
          took = subst (λ q. Took z (Leads (rules_of (tree_of s)) q u S rest u P) y) (sym is) k;
          fit = (good_pop fit.0, omega (arith, fit.1));
          less = omega arith;
          alive = alive_in;
        }

    -- another stands in its place
    pub one_put :
        (k : ℕ) (c : Bool) (gs' : List Goal) (fs' : List Frame) (D : Depth)
        → Within (length s.rules.items) (lines_in s) stands.line k
        → joins (formula_at s.nodes k) ≤ joins F
        → size (formula_at s.nodes k) < size F
        → gs' ≡ set gs (n - 1) (record { formula = k; target = c; frame = top.frame })
        → fs' ≡ fs
        → D ≡ depth (n - 1 + 1) f u
        → Took z (Leads (rules_of (tree_of s)) (goal above F b ∷ rest) u S
        (goal above (formula_at s.nodes k) c ∷ rest) u P) y
        → Moves s (pending s gs fs n) u S z (spot gs' fs' D) P y
    one_put k c gs' fs' D inner fewer smaller eg ef ed led =
        let x : Goal = record { formula = k; target = c; frame = top.frame } in
        let room : n - 1 < length gs = omega (arith, fit.0.hold) in
        let put = pending_push s gs fs (n - 1) x room in
        let l = ap load is in
        let m = ap mass is in
        let l' = ap load put in
        let m' = ap mass put in
        let len = length-set gs (n - 1) x in
        subst (λ q. Moves s (pending s gs fs n) u S z (spot gs' q D) P y) (sym ef)
        (subst (λ q. Moves s (pending s gs fs n) u S z (spot q fs D) P y) (sym eg)
        (subst (λ q. Moves s (pending s gs fs n) u S z (spot (set gs (n - 1) x) fs q) P y) (sym ed)
        (record {
          took =
              subst (λ q. Took z (Leads (rules_of (tree_of s)) (pending s gs fs n) u S q u P) y) (sym put)
              (subst (λ q. Took z (Leads (rules_of (tree_of s)) q u S
              (goal above (formula_at s.nodes k) c ∷ rest) u P) y) (sym is) led);
          fit = (good_push (good_pop fit.0) x room (stands_part k c inner), omega (arith, fit.1));
          less = omega arith;
          alive = alive_in;
        })))

    -- two stand in its place
    pub two_put :
        (k c : ℕ) (p q : Bool) (gs₁ gs' : List Goal) (fs' : List Frame) (D₁ D : Depth)
        → Within (length s.rules.items) (lines_in s) stands.line k
        → Within (length s.rules.items) (lines_in s) stands.line c
        → suc (joins (formula_at s.nodes k) + joins (formula_at s.nodes c)) ≤ joins F
        → size (formula_at s.nodes k) + size (formula_at s.nodes c) < size F
        → gs₁ ≡ set gs (n - 1) (record { formula = c; target = q; frame = top.frame })
        → D₁ ≡ depth (n - 1 + 1) f u
        → gs' ≡ set gs₁ D₁.goals (record { formula = k; target = p; frame = top.frame })
        → fs' ≡ fs
        → D ≡ depth (D₁.goals + 1) D₁.frames D₁.fuel
        → Took z (Leads (rules_of (tree_of s)) (goal above F b ∷ rest) u S
        (goal above (formula_at s.nodes k) p ∷ goal above (formula_at s.nodes c) q ∷ rest) u P) y
        → Moves s (pending s gs fs n) u S z (spot gs' fs' D) P y
    two_put k c p q gs₁ gs' fs' D₁ D inner inner' fewer smaller eg₁ ed₁ eg ef ed led =
        let a : Goal = record { formula = k; target = p; frame = top.frame } in
        let d : Goal = record { formula = c; target = q; frame = top.frame } in
        let mid = set gs (n - 1) d in
        let l = ap load is in
        let m = ap mass is in
        let len = length-set gs (n - 1) d in
        let len' = length-set mid (n - 1 + 1) a in
        let w₀ = waiting rest in
        let few : length rest ≡ n - 1 = pending_length s gs fs (n - 1) in
        let room : n - 1 < length gs = omega (arith, fit.0.hold) in
        let room' : n - 1 + 1 < length mid = omega (arith, fit.1) in
        let put = pending_push s mid fs (n - 1 + 1) a room' ∙ ap
        (λ v. goal above (formula_at s.nodes k) p ∷ v) (pending_push s gs fs (n - 1) d room) in
        let l' = ap load put in
        let m' = ap mass put in
        let eg'' : gs' ≡ set mid (n - 1 + 1) a = eg ∙ (λ j. set (eg₁ j) (ed₁ j).goals a) in
        let ed'' : D ≡ depth (n - 1 + 1 + 1) f u = ed ∙
        (λ j. depth ((ed₁ j).goals + 1) (ed₁ j).frames (ed₁ j).fuel) in
        subst (λ q. Moves s (pending s gs fs n) u S z (spot gs' q D) P y) (sym ef)
        (subst (λ q. Moves s (pending s gs fs n) u S z (spot q fs D) P y) (sym eg'')
        (subst (λ q. Moves s (pending s gs fs n) u S z (spot (set mid (n - 1 + 1) a) fs q) P y) (sym ed'')
        (record {
          took =
              subst (λ q. Took z (Leads (rules_of (tree_of s)) (pending s gs fs n) u S q u P) y) (sym put)
              (subst (λ v. Took z (Leads (rules_of (tree_of s)) v u S
              (goal above (formula_at s.nodes k) p ∷ goal above (formula_at s.nodes c) q ∷ rest) u
              P) y) (sym is) led);
          fit = (
            good_push (good_push (good_pop fit.0) d room (stands_part c q inner')) a room'
                (stands_part k p inner),
            omega (arith, fit.1),
          );
          less = omega arith;
          alive = alive_in;
        })))

    -- a rule's formula stands in its place, with a frame of its own
    pub call_put :
        (r : ℕ) (c : Bool) (x : Frame) (gs' : List Goal) (fs' : List Frame) (D : Depth)
        → 0 < u
        → r < length s.rules.items
        → size F ≡ 1
        → joins F ≡ 0
        → FrameOkay w x
        → x.count ≡ (line_at (lines_in s) r).params
        → gs' ≡ set gs (n - 1) (record { formula = (line_at (lines_in s) r).body; target = c; frame = f })
        → fs' ≡ set fs f x
        → D ≡ depth (n - 1 + 1) (f + 1) (u - 1)
        → Took z (Leads (rules_of (tree_of s)) (goal above F b ∷ rest) u S
        (goal (arguments_of x) (formula_at s.nodes (line_at (lines_in s) r).body) c ∷ rest) (u - 1) P) y
        → Moves s (pending s gs fs n) u S z (spot gs' fs' D) P y
    call_put r c x gs' fs' D fueled inner one none ok counted eg ef ed led =
        let a : Goal = record { formula = (line_at (lines_in s) r).body; target = c; frame = f } in
        let room : n - 1 < length gs = omega (arith, fit.0.hold) in
        let framed : f < length fs = omega (arith, fit.0.frames_hold) in
        let low : (i : ℕ) → i < n - 1 → (get_or gs i no_goal).frame < f = λ i l. (fit.0.stood i (omega arith)
        ).frame in
        let put =
        pending_push s gs (set fs f x) (n - 1) a room
        ∙ (λ j. goal (arguments_of (get_or-set_same fs f x no_frame framed j))
        (formula_at s.nodes (line_at (lines_in s) r).body) c ∷ pending_frame s gs fs f x (n - 1) low j)
        in
        let l = ap load is in
        let m = ap mass is in
        let l' = ap load put in
        let m' = ap mass put in
        let len = length-set gs (n - 1) a in
        let big = body_size s r inner in
        let few = line_joins s r (omega (arith, inner)) in
        let line = s.lines_kept r (omega (arith, inner)) in
        let K = suc (sizes_of (rules_of (tree_of s))) in
        let back : u ≡ suc (u - 1) = omega arith in
        let prod : u * K ≡ (u - 1) * K + K = ap (λ q. q * K) back ∙ suc-mul (u - 1) K in
        let stood : Stood s (set fs f x) (f + 1) a =
        record {
          line = r;
          within = (omega (arith, inner), line.1, omega arith);
          frame = omega arith;
          count = ap (λ q. q.count) (get_or-set_same fs f x no_frame framed) ∙ counted;
        } in
        subst (λ q. Moves s (pending s gs fs n) u S z (spot q fs' D) P y) (sym eg)
        (subst (λ q. Moves s (pending s gs fs n) u S z (spot (set gs (n - 1) a) q D) P y) (sym ef)
        (subst (λ q. Moves s (pending s gs fs n) u S z (spot (set gs (n - 1) a) (set fs f x) q) P y) (sym ed)
        (record {
          took =
              subst (λ q. Took z (Leads (rules_of (tree_of s)) (pending s gs fs n) u S q (u - 1) P) y)
              (sym put)
              (subst (λ v. Took z (Leads (rules_of (tree_of s)) v u S
              (goal (arguments_of x) (formula_at s.nodes (line_at (lines_in s) r).body) c ∷ rest)
              (u - 1) P) y) (sym is) led);
          fit = (
            good_push (good_call (good_pop fit.0) x fueled (subst (λ k. FrameOkay k x) wide ok)) a room
                stood,
            omega (arith, fit.1),
          );
          less = omega arith;
          alive = alive_in;
        })))

    pub two_room : 0 < joins F → n - 1 + 1 < length gs
    two_room h =
        let l = ap load is in
        let w₀ = waiting rest in
        let few : length rest ≡ n - 1 = pending_length s gs fs (n - 1) in
        omega (arith, fit.1)

-- a rule is entered, or no fuel is left
pub entered :
    (s : Sheet) (gs : List Goal) (fs : List Frame) (n u : ℕ) (S P : Marks) (z y : Way) (q : Spot) (x : Frame)
    (k : ℕ) (b : Bool) (p : Spot)
    → (Entered x k b p (Ok tt) q → Turned s (pending s gs fs n) u S z (Ok tt) q P y)
    → (Entered x k b p (Err Spent) q → Turned s (pending s gs fs n) u S z (Err Spent) q P y)
    → (r : Result Unit Stop)
    → Entered x k b p r q
    → Turned s (pending s gs fs n) u S z r q P y
entered s gs fs n u S P z y q x k b p moved out (Ok d) h = moved h
entered s gs fs n u S P z y q x k b p moved out (Err Spent) h = out h
entered s gs fs n u S P z y q x k b p moved out (Err DeadEnd) h = absurd h
entered s gs fs n u S P z y q x k b p moved out (Err Halted) h = absurd h
