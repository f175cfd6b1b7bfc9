-- One turn of the loop, from the entry of the goal that it takes off the stack.
use Rattle.std.proofs.Common.{◌≡◌, ℕ, ◌+◌, ◌-◌, ◌<◌, Bool, true, not, ◌≢◌, List, map, length, take, set, Ok, Err, Result, sym, refl, ap, ◌∙◌, subst, arith, length-set}
use Rattle.formula.specs.Trees.{Rule, Formula}
use Rattle.formula.specs.declared.Comparison.{Comparison}
use Rattle.formula.specs.declared.Join.{Join as JoinWord}
use Rattle.marks.specs.Sets.{Marks, MarksOf, Empty}
use Rattle.marks.specs.Counted.{some}
use Rattle.meaning.specs.Terms.{rules_of, wants, aimed}
use Rattle.meaning.specs.Traces.{branch}
use Rattle.meaning.specs.Matching.{live, dead, spent, Argument}
use Rattle.meaning.specs.Pending.{Solves}
use Rattle.meaning.specs.Pending.{Goal as Waiting}
use Rattle.meaning.proofs.Counting.{Counted, counted}
use Rattle.sheet.specs.declared.node.Name.{Name}
use Rattle.sheet.specs.declared.node.Node.TheVariants.{Not, Compare, Pick, Join, Call}
use Rattle.sheet.specs.Table.{SheetTerm as Term}
use Rattle.sheet.specs.declared.table.Sheet.{Sheet}
use Rattle.sheet.specs.Table.{name_of, node_at, term_of, line_at, formula_at, whole}
use Rattle.sheet.specs.Sheets.{tree_of, lines_in}
use Rattle.run.specs.declared.goal.Argument.{Argument as Held}
use Rattle.run.specs.declared.goal.Goal.{Goal}
use Rattle.run.specs.declared.goal.Frame.{Frame}
use Rattle.run.specs.declared.stack.Depth.{Depth}
use Rattle.run.specs.declared.stop.Stop.{Stop}
use Rattle.run.specs.declared.stop.Stop.TheVariants.{DeadEnd, Spent, Halted}
use Rattle.run.specs.declared.turn.Sides.{Sides}
use Rattle.run.specs.declared.turn.Sides.TheVariants.{Left, Both}
use Rattle.run.specs.Frames.{argument_of, Stands, Okay, KnownIn}
use Rattle.run.specs.Ways.{Way, Took, Halt, Halts, Fits, Room}
use Rattle.run.specs.Settling.{Settled, Settling}
use Rattle.run.specs.Comparing.{Compared, Comparing}
use Rattle.run.specs.Goals.{Fit, Spot, spot, pending, Passing, Passed, Solving, Moves, Turned, Sided, Entered}
use Rattle.run.proofs.Settling.{some_alive}
use Rattle.run.proofs.Frames.{known_in}
use Rattle.run.proofs.Tables.{NodeOkay, body_is}
use Rattle.run.proofs.Turns.{top, framed, above, rest, stands, opened, node_okay, frame_okay, none_put, one_put, two_put, call_put, depth, two_room, entered}
use Rattle.run.proofs.Arms.{negate_led, compare_fits, compare_halt, compare_led, compare_dead, pick_fits, pick_halt, pick_led, left_led, sides_led, join_halt, join_fits, call_fits, call_halt, call_led, call_spent}

module _ (sh : Sheet) (w : ℕ) (wide : w ≡ length sh.ranges.items) (gs : List Goal) (fs : List Frame) (n f u : ℕ)
    (fit : Fit sh (spot gs fs (depth n f u))) (more : 0 < n) (S : Marks) (sound : MarksOf w S)
    (lives : some w S ≡ true) (z : Way) where
  abbrev rules : List Rule
  rules = rules_of (tree_of sh)

  abbrev part : ℕ → Formula
  part = formula_at sh.nodes

  abbrev t : Goal
  t = top sh w wide gs fs n f u fit more

  abbrev b : Bool
  b = t.target

  abbrev e : List Argument
  e = above sh w wide gs fs n f u fit more

  abbrev below : List Waiting
  below = rest sh w wide gs fs n f u fit more

  abbrev all : List Waiting
  all = pending sh gs fs n

  C : Counted S
  C = counted w S sound

  x : Empty S → ⊥
  x = some_alive w S lives

  -- a part of the turn halted
  halted :
      (P : Marks) (y : Way) (q : Spot) (i : Stop) (r : Result Unit Stop)
      → r ≡ Err i
      → Halts z (Solving rules all u S) i y
      → Turned sh all u S z r q P y
  halted P y q i r is h = subst (λ o. Turned sh all u S z o q P y) (sym (is ∙ ap Err h.is)) h.at

  module _ (k : ℕ) (at : node_at sh.nodes t.formula ≡ Not k) where
    pub not_done :
        (gs' : List Goal) (fs' : List Frame) (D : Depth)
        → gs' ≡ set gs (n - 1) (record { formula = k; target = not b; frame = t.frame })
        → fs' ≡ fs
        → D ≡ depth (n - 1 + 1) f u
        → Moves sh all u S z (spot gs' fs' D) S z
    not_done gs' fs' D eg ef ed =
        let is = opened sh w wide gs fs n f u fit more (Not k) at in
        let ok = node_okay sh w wide gs fs n f u fit more (Not k) at in
        one_put sh w wide gs fs n f u fit more S S z z lives (whole part (Not k)) b is k (not b) gs' fs' D ok
        (omega arith) (omega arith) eg ef ed (negate_led rules e b below u S C x w z (part k))

  module _ (l : Term) (i : Comparison) (r : Term) (at : node_at sh.nodes t.formula ≡ Compare l i r) where
    pub compare_room :
        Fits z (Solving rules all u S)
        → Fits z (Comparing e (term_of l) (aimed b i) (term_of r) S)
    compare_room room =
        compare_fits rules e b below u S C x w z (term_of l) i (term_of r)
        (subst (λ q. Fits z (Solving rules q u S)) (opened sh w wide gs fs n f u fit more (Compare l i r) at) room)

    pub compare_done :
        (P : Marks) (y : Way) (o : Result Unit Stop)
        → Compared w e (term_of l) (aimed b i) (term_of r) S z o P y
        → Turned sh all u S z o (spot gs fs (depth (n - 1) f u)) P y
    compare_done P y (Ok d) k =
        none_put sh w wide gs fs n f u fit more S P z y k.alive (whole part (Compare l i r)) b
        (opened sh w wide gs fs n f u fit more (Compare l i r) at)
        (compare_led rules e b below u S C x w z (term_of l) i (term_of r) P y k) (omega arith)
    compare_done P y (Err DeadEnd) k =
        subst (λ q. Took z (λ v. Solves rules q (live u S) v dead) y)
        (sym (opened sh w wide gs fs n f u fit more (Compare l i r) at))
        (compare_dead rules e b below u S C x w z (term_of l) i (term_of r) P y k)
    compare_done P y (Err Spent) k = absurd k
    compare_done P y (Err Halted) k =
        subst (λ v. Halt z (Solving rules v u S) y) (sym (opened sh w wide gs fs n f u fit more (Compare l i r) at))
        (compare_halt rules e b below u S C x w z (term_of l) i (term_of r) P y k)

  module _ (a : Name) (k : ℕ) (at : node_at sh.nodes t.formula ≡ Pick a k) where
    pub pick_known : KnownIn (framed sh w wide gs fs n f u fit more).count a
    pick_known = known_in w (framed sh w wide gs fs n f u fit more).count a
        (node_okay sh w wide gs fs n f u fit more (Pick a k) at).0

    module _ (h : Held) (stands : Stands (framed sh w wide gs fs n f u fit more) a h) where
      pub pick_okay : Okay w h
      pick_okay = stands.okay w (frame_okay sh w wide gs fs n f u fit more)
          (node_okay sh w wide gs fs n f u fit more (Pick a k) at).0

      pub pick_room : Fits z (Solving rules all u S) → Fits z (Settling S (argument_of h))
      pick_room room =
          pick_fits rules e b below u S C x w z (name_of a) (part k) h stands.is
          (subst (λ q. Fits z (Solving rules q u S)) (opened sh w wide gs fs n f u fit more (Pick a k) at) room)

      pub pick_halted :
          (P : Marks) (y : Way) (q : Spot) (i : Stop) (r : Result Unit Stop)
          → r ≡ Err i
          → Settled w S h z (Err i) P y
          → Turned sh all u S z r q P y
      pick_halted P y q i r is m = halted P y q i r is
          (subst (λ v. Halts z (Solving rules v u S) i y) (sym (opened sh w wide gs fs n f u fit more (Pick a k) at))
          (pick_halt rules e b below u S C x w z (name_of a) (part k) h stands.is P y i m))

      pub pick_done :
          (P : Marks) (y : Way) (v : ℕ) (gs' : List Goal) (fs' : List Frame) (D : Depth)
          → Settled w S h z (Ok v) P y
          → gs' ≡ set gs (n - 1) (record { formula = k; target = b; frame = t.frame })
          → fs' ≡ fs
          → D ≡ depth (n - 1 + 1) f u
          → Moves sh all u S z (spot gs' fs' D) P y
      pick_done P y v gs' fs' D m eg ef ed =
          let is = opened sh w wide gs fs n f u fit more (Pick a k) at in
          let ok = node_okay sh w wide gs fs n f u fit more (Pick a k) at in
          one_put sh w wide gs fs n f u fit more S P z y m.alive (whole part (Pick a k)) b is k b gs' fs' D ok.1
          (omega arith) (omega arith) eg ef ed
          (pick_led rules e b below u S C x w z (name_of a) (part k) h stands.is P y v m)

  module _ (j : JoinWord) (p q l r : ℕ) (at : node_at sh.nodes t.formula ≡ Join j p q l r) where
    pub join_usable : 0 < p + q
    join_usable = omega (arith, (node_okay sh w wide gs fs n f u fit more (Join j p q l r) at).0)

    pub join_room : Fits z (Solving rules all u S) → b ≢ wants j → Room 1 z.trail
    join_room room h =
        join_fits rules e b below u S C x w z j p q (part l) (part r) h
        (subst (λ o. Fits z (Solving rules o u S)) (opened sh w wide gs fs n f u fit more (Join j p q l r) at) room)

    pub join_halted :
        (P : Marks) (y : Way) (d : Spot) (i : Stop) (a : Result Unit Stop)
        → a ≡ Err i
        → Sided j (branch p q) b z (Err i) y
        → Turned sh all u S z a d P y
    join_halted P y d i a is h =
        halted P y d i a is (subst (λ v. Halts z (Solving rules v u S) i y)
        (sym (opened sh w wide gs fs n f u fit more (Join j p q l r) at))
        (join_halt rules e b below u S C x w z j p q (part l) (part r) h.0 y i h.1))

    pub left_done :
        (y : Way) (o : Sides) (gs' : List Goal) (fs' : List Frame) (D : Depth)
        → o ≡ Left
        → Sided j (branch p q) b z (Ok o) y
        → gs' ≡ set gs (n - 1) (record { formula = l; target = b; frame = t.frame })
        → fs' ≡ fs
        → D ≡ depth (n - 1 + 1) f u
        → Moves sh all u S z (spot gs' fs' D) S y
    left_done y o gs' fs' D told sided eg ef ed =
        let h = subst (λ v. Sided j (branch p q) b z (Ok v) y) told sided in
        let is = opened sh w wide gs fs n f u fit more (Join j p q l r) at in
        let ok = node_okay sh w wide gs fs n f u fit more (Join j p q l r) at in
        one_put sh w wide gs fs n f u fit more S S z y lives (whole part (Join j p q l r)) b is l b gs' fs' D ok.1
        (omega arith) (omega arith) eg ef ed
        (left_led rules e b below u S C x w z j p q (part l) (part r) h.0 y h.1)

    pub both_room :
        (gs₁ : List Goal) (a : Goal) (D₁ : Depth)
        → gs₁ ≡ set gs (n - 1) a
        → D₁ ≡ depth (n - 1 + 1) f u
        → D₁.goals < length gs₁
    both_room gs₁ a D₁ eg ed =
        let is = opened sh w wide gs fs n f u fit more (Join j p q l r) at in
        let room = two_room sh w wide gs fs n f u fit more S S z z lives (whole part (Join j p q l r)) b is
        (omega arith) in
        let long = ap length eg ∙ length-set gs (n - 1) a in
        let deep = ap (λ o. o.goals) ed in
        omega (arith, room, long, deep)

    pub both_done :
        (y : Way) (o : Sides) (c : Bool) (gs₁ gs' : List Goal) (fs₁ fs' : List Frame) (D₁ D : Depth)
        → o ≡ Both c
        → Sided j (branch p q) b z (Ok o) y
        → gs₁ ≡ set gs (n - 1) (record { formula = r; target = b; frame = t.frame })
        → fs₁ ≡ fs
        → D₁ ≡ depth (n - 1 + 1) f u
        → gs' ≡ set gs₁ D₁.goals (record { formula = l; target = c; frame = t.frame })
        → fs' ≡ fs₁
        → D ≡ depth (D₁.goals + 1) D₁.frames D₁.fuel
        → Moves sh all u S z (spot gs' fs' D) S y
    both_done y o c gs₁ gs' fs₁ fs' D₁ D told sided eg₁ ef₁ ed₁ eg ef ed =
        let h = subst (λ v. Sided j (branch p q) b z (Ok v) y) told sided in
        let is = opened sh w wide gs fs n f u fit more (Join j p q l r) at in
        let ok = node_okay sh w wide gs fs n f u fit more (Join j p q l r) at in
        two_put sh w wide gs fs n f u fit more S S z y lives (whole part (Join j p q l r)) b is l r c b gs₁ gs' fs'
        D₁ D ok.1 ok.2 (omega arith) (omega arith) eg₁ ed₁ eg (ef ∙ ef₁) ed
        (sides_led rules e b below u S C x w z j p q (part l) (part r) c y h)

  module _ (r k : ℕ) (ts : List Term) (at : node_at sh.nodes t.formula ≡ Call r k ts) where
    pub call_okay : NodeOkay sh w (framed sh w wide gs fs n f u fit more).count
        (stands sh w wide gs fs n f u fit more).line t.formula (Call r k ts)
    call_okay = node_okay sh w wide gs fs n f u fit more (Call r k ts) at

    pub call_room : Fits z (Solving rules all u S) → Fits z (Passing e S (map term_of (take k ts)))
    call_room room =
        call_fits rules e b below S C x w z r (map term_of (take k ts)) u
        (subst (λ o. Fits z (Solving rules o u S)) (opened sh w wide gs fs n f u fit more (Call r k ts) at) room)

    pub call_halted :
        (m : ℕ) (P : Marks) (y : Way) (q : Spot) (i : Stop) (a : Result Unit Stop)
        → a ≡ Err i
        → Passed w e S (map term_of (take k ts)) m z (Err i) P y
        → Turned sh all u S z a q P y
    call_halted m P y q i a is h = halted P y q i a is
        (subst (λ v. Halts z (Solving rules v u S) i y) (sym (opened sh w wide gs fs n f u fit more (Call r k ts) at))
        (call_halt rules e b below S C x w z r (map term_of (take k ts)) u m P y i h))

    pub call_done :
        (m : ℕ) (P : Marks) (y : Way) (a : Frame)
        → m ≡ k
        → Passed w e S (map term_of (take k ts)) m z (Ok a) P y
        → (q : Spot) (o : Result Unit Stop)
        → Entered a (line_at (lines_in sh) r).body b (spot gs fs (depth (n - 1) f u)) o q
        → Turned sh all u S z o q P y
    call_done m P y a long h q o entry =
        let is = opened sh w wide gs fs n f u fit more (Call r k ts) at in
        let ok = node_okay sh w wide gs fs n f u fit more (Call r k ts) at in
        let terms = map term_of (take k ts) in
        let moved : Entered a (line_at (lines_in sh) r).body b (spot gs fs (depth (n - 1) f u)) (Ok tt) q → Turned sh all
        u S z (Ok tt) q P y =
        λ m'. call_put sh w wide gs fs n f u fit more S P z y h.alive (whole part (Call r k ts)) b is r b a q.goals
        q.frames q.depth m'.0 ok.0 refl refl h.okay (h.count ∙ long ∙ ok.1) m'.1 m'.2 m'.3
        (call_led rules e b below S C x w z r terms u m P y a (part (line_at (lines_in sh) r).body) m'.0
        (body_is sh r ok.0) h) in
        let out : Entered a (line_at (lines_in sh) r).body b (spot gs fs (depth (n - 1) f u)) (Err Spent) q → Turned sh all
        u S z (Err Spent) q P y =
        λ m'. subst (λ v. Took z (λ t'. Solves rules v (live u S) t' spent) y) (sym is)
        (call_spent rules e b below S C x w z r terms u m P y a m' h) in
        entered sh gs fs n u S P z y q a (line_at (lines_in sh) r).body b (spot gs fs (depth (n - 1) f u)) moved out o
        entry
