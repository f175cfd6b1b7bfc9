-- What the lists hold at the end of a run, and what a run that is halted or ends early means.
use Rattle.std.proofs.Common.{◌≡◌, ℕ, zero, suc, ◌+◌, ◌≤◌, List, [], ◌∷◌, ◌++◌, length, take, drop, set, Some, None, Ok, Err, Result, sym, refl, ap, ◌∙◌, subst, inl, inr, arith}
use lib.Seq.{set-get_or, sets, sets-eq}
use Rattle.std.specs.Result.{IfOk}
use Rattle.std.proofs.Math.Seq.{take-length}
use Rattle.std.proofs.lemmas.List.{take-append-le}
use Rattle.arrayvec.specs.ArrayVec.{ArrayVec}
use Rattle.formula.specs.Trees.{Sheet}
use Rattle.marks.specs.Sets.{Marks, MarksOf}
use Rattle.meaning.specs.Terms.{fields_of}
use Rattle.meaning.specs.Traces.{Choice, width, took, Trace}
use Rattle.meaning.specs.Runs.{Outcome, mark, dead_end, spent_run, Run}
use Rattle.meaning.specs.Draws.{Takes, takes_none, takes_one}
use Rattle.meaning.proofs.Runs.{run_part}
use Rattle.run.specs.declared.answer.Ended.{Ended}
use Rattle.run.specs.declared.answer.Ended.TheVariants as ended
use Rattle.run.specs.declared.stop.Stop.{Stop}
use Rattle.run.specs.declared.stop.Stop.TheVariants.{DeadEnd, Spent, Halted}
use Rattle.run.specs.Guides.{Noted, Guide, recorded, numbers, NoPick, Guided, entries}
use Rattle.run.specs.Answering.{over, filled, outcome_of, picks_of, widths_of}
use Rattle.run.specs.Ways.{Trail, trail, put, written, Way, Took, Halt}
use Rattle.run.specs.Whole.{Running, Along, Reported}
use Rattle.run.proofs.Guides.{guided_one, guided_apart, halted_one, halted_apart}

-- The lists

take_front : (xs ys : List ℕ) (n : ℕ) → length xs ≡ n → take n (xs ++ ys) ≡ xs
take_front xs ys n e =
    subst (λ k. take k (xs ++ ys) ≡ xs) e (take-append-le (length xs) xs ys (omega arith) ∙ take-length xs)

pub picks_long : (t : Trace) → length (picks_of t) ≡ length t
picks_long [] = refl
picks_long (took k c ∷ t) = ap suc (picks_long t)

pub widths_long : (t : Trace) → length (widths_of t) ≡ length t
widths_long [] = refl
widths_long (took k c ∷ t) = ap suc (widths_long t)

written_sets :
    (z : Trail) (t : Trace)
    → ((written z t).picks ≡ sets z.picks z.at (picks_of t)) ×
    ((written z t).widths ≡ sets z.widths z.at (widths_of t))
written_sets z [] = (refl, refl)
written_sets z (took p c ∷ t) = written_sets (put z p (width c)) t

sets_over : (xs ys : List ℕ) → length xs ≤ length ys → sets ys 0 xs ≡ over xs ys
sets_over xs ys h =
    let l : 0 + length xs ≤ length ys = omega arith in
    let e : 0 + length xs ≡ length xs = omega arith in
    sets-eq xs ys 0 l ∙ ap (λ k. xs ++ drop k ys) e

-- a trace written from the beginning stands in front
pub written_over :
    (ps ws : List ℕ) (t : Trace)
    → length t ≤ length ps
    → length t ≤ length ws
    → ((written (trail ps ws 0) t).picks ≡ over (picks_of t) ps) ×
    ((written (trail ps ws 0) t).widths ≡ over (widths_of t) ws)
written_over ps ws t hp hw =
    let w = written_sets (trail ps ws 0) t in
    let lp : length (picks_of t) ≤ length ps = omega (arith, picks_long t) in
    let lw : length (widths_of t) ≤ length ws = omega (arith, widths_long t) in
    (w.0 ∙ sets_over (picks_of t) ps lp, w.1 ∙ sets_over (widths_of t) ws lw)

-- how many entries or numbers a guide has
abbrev count : Guide → ℕ
count (recorded es) = length es
count (numbers ns) = length ns

-- past the entries there are none
past_none : (t : Trace) (e : Noted) (es : List Noted) → Guided (recorded []) t (recorded (e ∷ es)) → ⊥
past_none [] e es g = let z = ap count g in absurd (omega arith)
past_none (took k c ∷ t) e es g = past_none t e es (subst (λ x. Guided x t (recorded (e ∷ es))) g.1.1
    g.2)

-- while entries are left, nothing of the lists has changed
pub same_lists :
    (ps ws : List ℕ) (k n : ℕ) (t : Trace) (e : Noted) (es : List Noted)
    → Guided (recorded (entries ps ws k n)) t (recorded (e ∷ es))
    → ((written (trail ps ws k) t).picks ≡ ps) × ((written (trail ps ws k) t).widths ≡ ws)
same_lists ps ws k n [] e es g = (refl, refl)
same_lists ps ws k zero (took p c ∷ t) e es g = absurd (past_none (took p c ∷ t) e es g)
same_lists ps ws k (suc n) (took p c ∷ t) e es g =
    let q = g.1 in
    let sp : set ps k p ≡ ps = ap (set ps k) q.0 ∙ set-get_or ps k 0 in
    let sw : set ws k (width c) ≡ ws = ap (set ws k) (sym q.1) ∙ set-get_or ws k 0 in
    let same : written (trail (set ps k p) (set ws k (width c)) (suc k)) t ≡ written (trail ps ws (suc k)) t =
    (λ j. written (trail (sp j) (sw j) (suc k)) t) in
    let r = same_lists ps ws (suc k) n t e es (subst (λ x. Guided x t (recorded (e ∷ es))) q.3 g.2) in
    (ap (λ x. x.picks) same ∙ r.0, ap (λ x. x.widths) same ∙ r.1)

took_same :
    (ps ws : List ℕ) (n : ℕ) (y : Way) (e : Noted) (es : List Noted) (t : Trace)
    → Guided (recorded (entries ps ws 0 n)) t y.guide
    → y.trail ≡ written (trail ps ws 0) t
    → y.guide ≡ recorded (e ∷ es)
    → (y.trail.picks ≡ ps) × (y.trail.widths ≡ ws)
took_same ps ws n y e es t g end is =
    let r = same_lists ps ws 0 n t e es (subst (Guided (recorded (entries ps ws 0 n)) t) is g) in
    (ap (λ q. q.picks) end ∙ r.0, ap (λ q. q.widths) end ∙ r.1)

-- Runs

module _ (s : Sheet) (fuel : ℕ) (S : Marks) (B : MarksOf (fields_of s) S) where
  -- a guide tells at most one run
  pub only_run :
      (g h : Guide) (t u : Trace) (a o : Outcome)
      → Run s fuel S t a → Guided g t h → Run s fuel S u o → Guided g u h → (u ≡ t) × (o ≡ a)
  only_run g h t u a o x p y q =
      elim (run_part s fuel S B u t o a y x) [ inl e ↦ e | inr d ↦ absurd (guided_apart g h h u t q p d) ]

  -- no run goes on where the guide tells no pick
  pub halted_none :
      (z y : Way) → Halt z (Running s fuel S) y
      → (t : Trace) (o : Outcome) (i : Guide) → Run s fuel S t o → Guided z.guide t i → ⊥
  halted_none z y h t o i r g =
      elim (run_part s fuel S B t (h.before ++ took 0 h.choice ∷ h.after) o h.does.0 r h.does.1) [
        | inl e ↦ halted_one z.guide y.guide i h.before h.after h.choice h.guided h.stuck
            (subst (λ u. Guided z.guide u i) e.0 g)
        | inr d ↦ halted_apart z.guide y.guide i h.before h.after t h.choice h.guided
            h.stuck g d
      ]

  -- nor does one follow all entries where another run leaves some
  early_none :
      (z y : Way) (a : Outcome) (e : Noted) (es : List Noted)
      → Took z (λ v. Run s fuel S v a) y
      → y.guide ≡ recorded (e ∷ es)
      → (t : Trace) (o : Outcome) → Run s fuel S t o → Guided z.guide t (recorded []) → ⊥
  early_none z y a e es k is t o r g =
      let g' = subst (Guided z.guide k.trace) is k.guided in
      elim (run_part s fuel S B t k.trace o a r k.does) [
        | inl q ↦ differ (guided_one z.guide (recorded []) (recorded (e ∷ es)) k.trace
            (subst (λ u. Guided z.guide u (recorded [])) q.0 g) g')
        | inr d ↦ guided_apart z.guide (recorded []) (recorded (e ∷ es)) t k.trace g g' d
      ]
    where
      differ : recorded [] ≡ recorded (e ∷ es) → ⊥
      differ q = let z = ap count q in omega arith

  pub unfit_none :
      (z y : Way) (x : Result (ArrayVec ℕ) Stop) (e : Noted) (es : List Noted)
      → Along s fuel S z x y
      → y.guide ≡ recorded (e ∷ es)
      → (t : Trace) (o : Outcome) → Run s fuel S t o → Guided z.guide t (recorded []) → ⊥
  unfit_none z y (Ok vs) e es k is t o r g = early_none z y (mark vs.items) e es k is t o r g
  unfit_none z y (Err DeadEnd) e es k is t o r g = early_none z y dead_end e es k is t o r g
  unfit_none z y (Err Spent) e es k is t o r g = early_none z y spent_run e es k is t o r g
  unfit_none z y (Err Halted) e es k is t o r g = halted_none z y k t o (recorded []) r g

  -- the lists then
  pub unfit_same :
      (ps ws : List ℕ) (n : ℕ) (y : Way) (x : Result (ArrayVec ℕ) Stop) (e : Noted) (es : List Noted)
      → Along s fuel S (record { trail = trail ps ws 0; guide = recorded (entries ps ws 0 n) }) x y
      → y.guide ≡ recorded (e ∷ es)
      → (y.trail.picks ≡ ps) × (y.trail.widths ≡ ws)
  unfit_same ps ws n y (Ok vs) e es k is = took_same ps ws n y e es k.trace k.guided k.end is
  unfit_same ps ws n y (Err DeadEnd) e es k is = took_same ps ws n y e es k.trace k.guided k.end is
  unfit_same ps ws n y (Err Spent) e es k is = took_same ps ws n y e es k.trace k.guided k.end is
  unfit_same ps ws n y (Err Halted) e es k is = took_same ps ws n y e es k.before k.guided k.end is

-- the run whose outcome a report tells
module _ (s : Sheet) (fuel : ℕ) (S : Marks) (z y : Way) (m m' : List ℕ) where
  pub along_took :
      (x : Result (ArrayVec ℕ) Stop) (n : ℕ) (a : Ended)
      → IfOk x (λ vs. length vs.items ≡ n)
      → Reported x m (Some a) m'
      → Along s fuel S z x y
      → Took z (λ t. Run s fuel S t (outcome_of a n m')) y × (m' ≡ filled (outcome_of a n m') m)
  along_took (Ok vs) n a l h k =
      let e : a ≡ ended.Mark = cc in
      let is : take n m' ≡ vs.items = ap (take n) h.1 ∙ take_front vs.items (drop (length vs.items) m) n l in
      subst (λ q. Took z (λ t. Run s fuel S t (outcome_of q n m')) y × (m' ≡ filled (outcome_of q n m') m)) (sym e) (
        subst (λ q. Took z (λ t. Run s fuel S t (mark q)) y) (sym is) k,
        subst (λ q. m' ≡ over q m) (sym is) h.1,
      )
  along_took (Err DeadEnd) n a l h k =
      let e : a ≡ ended.DeadEnd = cc in
      subst (λ q. Took z (λ t. Run s fuel S t (outcome_of q n m')) y × (m' ≡ filled (outcome_of q n m') m)) (sym e)
      (k, h.1)
  along_took (Err Spent) n a l h k =
      let e : a ≡ ended.Spent = cc in
      subst (λ q. Took z (λ t. Run s fuel S t (outcome_of q n m')) y × (m' ≡ filled (outcome_of q n m') m)) (sym e)
      (k, h.1)
  along_took (Err Halted) n a l h k = let q : ◌≡◌ {A = ℕ} 0 1 = cc in absurd (omega arith)

  pub along_halt :
      (x : Result (ArrayVec ℕ) Stop)
      → Reported x m None m'
      → Along s fuel S z x y
      → Halt z (Running s fuel S) y × (m' ≡ m)
  along_halt (Ok vs) h k = let q : ◌≡◌ {A = ℕ} 0 1 = cc in absurd (omega arith)
  along_halt (Err DeadEnd) h k = let q : ◌≡◌ {A = ℕ} 0 1 = cc in absurd (omega arith)
  along_halt (Err Spent) h k = let q : ◌≡◌ {A = ℕ} 0 1 = cc in absurd (omega arith)
  along_halt (Err Halted) h k = (k, h.1)

-- at the end of the entries there is a pick
pub entries_over : (c : Choice) → NoPick (recorded []) c → ⊥
entries_over c unfit = unfit 0 (recorded []) (refl, refl)

-- Numbers

-- with a number waiting there is a pick
pub numbers_over : (ns : List ℕ) (c : Choice) → NoPick (numbers ns) c → ns ≡ []
numbers_over [] c unfit = refl
numbers_over (r ∷ ns) c unfit = absurd (unfit _ (numbers ns) (refl, refl))

pub guided_takes :
    (ns : List ℕ) (t : Trace) (rest : List ℕ) → Guided (numbers ns) t (numbers rest) → Takes ns t rest
guided_takes ns [] rest g = let e : rest ≡ ns = cc in subst (λ q. Takes ns [] q) (sym e) takes_none
guided_takes [] (took k c ∷ t) rest g = absurd g.1
guided_takes (r ∷ ns) (took k c ∷ t) rest g =
    takes_one g.1.0 (guided_takes ns t rest (subst (λ x. Guided x t (numbers rest)) g.1.1 g.2))
