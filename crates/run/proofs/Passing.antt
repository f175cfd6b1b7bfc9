-- The terms of a call, one by one.
use Rattle.std.proofs.Common.{◌≡◌, ℕ, zero, suc, ◌+◌, ◌-◌, ◌<◌, List, [], ◌∷◌, ◌++◌, map, length, get_or, take, set, sym, refl, ap, ◌∙◌, subst, append_assoc, append-nil, arith, get_or-set_other, get_or-set_same}
use Rattle.marks.specs.Sets.{Marks}
use Rattle.meaning.specs.Traces.{Trace}
use Rattle.marks.specs.Sets.{Empty}
use Rattle.meaning.specs.Matching.{Resolves, Passes, no_more, passes}
use Rattle.meaning.specs.Matching.{Argument}
use Rattle.formula.specs.Trees.{Term as TermTree}
use Rattle.meaning.proofs.Counting.{Counted, counted_part}
use Rattle.meaning.proofs.Soundness.{resolves_sound}
use Rattle.meaning.proofs.Picks.{passes_told}
use native.Mathlib.Decide.{ℕ_discrete}
use Rattle.run.specs.declared.goal.Argument.{Argument as Held}
use Rattle.run.specs.declared.goal.Argument.TheVariants.{Field, Number as ANumber}
use Rattle.sheet.specs.Table.{SheetTerm as Term}
use Rattle.formula.specs.declared.term.Term.TheVariants.{Number}
use Rattle.run.specs.declared.goal.Frame.{Frame}
use Rattle.sheet.specs.Table.{term_of}
use Rattle.run.specs.Frames.{argument_of, arguments_of, Okay}
use Rattle.run.specs.declared.stop.Stop.{Stop}
use Rattle.run.specs.Ways.{Way, Took, Halts, Fits}
use Rattle.run.specs.Comparing.{Resolving}
use Rattle.run.specs.Goals.{from, Passing, PassLeads}
use Rattle.run.proofs.Ways.{took_map, took_none, took_join, halts_on, halts_after, fits_on, fits_after}
use Rattle.run.proofs.Comparing.{first, first_fair, resolves_alive}

from_tail : (x : Term) (ts : List Term) (i k : ℕ) → from (x ∷ ts) (suc i) k ≡ from ts i k
from_tail x ts i zero = refl
from_tail x ts i (suc k) = ap (λ q. term_of (get_or ts i (Number 0)) ∷ q) (from_tail x ts (suc i) k)

pub terms_from : (ts : List Term) → map term_of ts ≡ from ts 0 (length ts)
terms_from [] = refl
terms_from (x ∷ ts) = ap (λ q. term_of x ∷ q) (terms_from ts ∙ sym (from_tail x ts 0 (length ts)))

arguments_push :
    (xs : List Held) (i : ℕ) (a : Held)
    → i < length xs
    → map argument_of (take (suc i) (set xs i a)) ≡ map argument_of (take i xs) ++ argument_of a ∷ []
arguments_push [] i a h = absurd (omega arith)
arguments_push (x ∷ xs) zero a h = refl
arguments_push (x ∷ xs) (suc i) a h = ap (λ q. argument_of x ∷ q) (arguments_push xs i a (omega arith))

module _ (e : List Argument) (w : ℕ) (z : Way) (S₀ : Marks) (ts₀ : List TermTree) where
  pub pass_begun :
      (us : List TermTree) (f : Frame) → ts₀ ≡ us → arguments_of f ≡ []
      → Took z (PassLeads e S₀ ts₀ S₀ us f) z
  pass_begun us f is none = took_none (λ u Q d p. subst (λ q. Passes e S₀ ts₀ u Q (q ++ d)) (sym none)
      (subst (λ q. Passes e S₀ q u Q d) (sym is) p))

  module _ (S : Marks) (y : Way) (f : Frame) (x : TermTree) (us : List TermTree)
      (led : Took z (PassLeads e S₀ ts₀ S (x ∷ us) f) y) where
    pub pass_more :
        (a : Held) (P : Marks) (y' : Way) (f' : Frame)
        → Took y (λ t. Resolves e S x t P (argument_of a)) y'
        → arguments_of f' ≡ arguments_of f ++ argument_of a ∷ []
        → Took z (PassLeads e S₀ ts₀ P us f') y'
    pass_more a P y' f' k is =
        took_join (λ t u m s v Q d p.
        subst (λ q. Passes e S₀ ts₀ ((t ++ u) ++ v) Q (q ++ d)) (sym is)
        (subst (λ q. Passes e S₀ ts₀ ((t ++ u) ++ v) Q q)
        (sym (append_assoc (arguments_of f) (argument_of a ∷ []) d))
        (subst (λ q. Passes e S₀ ts₀ q Q (arguments_of f ++ argument_of a ∷ d)) (sym (append_assoc t u v))
        (m (u ++ v) Q (argument_of a ∷ d) (passes s p))))) led k

    module _ (C : Counted S) (alive : Empty S → ⊥) where
      on : (v : Trace) → Resolving e S x v → (u : Trace) × Passing e S (x ∷ us) (v ++ u)
      on v m =
          let q = passes_told first first_fair e us m.0
          (counted_part S m.0 C (λ k h. (resolves_sound m.2 k h).0)) (resolves_alive m.2 alive) []
          in
          (q.0, (q.1, m.1 ∷ q.2, passes m.2 q.4))

      pub pass_fits : Fits z (Passing e S₀ ts₀) → Fits y (Resolving e S x)
      pass_fits h = fits_on {N = Passing e S (x ∷ us)} on
          (fits_after {N = Passing e S (x ∷ us)} (λ t u m n.
          (n.0, arguments_of f ++ n.1, m u n.0 n.1 n.2)) led h)

      pub pass_halt : (s : Stop) (y' : Way) → Halts y (Resolving e S x) s y' → Halts z (Passing e S₀ ts₀) s y'
      pass_halt s y' h = halts_after {N = Passing e S (x ∷ us)}
          (λ t u m n. (n.0, arguments_of f ++ n.1, m u n.0 n.1 n.2)) led
          (halts_on {N = Passing e S (x ∷ us)} on h)

  pub pass_done :
      (S : Marks) (y : Way) (f : Frame)
      → Took z (PassLeads e S₀ ts₀ S [] f) y
      → Took z (λ v. Passes e S₀ ts₀ v S (arguments_of f)) y
  pass_done S y f = took_map (λ v m. subst (λ q. Passes e S₀ ts₀ v S q) (append-nil (arguments_of f))
      (subst (λ q. Passes e S₀ ts₀ q S (arguments_of f ++ [])) (append-nil v) (m [] S [] no_more)))

pub arguments_more :
    (f f' : Frame) (i : ℕ) (a : Held)
    → i < length f.arguments
    → f.count ≡ i
    → f'.arguments ≡ set f.arguments i a
    → f'.count ≡ f.count + 1
    → arguments_of f' ≡ arguments_of f ++ argument_of a ∷ []
arguments_more f f' i a h c ea ec =
    let k : f'.count ≡ suc i = omega arith in
    (λ j. map argument_of (take (k j) (ea j))) ∙ arguments_push f.arguments i a h ∙ ap
    (λ q. map argument_of (take q f.arguments) ++ argument_of a ∷ []) (sym c)

pub from_next :
    (ts : List Term) (i n : ℕ)
    → i < n
    → from ts i (n - i) ≡ term_of (get_or ts i (Number 0)) ∷ from ts (suc i) (n - suc i)
from_next ts i n h = let e : n - i ≡ suc (n - suc i) = omega arith in ap (from ts i) e

pub blank_okay :
    (w i : ℕ)
    → i < 4
    → Okay w (get_or (ANumber 0 ∷ ANumber 0 ∷ ANumber 0 ∷ ANumber 0 ∷ []) i (Field 0))
blank_okay w zero h = omega arith
blank_okay w (suc zero) h = omega arith
blank_okay w (suc (suc zero)) h = omega arith
blank_okay w (suc (suc (suc zero))) h = omega arith
blank_okay w (suc (suc (suc (suc i)))) h = absurd (let z : ⊥ = omega arith in z)

-- an argument more
pub args_okay :
    (w : ℕ) (xs : List Held) (i : ℕ) (a : Held)
    → i < length xs
    → Okay w a
    → ((j : ℕ) → j < 4 → Okay w (get_or xs j (Field 0)))
    → (j : ℕ)
    → j < 4
    → Okay w (get_or (set xs i a) j (Field 0))
args_okay w xs i a l ok h j b =
    elim (ℕ_discrete j i) [
      | yes e ↦ subst (λ q. Okay w (get_or (set xs i a) q (Field 0))) (sym e)
          (subst (Okay w) (sym (get_or-set_same xs i a (Field 0) l)) ok)
      | no ne ↦ subst (Okay w) (sym (get_or-set_other xs i j a (Field 0) ne)) (h j b)
    ]

abbrev pub blank : Frame
blank = record { arguments = ANumber 0 ∷ ANumber 0 ∷ ANumber 0 ∷ ANumber 0 ∷ []; count = 0 }
