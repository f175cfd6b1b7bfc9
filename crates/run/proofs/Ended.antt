-- The ranges at the beginning of a run, and the fields at its end, one by one.
use Rattle.std.proofs.Common.{◌≡◌, ℕ, zero, suc, ◌+◌, ◌<◌, Bool, true, false, ◌&&◌, List, [], ◌∷◌, ◌++◌, map, length, get_or, take, sym, refl, ap, ◌∙◌, subst, append_assoc, append-nil, arith}
use Rattle.std.proofs.lemmas.Bool.{and_parts}
use mathlib.Core.Path.{fun_ext}
use mathlib.Core.Bool.{and-true}
use Rattle.marks.specs.Sets.{Marks}
use Rattle.std.proofs.lemmas.List.{length-map, length-take-le}
use Rattle.formula.specs.declared.Comparison.TheVariants.{AtLeast, AtMost}
use Rattle.formula.specs.Comparing.{holds}
use Rattle.formula.specs.Trees.{range}
use Rattle.formula.specs.Trees.{Range as RangeTree}
use Rattle.marks.specs.Sets.{kept}
use Rattle.sheet.specs.declared.node.Range.{Range}
use Rattle.sheet.specs.Table.{range_at}
use Rattle.sheet.specs.Sheets.{range_of}
use Rattle.meaning.specs.Reading.{ranged}
use Rattle.meaning.specs.Runs.{inside}
use Rattle.run.specs.Answering.{Inside}
use Rattle.meaning.specs.Traces.{Trace}
use Rattle.marks.specs.Sets.{Empty}
use Rattle.meaning.specs.Matching.{Settles, the_field}
use Rattle.meaning.specs.Runs.{Ends, ended, ends}
use Rattle.meaning.proofs.Counting.{Counted, counted_part}
use Rattle.meaning.proofs.Soundness.{settles_sound}
use Rattle.meaning.proofs.Picks.{arg_alive, ends_told}
use Rattle.run.specs.Ways.{Way, Took, Halts, Fits}
use Rattle.run.specs.declared.stop.Stop.{Stop}
use Rattle.run.specs.Settling.{Settling}
use Rattle.run.specs.Works.{Ending, EndLeads}
use Rattle.run.proofs.Ways.{took_map, took_none, took_join, halts_on, halts_after, fits_on, fits_after}
use Rattle.run.proofs.Comparing.{first, first_fair}

-- a mark has a number for each field
pub ends_long :
    {f c : ℕ} {S P : Marks} {t : Trace} {vs : List ℕ} → Ends f c S t P vs → length vs ≡ c
ends_long ended = refl
ends_long (ends m e) = ap suc (ends_long e)

module _ (w : ℕ) (z : Way) (S₀ : Marks) where
  pub end_begun : (c : ℕ) → w ≡ c → Took z (EndLeads w S₀ 0 c S₀ []) z
  end_begun c e = took_none (λ u Q ws p. subst (λ q. Ends 0 q S₀ u Q ws) (sym e) p)

  module _ (S : Marks) (y : Way) (i c : ℕ) (vs : List ℕ) (led : Took z (EndLeads w S₀ i (suc c) S vs) y) where
    pub end_more :
        (v : ℕ) (P : Marks) (y' : Way) (vs' : List ℕ)
        → Took y (λ t. Settles S (the_field i) t P v) y'
        → vs' ≡ vs ++ v ∷ []
        → Took z (EndLeads w S₀ (suc i) c P vs') y'
    end_more v P y' vs' k is =
        took_join (λ t u m s a Q d p.
        subst (λ q. Ends 0 w S₀ ((t ++ u) ++ a) Q (q ++ d)) (sym is)
        (subst (λ q. Ends 0 w S₀ ((t ++ u) ++ a) Q q) (sym (append_assoc vs (v ∷ []) d))
        (subst (λ q. Ends 0 w S₀ q Q (vs ++ v ∷ d)) (sym (append_assoc t u a))
        (m (u ++ a) Q (v ∷ d) (ends s p))))) led k

    module _ (C : Counted S) (alive : Empty S → ⊥) where
      on : (v : Trace) → Settling S (the_field i) v → (u : Trace) × Ending i (suc c) S (v ++ u)
      on v m =
          let q = ends_told first first_fair (suc i) c m.0
          (counted_part S m.0 C (λ k h. (settles_sound m.2 k h).0)) (arg_alive m.2 alive) [] in
          (q.0, (q.1, m.1 ∷ q.2, ends m.2 q.4))

      pub end_fits : Fits z (Ending 0 w S₀) → Fits y (Settling S (the_field i))
      end_fits h = fits_on {N = Ending i (suc c) S} on
          (fits_after {N = Ending i (suc c) S} (λ t u m n. (n.0, vs ++ n.1, m u n.0 n.1 n.2)) led
          h)

      pub end_halt : (s : Stop) (y' : Way) → Halts y (Settling S (the_field i)) s y' → Halts z (Ending 0 w S₀) s y'
      end_halt s y' h = halts_after {N = Ending i (suc c) S}
          (λ t u m n. (n.0, vs ++ n.1, m u n.0 n.1 n.2)) led
          (halts_on {N = Ending i (suc c) S} on h)

  pub end_done :
      (S : Marks) (y : Way) (i : ℕ) (vs : List ℕ) → Took z (EndLeads w S₀ i 0 S vs) y
      → Took z (λ v. Ends 0 w S₀ v S vs) y
  end_done S y i vs = took_map (λ v m. subst (λ q. Ends 0 w S₀ v S q) (append-nil vs)
      (subst (λ q. Ends 0 w S₀ q S (vs ++ [])) (append-nil v) (m [] S [] ended)))

-- The beginning

-- the first i ranges, and one more
take_ranges :
    (rs : List Range) (i : ℕ) → i < length rs
    → map range_of (take (suc i) rs) ≡ map range_of (take i rs) ++ range (range_at rs i).low
    (range_at rs i).high ∷ []
take_ranges [] i h = absurd (omega arith)
take_ranges (r ∷ rs) zero h = refl
take_ranges (r ∷ rs) (suc i) h = ap (λ q. range_of r ∷ q) (take_ranges rs i (omega arith))

and_assoc : (a b c : Bool) → ((a && b) && c) ≡ (a && (b && c))
and_assoc true b c = refl
and_assoc false b c = refl

four : (a b c d : Bool) → (((a && b) && c) && d) ≡ (a && (b && (c && d)))
four true true c d = refl
four true false c d = refl
four false b c d = refl

ranged_more :
    (rs : List RangeTree) (low high f : ℕ) (m : List ℕ)
    → ranged (rs ++ range low high ∷ []) f m
    ≡ (ranged rs f m && (holds AtLeast (get_or m (f + length rs) 0) low && holds AtMost
    (get_or m (f + length rs) 0) high))
ranged_more [] low high f m =
    let e : f ≡ f + 0 = omega arith in
    and-true (holds AtLeast (get_or m f 0) low && holds AtMost (get_or m f 0) high)
    ∙ ap (λ q. holds AtLeast (get_or m q 0) low && holds AtMost (get_or m q 0) high) e
ranged_more (range l h ∷ rs) low high f m =
    let e : suc f + length rs ≡ f + suc (length rs) = omega arith in
    let first = holds AtLeast (get_or m f 0) l && holds AtMost (get_or m f 0) h in
    ap (λ q. first && q) (ranged_more rs low high (suc f) m)
    ∙ sym (and_assoc first (ranged rs (suc f) m) (holds AtLeast (get_or m (suc f + length rs) 0) low && holds
    AtMost (get_or m (suc f + length rs) 0) high))
    ∙ ap (λ q. (first && ranged rs (suc f) m) && (holds AtLeast (get_or m q 0) low && holds AtMost (get_or m q 0)
    high)) e

-- what two keeps leave of the marks in the first i ranges
pub begin_more :
    (B S : Marks) (rs : List Range) (i : ℕ) → i < length rs
    → S ≡ inside B (map range_of (take i rs))
    → kept (kept S i AtLeast (range_at rs i).low) i AtMost (range_at rs i).high ≡ inside B
    (map range_of (take (suc i) rs))
begin_more B S rs i h e =
    let low = (range_at rs i).low in
    let high = (range_at rs i).high in
    let firsts = map range_of (take i rs) in
    let count : length firsts ≡ i = length-map (take i rs) range_of ∙ length-take-le i rs (omega arith) in
    let long : 0 + length firsts ≡ i = omega (arith, count) in
    ap (λ Q. kept (kept Q i AtLeast low) i AtMost high) e
    ∙ fun_ext (λ m.
    four (B m) (ranged firsts 0 m) (holds AtLeast (get_or m i 0) low) (holds AtMost (get_or m i 0) high)
    ∙ ap (λ q. B m && (ranged firsts 0 m && (holds AtLeast (get_or m q 0) low && holds AtMost (get_or m q 0)
    high))) (sym long)
    ∙ ap (λ q. B m && q) (sym (ranged_more firsts low high 0 m))
    ∙ ap (λ q. B m && ranged q 0 m) (sym (take_ranges rs i h)))

pub begin_none : (B : Marks) (rs : List Range) → B ≡ inside B (map range_of (take 0 rs))
begin_none B rs = fun_ext (λ m. sym (and-true (B m)))

pub inside_part : (B : Marks) (rs : List RangeTree) → Inside (inside B rs) B
inside_part B rs m h = (and_parts (B m) _ h).0
