-- Recorded entries one by one, and that a guide tells at most one trace.
use Rattle.std.proofs.Common.{◌≡◌, ℕ, suc, ◌-◌, ◌<◌, List, [], ◌∷◌, ◌++◌, get_or, sym, ap, ◌∙◌, subst, arith}
use Rattle.meaning.specs.Traces.{Choice, took, Trace, Apart, here, there}
use Rattle.run.specs.Guides.{noted, Guide, recorded, numbers, Picks, NoPick, Guided, entries}

module _ (given : ℕ) (ps ws : List ℕ) (k : ℕ) (l : k < given) where
  -- the next of the given entries
  pub entries_next : entries ps ws k (given - k) ≡ noted (get_or ps k 0) (get_or ws k 0) ∷ entries ps ws (suc k)
      (given - suc k)
  entries_next = let e : given - k ≡ suc (given - suc k) = omega arith in ap (entries ps ws k) e

-- a guide tells one pick of a choice
pub picks_one :
    (g : Guide) (c : Choice) (j k : ℕ) (h i : Guide)
    → Picks g c j h
    → Picks g c k i
    → (j ≡ k) × (h ≡ i)
picks_one (recorded []) c j k h i p q = (p.0 ∙ sym q.0, p.1 ∙ sym q.1)
picks_one (recorded (noted x w ∷ es)) c j k h i p q = (p.0 ∙ sym q.0, p.3 ∙ sym q.3)
picks_one (numbers []) c j k h i p q = absurd p
picks_one (numbers (r ∷ ns)) c j k h i p q = (p.0 ∙ sym q.0, p.1 ∙ sym q.1)

pub guided_join : (g h i : Guide) (t u : Trace) → Guided g t h → Guided h u i → Guided g (t ++ u) i
guided_join g h i [] u p q = subst (λ x. Guided x u i) p q
guided_join g h i (took k c ∷ t) u p q = (p.0, p.1, guided_join p.0 h i t u p.2 q)

-- what is left of a guide after a trace
pub guided_one : (g h i : Guide) (t : Trace) → Guided g t h → Guided g t i → h ≡ i
guided_one g h i [] p q = p ∙ sym q
guided_one g h i (took k c ∷ t) p q =
    let e = (picks_one g c k k p.0 q.0 p.1 q.1).1 in
    guided_one p.0 h i t p.2 (subst (λ x. Guided x t i) (sym e) q.2)

-- traces that part are not told by one guide
pub guided_apart : (g h i : Guide) (t u : Trace) → Guided g t h → Guided g u i → Apart t u → ⊥
guided_apart g h i [] u p q a = elim a [ ]
guided_apart g h i (took j c ∷ t) [] p q a = elim a [ ]
guided_apart g h i (took j c ∷ t) (took k d ∷ u) p q (here n) = n
    (picks_one g c j k p.0 q.0 p.1 q.1).0
guided_apart g h i (took j c ∷ t) (took k d ∷ u) p q (there a) =
    let e = (picks_one g c j j p.0 q.0 p.1 q.1).1 in
    guided_apart p.0 h i t u p.2 (subst (λ x. Guided x u i) (sym e) q.2) a

-- at a choice at which no pick is told, no trace goes on
pub halted_one :
    (g h i : Guide) (t u : Trace) (c : Choice) → Guided g t h → NoPick h c → Guided g (t ++ took 0 c ∷ u) i
    → ⊥
halted_one g h i [] u c p unfit q = subst (λ x. NoPick x c) p unfit 0 q.0 q.1
halted_one g h i (took k d ∷ t) u c p unfit q =
    let e = (picks_one g d k k p.0 q.0 p.1 q.1).1 in
    halted_one p.0 h i t u c p.2 unfit (subst (λ x. Guided x (t ++ took 0 c ∷ u) i) (sym e) q.2)

pub halted_apart :
    (g h i : Guide) (t u v : Trace) (c : Choice)
    → Guided g t h → NoPick h c → Guided g v i → Apart v (t ++ took 0 c ∷ u) → ⊥
halted_apart g h i [] u [] c p unfit q a = elim a [ ]
halted_apart g h i (took k d ∷ t) u [] c p unfit q a = elim a [ ]
halted_apart g h i [] u (took j d ∷ v) c p unfit q (here n) = subst (λ x. NoPick x c) p unfit j q.0 q.1
halted_apart g h i [] u (took j d ∷ v) c p unfit q (there a) = subst (λ x. NoPick x c) p unfit 0 q.0 q.1
halted_apart g h i (took k d ∷ t) u (took j b ∷ v) c p unfit q (here n) = n
    (picks_one g d j k q.0 p.0 q.1 p.1).0
halted_apart g h i (took k d ∷ t) u (took j b ∷ v) c p unfit q (there a) =
    let e = (picks_one g d k k p.0 q.0 p.1 q.1).1 in
    halted_apart p.0 h i t u v c p.2 unfit (subst (λ x. Guided x v i) (sym e) q.2) a
