-- From any numbers there is exactly one draw.
use Rattle.std.proofs.Common.{◌≡◌, ℕ, ◌+◌, ◌⊎◌, List, [], ◌∷◌, ◌++◌, length, sym, refl, ap, ◌∙◌, subst, ap₂, inl, inr, ⊎_elim, mod-lt, arith}
use Rattle.std.proofs.lemmas.Bool.Decides.{nat_tests}
use Rattle.std.proofs.lemmas.List.{length-append}
use Rattle.formula.specs.Trees.{Sheet}
use Rattle.marks.specs.Sets.{Marks, MarksOf}
use Rattle.meaning.specs.Terms.{fields_of}
use Rattle.meaning.specs.Traces.{Choice, among, branch, Entry, took, Trace, Apart, here, there}
use Rattle.meaning.specs.Runs.{Outcome, Run}
use Rattle.meaning.specs.Picks.{Fair, Told, told_none, told_one, told_past}
use Rattle.meaning.specs.Draws.{drawn, Takes, takes_none, takes_one, Drawn, ran, dry, Draws, draws}
use Rattle.meaning.specs.Draws.{runs_dry, DrawsOne}
use Rattle.meaning.proofs.Runs.{run_part}
use Rattle.meaning.proofs.Picks.{all_told}

pub drawn_fair : Fair drawn
drawn_fair r (among c) h = mod-lt r h
drawn_fair r (branch v w) h = grind (arith, nat_tests)

-- where a told trace has its last number
data Split (ns : List ℕ) : Trace → List ℕ → Type 0 where
  full : {t : Trace} {ls : List ℕ} → Takes ns t ls → Split ns t ls
  short :
      {t : Trace} {ls : List ℕ} (u : Trace) (k : ℕ) (c : Choice) (v : Trace) → t ≡ (u ++ took k c ∷ v)
      → Takes ns u [] → Split ns t ls

split : {ns ls : List ℕ} {t : Trace} → Told drawn ns t ls → Split ns t ls
split told_none = full takes_none
split (told_one {r = r} {k = k} {c = c} p x) = go (split x)
  where
    go : {ns ls : List ℕ} {t : Trace} → Split ns t ls → Split (r ∷ ns) (took k c ∷ t) ls
    go (full y) = full (takes_one p y)
    go (short u i d v q y) = short (took k c ∷ u) i d v (ap {B = Trace} (λ z. took k c ∷ z) q) (takes_one p y)
split (told_past {k = k} {c = c} {t = t} p x) = short [] k c t refl takes_none

either : {A : Type 0} {t u : Trace} → ((t ≡ u) × A) ⊎ Apart t u → (t ≡ u) ⊎ Apart t u
either (inl p) = inl p.0
either (inr x) = inr x

-- two traces that take the same numbers do not part before the numbers are used up

takes_length : {ns ls : List ℕ} {t : Trace} → Takes ns t ls → length t + length ls ≡ length ns
takes_length takes_none = omega arith
takes_length (takes_one p x) = let h = takes_length x in omega arith

takes_left : {ns ls ks : List ℕ} {t : Trace} → Takes ns t ls → Takes ns t ks → ls ≡ ks
takes_left takes_none takes_none = refl
takes_left (takes_one p x) (takes_one q y) = takes_left x y

never_apart : {ns ls ks : List ℕ} {t u : Trace} → Takes ns t ls → Takes ns u ks → Apart t u → ⊥
never_apart (takes_one p x) (takes_one q y) (here n) = n (p ∙ sym q)
never_apart (takes_one p x) (takes_one q y) (there a) = never_apart x y a
never_apart takes_none y a = elim a [ ]
never_apart (takes_one p x) takes_none a = elim a [ ]

module _ (e : Entry) (v : Trace) where
  short_apart : {ns ls : List ℕ} {t u : Trace} → Takes ns t ls → Takes ns u [] → Apart t (u ++ e ∷ v) → ⊥
  short_apart (takes_one p x) (takes_one q y) (here n) = n (p ∙ sym q)
  short_apart (takes_one p x) (takes_one q y) (there a) = short_apart x y a
  short_apart takes_none y a = elim a [ ]

  never_short :
      {ns ls : List ℕ} {t u : Trace}
      → Takes ns t ls → Takes ns u [] → ((t ≡ (u ++ e ∷ v)) ⊎ Apart t (u ++ e ∷ v)) → ⊥
  never_short {u = u} x y (inl p) =
      omega (arith, takes_length x, takes_length y, ap length p, length-append u (e ∷ v))
  never_short x y (inr a) = short_apart x y a

  same_front :
      (f : Entry) (w : Trace) {ns : List ℕ} {t u : Trace}
      → Takes ns t [] → Takes ns u []
      → (((t ++ e ∷ v) ≡ (u ++ f ∷ w)) ⊎ Apart (t ++ e ∷ v) (u ++ f ∷ w))
      → t ≡ u
  same_front f w takes_none takes_none h = refl
  same_front f w (takes_one p x) (takes_one q y) (inl h) =
      ap₂ {C = Trace} ◌∷◌ (cc) (same_front f w x y (inl (cc)))
  same_front f w (takes_one p x) (takes_one q y) (inr (here n)) = absurd (n (p ∙ sym q))
  same_front f w (takes_one {k = k} {c = c} p x) (takes_one q y) (inr (there a)) =
      ap {B = Trace} (λ z. took k c ∷ z) (same_front f w x y (inr a))

module _ (sh : Sheet) (fuel : ℕ) (S : Marks) (B : MarksOf (fields_of sh) S) (ns : List ℕ) where
  pub some_draw : (d : Drawn) × (t : Trace) × (l : List ℕ) × Draws sh fuel S ns d t l
  some_draw =
      let r = all_told sh fuel S B drawn drawn_fair ns in
      go r.trace r.outcome r.left r.run (split r.told)
    where
      go :
          (t : Trace) (a : Outcome) (l : List ℕ) → Run sh fuel S t a → Split ns t l
          → (d : Drawn) × (t : Trace) × (l : List ℕ) × Draws sh fuel S ns d t l
      go t a l r (full x) = (ran a, t, l, draws r x)
      go t a l r (short u k c v p x) =
          (dry, u, [], runs_dry (took k c) v (subst (λ (z : Trace). Run sh fuel S z a) p r) x)

  only_draw :
      {d e : Drawn} {t u : Trace} {l k : List ℕ}
      → Draws sh fuel S ns d t l → Draws sh fuel S ns e u k → (d ≡ e) × (t ≡ u) × (l ≡ k)
  only_draw (draws {ls = ls} {t = t} {a = a} r x) (draws {ls = ks} {t = u} {a = c} q y) =
      ⊎_elim
      (λ p. (ap ran p.1, p.0, takes_left x (subst (λ (z : Trace). Takes ns z ks) (sym p.0) y)))
      (λ p. absurd (never_apart x y p))
      (run_part sh fuel S B t u a c r q)
  only_draw (draws {t = t} {a = a} r x) (runs_dry {t = u} {a = o} e v q y) =
      absurd (never_short e v x y (either (run_part sh fuel S B t (u ++ e ∷ v) a o r q)))
  only_draw (runs_dry {t = u} {a = o} e v q y) (draws {t = t} {a = a} r x) =
      absurd (never_short e v x y (either (run_part sh fuel S B t (u ++ e ∷ v) a o r q)))
  only_draw (runs_dry {t = t} {a = a} e v r x) (runs_dry {t = u} {a = o} f w q y) =
      (refl, same_front e v f w x y (either (run_part sh fuel S B (t ++ e ∷ v) (u ++ f ∷ w) a o r q)), refl)

pub draws_one : DrawsOne
draws_one =
    λ sh fuel S B ns.
    (let r = some_draw sh fuel S B ns in
    record {
      result = r.0;
      trace = r.1;
      left = r.2;
      draw = r.3;
      only = λ d t l x. only_draw sh fuel S B ns x r.3;
    })
