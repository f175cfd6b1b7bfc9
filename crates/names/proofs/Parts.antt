-- The entries of a line's formula, and what the formula uses.
use Rattle.std.proofs.Common.{◌≡◌, ℕ, suc, ◌+◌, ◌<◌, ◌≤◌, cond, leb, List, [], ◌∷◌, ◌++◌, map, sym, refl, ap, ◌∙◌, subst, ⊎_elim, arith}
use Rattle.std.proofs.lemmas.List.{map-append}
use Rattle.std.proofs.lemmas.Bool.Decides.{leb_tells}
use Rattle.grammar.specs.declared.table.Node.{Node as NodeEntry}
use Rattle.grammar.specs.Syntax.{Word, num, Term, constant, bare, raised, lowered, Weights, absent, given, Formula, compared, called, negated, picked, joined, Field, Rule}
use Rattle.grammar.specs.Tables.{node_at, Entries, a_comparison, a_call, a_not, a_pick, a_join, size, Rising, place_of, term_places, terms_places, weights_places, formula_places}
use Rattle.names.specs.Lists.{In, that}
use Rattle.names.specs.Faults.{Use, term, term_uses, terms_uses, weight_uses, uses, FormulaFault}
use Rattle.names.specs.Looking.{own_uses, use_place, IsEntry, an_entry_compared, an_entry_called, an_entry_negated, an_entry_picked, an_entry_joined, AreEntries, EntriesFault}
use Rattle.names.proofs.Places.{in_left, in_right, split_in}
use Rattle.names.proofs.Ordered.{uses_left, uses_right}

-- a choice by a test of order
by_order : {A : Type 0} (P : A → Type 0) (k a : ℕ) (x y : A) → (k ≤ a → P x) → (a < k → P y) → P (cond (leb k a) x y)
by_order P k a x y f g =
    ⊎_elim
    (λ h. subst (λ b. P (cond b x y)) (sym h.0) (f h.1))
    (λ h. subst (λ b. P (cond b x y)) (sym h.0) (g h.1))
    (leb_tells k a)

module _ (text : List ℕ) (nodes : List NodeEntry) where
  -- the formula of each entry
  pub part_at : {s b : ℕ} {f : Formula} → Entries text nodes s b f → ℕ → Formula
  part_at (a_comparison {c = c} {x = x} {y = y} e p q) k = compared c x y
  part_at (a_call {w = w} {xs = xs} e p q r) k = called w xs
  part_at (a_not {a = a} {f = f} e p d) k = cond (leb k a) (part_at d k) (negated f)
  part_at (a_pick {a = a} {w = w} {f = f} e p q d) k = cond (leb k a) (part_at d k) (picked w f)
  part_at (a_join {a = a} {b = b} {j = j} {w = w} {f = f} {g = g} e p q c d) k =
      cond (leb k a) (part_at c k) (cond (leb k b) (part_at d k) (joined j w f g))

  -- a formula takes as many entries as it counts formulas
  pub entries_size : {s b : ℕ} {f : Formula} → Entries text nodes s b f → suc b ≡ s + size f
  entries_size (a_comparison e p q) = omega arith
  entries_size (a_call e p q r) = omega arith
  entries_size (a_not e p d) = let h = entries_size d in omega arith
  entries_size (a_pick e p q d) = let h = entries_size d in omega arith
  entries_size (a_join e p q c d) = let h = entries_size c in let g = entries_size d in omega arith

  pub size_some : (f : Formula) → 1 ≤ size f
  size_some (compared c t u) = omega arith
  size_some (called w ts) = omega arith
  size_some (negated f) = omega arith
  size_some (picked w f) = omega arith
  size_some (joined j w f g) = omega arith

  entry_at : {m : NodeEntry} (i k : ℕ) (f : Formula) → i ≤ k → k ≤ i → node_at nodes i ≡ m → IsEntry text m f → IsEntry text (node_at nodes k) f
  entry_at i k f ge le e h =
      let same : i ≡ k = omega arith in
      subst (λ z. IsEntry text (node_at nodes z) f) same (subst (λ z. IsEntry text z f) (sym e) h)

  pub part_entry :
      {s b : ℕ} {f : Formula} (d : Entries text nodes s b f) (k : ℕ) → s ≤ k → k ≤ b → IsEntry text (node_at nodes k) (part_at d k)
  unfolding part_at
  part_entry (a_comparison {i = i} {c = c} {x = x} {y = y} e p q) k ge le = entry_at i k (compared c x y) ge le e (an_entry_compared p q)
  part_entry (a_call {i = i} {w = w} {xs = xs} e p q r) k ge le = entry_at i k (called w xs) ge le e (an_entry_called p q r)
  part_entry (a_not {a = a} {i = i} {f = f} e p d) k ge le =
      by_order (λ z. IsEntry text (node_at nodes k) z) k a (part_at d k) (negated f)
      (λ h. part_entry d k ge h) (λ h. entry_at i k (negated f) (omega arith) le e an_entry_negated)
  part_entry (a_pick {a = a} {i = i} {w = w} {f = f} e p q d) k ge le =
      by_order (λ z. IsEntry text (node_at nodes k) z) k a (part_at d k) (picked w f)
      (λ h. part_entry d k ge h) (λ h. entry_at i k (picked w f) (omega arith) le e (an_entry_picked p))
  part_entry (a_join {a = a} {b = b} {i = i} {j = j} {w = w} {f = f} {g = g} e p q c d) k ge le =
      by_order (λ z. IsEntry text (node_at nodes k) z) k a (part_at c k) (cond (leb k b) (part_at d k) (joined j w f g))
      (λ h. part_entry c k ge h)
      (λ h. by_order (λ z. IsEntry text (node_at nodes k) z) k b (part_at d k) (joined j w f g)
      (λ m. part_entry d k h m) (λ m. entry_at i k (joined j w f g) (omega arith) le e (an_entry_joined p)))

  -- the uses of a formula are those of its entries
  pub part_uses :
      {s b : ℕ} {f : Formula} (d : Entries text nodes s b f) (k : ℕ) (u : Use)
      → s ≤ k → k ≤ b → In Use (own_uses (part_at d k)) u → In Use (uses f) u
  unfolding part_at
  part_uses (a_comparison e p q) k u ge le m = m
  part_uses (a_call e p q r) k u ge le m = m
  part_uses (a_not {a = a} {f = f} e p d) k u ge le m =
      by_order (λ z. In Use (own_uses z) u → In Use (uses f) u) k a (part_at d k) (negated f)
      (λ h x. part_uses d k u ge h x) (λ h x. elim x [ ]) m
  part_uses (a_pick {a = a} {w = w} {f = f} e p q d) k u ge le m =
      by_order (λ z. In Use (own_uses z) u → In Use (uses (picked w f)) u) k a (part_at d k) (picked w f)
      (λ h x. that (part_uses d k u ge h x)) (λ h x. in_left (uses f) x) m
  part_uses (a_join {a = a} {b = b} {j = j} {w = w} {f = f} {g = g} e p q c d) k u ge le m =
      by_order (λ z. In Use (own_uses z) u → In Use (uses (joined j w f g)) u) k a (part_at c k) (cond (leb k b) (part_at d k) (joined j w f g))
      (λ h x. in_left (weight_uses w ++ uses g) (part_uses c k u ge h x))
      (λ h. by_order (λ z. In Use (own_uses z) u → In Use (uses (joined j w f g)) u) k b (part_at d k) (joined j w f g)
      (λ n x. in_right (uses f) (in_right (weight_uses w) (part_uses d k u h n x)))
      (λ n x. in_right (uses f) (in_left (uses g) x))) m

  pub uses_part :
      {s b : ℕ} {f : Formula} (d : Entries text nodes s b f) (u : Use)
      → In Use (uses f) u → (k : ℕ) × (s ≤ k) × (k ≤ b) × In Use (own_uses (part_at d k)) u
  unfolding part_at
  uses_part (a_comparison {i = i} e p q) u m = (i, omega arith, omega arith, m)
  uses_part (a_call {i = i} e p q r) u m = (i, omega arith, omega arith, m)
  uses_part (a_not {a = a} {f = f} e p d) u m =
      let h = uses_part d u m in (
        h.0,
        h.1,
        omega (arith, h.2),
        by_order (λ z. In Use (own_uses z) u) h.0 a (part_at d h.0) (negated f) (λ le. h.3) (λ lt. absurd (omega (arith, h.2))),
      )
  uses_part (a_pick {s = s} {a = a} {i = i} {w = w} {f = f} e p q d) u m =
      ⊎_elim
      (λ x. (
        i,
        (let g = entries_size d in let n = size_some f in omega arith),
        omega arith,
        by_order (λ z. In Use (own_uses z) u) i a (part_at d i) (picked w f) (λ le. absurd (omega arith)) (λ lt. x),
      ))
      (λ x. let h = uses_part d u x in (
        h.0,
        h.1,
        omega (arith, h.2),
        by_order (λ z. In Use (own_uses z) u) h.0 a (part_at d h.0) (picked w f) (λ le. h.3) (λ lt. absurd (omega (arith, h.2))),
      ))
      (split_in (term w ∷ []) m)
  uses_part (a_join {s = s} {a = a} {b = b} {i = i} {j = j} {w = w} {f = f} {g = g} e p q c d) u m =
      let cs = entries_size c in let ds = entries_size d in let fs = size_some f in let gs = size_some g in
      ⊎_elim
      (λ x. let h = uses_part c u x in (
        h.0,
        h.1,
        omega (arith, h.2),
        by_order (λ z. In Use (own_uses z) u) h.0 a (part_at c h.0) (cond (leb h.0 b) (part_at d h.0) (joined j w f g))
            (λ le. h.3) (λ lt. absurd (omega (arith, h.2))),
      ))
      (λ y. ⊎_elim
      (λ x. (
        i,
        omega arith,
        omega arith,
        by_order (λ z. In Use (own_uses z) u) i a (part_at c i) (cond (leb i b) (part_at d i) (joined j w f g))
            (λ le. absurd (omega arith))
            (λ lt. by_order (λ z. In Use (own_uses z) u) i b (part_at d i) (joined j w f g) (λ le. absurd (omega arith)) (λ gt. x)),
      ))
      (λ x. let h = uses_part d u x in (
        h.0,
        omega (arith, h.1),
        omega (arith, h.2),
        by_order (λ z. In Use (own_uses z) u) h.0 a (part_at c h.0) (cond (leb h.0 b) (part_at d h.0) (joined j w f g))
            (λ le. absurd (omega (arith, h.1)))
            (λ lt. by_order (λ z. In Use (own_uses z) u) h.0 b (part_at d h.0) (joined j w f g) (λ le. h.3) (λ gt. absurd (omega (arith, h.2)))),
      ))
      (split_in (weight_uses w) y))
      (split_in (uses f) m)

  -- where the places of a formula rise, so do those of each entry
  pub part_rising :
      {s b : ℕ} {f : Formula} (d : Entries text nodes s b f) (k : ℕ)
      → Rising (map use_place (uses f)) → Rising (map use_place (own_uses (part_at d k)))
  unfolding part_at
  part_rising (a_comparison e p q) k up = up
  part_rising (a_call e p q r) k up = up
  part_rising (a_not {a = a} {f = f} e p d) k up =
      by_order (λ z. Rising (map use_place (own_uses z))) k a (part_at d k) (negated f) (λ h. part_rising d k up) (λ h. tt)
  part_rising (a_pick {a = a} {w = w} {f = f} e p q d) k up =
      by_order (λ z. Rising (map use_place (own_uses z))) k a (part_at d k) (picked w f)
      (λ h. part_rising d k up.1) (λ h. uses_left (term w ∷ []) (uses f) up)
  part_rising (a_join {a = a} {b = b} {j = j} {w = w} {f = f} {g = g} e p q c d) k up =
      by_order (λ z. Rising (map use_place (own_uses z))) k a (part_at c k) (cond (leb k b) (part_at d k) (joined j w f g))
      (λ h. part_rising c k (uses_left (uses f) (weight_uses w ++ uses g) up))
      (λ h. by_order (λ z. Rising (map use_place (own_uses z))) k b (part_at d k) (joined j w f g)
      (λ m. part_rising d k (uses_right (weight_uses w) (uses g) (uses_right (uses f) (weight_uses w ++ uses g) up)))
      (λ m. uses_left (weight_uses w) (uses g) (uses_right (uses f) (weight_uses w ++ uses g) up)))

  module _ {s b : ℕ} {f : Formula} (d : Entries text nodes s b f) where
    pub are_parts : Rising (map use_place (uses f)) → AreEntries text nodes (part_at d) s (b + 1)
    are_parts up k ge lt = (part_entry d k ge (omega arith), part_rising d k up)

    pub to_formula :
        (fs : List Field) (rs : List Rule) (ps : List Word) (n p : ℕ)
        → EntriesFault fs rs ps (part_at d) s (b + 1) n p → FormulaFault fs rs ps f n p
    to_formula fs rs ps n p x =
        (x.3.0, part_uses d x.0 x.3.0 x.1 (omega (arith, x.2)) x.3.1, x.3.2)

    pub of_formula :
        (fs : List Field) (rs : List Rule) (ps : List Word) (n p : ℕ)
        → FormulaFault fs rs ps f n p → EntriesFault fs rs ps (part_at d) s (b + 1) n p
    of_formula fs rs ps n p x =
        let h = uses_part d x.0 x.1 in (h.0, h.1, omega (arith, h.2), (x.0, h.3, x.2))

-- the places of what a formula uses are the formula's places
term_is_places : (t : Term) → map use_place (term_uses t) ≡ term_places t
term_is_places (constant n) = refl
term_is_places (bare w) = refl
term_is_places (raised w n) = refl
term_is_places (lowered w n) = refl

terms_are_places : (ts : List Term) → map use_place (terms_uses ts) ≡ terms_places ts
terms_are_places [] = refl
terms_are_places (t ∷ ts) =
    map-append use_place (term_uses t) (terms_uses ts)
    ∙ ap (λ z. z ++ map use_place (terms_uses ts)) (term_is_places t) ∙ ap (λ z. term_places t ++ z) (terms_are_places ts)

weights_are_places : (w : Weights) → map use_place (weight_uses w) ≡ weights_places w
weights_are_places absent = refl
weights_are_places (given (num v p) (num w q)) = refl

pub uses_are_places : (f : Formula) → map use_place (uses f) ≡ formula_places f
uses_are_places (compared c t u) =
    map-append use_place (term_uses t) (term_uses u)
    ∙ ap (λ z. z ++ map use_place (term_uses u)) (term_is_places t) ∙ ap (λ z. term_places t ++ z) (term_is_places u)
uses_are_places (called w ts) = ap (λ z. place_of w ∷ z) (terms_are_places ts)
uses_are_places (negated f) = uses_are_places f
uses_are_places (picked w f) = ap (λ z. place_of w ∷ z) (uses_are_places f)
uses_are_places (joined j w f g) =
    map-append use_place (uses f) (weight_uses w ++ uses g)
    ∙ ap (λ z. z ++ map use_place (weight_uses w ++ uses g)) (uses_are_places f)
    ∙ ap (λ z. formula_places f ++ z)
    (map-append use_place (weight_uses w) (uses g)
    ∙ ap (λ z. z ++ map use_place (uses g)) (weights_are_places w) ∙ ap (λ z. weights_places w ++ z) (uses_are_places g))
