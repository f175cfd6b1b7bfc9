-- Where no rule's name is taken, a name calls one rule at most.
use Rattle.std.proofs.Common.{◌≡◌, ℕ, zero, suc, ◌<◌, ◌⊎◌, List, [], ◌∷◌, ◌++◌, map, length, take, sym, refl, ap, ◌∙◌, subst, inl, inr, ⊎_elim, arith}
use Rattle.std.proofs.str.Laws.{order}
use Rattle.std.proofs.lemmas.List.{take_all}
use Rattle.grammar.specs.Syntax.{Word, Formula, Field, Rule, rule_line}
use Rattle.names.specs.Lists.{Stands, here, there}
use Rattle.names.specs.Names.{spelling, the_rule}
use Rattle.names.specs.Faults.{field_name, rule_name, all_names, Taken, RuleFault, rule_taken}
use Rattle.names.specs.Looking.{CallsOnce}
use Rattle.names.proofs.Places.{in_right, stands_take, name_in}

-- what stands in a list and one more item stands in the list, or is that item
last_stands :
    {A : Type 0} (xs : List A) {r x : A} {i : ℕ}
    → Stands A (xs ++ (r ∷ [])) i x → Stands A xs i x ⊎ ((i ≡ length xs) × (x ≡ r))
last_stands [] here = inr (refl, refl)
last_stands [] (there s) = elim s [ ]
last_stands (x ∷ xs) here = inl here
last_stands (x ∷ xs) (there s) = ⊎_elim (λ h. inl (there h)) (λ h. inr (ap suc h.0, h.1)) (last_stands xs s)

-- what stands among the first l items stands there in the whole list
take_stands : {A : Type 0} (l : ℕ) (xs : List A) {x : A} {i : ℕ} → Stands A (take l xs) i x → (i < l) × Stands A xs i x
take_stands zero xs s = elim s [ ]
take_stands (suc l) [] s = elim s [ ]
take_stands (suc l) (x ∷ xs) here = (omega arith, here)
take_stands (suc l) (x ∷ xs) (there s) = let h = take_stands l xs s in (omega (arith, h.0), there h.1)

-- below a rule whose own name is not taken
pub once_more :
    (fs : List Field) (above : List Rule) (p : ℕ) (w : Word) (ps : List Word) (f : Formula)
    → CallsOnce above → (Taken (map field_name fs ++ all_names above) w → ⊥) → CallsOnce (above ++ (rule_line p w ps f ∷ []))
once_more fs above p w ps f once free v i j qs us (the_rule {v = a} s e) (the_rule {v = b} t d) =
    ⊎_elim
    (λ x. ⊎_elim (λ y. once v i j qs us (the_rule x e) (the_rule y d))
    (λ y. absurd (free (a, in_right (map field_name fs) (name_in x), e ∙ (sym d ∙ ap (λ r. spelling (rule_name r)) y.1))))
    (last_stands above t))
    (λ x. ⊎_elim
    (λ y. absurd (free (b, in_right (map field_name fs) (name_in y), d ∙ (sym e ∙ ap (λ r. spelling (rule_name r)) x.1))))
    (λ y. x.0 ∙ sym y.0)
    (last_stands above t))
    (last_stands above s)

-- among the first l rules, which are without fault
module _ (fs : List Field) (rs : List Rule) (l : ℕ)
    (none : (k : ℕ) (x : Rule) → k < l → Stands Rule rs k x → (n p : ℕ) → RuleFault fs (take k rs) x n p → ⊥) where
  apart :
      {i j p q : ℕ} {v w : Word} {qs us : List Word} {f g : Formula}
      → Stands Rule (take l rs) i (rule_line p v qs f) → Stands Rule (take l rs) j (rule_line q w us g)
      → spelling v ≡ spelling w → i < j → ⊥
  apart {j = j} s t e lt =
      let x = take_stands l rs s in
      let y = take_stands l rs t in
      none j _ y.0 y.1 7 _ (rule_taken (_, in_right (map field_name fs) (name_in (stands_take j x.1 lt)), e))

  pub once_below : CallsOnce (take l rs)
  once_below v i j qs us (the_rule s e) (the_rule t d) =
      ⊎_elim (λ h. absurd (apart s t (e ∙ sym d) h))
      (λ h. ⊎_elim (λ k. absurd (apart t s (d ∙ sym e) k)) (λ k. omega arith) (order j i)) (order i j)

-- among all rules, which are without fault
pub once_all :
    (fs : List Field) (rs : List Rule)
    → ((k : ℕ) (x : Rule) → Stands Rule rs k x → (n p : ℕ) → RuleFault fs (take k rs) x n p → ⊥) → CallsOnce rs
once_all fs rs none =
    subst CallsOnce (take_all (length rs) rs (omega arith)) (once_below fs rs (length rs) (λ k x lt. none k x))
