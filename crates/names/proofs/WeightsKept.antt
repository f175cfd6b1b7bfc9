-- The weights of a join.
use Rattle.std.proofs.Common.{◌≡◌, ℕ, List, [], ◌∷◌, sym, subst, inr, arith}
use Rattle.grammar.specs.Syntax.{Word, num, Field, Rule}
use Rattle.names.specs.Faults.{weight, UseFault, zero_weight, First}
use Rattle.names.specs.Looking.{UsesFault}
use Rattle.names.proofs.Faults.{weight_from}
use Rattle.names.proofs.Numbering.{one_to, one_from, first_like}

module _ {fs : List Field} {rs : List Rule} {ps : List Word} where
  pub zero_first : (v q : ℕ) → v ≡ 0 → First (UsesFault fs rs ps (weight (num v q) ∷ [])) 10 q
  zero_first v q e =
      first_like one_to one_from
      (record {
        fault = subst (λ z. UseFault fs rs ps (weight (num z q)) 10 q) (sym e) zero_weight;
        least = λ n p f. let h = weight_from fs rs ps v q n p f in inr (sym h.2, omega (arith, h.1));
      })

  pub not_zero : (v q : ℕ) → (v ≡ 0 → ⊥) → (n p : ℕ) → UsesFault fs rs ps (weight (num v q) ∷ []) n p → ⊥
  not_zero v q ne n p f = ne (weight_from fs rs ps v q n p (one_from n p f)).0
