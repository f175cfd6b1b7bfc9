-- Room counted down by a `try_fold` over a slice.
use Rattle.std.proofs.Common.{◌≡◌, ℕ, ◌+◌, ◌-◌, ◌≤◌, List, [], ◌∷◌, length, Some, None, Option, refl, ap, arith, length-append, Iter}
use denote.Ref.{Bor}
use Rattle.std.specs.Iterator.{Yields, YieldsThen}
use Rattle.std.specs.Option.{MatchOption, SomeIff}
use Rattle.std.specs.List.{flat_map, FoldsTo}
use Rattle.std.proofs.lemmas.Fn.{fronts}

no_text : {A : Type 0} (f : A → List ℕ) (xs : List A) → length xs ≡ 0 → flat_map f xs ≡ []
no_text f [] e = refl
no_text f (x ∷ xs) e = absurd (omega arith)

-- what is left of the room, while each item takes its text of it
module _ {A F : Type 0} (f : A → List ℕ) (turn : F × ℕ → Bor A → F × ℕ → Type 0)
    (takes : (p : F × ℕ) (x : Bor A) (q : F × ℕ) → turn p x q → q.1 + length (f x.now) ≡ p.1) where
  left_over :
      (s t : Iter A) (xs : List (Bor A)) (p q : F × ℕ)
      → Yields fronts s xs t
      → FoldsTo turn p xs q
      → length (flat_map f s.rest.now) + q.1 ≡ p.1 + length (flat_map f t.rest.now)
  left_over s t [] p q same done =
      omega (arith, ap (λ (i : Iter A). length (flat_map f i.rest.now)) same, ap (λ (z : F × ℕ). z.1) done)
  left_over s t (x ∷ xs) p q (j, step, more) (r, turned, done) =
      let here = ap (λ l. length (flat_map f l)) step in
      omega (
        arith,
        here,
        length-append (f x.now) (flat_map f j.rest.now),
        takes p x r turned,
        left_over j t xs r q more done,
      )

  -- the room left is answered once all items have taken theirs, and none once one of them finds too little
  pub room_settled :
      (s u : Iter A) (xs : List (Bor A)) (o : Option (Bor A)) (p q : F × ℕ) (r : Option ℕ)
      (Stop : Bor A → Type 0)
      → ((x : Bor A) → Stop x → (length (f x.now) ≤ q.1 → ⊥) × (r ≡ None))
      → YieldsThen fronts s xs o u
      → FoldsTo turn p xs q
      → MatchOption o (r ≡ Some q.1) Stop
      → SomeIff r (length (flat_map f s.rest.now) ≤ p.1) (p.1 - length (flat_map f s.rest.now))
  room_settled s u xs None p q r Stop stops (t, before, (empty, same)) done end =
      let none = ap length (no_text f t.rest.now empty) in
      let left = left_over s t xs p q before done in
      rw end (omega (arith, none, left), omega (arith, none, left))
  room_settled s u xs (Some x) p q r Stop stops (t, before, step) done stop =
      let here = ap (λ l. length (flat_map f l)) step in
      let left = left_over s t xs p q before done in
      let short = stops x stop in
      rw short.1 (λ fits.
      short.0 (omega (arith, here, length-append (f x.now) (flat_map f u.rest.now), left, fits)))
