-- Known and unknown fields, and what a comparison keeps.
use Rattle.std.proofs.Common.{◌≡◌, ℕ, true, false, eqb, [], ◌∷◌, length, get_or, Ok, Err, Result, sym, refl, ap, ◌∙◌, subst, inl}
use Rattle.std.proofs.lemmas.Bool.{and_from, and_parts, eqb-true, eq-eqb}
use Rattle.marks.specs.Sets.{Marks}
use Rattle.marks.specs.Counted.{some}
use Rattle.formula.specs.declared.Comparison.{Comparison}
use Rattle.formula.specs.Comparing.{holds}
use Rattle.meaning.specs.Traces.{Trace}
use Rattle.marks.specs.Sets.{kept, Empty}
use Rattle.meaning.specs.Matching.{the_field, the_number, Settles, number, known, chosen, Unknown, LeavesOne, left_first, at_most_one, passing}
use Rattle.meaning.specs.Matching.{Argument}
use Rattle.meaning.specs.Comparisons.{Is}
use Rattle.formula.specs.Comparing.{mirrored}
use Rattle.marks.proofs.Counted.{in_get_or}
use Rattle.meaning.proofs.Values.{values_one, in_one}
use Rattle.meaning.proofs.Comparisons.{comparings}
use Rattle.run.specs.declared.goal.Argument.{Argument as Held}
use Rattle.run.specs.declared.stop.Stop.{Stop}
use Rattle.run.specs.declared.stop.Stop.TheVariants.{DeadEnd, Spent, Halted}
use Rattle.run.specs.Ways.{Way, Took, Fits}
use Rattle.run.specs.Frames.{argument_of}
use Rattle.run.specs.Settling.{Settled, Settling}
use Rattle.run.specs.Comparing.{LeavingOne, Narrowed, Related}
use Rattle.marks.specs.Sets.{MarksOf}
use Rattle.marks.proofs.Counted.{none_empty}
use Rattle.run.proofs.Ways.{took_map, took_none, halt_map}

pub known_not : (S : Marks) (a : Argument) (v : ℕ) → Is S a v → Unknown S a → ⊥
known_not S (the_number n) v p u = u
known_not S (the_field f) v V (vs, W, n) = n (sym (ap length (values_one S f (v ∷ []) vs V W)))

pub settled_known : {S P : Marks} {a : Argument} {t : Trace} {v : ℕ} → Settles S a t P v → Is P a v
settled_known number = refl
settled_known (known V) = V
settled_known {S = S} (chosen {f = f} {vs = vs} k V n l) =
    let v = get_or vs k 0 in
    record {
      ascending = ((λ y i. absurd i), tt);
      all = λ m h. inl (eqb-true _ _ (and_parts (S m) (eqb (get_or m f 0) v) h).1);
      only = λ x i h. V.only v (in_get_or vs k l) (λ m g q. h m (and_from _ _ g (eq-eqb _ _ q))
          (q ∙ in_one v x i));
    }

module _ (w : ℕ) (S : Marks) (a : Argument) (s : Comparison) (b : Argument) (z : Way) where
  -- one side is a field that is kept
  kept_by :
      (Q P : Marks) (y : Way) (f : ℕ) (s' : Comparison) (n : ℕ) (r : Result Unit Stop)
      → MarksOf w P
      → Took z (λ t. LeavesOne S a b t Q) y
      → Narrowed w Q f s' n r P
      → passing Q s a b ≡ kept Q f s' n
      → Related w S a s b z r P y
  kept_by Q P y f s' n (Ok u) sh k h e = record { took = took_map (λ t m. (Q, m, h.is ∙ sym e)) k; alive = h.lives }
  kept_by Q P y f s' n (Err DeadEnd) sh k h e =
      took_map (λ t m. (Q, m, subst Empty (h.is ∙ sym e) (none_empty w P sh h.lives))) k
  kept_by Q P y f s' n (Err Spent) sh k h e = absurd h.lives
  kept_by Q P y f s' n (Err Halted) sh k h e = absurd h.lives

  -- two known sides
  pub both_pass :
      (n m : ℕ) → Is S a n → Is S b m → true ≡ holds s n m → some w S ≡ true → Related w S a s b z (Ok tt) S z
  both_pass n m p q h x = record {
    took = took_none (S, at_most_one (λ u v. known_not S a n p u), sym ((comparings S s).two_pass a b n m p q (sym h)));
    alive = x;
  }

  pub both_fail :
      (n m : ℕ) → Is S a n → Is S b m → false ≡ holds s n m → Related w S a s b z (Err DeadEnd) S z
  both_fail n m p q h = took_none
      (S, at_most_one (λ u v. known_not S a n p u), (comparings S s).two_fail a b n m p q (sym h))

  module _ (P : Marks) (sh : MarksOf w P) (f n : ℕ) (r : Result Unit Stop) where
    -- the left is known
    pub right_kept :
        (s' : Comparison)
        → Is S a n
        → b ≡ the_field f
        → s' ≡ mirrored s
        → Narrowed w S f s' n r P
        → Related w S a s b z r P z
    right_kept s' p q e h =
        kept_by S P z f s' n r sh (took_none (at_most_one (λ u v. known_not S a n p u))) h
        (subst (λ c. passing S s a c ≡ kept S f s' n) (sym q)
        (subst (λ c. passing S s a (the_field f) ≡ kept S f c n) (sym e) ((comparings S s).right_field a f n p)))

    -- the right is known
    pub left_kept :
        a ≡ the_field f → Is S b n → Narrowed w S f s n r P → Related w S a s b z r P z
    left_kept q p h =
        kept_by S P z f s n r sh (took_none (at_most_one (λ u v. known_not S b n p v))) h
        (subst (λ c. passing S s c b ≡ kept S f s n) (sym q) ((comparings S s).left_field f b n p))

-- settling the left leaves at most one unknown field, where the right is one
leaves_settled :
    {S P : Marks} {a b : Argument} {t : Trace} {v : ℕ} → Unknown S b → Settles S a t P v → LeavesOne S a b t P
leaves_settled q number = at_most_one (λ u v. u)
leaves_settled {S = S} {a = a} {v = v} q (known V) = at_most_one (λ u w. known_not S a v V u)
leaves_settled {S = S} q (chosen {f = f} {vs = vs} k V n l) = left_first (vs, V, n) q (chosen k V n l)

-- of two unknown fields the left is settled
module _ (w : ℕ) (S : Marks) (z : Way) (a : Held) (s : Comparison) (b : Argument) (q : Unknown S b) where
  pub settled_kept :
      (Q P : Marks) (y : Way) (f v : ℕ) (s' : Comparison) (r : Result Unit Stop)
      → MarksOf w P
      → Settled w S a z (Ok v) Q y
      → b ≡ the_field f
      → s' ≡ mirrored s
      → Narrowed w Q f s' v r P
      → Related w S (argument_of a) s b z r P y
  settled_kept Q P y f v s' r sh k is e h =
      let known = settled_known k.took.does in
      kept_by w S (argument_of a) s b z Q P y f s' v r sh (took_map (λ t m. leaves_settled q m) k.took) h
      (subst (λ c. passing Q s (argument_of a) c ≡ kept Q f s' v) (sym is)
      (subst (λ c. passing Q s (argument_of a) (the_field f) ≡ kept Q f c v) (sym e)
      ((comparings Q s).right_field (argument_of a) f v known)))

  pub settled_halt :
      (i : Stop) (P : Marks) (y : Way) → Settled w S a z (Err i) P y
      → Related w S (argument_of a) s b z (Err i) P y
  settled_halt i P y h = subst (λ k. Related w S (argument_of a) s b z (Err k) P y) (sym h.is)
      (halt_map (λ t m. (m.0, leaves_settled q m.2)) h.at)

  pub settle_fits : Fits z (LeavingOne S (argument_of a) b) → Fits z (Settling S (argument_of a))
  settle_fits h = record { room = λ t m. h.room t (m.0, leaves_settled q m.2) }
