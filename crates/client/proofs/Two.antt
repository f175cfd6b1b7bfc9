-- Two nexts of one fresh walk: what they tell, and that their marks differ.
use Rattle.std.proofs.Common.{◌≡◌, ℕ, Bool, true, false, ◌&&◌, T, List, length, take, Ok, Err, Result, refl, sym, ap, ◌∙◌, subst, inl}
use Rattle.refusal.specs.declared.Refusal.{Refusal}
use Rattle.formula.specs.Trees.{Sheet}
use Rattle.marks.specs.Sets.{Marks}
use Rattle.walk.specs.declared.answer.Answer.{Answer}
use Rattle.walk.specs.declared.answer.Answer.TheVariants as answer
use Rattle.walk.specs.declared.answer.Answer.TheVariants.{Mark}
use Rattle.walk.specs.Watching.{Watched, Fresh}
use Rattle.walk.specs.declared.state.Walk.{Walk}
use Rattle.walk.specs.Calls.{Lent, lent, Nexts}
use Rattle.walk.specs.Lending.{watch_over, lent_in}
use Rattle.run.specs.declared.lists.Lists.{Lists as Borrowed}
use Rattle.run.specs.Lists.{SameLists}
use Rattle.walk.specs.Law.{Law, none, next}
use Rattle.client.specs.Sessions.{issues, TwoNexts}

-- a mark was issued where a test says so
pub issued_is : (r : Result Answer Refusal) (b : Bool) → b ≡ issues r → T b → r ≡ Ok Mark
issued_is (Ok answer.Mark) b e t = refl
issued_is (Ok answer.DeadEnd) b e t = absurd (subst T e t)
issued_is (Ok answer.Spent) b e t = absurd (subst T e t)
issued_is (Ok answer.Finished) b e t = absurd (subst T e t)
issued_is (Err d) b e t = absurd (subst T e t)

and_both : (p q : Bool) → T (p && q) → T p × T q
and_both true true t = (t, t)
and_both true false t = absurd t
and_both false q t = absurd t

-- and both where a test says so of both
pub both_issued :
    (q r : Result Answer Refusal) (b : Bool) → b ≡ (issues q && issues r) → T b → (q ≡ Ok Mark) × (r ≡ Ok Mark)
both_issued q r b e t =
    let k = and_both (issues q) (issues r) (subst T e t) in
    (issued_is q (issues q) refl k.0, issued_is r (issues r) refl k.1)

pub two_nexts :
    (s : Sheet) (n n₁ fuel : ℕ) (S : Marks) (before l : Borrowed) (c : List ℕ) (both : Bool) (w : Walk)
    (v v' : Watched) (q r : Result Answer Refusal) (a b b' : List ℕ)
    → w.fuel ≡ fuel
    → Fresh (watch_over w S before)
    → Nexts s n (watch_over w S before) (lent_in before) q v a
    → n₁ ≡ n
    → SameLists before l
    → Nexts s n₁ v (lent (length l.goals.now) (length l.frames.now) c) r v' b
    → b' ≡ b
    → both ≡ (issues q && issues r)
    → TwoNexts s n fuel S before c both a b'
two_nexts s n n₁ fuel S before l c both w v v' q r a b b' f fresh p o own h back told =
    let x : lent (length l.goals.now) (length l.frames.now) c
    ≡ lent (length before.goals.now) (length before.frames.now) c =
    ap (λ k. lent k (length l.frames.now) c) own.goals_long
    ∙ ap (λ k. lent (length before.goals.now) k c) own.frames_long in
    record {
      walk = w;
      fuel_is = f;
      fresh = fresh;
      one = q;
      between = v;
      first_next = p;
      two = r;
      after = v';
      second_next =
          subst (λ (k : Lent). Nexts s n v k r v' b') x
          (subst (λ (k : ℕ). Nexts s k v (lent (length l.goals.now) (length l.frames.now) c) r v' b') o
          (subst (λ m. Nexts s n₁ v (lent (length l.goals.now) (length l.frames.now) c) r v' m) (sym back) h));
      told = told;
    }

pub two_apart :
    (s : Sheet) (n n₁ : ℕ) (w v v' : Watched) (x y : Lent) (q r : Result Answer Refusal) (a b b' : List ℕ)
    → Law s n w
    → Nexts s n w x q v a
    → n₁ ≡ n
    → Nexts s n₁ v y r v' b
    → q ≡ Ok Mark
    → r ≡ Ok Mark
    → b' ≡ b
    → take n a ≡ take n b'
    → ⊥
two_apart s n n₁ w v v' x y q r a b b' law p e o g h back same =
    let first = subst (λ (z : Result Answer Refusal). Nexts s n w x z v a) g p in
    let second =
    subst (λ (z : Result Answer Refusal). Nexts s n v y z v' b) h (subst (λ (k : ℕ). Nexts s k v y r v' b) e o) in
    (law.no_mark_twice (next (next none x (Ok Mark) a first) y (Ok Mark) b second)).0 (inl (same ∙ ap (take n) back))
