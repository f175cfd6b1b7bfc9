-- A mark reads in one way; its calls are the fuel used; more fuel changes nothing that was not spent.
use Rattle.std.proofs.Common.{◌≡◌, ℕ, zero, suc, ◌+◌, ◌-◌, ◌<◌, ◌≤◌, Bool, true, false, ◌≢◌, List, [], map, sym, refl, ap, ◌∙◌, subst, subst₂, not-suc-le-zero, arith, rules}
use mathlib.Core.Bool.{Bool-discrete}
use borrow.Author.Tests.{clash}
use Rattle.formula.specs.declared.Join.{Join}
use Rattle.formula.specs.Trees.{Formula, compare, call, negate, pick, join, Rule, Sheet}
use Rattle.meaning.specs.Terms.{ranges_of, rules_of, mark_line, body, value, wants}
use Rattle.meaning.specs.Reading.{Answer, said, ran_out, left, turned, Reads, tells, called, uncalled}
use Rattle.meaning.specs.Reading.{turns, picked, left_out, left_only, right_too, calls_made, ranged}
use Rattle.meaning.specs.Reading.{Verdict, allowed, not_allowed, spent, verdict, Checks, out_of_range}
use Rattle.meaning.specs.Reading.{in_range, Allowed}
use Rattle.meaning.specs.ReadingLaws.{FormulasRead, CallsSpend, Checkings}

-- Answers

pub out_not_said : (b : Bool) (k : ℕ) → ran_out ≡ said b k → ⊥
out_not_said b k p = cc

pub said_result : {b c : Bool} {k l : ℕ} → said b k ≡ said c l → b ≡ c
said_result p = cc

pub said_left : {b c : Bool} {k l : ℕ} → said b k ≡ said c l → k ≡ l
said_left p = cc

left_turned : (a : Answer) → left (turned a) ≡ left a
left_turned (said b k) = refl
left_turned ran_out = refl

-- One answer

module _ (rules : List Rule) (m : List ℕ) where
  pub one_answer :
      {e : List ℕ} {F : Formula} {n : ℕ} {a c : Answer}
      → Reads rules m e F n a → Reads rules m e F n c → a ≡ c
  one_answer tells tells = refl
  one_answer (called p) (called q) = one_answer p q
  one_answer uncalled uncalled = refl
  one_answer (turns p) (turns q) = ap turned (one_answer p q)
  one_answer (picked p) (picked q) = one_answer p q
  one_answer (left_out p) (left_out q) = refl
  one_answer (left_out p) (left_only n q) = absurd (out_not_said _ _ (one_answer p q))
  one_answer (left_out p) (right_too j q r) = absurd (out_not_said _ _ (one_answer p q))
  one_answer (left_only n p) (left_out q) = absurd (out_not_said _ _ (sym (one_answer p q)))
  one_answer (left_only n p) (left_only o q) = one_answer p q
  one_answer (left_only n p) (right_too j q r) = absurd (n (said_result (one_answer p q) ∙ j))
  one_answer (right_too j p r) (left_out q) = absurd (out_not_said _ _ (sym (one_answer p q)))
  one_answer (right_too j p r) (left_only n q) = absurd (n (sym (said_result (one_answer p q)) ∙ j))
  one_answer {e} {c} (right_too {G = G} j p r) (right_too h q s) =
      one_answer r (subst (λ (k : ℕ). Reads rules m e G k c) (sym (said_left (one_answer p q))) s)

  pub one_result :
      {e : List ℕ} {F : Formula} {n k l : ℕ} {b c : Bool}
      → Reads rules m e F n (said b k) → Reads rules m e F n (said c l) → b ≡ c
  one_result p q = said_result (one_answer p q)

-- The calls made

module _ (rules : List Rule) (m : List ℕ) where
  pub calls_spend :
      {e : List ℕ} {F : Formula} {n : ℕ} {a : Answer} (r : Reads rules m e F n a) → calls_made r + left a ≡ n
  calls_spend tells = omega arith
  calls_spend (called r) = let h = calls_spend r in omega arith
  calls_spend uncalled = omega arith
  calls_spend (turns {a = a} r) = let h = calls_spend r in omega (arith, left_turned a)
  calls_spend (picked r) = calls_spend r
  calls_spend (left_out r) = calls_spend r
  calls_spend (left_only h r) = calls_spend r
  calls_spend (right_too h r q) =
      let p = calls_spend r in
      let s = calls_spend q in
      omega arith

  pub same_calls :
      {e : List ℕ} {F : Formula} {n : ℕ} {a c : Answer}
      (r : Reads rules m e F n a) (q : Reads rules m e F n c) → calls_made r ≡ calls_made q
  same_calls r q =
      let h = calls_spend r in
      let g = calls_spend q in
      omega (arith, ap left (one_answer rules m r q))

-- Some answer, by the fuel and then the formula

module _ (rules : List Rule) (m : List ℕ) where
  abbrev Read : ℕ → Formula → Type 0
  Read n F = (e : List ℕ) → (a : Answer) × Reads rules m e F n a

  join_read :
      (n : ℕ) (j : Join) (v w : ℕ) (F G : Formula) → Read n F → ((k : ℕ) → k ≤ n → Read k G)
      → Read n (join j v w F G)
  join_read n j v w F G first second e = let r = first e in go r.0 r.1
    where
      side :
          (b : Bool) (k : ℕ) → Reads rules m e F n (said b k) → Dec (b ≡ wants j)
          → (a : Answer) × Reads rules m e (join j v w F G) n a
      side b k r (yes p) =
          let h = calls_spend rules m r in
          let q = second k (omega arith) e in
          (q.0, right_too p r q.1)
      side b k r (no p) = (said b k, left_only p r)

      go : (a : Answer) → Reads rules m e F n a → (a : Answer) × Reads rules m e (join j v w F G) n a
      go (said b k) r = side b k r (Bool-discrete b (wants j))
      go ran_out r = (ran_out, left_out r)

  step : (n : ℕ) → ((k : ℕ) → k < n → (F : Formula) → Read k F) → (F : Formula) (k : ℕ) → k ≤ n → Read k F
  step n ih (compare l c r) k h = λ e. (_, tells)
  step n ih (call r ts) zero h = λ e. (ran_out, uncalled)
  step n ih (call r ts) (suc k) h =
      λ e. (let q = ih k h (body rules r) (map (value m e) ts) in (q.0, called q.1))
  step n ih (negate F) k h = λ e. (let q = step n ih F k h e in (turned q.0, turns q.1))
  step n ih (pick x F) k h = λ e. (let q = step n ih F k h e in (q.0, picked q.1))
  step n ih (join j v w F G) k h =
      join_read k j v w F G (step n ih F k h) (λ i g. step n ih G i (omega arith))

  some_answer : (n : ℕ) (F : Formula) (k : ℕ) → k ≤ n → Read k F
  some_answer zero F k h = step zero (λ k g F. absurd (not-suc-le-zero g)) F k h
  some_answer (suc n) F k h = step (suc n) (λ k g F. some_answer n F k (omega arith)) F k h

pub formulas_read : FormulasRead
formulas_read =
    λ rules m e F n.
    (let q = some_answer rules m n F n (omega arith) e in (q.0, q.1, λ c r. one_answer rules m r q.1))

pub all_calls_spend : CallsSpend
all_calls_spend = λ rules m e F n a r. calls_spend rules m r

-- One more fuel

-- the answer with one more fuel left
abbrev raised : Answer → Answer
raised (said b k) = said b (suc k)
raised ran_out = ran_out

raised_turned : (a : Answer) → turned (raised a) ≡ raised (turned a)
raised_turned (said b k) = refl
raised_turned ran_out = refl

turned_out : (a : Answer) → (turned a ≢ ran_out) → a ≢ ran_out
turned_out a n p = n (ap turned p)

said_not_out : (b : Bool) (k : ℕ) → said b k ≢ ran_out
said_not_out b k p = out_not_said b k (sym p)

module _ (rules : List Rule) (m : List ℕ) where
  one_more :
      {e : List ℕ} {F : Formula} {n : ℕ} {a : Answer}
      → Reads rules m e F n a → a ≢ ran_out → Reads rules m e F (suc n) (raised a)
  one_more tells h = tells
  one_more (called r) h = called (one_more r h)
  one_more uncalled h = absurd (h refl)
  one_more {e} {n} (turns {F = F} {a = a} r) h =
      subst (λ (c : Answer). Reads rules m e (negate F) (suc n) c) (raised_turned a)
      (turns (one_more r (turned_out a h)))
  one_more (picked r) h = picked (one_more r h)
  one_more (left_out r) h = absurd (h refl)
  one_more (left_only p r) h = left_only p (one_more r h)
  one_more (right_too {b = b} {k = k} p r q) h = right_too p (one_more r (said_not_out b k)) (one_more q h)

left_raised : (a : Answer) → a ≢ ran_out → left (raised a) ≡ suc (left a)
left_raised (said b k) h = refl
left_raised ran_out h = absurd (h refl)

verdict_raised : (a : Answer) → verdict (raised a) ≡ verdict a
verdict_raised = search rules

-- Checks

module _ (s : Sheet) (m : List ℕ) where
  some_check : (fuel : ℕ) → (v : Verdict) × (c : ℕ) × Checks s m fuel v c
  some_check fuel = go (ranged (ranges_of s) 0 m) refl
    where
      go : (b : Bool) → ranged (ranges_of s) 0 m ≡ b → (v : Verdict) × (c : ℕ) × Checks s m fuel v c
      go true p =
          let q = formulas_read (rules_of s) m [] (mark_line s) fuel in
          (verdict q.0, calls_made q.1, in_range p q.1)
      go false p = (not_allowed, 0, out_of_range p)

  one_check :
      {fuel : ℕ} {v w : Verdict} {c d : ℕ} → Checks s m fuel v c → Checks s m fuel w d → (v ≡ w) × (c ≡ d)
  one_check (out_of_range p) (out_of_range q) = (refl, refl)
  one_check (out_of_range p) (in_range q r) = absurd (clash (sym p ∙ q))
  one_check (in_range q r) (out_of_range p) = absurd (clash (sym p ∙ q))
  one_check (in_range p r) (in_range q u) =
      (ap verdict (one_answer (rules_of s) m r u), same_calls (rules_of s) m r u)

  few_calls : {fuel : ℕ} {v : Verdict} {c : ℕ} → Checks s m fuel v c → c ≤ fuel
  few_calls (out_of_range p) = omega arith
  few_calls (in_range p r) = let h = calls_spend (rules_of s) m r in omega arith

  not_spent : (a : Answer) → verdict a ≡ spent → a ≡ ran_out
  not_spent (said true k) p = absurd (cc)
  not_spent (said false k) p = absurd (cc)
  not_spent ran_out p = refl

  all_spent : {fuel : ℕ} {v : Verdict} {c : ℕ} → Checks s m fuel v c → v ≡ spent → c ≡ fuel
  all_spent (out_of_range p) h = absurd (cc)
  all_spent (in_range {a = a} p r) h =
      let g = calls_spend (rules_of s) m r in
      omega (arith, ap left (not_spent a h))

  check_more : {fuel : ℕ} {v : Verdict} {c : ℕ} → v ≢ spent → Checks s m fuel v c → Checks s m (suc fuel) v c
  check_more h (out_of_range p) = out_of_range p
  check_more {fuel} h (in_range {a = a} p r) =
      let said : a ≢ ran_out = λ q. h (ap verdict q) in
      let q = one_more (rules_of s) m r said in
      let g = calls_spend (rules_of s) m r in
      let i = calls_spend (rules_of s) m q in
      let e : calls_made q ≡ calls_made r = omega (arith, left_raised a said) in
      subst₂ (λ (v : Verdict) (c : ℕ). Checks s m (suc fuel) v c) (verdict_raised a) e (in_range p q)

  checks_more :
      (d : ℕ) {fuel : ℕ} {v : Verdict} {c : ℕ} → v ≢ spent → Checks s m fuel v c → Checks s m (d + fuel) v c
  checks_more zero {fuel} {v} {c} h x =
      let e : fuel ≡ 0 + fuel = omega arith in subst (λ (n : ℕ). Checks s m n v c) e x
  checks_more (suc d) {fuel} {v} {c} h x =
      let e : suc (d + fuel) ≡ suc d + fuel = omega arith in
      subst (λ (n : ℕ). Checks s m n v c) e (check_more h (checks_more d h x))

pub checkings : Checkings
checkings =
    λ s.
    record {
      some = some_check s;
      one = λ m fuel v w c d x y. one_check s m x y;
      few = λ m fuel v c x. few_calls s m x;
      all_spent = λ m fuel c x. all_spent s m x refl;
      more =
          λ m fuel more v c h g x. (let e : (more - fuel) + fuel ≡ more = omega arith in
          subst (λ (n : ℕ). Checks s m n v c) e (checks_more s m (more - fuel) h x));
    }

-- Allowed marks

abbrev pub ReadsTrue : Sheet → ℕ → List ℕ → Type 0
ReadsTrue s fuel m =
    (ranged (ranges_of s) 0 m ≡ true) × ((k : ℕ) × Reads (rules_of s) m [] (mark_line s) fuel (said true k))

module _ {s : Sheet} {fuel : ℕ} {m : List ℕ} where
  pub reads_allowed : ReadsTrue s fuel m → Allowed s fuel m
  reads_allowed x = (calls_made x.1.1, in_range x.0 x.1.1)

  pub allowed_reads : Allowed s fuel m → ReadsTrue s fuel m
  allowed_reads x = go x.1 refl
    where
      by_answer :
          (a : Answer) → Reads (rules_of s) m [] (mark_line s) fuel a → verdict a ≡ allowed
          → (k : ℕ) × Reads (rules_of s) m [] (mark_line s) fuel (said true k)
      by_answer (said true k) r h = (k, r)
      by_answer (said false k) r h = absurd (cc)
      by_answer ran_out r h = absurd (cc)

      go : {v : Verdict} {c : ℕ} → Checks s m fuel v c → v ≡ allowed → ReadsTrue s fuel m
      go (out_of_range p) h = absurd (cc)
      go (in_range {a = a} p r) h = (p, by_answer a r h)
