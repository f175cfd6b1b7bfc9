-- What reading a term gives, from what its tokens give.
use Rattle.std.proofs.Common.{◌≡◌, ℕ, ◌≤◌, List, ◌∷◌, length, Ok, Err, Result, sym, refl, subst, arith, ap, ◌∙◌}
use Rattle.refusal.specs.declared.Fault.{Fault}
use Rattle.grammar.specs.declared.table.Word.{Word as WordEntry}
use Rattle.grammar.specs.declared.table.Number.{Number as NumberEntry}
use Rattle.grammar.specs.Tables.{TermEntry}
use Rattle.formula.specs.declared.term.Term.TheVariants as entry
use Rattle.formula.specs.declared.term.Shift.{Shift}
use Rattle.formula.specs.declared.term.Shift.TheVariants.{Up, Down}
use Rattle.grammar.specs.declared.token.Class.{Class}
use Rattle.grammar.specs.declared.token.Class.TheVariants as class
use Rattle.grammar.specs.declared.token.Ahead.{Ahead}
use Rattle.grammar.specs.Syntax.{Word, word, num, constant, bare, raised, lowered}
use Rattle.grammar.specs.Grammar.{Tok, name, number, plus, minus, at, Tokens, IsTerm, a_constant, a_bare, a_sum, a_difference}
use Rattle.grammar.specs.Tables.{word_of, term_of}
use Rattle.grammar.specs.Moves.{State, term, summed, NoSum, term_number, term_name, sum_plus, sum_minus, no_sum, Halts, goes_on, halts_token, halts_deep, halts_mixed, halts_end}
use Rattle.grammar.specs.Parsing.{Read, Says, says_name, says_number, says_field, says_rule, says_mark, says_not, says_pick, says_join, says_sign, says_opening, says_closing, says_comma, says_semicolon, says_colon, says_plus, says_minus, Seen, no_token, a_token, Peeked, Stopped, Came, IsNumber, a_number, NumberRead, TermRead, SumRead, ShiftedRead}
use Rattle.grammar.proofs.Next.{not_summed}
use Rattle.grammar.proofs.Leaves.{no, refused_at, Stuck, stops, real, seen_as}

-- what is stopped after an item is stopped before it
pub then_stops :
    {text : List ℕ} {C : Type 0} {before after : C → State} {xs : Tokens} {q : ℕ} {Item : Tokens → Type 0}
    {f : Fault}
    (v : Came text C before after xs q Item)
    → Stopped text C after v.rest f
    → Stopped text C before xs f
then_stops v s = record { rest = s.rest; there = s.there; halts = λ c. v.goes c _ _ (s.halts c) }

-- a token that is no sum leaves a term as it is
says_no_sum :
    {text : List ℕ} {k : Class} {t : Tok} {i : ℕ}
    → (k ≡ class.Plus → ⊥)
    → (k ≡ class.Minus → ⊥)
    → Says text k t i
    → NoSum t
says_no_sum z y (says_name g) = tt
says_no_sum z y says_number = tt
says_no_sum z y says_field = tt
says_no_sum z y says_rule = tt
says_no_sum z y says_mark = tt
says_no_sum z y says_not = tt
says_no_sum z y says_pick = tt
says_no_sum z y says_join = tt
says_no_sum z y says_sign = tt
says_no_sum z y says_opening = tt
says_no_sum z y says_closing = tt
says_no_sum z y says_comma = tt
says_no_sum z y says_semicolon = tt
says_no_sum z y says_colon = tt
says_no_sum z y says_plus = z refl
says_no_sum z y says_minus = y refl

halts_summed :
    {s : State} {t : Tok} {p n : ℕ} {xs r : Tokens}
    → NoSum t
    → Halts s (at t p ∷ xs) n r
    → Halts (summed s) (at t p ∷ xs) n r
halts_summed h (goes_on m a k) = goes_on (no_sum h m) a k
halts_summed h (halts_token z) = halts_token (λ n u m. not_summed h z m)
halts_summed h (halts_deep m e) = halts_deep (no_sum h m) e
halts_summed h (halts_mixed m e) = halts_mixed (no_sum h m) e

-- no sum stands there
falls :
    {text : List ℕ} {k : Class} {q e n : ℕ} {s : State} {xs r : Tokens}
    → (k ≡ class.Plus → ⊥)
    → (k ≡ class.Minus → ⊥)
    → Seen text xs k q e
    → Halts s xs n r
    → Halts (summed s) xs n r
falls z y (no_token g) (halts_end h) = halts_end tt
falls z y (a_token s l) h = halts_summed (says_no_sum z y s) h

module _ (text : List ℕ) where
  constant_came :
      {m q e : ℕ} {xs : Tokens}
      → Seen text xs (class.Number m) q e
      → Came text State term (λ s. s) xs e (λ us. IsTerm xs us (constant m))
  constant_came (a_token says_number l) =
      record { rest = _; remains = l; goes = λ s n r k. goes_on term_number tt k; item = a_constant }

  named_came :
      {v : WordEntry} (x : Read TermEntry) {q e : ℕ} {xs : Tokens}
      → SumRead text e v (Ok x)
      → Seen text xs (class.Name v) q e
      → Came text State term (λ s. s) xs x.end (λ us. IsTerm xs us (term_of text x.value))
  named_came x h (a_token {xs = us} (says_name g) l) =
      let m = h.2 us l in
      record {
        rest = m.rest;
        remains = m.remains;
        goes = λ s n r k. goes_on term_name tt (m.goes s n r k);
        item = m.item _ _ g;
      }

  named_stopped :
      {v : WordEntry} {f : Fault} {q e : ℕ} {xs : Tokens}
      → SumRead text e v (Err f)
      → Seen text xs (class.Name v) q e
      → Stopped text State term xs f
  named_stopped h (a_token {xs = us} (says_name g) l) =
      let m = h us l in
      record {
        rest = m.rest;
        there = m.there;
        halts = λ s. goes_on term_name tt (m.halts s);
      }

  no_term :
      {k : Class}
      → ((v : WordEntry) → k ≡ class.Name v → ⊥)
      → ((m : ℕ) → k ≡ class.Number m → ⊥)
      → (s : State)
      → Stuck text k (term s)
  no_term z y s t i n u term_number says_number = y _ refl
  no_term z y s t i n u term_name (says_name g) = z _ refl

  raised_item :
      {x : Word} {m i q j : ℕ} {w : List ℕ} {us r : Tokens}
      → IsNumber us r (num m i)
      → x ≡ word w j
      → IsTerm (at (name w) j ∷ at plus q ∷ us) r (raised x m)
  raised_item {q = q} {j = j} {w = w} (a_number {n = m} {p = i} {r = r}) g =
      subst (λ z. IsTerm (at (name w) j ∷ at plus q ∷ at (number m) i ∷ r) r (raised z m)) (sym g) a_sum

  lowered_item :
      {x : Word} {m i q j : ℕ} {w : List ℕ} {us r : Tokens}
      → IsNumber us r (num m i)
      → x ≡ word w j
      → IsTerm (at (name w) j ∷ at minus q ∷ us) r (lowered x m)
  lowered_item {q = q} {j = j} {w = w} (a_number {n = m} {p = i} {r = r}) g =
      subst (λ z. IsTerm (at (name w) j ∷ at minus q ∷ at (number m) i ∷ r) r (lowered z m)) (sym g)
      a_difference

  -- what a sum is read to
  abbrev SumCame : WordEntry → TermEntry → Tokens → ℕ → Type 0
  SumCame v t xs e = Came text State summed (λ s. s) xs e (λ us.
      (w : List ℕ) (i : ℕ) → word_of text v ≡ word w i → IsTerm (at (name w) i ∷ xs) us (term_of text t))

  raised_came :
      (v : WordEntry) (x : Read NumberEntry) {q e : ℕ} {xs : Tokens}
      → NumberRead text e (Ok x)
      → Seen text xs class.Plus q e
      → SumCame v (entry.Moved v (Up x.value.value)) xs x.end
  raised_came v x h (a_token {xs = us} says_plus l) =
      let m = h.2 us l in
      record {
        rest = m.rest;
        remains = m.remains;
        goes = λ s n r k. goes_on sum_plus tt (m.goes s n r k);
        item = λ w i g. raised_item m.item g;
      }

  lowered_came :
      (v : WordEntry) (x : Read NumberEntry) {q e : ℕ} {xs : Tokens}
      → NumberRead text e (Ok x)
      → Seen text xs class.Minus q e
      → SumCame v (entry.Moved v (Down x.value.value)) xs x.end
  lowered_came v x h (a_token {xs = us} says_minus l) =
      let m = h.2 us l in
      record {
        rest = m.rest;
        remains = m.remains;
        goes = λ s n r k. goes_on sum_minus tt (m.goes s n r k);
        item = λ w i g. lowered_item m.item g;
      }

  plus_stopped :
      {f : Fault} {q e : ℕ} {xs : Tokens}
      → NumberRead text e (Err f)
      → Seen text xs class.Plus q e
      → Stopped text State summed xs f
  plus_stopped h (a_token {xs = us} says_plus l) =
      let m = h us l in
      record {
        rest = m.rest;
        there = m.there;
        halts = λ s. goes_on sum_plus tt (m.halts s);
      }

  minus_stopped :
      {f : Fault} {q e : ℕ} {xs : Tokens}
      → NumberRead text e (Err f)
      → Seen text xs class.Minus q e
      → Stopped text State summed xs f
  minus_stopped h (a_token {xs = us} says_minus l) =
      let m = h us l in
      record {
        rest = m.rest;
        there = m.there;
        halts = λ s. goes_on sum_minus tt (m.halts s);
      }

module _ (text : List ℕ) (p : ℕ) (a : Ahead) (h : Peeked text p a) where
  pub constant_read :
      (m : ℕ)
      → a.class ≡ class.Number m
      → TermRead text p (Ok (record { value = entry.Number m; end = a.end }))
  constant_read m is =
      let r = real text p a h (λ e. no (cc)) in
      (r.0, r.1, λ xs l. constant_came text (seen_as text p a h is xs l))

  pub named_read :
      (v : WordEntry) (r : Result (Read TermEntry) Fault)
      → a.class ≡ class.Name v
      → SumRead text a.end v r
      → TermRead text p r
  named_read v (Ok x) is k =
      let r = real text p a h (λ e. no (cc)) in
      (omega (arith, r.0, k.0), k.1, λ xs l. named_came text x k (seen_as text p a h is xs l))
  named_read v (Err f) is k = λ xs l. named_stopped text k (seen_as text p a h is xs l)

  pub term_stops :
      (f : Fault)
      → f ≡ refused_at a.place
      → ((v : WordEntry) → a.class ≡ class.Name v → ⊥)
      → ((m : ℕ) → a.class ≡ class.Number m → ⊥)
      → TermRead text p (Err f)
  term_stops f e z y xs l = stops term f e (h.seen xs l) (λ s. tt) (no_term text z y)

  raised_read :
      (v : WordEntry) (x : Read NumberEntry)
      → a.class ≡ class.Plus
      → NumberRead text a.end (Ok x)
      → SumRead text p v (Ok (record { value = entry.Moved v (Up x.value.value); end = x.end }))
  raised_read v x is k =
      let r = real text p a h (λ e. no (cc)) in
      (omega (arith, r.0, k.0), k.1, λ xs l. raised_came text v x k (seen_as text p a h is xs l))

  lowered_read :
      (v : WordEntry) (x : Read NumberEntry)
      → a.class ≡ class.Minus
      → NumberRead text a.end (Ok x)
      → SumRead text p v (Ok (record { value = entry.Moved v (Down x.value.value); end = x.end }))
  lowered_read v x is k =
      let r = real text p a h (λ e. no (cc)) in
      (omega (arith, r.0, k.0), k.1, λ xs l. lowered_came text v x k (seen_as text p a h is xs l))

  plus_stops :
      (v : WordEntry) (f : Fault)
      → a.class ≡ class.Plus
      → NumberRead text a.end (Err f)
      → SumRead text p v (Err f)
  plus_stops v f is k xs l = plus_stopped text k (seen_as text p a h is xs l)

  minus_stops :
      (v : WordEntry) (f : Fault)
      → a.class ≡ class.Minus
      → NumberRead text a.end (Err f)
      → SumRead text p v (Err f)
  minus_stops v f is k xs l = minus_stopped text k (seen_as text p a h is xs l)

  pub raised_by :
      (made : ℕ → Shift → Type 0) (v : WordEntry) (r : Result (Read TermEntry) Fault)
      → a.class ≡ class.Plus
      → ((m : ℕ) (s : Shift) → made m s → s ≡ Up m)
      → ShiftedRead made text a.end v r
      → SumRead text p v r
  raised_by made v (Ok x) is makes (n, s, m, k, e) =
      let whole : x ≡ record { value = entry.Moved v (Up n.value.value); end = n.end } =
      e ∙ ap (λ z. record { value = entry.Moved v z; end = n.end }) (makes _ s m) in
      subst (λ y. SumRead text p v (Ok y)) (sym whole) (raised_read v n is k)
  raised_by made v (Err f) is makes k = plus_stops v f is k

  pub lowered_by :
      (made : ℕ → Shift → Type 0) (v : WordEntry) (r : Result (Read TermEntry) Fault)
      → a.class ≡ class.Minus
      → ((m : ℕ) (s : Shift) → made m s → s ≡ Down m)
      → ShiftedRead made text a.end v r
      → SumRead text p v r
  lowered_by made v (Ok x) is makes (n, s, m, k, e) =
      let whole : x ≡ record { value = entry.Moved v (Down n.value.value); end = n.end } =
      e ∙ ap (λ z. record { value = entry.Moved v z; end = n.end }) (makes _ s m) in
      subst (λ y. SumRead text p v (Ok y)) (sym whole) (lowered_read v n is k)
  lowered_by made v (Err f) is makes k = minus_stops v f is k

  pub bare_read :
      (v : WordEntry)
      → p ≤ length text
      → (a.class ≡ class.Plus → ⊥)
      → (a.class ≡ class.Minus → ⊥)
      → SumRead text p v (Ok (record { value = entry.Bare v; end = p }))
  bare_read v le z y = (
    omega arith,
    le,
    λ xs l. record {
      rest = xs;
      remains = l;
      goes = λ s n r k. falls z y (h.seen xs l) k;
      item = λ w i g. subst (λ b. IsTerm (at (name w) i ∷ xs) xs (bare b)) (sym g) a_bare;
    },
  )
