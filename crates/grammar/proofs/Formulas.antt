-- What reading a formula or a unit gives, from what its parts give.
use Rattle.std.proofs.Common.{◌≡◌, ℕ, ◌≤◌, List, ◌∷◌, length, Some, None, Ok, Err, Result, sym, refl, ap, subst, arith}
use Rattle.refusal.specs.declared.Fault.{Fault}
use Rattle.formula.specs.declared.Comparison.{Comparison}
use Rattle.formula.specs.declared.Join.{Join}
use Rattle.grammar.specs.declared.table.Word.{Word as WordEntry}
use Rattle.grammar.specs.declared.table.Number.{Number as NumberEntry}
use Rattle.grammar.specs.Tables.{TermEntry}
use Rattle.grammar.specs.declared.token.Class.{Class}
use Rattle.grammar.specs.declared.token.Class.TheVariants as class
use Rattle.grammar.specs.declared.token.Ahead.{Ahead}
use Rattle.grammar.specs.declared.table.Node.TheVariants as node
use Rattle.grammar.specs.declared.table.Table.{Table}
use Rattle.grammar.specs.declared.formula_part.Part.{Part}
use Rattle.grammar.specs.declared.few.Few.{Few}
use Rattle.grammar.specs.Syntax.{Word, word, num, Term, given, compared, called}
use Rattle.grammar.specs.Grammar as gram
use Rattle.grammar.specs.Grammar.{Tok, name, number, not, pick, join, sign, opening, closing, colon, at, Tokens, Listed, IsName, a_name, IsTerm, a_constant, IsWeights, no_weights, Level, any, only, Fits, strict, Kind, unit, formula, Reads, a_comparison, a_call, a_not, a_pick, brackets, alone}
use Rattle.grammar.specs.Tables.{word_of, number_of, term_of}
use Rattle.grammar.specs.Moves.{State, Is, is_sign, is_opening, opening_sign, expects, some_sign, Open, allowance, term, summed, a_unit, named, more, after_join, numbered, compared_with, Need, Move, asked, unit_number, unit_name, unit_not, unit_pick, unit_bracket, unit_call, unit_compares, join_number, join_name, join_opens, weight_colon, weight_none, Halts, goes_on, halts_token, halts_deep, halts_mixed, halts_end}
use Rattle.grammar.specs.Parsing.{Read, Left, Says, says_number, says_opening, says_colon, Seen, a_token, Peeked, Stopped, Came, IsNumber, a_number, IsSign, a_sign, NumberRead, SignRead, TermRead, SumRead, TermsRead, Pushed, FormulaIs, Measured, Around, ComparisonRead, CallRead, NamedRead, WeightsRead}
use Rattle.grammar.proofs.Next.{not_named, not_joined}
use Rattle.grammar.proofs.Bracketed.{listed_as}
use Rattle.grammar.proofs.Leaves.{no, real, seen_as}
use Rattle.grammar.proofs.Entering.{entered_comparison, entered_call}

-- from an earlier place
pub measured_from : (p q : ℕ) (r : Result (Read Part) Fault) → p ≤ q → Measured q r → Measured p r
measured_from p q (Ok x) le m = (m.0, omega (arith, m.1), m.2)
measured_from p q (Err f) le m = tt

-- Comparisons and calls

compared_item :
    {d : ℕ} {c : Comparison} {ys xs zs us : Tokens} {t u : Term}
    → IsSign xs zs c
    → IsTerm ys xs t
    → IsTerm zs us u
    → Reads unit d ys us (compared c t u)
compared_item a_sign t u = a_comparison t u

pub comparison_read :
    (text : List ℕ) (p : ℕ) (t : TermEntry) {b a : Table} (i : ℕ) (c : Read Comparison) (u : Read TermEntry)
    → SignRead text p (Ok c)
    → TermRead text c.end (Ok u)
    → Pushed b a (node.Compared c.value t u.value) i
    → ComparisonRead text p t b a (Ok (record
    { value = record { body = i; size = 1; joins = 0 }; end = u.end }))
comparison_read text p t i c u h k e = (
  omega (arith, h.0, k.0),
  k.1,
  λ xs l.
      let v = h.2 xs l in
      let w = k.2 v.rest v.remains in
      record {
        rest = w.rest;
        remains = w.remains;
        goes = λ o n r z. v.goes (term (more o.0 o.1)) n r (w.goes (more o.0 o.1) n r z);
        item =
            λ d zs x. (
              _,
              compared_item v.item x w.item,
              entered_comparison text c.value t u.value
                  e,
            );
      },
)

call_item :
    {d i q : ℕ} {x : Word} {w : List ℕ} {xs us : Tokens} {ts : List Term}
    → Listed Term IsTerm xs us ts
    → x ≡ word w i
    → Reads unit d (at (name w) i ∷ at opening q ∷ xs) us (called x ts)
call_item {d} {i} {q} {x} {w} {xs} {us} {ts} l g =
    subst (λ z. Reads unit d (at (name w) i ∷ at opening q ∷ xs) us (called z ts)) (sym g) (a_call l)

pub call_read :
    (text : List ℕ) (p : ℕ) (v : WordEntry) {b a : Table} (i : ℕ) (list : Read (Few TermEntry))
    → TermsRead text p (Ok list)
    → Pushed b a (node.Called v list.value) i
    → CallRead text p v b a (Ok (record { value = record { body = i; size = 1; joins = 0 }; end = list.end }))
call_read text p v i list h e = (
  h.0,
  h.1,
  λ xs l.
      let m = h.2 xs l in
      record {
        rest = m.rest;
        remains = m.remains;
        goes = λ o n r z. m.goes (more o.0 o.1) n r z;
        item =
            λ d w j q g. (
              _,
              call_item (listed_as (term_of text) m.item.2) g,
              entered_call text v list.value m.item.0
                  m.item.1 e,
            );
      },
)

-- Units that begin with a name

not_opening :
    {text : List ℕ} {k : Class} {t : Tok} {i : ℕ}
    → (k ≡ class.Opening → ⊥)
    → Is opening_sign t
    → Says text k t i
    → ⊥
not_opening z is_opening says_opening = z refl

halts_named :
    {text : List ℕ} {k : Class} {q e n : ℕ} {l : Level} {o : Open} {xs r : Tokens}
    → (k ≡ class.Opening → ⊥)
    → Seen text xs k q e
    → Halts (summed (compared_with l o)) xs n r
    → Halts (named l o) xs n r
halts_named z s (goes_on m a h) = goes_on (unit_compares m) a h
halts_named z (a_token s l) (halts_token h) = halts_token (λ n u m. not_named (λ i. not_opening z i s) h m)
halts_named z s (halts_deep m e) = halts_deep (unit_compares m) e
halts_named z s (halts_mixed m e) = halts_mixed (unit_compares m) e
halts_named z s (halts_end h) = halts_end tt

module _ (text : List ℕ) (p : ℕ) (h : Ahead) (k : Peeked text p h) (v : WordEntry) (b a : Table) where
  called_came :
      (x : Read Part) {q e : ℕ} {xs : Tokens}
      → CallRead text e v b a (Ok x)
      → Seen text xs class.Opening q e
      → Came text Around (λ c. named c.0 c.1) (λ c. more c.0 c.1) xs x.end
      (λ us. (d : ℕ) (w : List ℕ) (i : ℕ) → word_of text v ≡ word w i → FormulaIs text unit d b a
      x.value (at (name w) i ∷ xs) us)
  called_came x o (a_token {p = q} {xs = us} says_opening l) =
      let m = o.2 us l in
      record {
        rest = m.rest;
        remains = m.remains;
        goes = λ c n r z. goes_on unit_call tt (m.goes c n r z);
        item = λ d w i g. m.item d w i q g;
      }

  called_stopped :
      {f : Fault} {q e : ℕ} {xs : Tokens}
      → CallRead text e v b a (Err f)
      → Seen text xs class.Opening q e
      → Stopped text Around (λ c. named c.0 c.1) xs f
  called_stopped o (a_token {xs = us} says_opening l) =
      let m = o us l in
      record {
        rest = m.rest;
        there = m.there;
        halts = λ c. goes_on unit_call tt (m.halts c);
      }

  called_read :
      (r : Result (Read Part) Fault)
      → h.class ≡ class.Opening
      → CallRead text h.end v b a r
      → NamedRead text p v b a r
  called_read (Ok x) is o =
      let g = real text p h k (λ e. no (cc)) in
      (omega (arith, g.0, o.0), o.1, λ xs l. called_came x o (seen_as text p h k is xs l))
  called_read (Err f) is o = λ xs l. called_stopped o (seen_as text p h k is xs l)

  pub called_from :
      (e : ℕ) (r : Result (Read Part) Fault)
      → h.class ≡ class.Opening
      → e ≡ h.end
      → CallRead text e v b a r
      → NamedRead text p v b a r
  called_from e r is ended o = called_read r is (subst (λ z. CallRead text z v b a r) ended o)

  pub compared_read :
      (t : Read TermEntry) (r : Result (Read Part) Fault)
      → (h.class ≡ class.Opening → ⊥)
      → SumRead text p v (Ok t)
      → ComparisonRead text t.end t.value b a r
      → NamedRead text p v b a r
  compared_read t (Ok x) z s o = (
    omega (arith, s.0, o.0),
    o.1,
    λ xs l.
        let m = s.2 xs l in
        let w = o.2 m.rest m.remains in
        record {
          rest = w.rest;
          remains = w.remains;
          goes =
              λ c n r y. halts_named z (k.seen xs l) (m.goes (compared_with c.0 c.1) n r
              (w.goes c n r y));
          item = λ d u i g. w.item d _ (m.item u i g);
        },
  )
  compared_read t (Err f) z s o = λ xs l.
      let m = s.2 xs l in
      let w = o m.rest m.remains in
      record {
        rest = w.rest;
        there = w.there;
        halts = λ c. halts_named z (k.seen xs l) (m.goes (compared_with c.0 c.1) _ _ (w.halts c));
      }

  pub sum_stops :
      (f : Fault)
      → (h.class ≡ class.Opening → ⊥)
      → SumRead text p v (Err f)
      → NamedRead text p v b a (Err f)
  sum_stops f z s xs l =
      let m = s xs l in
      record {
        rest = m.rest;
        there = m.there;
        halts = λ c. halts_named z (k.seen xs l) (m.halts (compared_with c.0 c.1));
      }

-- Weights

-- the tokens do not begin with a number and a colon
abbrev NoWeights : Tokens → Type 0
NoWeights xs = (m i q : ℕ) (ys : Tokens) → xs ≡ at (number m) i ∷ at colon q ∷ ys → ⊥

not_numbered :
    {j : Join} {o : Open} {s u : State} {t : Tok} {n : Need}
    → (t ≡ colon → ⊥)
    → ((m : Need) (x : State) → Move (expects some_sign s) t m x → ⊥)
    → Move (numbered j o) t n u
    → ⊥
not_numbered z h weight_colon = z refl
not_numbered z h weight_none = h _ _ (asked is_sign)

halts_numbered :
    {j : Join} {o : Open} {n : ℕ} {xs r : Tokens}
    → ((q : ℕ) (ys : Tokens) → xs ≡ at colon q ∷ ys → ⊥)
    → Halts (compared_with (only j) o) xs n r
    → Halts (numbered j o) xs n r
halts_numbered z (goes_on (asked is_sign) a h) = goes_on weight_none a h
halts_numbered z (halts_token {p =
    p} {xs = xs} h) = halts_token (λ n u m. not_numbered (λ e. z p xs (ap (λ t. at t p ∷ xs) e)) h m)
halts_numbered z (halts_deep m e) = elim m [ ]
halts_numbered z (halts_mixed m e) = elim m [ ]
halts_numbered z (halts_end h) = halts_end tt

-- where no weights stand after a join, a unit stands there
halts_joined :
    {j : Join} {o : Open} {n : ℕ} {xs r : Tokens}
    → NoWeights xs
    → Halts (a_unit (allowance o) (only j) o) xs n r
    → Halts (after_join j o) xs n r
halts_joined z (goes_on {p = p} (unit_number {n = m}) a h) =
    goes_on join_number a (halts_numbered (λ q ys e. z m p q ys (ap (λ l. at (number m) p ∷ l) e)) h)
halts_joined z (goes_on unit_name a h) = goes_on join_name a h
halts_joined z (goes_on unit_not a h) = goes_on (join_opens unit_not) a h
halts_joined z (goes_on unit_pick a h) = goes_on (join_opens unit_pick) a h
halts_joined z (goes_on unit_bracket a h) = goes_on (join_opens unit_bracket) a h
halts_joined z (halts_token h) = halts_token (λ n u m. not_joined h m)
halts_joined z (halts_deep m e) = halts_deep (join_opens m) e
halts_joined z (halts_mixed m e) = elim m [ ]
halts_joined z (halts_end h) = halts_end tt

not_a_number :
    {text : List ℕ} {k : Class} {q e m i : ℕ} {zs : Tokens}
    → ((n : ℕ) → k ≡ class.Number n → ⊥)
    → Seen text (at (number m) i ∷ zs) k q e
    → ⊥
not_a_number z (a_token says_number l) = z _ refl

not_a_colon :
    {text : List ℕ} {k : Class} {q e i : ℕ} {zs : Tokens}
    → (k ≡ class.Colon → ⊥)
    → Seen text (at colon i ∷ zs) k q e
    → ⊥
not_a_colon z (a_token says_colon l) = z refl

tail_of : {x y : gram.Placed} {xs ys : Tokens} → x ∷ xs ≡ y ∷ ys → xs ≡ ys
tail_of e = cc

second_no_colon :
    {text : List ℕ} {m q e : ℕ} {xs : Tokens} (a : Ahead)
    → Peeked text e a
    → (a.class ≡ class.Colon → ⊥)
    → Seen text xs (class.Number m) q e
    → NoWeights xs
second_no_colon {text} a k z (a_token {xs = us} says_number l) m i q ys e =
    not_a_colon z (subst (λ v. Seen text v a.class a.place a.end) (tail_of e) (k.seen us l))

module _ (text : List ℕ) (p : ℕ) (h : Ahead) (k : Peeked text p h) where
  -- no weights stand there
  absent_from :
      p ≤ length text
      → ((xs : Tokens) → Left text p xs → NoWeights xs)
      → WeightsRead text p (Ok (record { value = None; end = p }))
  absent_from le z = (
    omega arith,
    le,
    λ xs l. record {
      rest = xs;
      remains = l;
      goes = λ c n r y. halts_joined (z xs l) y;
      item = no_weights;
    },
  )

  pub absent_read :
      p ≤ length text
      → ((m : ℕ) → h.class ≡ class.Number m → ⊥)
      → WeightsRead text p (Ok (record { value = None; end = p }))
  absent_read le z = absent_from le (λ xs l m i q ys e.
      not_a_number z (subst (λ v. Seen text v h.class h.place h.end) e (k.seen xs l)))

  module _ (m : ℕ) (is : h.class ≡ class.Number m) (g : Ahead) (u : Peeked text h.end g) where
    pub no_colon_read :
        p ≤ length text
        → (g.class ≡ class.Colon → ⊥)
        → WeightsRead text p (Ok (record { value = None; end = p }))
    no_colon_read le z = absent_from le (λ xs l. second_no_colon g u z (seen_as text p h k is xs l))

    given_item :
        {i q v w : ℕ} {us r : Tokens}
        → IsNumber us r (num v w)
        → IsWeights (at (number m) i ∷ at colon q ∷ us) r (given (num m i) (num v w))
    given_item a_number = gram.weights

    given_came :
        (x : Read NumberEntry) {i q e : ℕ} {us : Tokens}
        → NumberRead text e (Ok x)
        → Seen text us class.Colon q e
        → Came text (Join × Open) (λ c. after_join c.0 c.1)
        (λ c. a_unit (allowance c.1) (only c.0) c.1)
        (at (number m) i ∷ us) x.end (λ r. IsWeights (at (number m) i ∷ us) r
        (given (num m i) (number_of x.value)))
    given_came x o (a_token {xs = zs} says_colon l) =
        let v = o.2 zs l in
        record {
          rest = v.rest;
          remains = v.remains;
          goes = λ c n r z. goes_on join_number tt (goes_on weight_colon tt (v.goes _ n r z));
          item = given_item v.item;
        }

    given_stopped :
        {f : Fault} {i q e : ℕ} {us : Tokens}
        → NumberRead text e (Err f)
        → Seen text us class.Colon q e
        → Stopped text (Join × Open) (λ c. after_join c.0 c.1) (at (number m) i ∷ us) f
    given_stopped o (a_token {xs = zs} says_colon l) =
        let v = o zs l in
        record {
          rest = v.rest;
          there = v.there;
          halts = λ c. goes_on join_number tt (goes_on weight_colon tt (v.halts _));
        }

    both_came :
        (x : Read NumberEntry) {q : ℕ} {xs : Tokens}
        → g.class ≡ class.Colon
        → NumberRead text g.end (Ok x)
        → Seen text xs (class.Number m) q h.end
        → Came text (Join × Open) (λ c. after_join c.0 c.1)
        (λ c. a_unit (allowance c.1) (only c.0) c.1)
        xs x.end (λ r. IsWeights xs r (given (num m q) (number_of x.value)))
    both_came x colon_is o (a_token {xs =
        us} says_number l) = given_came x o (seen_as text h.end g u colon_is us l)

    both_stopped :
        {f : Fault} {q : ℕ} {xs : Tokens}
        → g.class ≡ class.Colon
        → NumberRead text g.end (Err f)
        → Seen text xs (class.Number m) q h.end
        → Stopped text (Join × Open) (λ c. after_join c.0 c.1) xs f
    both_stopped colon_is o (a_token {xs =
        us} says_number l) = given_stopped o (seen_as text h.end g u colon_is us l)

    pub given_read :
        (x : Read NumberEntry)
        → g.class ≡ class.Colon
        → NumberRead text g.end (Ok x)
        → WeightsRead text p (Ok (record {
          value = Some (record { left = record { value = m; place = h.place }; right = x.value });
          end = x.end;
        }))
    given_read x colon_is o =
        let r = real text p h k (λ e. no (cc)) in
        let s = real text h.end g u (λ e. no (cc)) in
        (omega (arith, r.0, s.0, o.0), o.1, λ xs l. both_came x colon_is o (seen_as text p h k is xs l))

    pub given_stops :
        (f : Fault)
        → g.class ≡ class.Colon
        → NumberRead text g.end (Err f)
        → WeightsRead text p (Err f)
    given_stops f colon_is o xs l = both_stopped colon_is o (seen_as text p h k is xs l)
