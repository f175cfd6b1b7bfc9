-- What reading a line gives, from what its parts give.
use Rattle.std.proofs.Common.{◌≡◌, ℕ, List, [], ◌∷◌, ◌++◌, map, length, Ok, Err, sym, refl, ap, ◌∙◌, subst, arith}
use Rattle.refusal.specs.declared.Fault.{Fault}
use Rattle.refusal.specs.Table as table
use Rattle.grammar.specs.declared.table.Word.{Word as WordEntry}
use Rattle.grammar.specs.declared.table.Number.{Number as NumberEntry}
use Rattle.grammar.specs.declared.token.Class.{Class}
use Rattle.grammar.specs.declared.token.Class.TheVariants as class
use Rattle.grammar.specs.declared.token.Ahead.{Ahead}
use Rattle.grammar.specs.declared.table.Table.{Table}
use Rattle.grammar.specs.declared.formula_part.Part.{Part}
use Rattle.grammar.specs.declared.few.Few.{Few}
use Rattle.grammar.specs.declared.body.Body.{Body}
use Rattle.grammar.specs.declared.line.Head.{Head}
use Rattle.grammar.specs.Syntax.{Word, Number, Formula, Field, field_line, Rule, rule_line, Mark, mark_line, sheet}
use Rattle.grammar.specs.Grammar.{Tok, field, rule, mark, semicolon, at, Tokens, Listed, IsName, a_name, any, formula, Reads, IsField, a_field, IsRule, a_rule, IsMark, a_mark}
use Rattle.grammar.specs.Tables.{word_of, Holds}
use Rattle.grammar.specs.Moves.{Shape, opening_sign, semicolon_sign, colon_sign, is_opening, is_semicolon, is_colon, Line, of_rule, of_mark, whole, State, expects, fields, rules, ended, names, a_unit, more, rule_body, Need, Move, asked, line_rule, line_mark, next_join, rule_end, mark_end, Halts, goes_on, halts_token, halts_end, place_of}
use Rattle.grammar.specs.Parsing.{Read, Left, Says, says_mark, Seen, no_token, a_token, Peeked, Stopped, Outcome, IsNumber, a_number, NameRead, NumberRead, NamesRead, Holds4, FirstIs, first_is, Expected, NoJoin, FormulaRead, entered, Grown, Entered, HeadIs, a_head, HeadRead, after_line, BodyIs, a_body, BodyRead, Lines, FieldKept, FieldRead, BodyHeld, RuleKept, RuleRead, NotFirst, MarkKept, MarkRead}
use Rattle.grammar.proofs.Bracketed.{listed_as}
use Rattle.grammar.proofs.Leaves.{refused_at, seen_as}
use Rattle.grammar.proofs.Keeping.{lines_grown}

-- A sign that is asked for

first_goes :
    {k : Shape} {s : State} {n : ℕ} {xs us r : Tokens}
    → FirstIs k xs us
    → Halts s us n r
    → Halts (expects k s) xs n r
first_goes (first_is i) h = goes_on (asked i) tt h

not_expected :
    {k : Shape} {s : State} (xs : Tokens)
    → ((us : Tokens) → FirstIs k xs us → ⊥)
    → Halts (expects k s) xs 4 xs
not_expected [] z = halts_end tt
not_expected (at t p ∷ xs) z = halts_token (λ n u m. not_this m z)
  where
    not_this :
        {k : Shape} {s u : State} {t : Tok} {n : Need}
        → Move (expects k s) t n u
        → ((us : Tokens) → FirstIs k (at t p ∷ xs) us → ⊥)
        → ⊥
    not_this (asked i) z = z xs (first_is i)

expected_stops :
    {text : List ℕ} {k : Shape} {p : ℕ} {f : Fault}
    → Expected text p k (Err f)
    → (xs : Tokens)
    → Left text p xs
    → Stopped text State (expects k) xs f
expected_stops {k = k} {f = f} h xs l =
    let y = h xs l in
    record {
      rest = xs;
      there = y.1;
      halts = λ s. subst (λ n. Halts (expects k s) xs n xs) (sym y.0) (not_expected xs y.2);
    }

-- The head of a rule

head_item :
    {text : List ℕ} (head : Head) {xs rs us ws zs : Tokens} (all : List WordEntry)
    → Holds4 WordEntry head.params all
    → IsName xs rs (word_of text head.name)
    → FirstIs opening_sign rs us
    → Listed Word IsName us ws (map (word_of text) all)
    → FirstIs colon_sign ws zs
    → HeadIs text head xs zs
head_item head all h a_name (first_is is_opening) l (first_is is_colon) = a_head all refl h l

module _ (text : List ℕ) (p : ℕ) (w : Read WordEntry) (h : NameRead text p (Ok w)) where
  pub no_opening : (f : Fault) → Expected text w.end opening_sign (Err f) → HeadRead text p (Err f)
  no_opening f e xs l =
      let v = h.2 xs l in
      let s = expected_stops e v.rest v.remains in
      record {
        rest = s.rest;
        there = s.there;
        halts = λ _. v.goes (expects opening_sign (names rule_body)) _ _ (s.halts (names rule_body));
      }

  module _ (o : ℕ) (g : Expected text w.end opening_sign (Ok o)) where
    pub no_params : (f : Fault) → NamesRead text o (Err f) → HeadRead text p (Err f)
    no_params f e xs l =
        let v = h.2 xs l in
        let y = g.2 v.rest v.remains in
        let s = e y.0 y.2 in
        record {
          rest = s.rest;
          there = s.there;
          halts =
              λ _. v.goes (expects opening_sign (names rule_body)) _ _
              (first_goes y.1 (s.halts rule_body));
        }

    module _ (ps : Read (Few WordEntry)) (u : NamesRead text o (Ok ps)) where
      pub no_colon : (f : Fault) → Expected text ps.end colon_sign (Err f) → HeadRead text p (Err f)
      no_colon f e xs l =
          let v = h.2 xs l in
          let y = g.2 v.rest v.remains in
          let n = u.2 y.0 y.2 in
          let s = expected_stops e n.rest n.remains in
          record {
            rest = s.rest;
            there = s.there;
            halts = λ _. v.goes (expects opening_sign (names rule_body)) _ _
                (first_goes y.1 (n.goes rule_body _ _ (s.halts (a_unit 16 any (whole of_rule)))));
          }

      pub head_read :
          (e : ℕ)
          → Expected text ps.end colon_sign (Ok e)
          → HeadRead text p (Ok (record { value = record { name = w.value; params = ps.value }; end = e }))
      head_read e c = (
        omega (arith, h.0, g.0, u.0, c.0),
        c.1,
        λ xs l.
            let v = h.2 xs l in
            let y = g.2 v.rest v.remains in
            let n = u.2 y.0 y.2 in
            let z = c.2 n.rest n.remains in
            record {
              rest = z.0;
              remains = z.2;
              goes = λ _ k r q. v.goes (expects opening_sign (names rule_body)) k r
                  (first_goes y.1 (n.goes rule_body k r (first_goes z.1 q)));
              item = head_item _ n.item.0 n.item.1 v.item y.1 (listed_as (word_of text) n.item.2) z.1;
            },
      )

-- The formula of a line

ends_line :
    (n : Line) {k : ℕ} {xs us r : Tokens}
    → FirstIs semicolon_sign xs us
    → Halts (after_line n) us k r
    → Halts (more any (whole n)) xs k r
ends_line of_rule (first_is is_semicolon) h = goes_on rule_end tt h
ends_line of_mark (first_is is_semicolon) h = goes_on mark_end tt h

not_ended :
    (n : Line) (xs : Tokens)
    → NoJoin xs
    → ((us : Tokens) → FirstIs semicolon_sign xs us → ⊥)
    → Halts (more any (whole n)) xs 4 xs
not_ended n [] j z = halts_end tt
not_ended n (at t p ∷ xs) j z = halts_token (λ k u m. due m j z)
  where
    due :
        {n : Line} {t : Tok} {k : Need} {u : State}
        → Move (more any (whole n)) t k u
        → NoJoin (at t p ∷ xs)
        → ((us : Tokens) → FirstIs semicolon_sign (at t p ∷ xs) us → ⊥)
        → ⊥
    due next_join j z = j _ p xs refl
    due rule_end j z = z xs (first_is is_semicolon)
    due mark_end j z = z xs (first_is is_semicolon)

body_item :
    {text : List ℕ} {b a : Table} (part : Part) {xs zs us : Tokens} {f : Formula}
    → Reads (formula any) 16 xs zs f
    → Entered text b a part f
    → FirstIs semicolon_sign zs us
    → BodyIs text b a part xs us
body_item part r e (first_is is_semicolon) = a_body r e

module _ (text : List ℕ) (p : ℕ) (b a : Table) where
  pub formula_stops : (f : Fault) → FormulaRead text 16 any p b a (Err f) → BodyRead text p b a (Err f)
  formula_stops f h xs l =
      let s = h xs l in record { rest = s.rest; there = s.there; halts = λ n. s.halts (whole n, refl) }

  module _ (x : Read Part) (h : FormulaRead text 16 any p b a (Ok x)) where
    pub no_semicolon :
        (f : Fault)
        → Expected text x.end semicolon_sign (Err f)
        → BodyRead text p b a (Err f)
    no_semicolon f e xs l =
        let v = h.2 xs l in
        let y = e v.rest v.remains in
        record {
          rest = v.rest;
          there = y.1;
          halts = λ n. v.goes (whole n, refl) _ _
              (subst (λ k. Halts (more any (whole n)) v.rest k v.rest) (sym y.0)
              (not_ended n v.rest v.item.1 y.2));
        }

    pub body_read :
        (s e : ℕ)
        → s ≡ entered b
        → Expected text x.end semicolon_sign (Ok e)
        → Outcome text p Line (λ n. a_unit 16 any (whole n)) after_line Part
        (λ part xs us. (s ≡ entered b) × BodyIs text b a part xs us) (Ok (record { value = x.value; end = e }))
    body_read s e is g = (
      omega (arith, h.0, g.0),
      g.1,
      λ xs l.
          let v = h.2 xs l in
          let y = g.2 v.rest v.remains in
          let f = v.item.0 in
          record {
            rest = y.0;
            remains = y.2;
            goes = λ n k r q. v.goes (whole n, refl) k r (ends_line n y.1 q);
            item = (is, body_item x.value f.1 f.2 y.1);
          },
    )

-- Field lines

field_item :
    {i : ℕ} {w : Word} {l h : Number} {xs r s t us : Tokens}
    → IsName xs r w
    → IsNumber r s l
    → IsNumber s t h
    → FirstIs semicolon_sign t us
    → IsField (at field i ∷ xs) us (field_line i w l h)
field_item a_name a_number a_number (first_is is_semicolon) = a_field

module _
    (text : List ℕ) (p : ℕ) (w : Read WordEntry) (lo hi : Read NumberEntry) (h : NameRead text p (Ok w))
    (g : NumberRead text w.end (Ok lo)) (k : NumberRead text lo.end (Ok hi)) where
  pub field_stops :
      (i : ℕ) (b a : Table) (f : Fault)
      → Expected text hi.end semicolon_sign (Err f)
      → FieldRead text p i b a (Err f)
  field_stops i b a f e xs l =
      let v = h.2 xs l in
      let x = g.2 v.rest v.remains in
      let y = k.2 x.rest x.remains in
      let s = expected_stops e y.rest y.remains in
      record {
        rest = s.rest;
        there = s.there;
        halts =
            λ _. v.goes _ _ _ (x.goes _ _ _ (y.goes (expects semicolon_sign fields) _ _ (s.halts fields)));
      }

  pub field_read :
      (i e : ℕ) (b a : Table)
      → Expected text hi.end semicolon_sign (Ok e)
      → FieldKept b a (record { first = i; name = w.value; low = lo.value; high = hi.value })
      → FieldRead text p i b a (Ok e)
  field_read i e b a q kept = (
    omega (arith, h.0, g.0, k.0, q.0),
    q.1,
    λ xs l.
        let v = h.2 xs l in
        let x = g.2 v.rest v.remains in
        let y = k.2 x.rest x.remains in
        let z = q.2 y.rest y.remains in
        record {
          rest = z.0;
          remains = z.2;
          goes =
              λ _ n r u. v.goes _ n r (x.goes _ n r (y.goes (expects semicolon_sign fields) n r
              (first_goes z.1 u)));
          item = (_, field_item v.item x.item y.item z.1, λ fs u. kept text fs u);
        },
  )

-- Rule lines

body_held :
    {text : List ℕ} {b a : Table} (part : Part) {f : Formula}
    → Entered text b a part f
    → BodyHeld text a (entered b) part f
body_held part e = record { sized = e.sized; joined = e.joined; held = e.held }

rule_item :
    {text : List ℕ} {b m a : Table} (i : ℕ) (head : Head) (part : Part) {xs zs us : Tokens}
    → Grown b m
    → RuleKept m a i head (entered b) part
    → HeadIs text head xs zs
    → BodyIs text b m part zs us
    → (f : Rule) × IsRule (at rule i ∷ xs) us f
    × ((fs : List Field) (rs : List Rule) → Lines text b fs rs → Lines text a fs (rs ++ f ∷ []))
rule_item {text} {a = a} i head part g kept (a_head all e few l) (a_body {f = f} r en) = (
  rule_line i _ (map (word_of text) all) f,
  a_rule l r,
  λ fs rs h.
      subst (λ w. Lines text a fs (rs ++ rule_line i w (map (word_of text) all) f ∷ [])) e
      (kept text fs rs all f (lines_grown text g h) g.grows few (body_held part en)),
)

module _ (text : List ℕ) (p i : ℕ) (b : Table) where
  module _ (hd : Read Head) (h : HeadRead text p (Ok hd)) where
    pub body_stops :
        (m : Table) (f : Fault)
        → BodyRead text hd.end b m (Err f)
        → RuleRead text p i b b (Err f)
    body_stops m f k xs l =
        let v = h.2 xs l in
        let s = k v.rest v.remains in
        record { rest = s.rest; there = s.there; halts = λ _. v.goes tt _ _ (s.halts of_rule) }

    pub rule_read :
        {m a : Table} (x : Read Body)
        → Grown b m
        → BodyRead text hd.end b m (Ok x)
        → RuleKept m a i hd.value x.value.start x.value.part
        → RuleRead text p i b a (Ok x.end)
    rule_read {m} {a} x g k kept = (
      omega (arith, h.0, k.0),
      k.1,
      λ xs l.
          let v = h.2 xs l in
          let w = k.2 v.rest v.remains in
          record {
            rest = w.rest;
            remains = w.remains;
            goes = λ _ n r q. v.goes tt n r (w.goes of_rule n r q);
            item = rule_item i hd.value x.value.part g
                (subst (λ s. RuleKept m a i hd.value s x.value.part) w.item.0 kept) v.item w.item.1;
          },
    )

-- The mark line

not_a_rule :
    {text : List ℕ} {k : Class} {i : ℕ} {t : Tok} {n : Need} {u : State}
    → Move rules t n u
    → (t ≡ rule → ⊥)
    → (k ≡ class.Mark → ⊥)
    → Says text k t i
    → ⊥
not_a_rule line_rule y z s = y refl
not_a_rule line_mark y z says_mark = z refl

mark_item :
    {text : List ℕ} {b m a : Table} (q : ℕ) (part : Part) {us zs : Tokens}
    → Grown b m
    → MarkKept m a q (entered b) part
    → BodyIs text b m part us zs
    → zs ≡ []
    → (f : Mark) × IsMark (at mark q ∷ us) [] f
    × ((fs : List Field) (rs : List Rule) → Lines text b fs rs → Holds text a (sheet fs rs f))
mark_item {text} q part {us} g kept (a_body {e = e} {f = f} r en) z = (
  mark_line q f,
  a_mark (subst (λ v. Reads (formula any) 16 us (at semicolon e ∷ v) f) z r),
  λ fs rs h. kept text fs rs f (lines_grown text g h) (body_held part en),
)

end_of : {text : List ℕ} {q e : ℕ} {xs : Tokens} → Seen text xs class.End q e → xs ≡ []
end_of (no_token g) = refl
end_of (a_token s l) = elim s [ ]

pub body_at :
    (text : List ℕ) (p q : ℕ) (b a : Table) (x : Read Body)
    → p ≡ q
    → BodyRead text p b a (Ok x)
    → BodyRead text q b a (Ok x)
body_at text p q b a x e o = subst (λ z. BodyRead text z b a (Ok x)) e o

pub body_at_stops :
    (text : List ℕ) (p q : ℕ) (b : Table) (f : Fault)
    → p ≡ q
    → BodyRead text p b b (Err f)
    → BodyRead text q b b (Err f)
body_at_stops text p q b f e o = subst (λ z. BodyRead text z b b (Err f)) e o

module _ (text : List ℕ) (p : ℕ) (b : Table) (h : Ahead) (k : Peeked text p h) where
  mark_stopped :
      {c : Class} {q e : ℕ} {xs : Tokens} (f : Fault)
      → f ≡ refused_at q
      → (c ≡ class.Mark → ⊥)
      → NotFirst rule xs
      → Seen text xs c q e
      → Stopped text (Unit {0}) (λ _. rules) xs f
  mark_stopped f g z y (no_token n) = record {
    rest = [];
    there = ap (λ v. v.place) g ∙ n;
    halts = λ _. subst (λ v. Halts rules [] (table.number v.refusal) []) (sym g) (halts_end tt);
  }
  mark_stopped f g z y (a_token {t = t} {p = q} {xs = us} s l) = record {
    rest = at t q ∷ us;
    there = ap (λ v. v.place) g;
    halts = λ _. subst (λ v. Halts rules (at t q ∷ us) (table.number v.refusal) (at t q ∷ us)) (sym g)
        (halts_token (λ n u m. not_a_rule m (λ e. y q us (ap (λ v. at v q ∷ us) e)) z s));
  }

  pub no_mark :
      (f : Fault)
      → f ≡ refused_at h.place
      → (h.class ≡ class.Mark → ⊥)
      → MarkRead text p b b (Err f)
  no_mark f g z xs l y = mark_stopped f g z y (k.seen xs l)

  module _ (is : h.class ≡ class.Mark) where
    mark_body_stopped :
        {q e : ℕ} {xs : Tokens} (f : Fault)
        → BodyRead text e b b (Err f)
        → Seen text xs class.Mark q e
        → Stopped text (Unit {0}) (λ _. rules) xs f
    mark_body_stopped f o (a_token {xs = us} says_mark l) =
        let s = o us l in
        record {
          rest = s.rest;
          there = s.there;
          halts = λ _. goes_on line_mark tt (s.halts of_mark);
        }

    pub mark_body_stops : (f : Fault) → BodyRead text h.end b b (Err f) → MarkRead text p b b (Err f)
    mark_body_stops f o xs l y = mark_body_stopped f o (seen_as text p h k is xs l)

    module _
        {m : Table} (x : Read Body) (o : BodyRead text h.end b m (Ok x)) (g : Ahead)
        (u : Peeked text x.end g) where
      after_end :
          {c : Class} {q e : ℕ} {zs : Tokens}
          → (c ≡ class.End → ⊥)
          → Seen text zs c q e
          → (q ≡ place_of (length text) zs) × Halts ended zs 4 zs
      after_end z (no_token n) = absurd (z refl)
      after_end z (a_token s l) = (refl, halts_token (λ n u m. elim m [ ]))

      more_stopped :
          {q : ℕ} {xs : Tokens} (f : Fault)
          → f ≡ refused_at g.place
          → (g.class ≡ class.End → ⊥)
          → Seen text xs class.Mark q h.end
          → Stopped text (Unit {0}) (λ _. rules) xs f
      more_stopped f e z (a_token {xs = us} says_mark l) =
          let v = o.2 us l in
          let y = after_end z (u.seen v.rest v.remains) in
          record {
            rest = v.rest;
            there = ap (λ w. w.place) e ∙ y.0;
            halts = λ _. goes_on line_mark tt (v.goes of_mark _ _
                (subst (λ w. Halts ended v.rest (table.number w.refusal) v.rest) (sym e) y.1));
          }

      pub more_stops :
          (f : Fault)
          → f ≡ refused_at g.place
          → (g.class ≡ class.End → ⊥)
          → MarkRead text p b b (Err f)
      more_stops f e z xs l y = more_stopped f e z (seen_as text p h k is xs l)

      mark_came :
          {a : Table} {q : ℕ} {xs : Tokens}
          → Grown b m
          → MarkKept m a q x.value.start x.value.part
          → g.class ≡ class.End
          → Seen text xs class.Mark q h.end
          → (f : Mark) × IsMark xs [] f
          × ((fs : List Field) (rs : List Rule) → Lines text b fs rs → Holds text a (sheet fs rs f))
      mark_came {a} gr kept e (a_token {p = q} {xs = us} says_mark l) =
          let v = o.2 us l in
          mark_item q x.value.part gr (subst (λ s. MarkKept m a q s x.value.part) v.item.0 kept) v.item.1 (end_of (seen_as text x.end g u e v.rest v.remains))

      pub mark_read :
          {a : Table}
          → Grown b m
          → MarkKept m a h.place x.value.start x.value.part
          → g.class ≡ class.End
          → (xs : Tokens) → Left text p xs
          → (f : Mark) × IsMark xs [] f
          × ((fs : List Field) (rs : List Rule) → Lines text b fs rs → Holds text a (sheet fs rs f))
      mark_read gr kept e xs l = mark_came gr kept e (seen_as text p h k is xs l)
