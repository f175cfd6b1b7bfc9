-- What reading the lines of a sheet gives: the sheet that they are, or where they are refused.
use Rattle.std.proofs.Common.{◌≡◌, ℕ, ◌≤◌, List, [], ◌∷◌, ◌++◌, length, None, Ok, Err, Result, sym, refl, ap, subst, append_assoc, append-nil, arith}
use Rattle.refusal.specs.declared.Fault.{Fault}
use Rattle.refusal.specs.Table as table
use Rattle.grammar.specs.declared.token.Class.{Class}
use Rattle.grammar.specs.declared.token.Class.TheVariants as class
use Rattle.grammar.specs.declared.token.Ahead.{Ahead}
use Rattle.grammar.specs.declared.table.Table.{Table}
use Rattle.grammar.specs.Syntax.{Field, Rule, sheet}
use Rattle.grammar.specs.Grammar.{Tok, field, rule, at, Tokens, IsField, IsRule, Many, done, line, IsSheet, a_sheet}
use Rattle.grammar.specs.Refusal.{Refused}
use Rattle.grammar.specs.Tables.{LinesAbove}
use Rattle.grammar.specs.Tokens.{tokens}
use Rattle.grammar.specs.Answers.{Parsed}
use Rattle.grammar.specs.Moves.{field_word, Is, is_field, State, expects, fields, rules, start, Need, Move, asked, line_field, no_field, line_rule, Halts, goes_on, halts_token, halts_deep, halts_mixed, halts_end}
use Rattle.grammar.specs.Parsing.{Left, left, Says, says_field, says_rule, Seen, a_token, Peeked, Stopped, Came, all_kept, Lines, FieldRead, RuleRead, NotFirst, MarkRead, FirstRead, FieldsSoFar, FieldsRead, RulesSoFar, RulesRead, parsed_to}
use Rattle.grammar.proofs.Next.{not_field}
use Rattle.grammar.proofs.Leaves.{no, from_passed, refused_at, stops, real, seen_as}
use Rattle.grammar.proofs.Verdict.{refused}
use Rattle.grammar.proofs.WellRead.{well_read_lem}
use Rattle.grammar.proofs.Places.{rises, small}

-- The first line

first_came :
    {text : List ℕ} {b a : Table} {q i e : ℕ} {xs : Tokens}
    → FieldRead text e i b a (Ok q)
    → Seen text xs class.Field i e
    → Came text (Unit {0}) (λ _. start) (λ _. fields) xs q (λ us.
    (f : Field) × IsField xs us f × ((fs : List Field) → Lines text b fs [] → Lines text a (fs ++ f ∷ []) []))
first_came h (a_token {xs = us} says_field l) =
    let v = h.2 us l in
    record {
      rest = v.rest;
      remains = v.remains;
      goes = λ _ n r k. goes_on (asked is_field) tt (v.goes tt n r k);
      item = v.item;
    }

first_stopped :
    {text : List ℕ} (b a : Table) {i e : ℕ} {xs : Tokens} {f : Fault}
    → FieldRead text e i b a (Err f)
    → Seen text xs class.Field i e
    → Stopped text (Unit {0}) (λ _. start) xs f
first_stopped b a h (a_token {xs = us} says_field l) =
    let s = h us l in
    record {
      rest = s.rest;
      there = s.there;
      halts = λ _. goes_on (asked is_field) tt (s.halts tt);
    }

no_first :
    {text : List ℕ} {k : Class} {s u : State} {t : Tok} {i : ℕ} {n : Need}
    → (k ≡ class.Field → ⊥)
    → Move (expects field_word s) t n u
    → Says text k t i
    → ⊥
no_first z (asked is_field) says_field = z refl

module _ (text : List ℕ) (p : ℕ) (h : Ahead) (k : Peeked text p h) where
  first_begun :
      (b a : Table) (r : Result ℕ Fault)
      → h.class ≡ class.Field
      → FieldRead text h.end h.place b a r
      → FirstRead text p b a r
  first_begun b a (Ok q) is o =
      let g = real text p h k (λ e. no (cc)) in
      (omega (arith, g.0, o.0), o.1, λ xs l. first_came o (seen_as text p h k is xs l))
  first_begun b a (Err f) is o = λ xs l. first_stopped b a o (seen_as text p h k is xs l)

  pub first_read :
      (b a : Table) (r : Result ℕ Fault) (i e : ℕ)
      → h.class ≡ class.Field
      → i ≡ h.place
      → e ≡ h.end
      → FieldRead text e i b a r
      → FirstRead text p b a r
  first_read b a r i e is there ended o =
      first_begun b a r is (from_passed h (λ e i. FieldRead text e i b a r) there ended o)

  pub first_stops :
      (b : Table) (f : Fault)
      → f ≡ refused_at h.place
      → (h.class ≡ class.Field → ⊥)
      → FirstRead text p b b (Err f)
  first_stops b f e z xs l = stops (λ _. start) f e (h_seen xs l) (λ c. tt) (λ c t i n u m s. no_first z m s)
    where
      h_seen : (xs : Tokens) → Left text p xs → Seen text xs h.class h.place h.end
      h_seen = k.seen

-- Lines of one kind, one after another

many_more :
    {A : Type 0} {Item : Tokens → Tokens → A → Type 0} {xs us zs : Tokens} {bs : List A} {a : A}
    → Many A Item xs us bs
    → Item us zs a
    → Many A Item xs zs (bs ++ a ∷ [])
many_more done i = line i done
many_more (line j m) i = line j (many_more m i)

-- the lines of a class, from the state s on
not_begun :
    {text : List ℕ} {k : Class} {q e i : ℕ} {xs : Tokens}
    → (k ≡ class.Field → ⊥)
    → Seen text (at field i ∷ xs) k q e
    → ⊥
not_begun z (a_token says_field l) = z refl

not_ruled :
    {text : List ℕ} {k : Class} {q e i : ℕ} {xs : Tokens}
    → (k ≡ class.Rule → ⊥)
    → Seen text (at rule i ∷ xs) k q e
    → ⊥
not_ruled z (a_token says_rule l) = z refl

module _ (text : List ℕ) (p : ℕ) (b : Table) where
  pub fields_none : p ≤ length text → FieldsSoFar text p b b p
  fields_none le = (
    omega arith,
    le,
    λ xs l. record {
      rest = xs;
      remains = l;
      goes = λ _ n r k. k;
      item = ([], done, λ gs h. subst (λ z. Lines text b z []) (sym (append-nil gs)) h);
    },
  )

  pub rules_none : p ≤ length text → RulesSoFar text p b b p
  rules_none le = (
    omega arith,
    le,
    λ xs l. record {
      rest = xs;
      remains = l;
      goes = λ _ n r k. k;
      item = ([], done, λ fs ps h. subst (λ z. Lines text b fs z) (sym (append-nil ps)) h);
    },
  )

  module _ (t : Table) (q : ℕ) (h : Ahead) (k : Peeked text q h) where
    field_more :
        {a : Table} {i e g : ℕ} {xs us : Tokens} {fs : List Field}
        → ((n : ℕ) (r : Tokens) → Halts fields us n r → Halts fields xs n r)
        → Many Field IsField xs us fs
        → ((gs : List Field) → Lines text b gs [] → Lines text t (gs ++ fs) [])
        → FieldRead text e i t a (Ok g)
        → Seen text us class.Field i e
        → Came text (Unit {0}) (λ _. fields) (λ _. fields) xs g (λ us.
        (fs : List Field) × Many Field IsField xs us fs ×
        ((gs : List Field) → Lines text b gs [] → Lines text a (gs ++ fs) []))
    field_more {a} {fs = fs} go m keep o (a_token {xs = zs} says_field l) =
        let v = o.2 zs l in
        let f = v.item in
        record {
          rest = v.rest;
          remains = v.remains;
          goes = λ _ n r z. go n r (goes_on line_field tt (v.goes tt n r z));
          item = (
            fs ++ f.0 ∷ [],
            many_more m f.1,
            λ gs z.
                subst (λ y. Lines text a y []) (append_assoc gs fs (f.0 ∷ [])) (f.2 (gs ++ fs) (keep gs z)),
          );
        }

    pub fields_more :
        {a : Table} (i e g : ℕ)
        → FieldsSoFar text p b t q
        → h.class ≡ class.Field
        → i ≡ h.place
        → e ≡ h.end
        → FieldRead text e i t a (Ok g)
        → FieldsSoFar text p b a g
    fields_more {a} i e g s is there ended m =
        let o = from_passed h (λ e i. FieldRead text e i t a (Ok g)) there ended m in
        let r = real text q h k (λ e. no (cc)) in (
          omega (arith, s.0, r.0, o.0),
          o.1,
          λ xs l.
              let v = s.2 xs l in
              let f = v.item in
              field_more (λ n r z. v.goes tt n r z) f.1 f.2 o
              (seen_as text q h k is v.rest v.remains),
        )

    pub fields_end : FieldsSoFar text p b t q → (h.class ≡ class.Field → ⊥) → FieldsRead text p b t (Ok q)
    fields_end s z = (
      s,
      λ xs l i ys e. not_begun z (subst (λ v. Seen text v h.class h.place h.end) e
          (k.seen xs l)),
    )

    field_stop :
        {i e : ℕ} {xs us : Tokens} {f : Fault}
        → ((n : ℕ) (r : Tokens) → Halts fields us n r → Halts fields xs n r)
        → FieldRead text e i t t (Err f)
        → Seen text us class.Field i e
        → Stopped text (Unit {0}) (λ _. fields) xs f
    field_stop go o (a_token {xs = zs} says_field l) =
        let s = o zs l in
        record {
          rest = s.rest;
          there = s.there;
          halts = λ _. go _ _ (goes_on line_field tt (s.halts tt));
        }

    pub fields_stop :
        (f : Fault) (i e : ℕ)
        → FieldsSoFar text p b t q
        → h.class ≡ class.Field
        → i ≡ h.place
        → e ≡ h.end
        → FieldRead text e i t t (Err f)
        → FieldsRead text p b b (Err f)
    fields_stop f i e s is there ended m xs l =
        let o = from_passed h (λ e i. FieldRead text e i t t (Err f)) there ended m in
        let v = s.2 xs l in
        field_stop (λ n r z. v.goes tt n r z) o (seen_as text q h k is v.rest v.remains)

    rule_more :
        {a : Table} {i e g : ℕ} {xs us : Tokens} {rs : List Rule}
        → ((n : ℕ) (r : Tokens) → Halts rules us n r → Halts rules xs n r)
        → Many Rule IsRule xs us rs
        → ((fs : List Field) (ps : List Rule) → Lines text b fs ps → Lines text t fs (ps ++ rs))
        → RuleRead text e i t a (Ok g)
        → Seen text us class.Rule i e
        → Came text (Unit {0}) (λ _. rules) (λ _. rules) xs g (λ us.
        (rs : List Rule) × Many Rule IsRule xs us rs
        × ((fs : List Field) (ps : List Rule) → Lines text b fs ps → Lines text a fs (ps ++ rs)))
    rule_more {a} {rs = rs} go m keep o (a_token {xs = zs} says_rule l) =
        let v = o.2 zs l in
        let f = v.item in
        record {
          rest = v.rest;
          remains = v.remains;
          goes = λ _ n r z. go n r (goes_on line_rule tt (v.goes tt n r z));
          item = (
            rs ++ f.0 ∷ [],
            many_more m f.1,
            λ fs ps z.
                subst (λ y. Lines text a fs y) (append_assoc ps rs (f.0 ∷ []))
                (f.2 fs (ps ++ rs) (keep fs ps z)),
          );
        }

    pub rules_more :
        {a : Table} (i e g : ℕ)
        → RulesSoFar text p b t q
        → h.class ≡ class.Rule
        → i ≡ h.place
        → e ≡ h.end
        → RuleRead text e i t a (Ok g)
        → RulesSoFar text p b a g
    rules_more {a} i e g s is there ended m =
        let o = from_passed h (λ e i. RuleRead text e i t a (Ok g)) there ended m in
        let r = real text q h k (λ e. no (cc)) in (
          omega (arith, s.0, r.0, o.0),
          o.1,
          λ xs l.
              let v = s.2 xs l in
              let f = v.item in
              rule_more (λ n r z. v.goes tt n r z) f.1 f.2 o
              (seen_as text q h k is v.rest v.remains),
        )

    pub rules_end : RulesSoFar text p b t q → (h.class ≡ class.Rule → ⊥) → RulesRead text p b t (Ok q)
    rules_end s z = (
      s,
      λ xs l i ys e. not_ruled z (subst (λ v. Seen text v h.class h.place h.end) e
          (k.seen xs l)),
    )

    rule_stop :
        {i e : ℕ} {xs us : Tokens} {f : Fault}
        → ((n : ℕ) (r : Tokens) → Halts rules us n r → Halts rules xs n r)
        → RuleRead text e i t t (Err f)
        → Seen text us class.Rule i e
        → Stopped text (Unit {0}) (λ _. rules) xs f
    rule_stop go o (a_token {xs = zs} says_rule l) =
        let s = o zs l in
        record {
          rest = s.rest;
          there = s.there;
          halts = λ _. go _ _ (goes_on line_rule tt (s.halts tt));
        }

    pub rules_stop :
        (f : Fault) (i e : ℕ)
        → RulesSoFar text p b t q
        → h.class ≡ class.Rule
        → i ≡ h.place
        → e ≡ h.end
        → RuleRead text e i t t (Err f)
        → RulesRead text p b b (Err f)
    rules_stop f i e s is there ended m xs l =
        let o = from_passed h (λ e i. RuleRead text e i t t (Err f)) there ended m in
        let v = s.2 xs l in
        rule_stop (λ n r z. v.goes tt n r z) o (seen_as text q h k is v.rest v.remains)

-- The whole sheet

-- where no field line stands, rule lines or the mark line are due
halts_fields : {n : ℕ} {xs r : Tokens} → NotFirst field xs → Halts rules xs n r → Halts fields xs n r
halts_fields z (goes_on m a h) = goes_on (no_field m) a h
halts_fields z (halts_token {t =
    t} {p = p} {xs = xs} h) = halts_token (λ n u m. not_field (λ i. not_this i z) h m)
  where
    not_this : {t : Tok} → Is field_word t → NotFirst field (at t p ∷ xs) → ⊥
    not_this is_field z = z p xs refl
halts_fields z (halts_deep m e) = halts_deep (no_field m) e
halts_fields z (halts_mixed m e) = halts_mixed (no_field m) e
halts_fields z (halts_end h) = halts_end tt

-- where the lines of a sheet halt, its tokens are refused
refuses :
    {text : List ℕ} {f : Fault}
    → ((xs : Tokens) → Left text 0 xs → Stopped text (Unit {0}) (λ _. start) xs f)
    → Parsed text (Err f)
refuses {text} {f} h ts cut =
    let s = h (tokens ts) (left cut) in
    subst (Refused (tokens ts) (length text) (table.number f.refusal)) (sym s.there)
    (refused (length text) (s.halts tt))

module _ (text : List ℕ) (b : Table) where
  pub parse_first : (f : Fault) → FirstRead text 0 b b (Err f) → Parsed text (Err f)
  parse_first f h = refuses h

  module _ (p : ℕ) (a : Table) (h : FirstRead text 0 b a (Ok p)) where
    pub parse_fields : (f : Fault) → FieldsRead text p a a (Err f) → Parsed text (Err f)
    parse_fields f k = refuses (λ xs l.
        let v = h.2 xs l in
        let s = k v.rest v.remains in
        record { rest = s.rest; there = s.there; halts = λ _. v.goes tt _ _ (s.halts tt) })

    module _ (q : ℕ) (c : Table) (g : FieldsRead text p a c (Ok q)) where
      pub parse_rules : (f : Fault) → RulesRead text q c c (Err f) → Parsed text (Err f)
      parse_rules f k = refuses (λ xs l.
          let v = h.2 xs l in
          let u = g.0.2 v.rest v.remains in
          let s = k u.rest u.remains in
          record {
            rest = s.rest;
            there = s.there;
            halts =
                λ _. v.goes tt _ _ (u.goes tt _ _ (halts_fields (g.1 u.rest u.remains) (s.halts tt)));
          })

      module _ (r : ℕ) (d : Table) (w : RulesRead text q c d (Ok r)) where
        parse_mark : (f : Fault) → MarkRead text r d d (Err f) → Parsed text (Err f)
        parse_mark f k = refuses (λ xs l.
            let v = h.2 xs l in
            let u = g.0.2 v.rest v.remains in
            let y = w.0.2 u.rest u.remains in
            let s = k y.rest y.remains (w.1 y.rest y.remains) in
            record {
              rest = s.rest;
              there = s.there;
              halts =
                  λ _. v.goes tt _ _ (u.goes tt _ _ (halts_fields (g.1 u.rest u.remains)
                  (y.goes tt _ _ (s.halts tt))));
            })

        parsed_ok :
            (e : Table)
            → MarkRead text r d e (Ok tt)
            → b.nodes.items ≡ []
            → b.over ≡ None
            → LinesAbove text b [] [] 0
            → Parsed text (Ok e)
        parsed_ok e k z o n ts cut =
            let v = h.2 (tokens ts) (left cut) in
            let u = g.0.2 v.rest v.remains in
            let y = w.0.2 u.rest u.remains in
            let m = k y.rest y.remains in
            let f = v.item in
            let fs = u.item in
            let rs = y.item in
            let blank : Lines text b [] [] = all_kept o (subst (LinesAbove text b [] []) (sym (ap length z)) n) in
            let s = sheet (f.0 ∷ fs.0) rs.0 m.0 in
            let d : IsSheet (tokens ts) s = a_sheet f.1 fs.1 rs.1 m.1 in (
              s,
              d,
              m.2 (f.0 ∷ fs.0) rs.0 (rs.2 (f.0 ∷ fs.0) [] (fs.2 (f.0 ∷ []) (f.2 [] blank))),
              well_read_lem (tokens ts) s d (rises cut).1 (small cut),
            )

        pub parsed :
            (e : Table) (x : Result (Unit {0}) Fault)
            → MarkRead text r d e x
            → b.nodes.items ≡ []
            → b.over ≡ None
            → LinesAbove text b [] [] 0
            → Parsed text (parsed_to e x)
        parsed e (Ok u) k z o n = parsed_ok e k z o n
        parsed e (Err f) k z o n = parse_mark f k
