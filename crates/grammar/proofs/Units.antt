-- Formulas and units, which contain each other: what reading one gives, from what reading its parts gives.
use Rattle.std.proofs.Common.{◌≡◌, ℕ, ◌+◌, ◌-◌, ◌<◌, Option, List, [], ◌∷◌, Ok, Err, Result, sym, refl, ap, subst, arith}
use Rattle.refusal.specs.declared.Fault.{Fault}
use Rattle.refusal.specs.Table as table
use Rattle.formula.specs.declared.Join.{Join}
use Rattle.grammar.specs.declared.table.Word.{Word as WordEntry}
use Rattle.formula.specs.declared.term.Term.TheVariants as entry
use Rattle.grammar.specs.declared.token.Class.{Class}
use Rattle.grammar.specs.declared.token.Class.TheVariants as class
use Rattle.grammar.specs.declared.token.Ahead.{Ahead}
use Rattle.refusal.specs.declared.Refusal.TheVariants.{TooDeep, JoinMixes}
use Rattle.grammar.specs.declared.table.Weights.{Weights as WeightsEntry}
use Rattle.grammar.specs.declared.table.Node.TheVariants as node
use Rattle.grammar.specs.declared.table.Table.{Table}
use Rattle.grammar.specs.declared.formula_part.Part.{Part}
use Rattle.grammar.specs.Syntax.{Word, Formula, negated, picked}
use Rattle.grammar.specs.Tables.{word_of}
use Rattle.grammar.specs.Moves.{State, Open, inner, allowance, a_unit, more, after_join, Need, level, like, Move, unit_number, unit_name, unit_not, unit_pick, unit_bracket, next_join, bracket_end, Halts, goes_on, halts_token, halts_deep, halts_mixed, halts_end}
use Rattle.grammar.specs.Parsing.{Read, around, Left, Says, says_name, says_number, says_opening, says_not, says_pick, says_join, Seen, no_token, a_token, Peeked, Stopped, Came, NameRead, Grown, Pushed, FormulaIs, Measured, Around, ComparisonRead, NamedRead, UnitRead, WeightsRead, NoJoin, FormulaRead, Expected, FirstIs, first_is}
use Rattle.grammar.specs.Grammar.{Tok, pick, join, opening, at, Tokens, IsName, a_name, a_constant, Level, any, only, Fits, strict, unit, formula, Reads, a_not, a_pick, brackets, alone, a_join}
use Rattle.grammar.specs.Moves.{closing_sign, is_closing, rule_end, mark_end}
use Rattle.grammar.proofs.Leaves.{no, refused_at, stops, real, seen_as}
use Rattle.grammar.proofs.Entering.{entered_not, entered_pick, entered_join}

-- Units

-- the levels that are allowed within one, said of the levels with it
pub unit_within :
    (text : List ℕ) (d e p : ℕ) (b a : Table) (x : Read Part)
    → e ≡ d - 1
    → UnitRead text e p b a (Ok x)
    → UnitRead text (d - 1) p b a (Ok x)
unit_within text d e p b a x q u = subst (λ z. UnitRead text z p b a (Ok x)) q u

pub unit_within_stops :
    (text : List ℕ) (d e p : ℕ) (b : Table) (f : Fault)
    → e ≡ d - 1
    → UnitRead text e p b b (Err f)
    → UnitRead text (d - 1) p b b (Err f)
unit_within_stops text d e p b f q u = subst (λ z. UnitRead text z p b b (Err f)) q u

pub formula_within :
    (text : List ℕ) (d e p : ℕ) (b a : Table) (x : Read Part)
    → e ≡ d - 1
    → FormulaRead text e any p b a (Ok x)
    → FormulaRead text (d - 1) any p b a (Ok x)
formula_within text d e p b a x q u = subst (λ z. FormulaRead text z any p b a (Ok x)) q u

pub formula_within_stops :
    (text : List ℕ) (d e p : ℕ) (b : Table) (f : Fault)
    → e ≡ d - 1
    → FormulaRead text e any p b b (Err f)
    → FormulaRead text (d - 1) any p b b (Err f)
formula_within_stops text d e p b f q u = subst (λ z. FormulaRead text z any p b b (Err f)) q u

no_unit :
    {text : List ℕ} {k : Class} {d : ℕ} {l : Level} {o : Open} {t : Tok} {i : ℕ} {n : Need} {u : State}
    → ((m : ℕ) → k ≡ class.Number m → ⊥)
    → ((v : WordEntry) → k ≡ class.Name v → ⊥)
    → (k ≡ class.Not → ⊥)
    → (k ≡ class.Pick → ⊥)
    → (k ≡ class.Opening → ⊥)
    → Move (a_unit d l o) t n u
    → Says text k t i
    → ⊥
no_unit v w x y z unit_number says_number = v _ refl
no_unit v w x y z unit_name (says_name g) = w _ refl
no_unit v w x y z unit_not says_not = x refl
no_unit v w x y z unit_pick says_pick = y refl
no_unit v w x y z unit_bracket says_opening = z refl

pick_item :
    {d i : ℕ} {x : Word} {us zs r : Tokens} {f : Formula}
    → 0 < d
    → IsName us zs x
    → Reads unit (d - 1) zs r f
    → Reads unit d (at pick i ∷ us) r (picked x f)
pick_item lt a_name u = a_pick lt u

-- after a formula in brackets, the closing bracket is due
not_closed :
    {d : ℕ} {l k : Level} {o : Open} (xs : Tokens)
    → NoJoin xs
    → ((us : Tokens) → FirstIs closing_sign xs us → ⊥)
    → Halts (more k (inner d l o)) xs 4 xs
not_closed [] j z = halts_end tt
not_closed (at t p ∷ xs) j z = halts_token (λ n u m. due m j z)
  where
    due :
        {d : ℕ} {l k : Level} {o : Open} {t : Tok} {n : Need} {u : State}
        → Move (more k (inner d l o)) t n u
        → NoJoin (at t p ∷ xs)
        → ((us : Tokens) → FirstIs closing_sign (at t p ∷ xs) us → ⊥)
        → ⊥
    due next_join j z = j _ p xs refl
    due bracket_end j z = z xs (first_is is_closing)

module _ (text : List ℕ) (d : ℕ) (b a : Table) where
  -- what a unit is read to
  abbrev UnitCame : Tokens → Part → ℕ → Type 0
  UnitCame xs part q =
      Came text Around (λ c. a_unit d c.0 c.1) (λ c. more c.0 c.1) xs q
      (FormulaIs text unit d b a part xs)

  abbrev UnitStopped : Tokens → Fault → Type 0
  UnitStopped xs f = Stopped text Around (λ c. a_unit d c.0 c.1) xs f

  number_came :
      {m q e : ℕ} {xs : Tokens} (x : Read Part)
      → ComparisonRead text e (entry.Number m) b a (Ok x)
      → Seen text xs (class.Number m) q e
      → UnitCame xs x.value x.end
  number_came x o (a_token {xs = us} says_number l) =
      let v = o.2 us l in
      record {
        rest = v.rest;
        remains = v.remains;
        goes = λ c n r z. goes_on unit_number tt (v.goes c n r z);
        item = v.item d _ a_constant;
      }

  number_stopped :
      {m q e : ℕ} {xs : Tokens} {f : Fault}
      → ComparisonRead text e (entry.Number m) b a (Err f)
      → Seen text xs (class.Number m) q e
      → UnitStopped xs f
  number_stopped o (a_token {xs = us} says_number l) =
      let v = o us l in
      record {
        rest = v.rest;
        there = v.there;
        halts = λ c. goes_on unit_number tt (v.halts c);
      }

  name_came :
      {w : WordEntry} {q e : ℕ} {xs : Tokens} (x : Read Part)
      → NamedRead text e w b a (Ok x)
      → Seen text xs (class.Name w) q e
      → UnitCame xs x.value x.end
  name_came x o (a_token {xs = us} (says_name g) l) =
      let v = o.2 us l in
      record {
        rest = v.rest;
        remains = v.remains;
        goes = λ c n r z. goes_on unit_name tt (v.goes c n r z);
        item = v.item d _ _ g;
      }

  name_stopped :
      {w : WordEntry} {q e : ℕ} {xs : Tokens} {f : Fault}
      → NamedRead text e w b a (Err f)
      → Seen text xs (class.Name w) q e
      → UnitStopped xs f
  name_stopped o (a_token {xs = us} (says_name g) l) =
      let v = o us l in
      record {
        rest = v.rest;
        there = v.there;
        halts = λ c. goes_on unit_name tt (v.halts c);
      }

  not_came :
      {q e i : ℕ} {m : Table} {xs : Tokens} (x : Read Part)
      → 0 < d
      → UnitRead text (d - 1) e b m (Ok x)
      → Pushed m a (node.Negated x.value.body) i
      → Seen text xs class.Not q e
      → UnitCame xs (record { body = i; size = x.value.size + 1; joins = x.value.joins }) x.end
  not_came x lt o p (a_token {xs = us} says_not l) =
      let v = o.2 us l in
      let f = v.item in
      record {
        rest = v.rest;
        remains = v.remains;
        goes = λ c n r z. goes_on unit_not lt (v.goes c n r z);
        item = (negated f.0, a_not lt f.1, entered_not text x.value f.2 p);
      }

  not_stopped :
      {q e : ℕ} {xs : Tokens} {f : Fault}
      → 0 < d
      → UnitRead text (d - 1) e b a (Err f)
      → Seen text xs class.Not q e
      → UnitStopped xs f
  not_stopped lt o (a_token {xs = us} says_not l) =
      let v = o us l in
      record {
        rest = v.rest;
        there = v.there;
        halts = λ c. goes_on unit_not lt (v.halts c);
      }

  pick_came :
      {q e i : ℕ} {m : Table} {xs : Tokens} (w : Read WordEntry) (x : Read Part)
      → 0 < d
      → NameRead text e (Ok w)
      → UnitRead text (d - 1) w.end b m (Ok x)
      → Pushed m a (node.Picked w.value x.value.body) i
      → Seen text xs class.Pick q e
      → UnitCame xs (record { body = i; size = x.value.size + 1; joins = x.value.joins }) x.end
  pick_came w x lt y o p (a_token {xs = us} says_pick l) =
      let u = y.2 us l in
      let v = o.2 u.rest u.remains in
      let f = v.item in
      record {
        rest = v.rest;
        remains = v.remains;
        goes = λ c n r z. goes_on unit_pick lt (u.goes (a_unit (d - 1) c.0 c.1) n r (v.goes c n r z));
        item = (
          picked (word_of text w.value) f.0,
          pick_item lt u.item f.1,
          entered_pick text
              x.value f.2 w.value p,
        );
      }

  pick_name_stopped :
      {q e : ℕ} {xs : Tokens} {f : Fault}
      → 0 < d
      → NameRead text e (Err f)
      → Seen text xs class.Pick q e
      → UnitStopped xs f
  pick_name_stopped lt y (a_token {xs = us} says_pick l) =
      let u = y us l in
      record {
        rest = u.rest;
        there = u.there;
        halts = λ c. goes_on unit_pick lt (u.halts (a_unit (d - 1) c.0 c.1));
      }

  pick_stopped :
      {q e : ℕ} {xs : Tokens} {f : Fault} (w : Read WordEntry)
      → 0 < d
      → NameRead text e (Ok w)
      → UnitRead text (d - 1) w.end b a (Err f)
      → Seen text xs class.Pick q e
      → UnitStopped xs f
  pick_stopped w lt y o (a_token {xs = us} says_pick l) =
      let u = y.2 us l in
      let v = o u.rest u.remains in
      record {
        rest = v.rest;
        there = v.there;
        halts = λ c. goes_on unit_pick lt (u.goes (a_unit (d - 1) c.0 c.1) _ _ (v.halts c));
      }

  -- a formula in brackets, and the closing bracket
  closed_came :
      {q i : ℕ} {us zs rest : Tokens} {part : Part}
      → 0 < d
      → FormulaIs text (formula any) (d - 1) b a part us zs
      → ((o : Open) → allowance o ≡ d - 1 → (n : ℕ) (r : Tokens) → Halts (more any o) zs n r → Halts
      (a_unit (d - 1) any o) us n r)
      → FirstIs closing_sign zs rest
      → Left text q rest
      → UnitCame (at opening i ∷ us) part q
  closed_came lt f g (first_is is_closing) l = record {
    rest = _;
    remains = l;
    goes =
        λ c n r z. goes_on unit_bracket lt (g (inner (d - 1) c.0 c.1) refl n r
        (goes_on bracket_end tt z));
    item = (f.0, brackets lt f.1, f.2);
  }

  bracket_came :
      {q e j : ℕ} {xs : Tokens} (x : Read Part)
      → 0 < d
      → FormulaRead text (d - 1) any e b a (Ok x)
      → Expected text x.end closing_sign (Ok j)
      → Seen text xs class.Opening q e
      → UnitCame xs x.value j
  bracket_came x lt o k (a_token {xs = us} says_opening l) =
      let v = o.2 us l in
      let y = k.2 v.rest v.remains in
      closed_came lt v.item.0 (λ p e n r z. v.goes (p, e) n r z) y.1 y.2

  bracket_stopped :
      {q e : ℕ} {xs : Tokens} {f : Fault}
      → 0 < d
      → FormulaRead text (d - 1) any e b a (Err f)
      → Seen text xs class.Opening q e
      → UnitStopped xs f
  bracket_stopped lt o (a_token {xs = us} says_opening l) =
      let v = o us l in
      record {
        rest = v.rest;
        there = v.there;
        halts = λ c. goes_on unit_bracket lt (v.halts (inner (d - 1) c.0 c.1, refl));
      }

  unclosed_stopped :
      {q e : ℕ} {xs : Tokens} (x : Read Part) {f : Fault}
      → 0 < d
      → FormulaRead text (d - 1) any e b a (Ok x)
      → Expected text x.end closing_sign (Err f)
      → Seen text xs class.Opening q e
      → UnitStopped xs f
  unclosed_stopped x lt o k (a_token {xs = us} says_opening l) =
      let v = o.2 us l in
      let y = k v.rest v.remains in
      record {
        rest = v.rest;
        there = y.1;
        halts = λ c. goes_on unit_bracket lt (v.goes (inner (d - 1) c.0 c.1, refl) _ _
            (subst (λ n. Halts (more any (inner (d - 1) c.0 c.1)) v.rest n v.rest) (sym y.0)
            (not_closed v.rest v.item.1 y.2)));
      }

  -- a token that opens a level too many
  deep_stopped :
      {q e : ℕ} {k : Class} {xs : Tokens} (f : Fault)
      → f ≡ record { refusal = TooDeep; place = q }
      → d ≡ 0
      → ((c : Around) (t : Tok) (i : ℕ) → Says text k t i → (u : State) × Move (a_unit d c.0 c.1) t
      (level d) u)
      → Seen text xs k q e
      → (k ≡ class.End → ⊥)
      → UnitStopped xs f
  deep_stopped f e z m (no_token g) y = absurd (y refl)
  deep_stopped f e z m (a_token {t = t} {p = q} {xs = us} s l) y = record {
    rest = at t q ∷ us;
    there = ap (λ g. g.place) e;
    halts =
        λ c. subst (λ g. Halts (a_unit d c.0 c.1) (at t q ∷ us) (table.number g.refusal)
        (at t q ∷ us)) (sym e) (halts_deep (m c t q s).1 z);
  }

module _ (text : List ℕ) (d p : ℕ) (b a : Table) (h : Ahead) (k : Peeked text p h) where
  pub number_unit :
      (m : ℕ) (r : Result (Read Part) Fault)
      → h.class ≡ class.Number m
      → ComparisonRead text h.end (entry.Number m) b a r
      → UnitRead text d p b a r
  number_unit m (Ok x) is o =
      let g = real text p h k (λ e. no (cc)) in
      (omega (arith, g.0, o.0), o.1, λ xs l. number_came text d b a x o (seen_as text p h k is xs l))
  number_unit m (Err f) is o = λ xs l. number_stopped text d b a o (seen_as text p h k is xs l)

  pub name_unit :
      (w : WordEntry) (r : Result (Read Part) Fault)
      → h.class ≡ class.Name w
      → NamedRead text h.end w b a r
      → UnitRead text d p b a r
  name_unit w (Ok x) is o =
      let g = real text p h k (λ e. no (cc)) in
      (omega (arith, g.0, o.0), o.1, λ xs l. name_came text d b a x o (seen_as text p h k is xs l))
  name_unit w (Err f) is o = λ xs l. name_stopped text d b a o (seen_as text p h k is xs l)

  pub not_unit :
      {i : ℕ} {m : Table} (x : Read Part) (y : Part)
      → h.class ≡ class.Not
      → 0 < d
      → UnitRead text (d - 1) h.end b m (Ok x)
      → Pushed m a (node.Negated x.value.body) i
      → y ≡ around x.value i
      → UnitRead text d p b a (Ok (record { value = y; end = x.end }))
  not_unit x y is lt o u e =
      let g = real text p h k (λ z. no (cc)) in
      subst (λ z. UnitRead text d p b a (Ok (record { value = z; end = x.end }))) (sym e)
      (omega (arith, g.0, o.0), o.1, λ xs l. not_came text d b a x lt o u (seen_as text p h k is xs l))

  pub not_stops :
      (f : Fault)
      → h.class ≡ class.Not
      → 0 < d
      → UnitRead text (d - 1) h.end b a (Err f)
      → UnitRead text d p b a (Err f)
  not_stops f is lt o xs l = not_stopped text d b a lt o (seen_as text p h k is xs l)

  pub pick_unit :
      {i : ℕ} {m : Table} (w : Read WordEntry) (x : Read Part) (y : Part)
      → h.class ≡ class.Pick
      → 0 < d
      → NameRead text h.end (Ok w)
      → UnitRead text (d - 1) w.end b m (Ok x)
      → Pushed m a (node.Picked w.value x.value.body) i
      → y ≡ around x.value i
      → UnitRead text d p b a (Ok (record { value = y; end = x.end }))
  pick_unit w x y is lt v o u e =
      let g = real text p h k (λ z. no (cc)) in
      subst (λ z. UnitRead text d p b a (Ok (record { value = z; end = x.end }))) (sym e) (
        omega (arith, g.0, v.0, o.0),
        o.1,
        λ xs l. pick_came text d b a w x lt v o u
            (seen_as text p h k is xs l),
      )

  pub pick_name_stops :
      (f : Fault)
      → h.class ≡ class.Pick
      → 0 < d
      → NameRead text h.end (Err f)
      → UnitRead text d p b a (Err f)
  pick_name_stops f is lt v xs l = pick_name_stopped text d b a lt v (seen_as text p h k is xs l)

  pub pick_stops :
      (w : Read WordEntry) (f : Fault)
      → h.class ≡ class.Pick
      → 0 < d
      → NameRead text h.end (Ok w)
      → UnitRead text (d - 1) w.end b a (Err f)
      → UnitRead text d p b a (Err f)
  pick_stops w f is lt v o xs l = pick_stopped text d b a w lt v o (seen_as text p h k is xs l)

  pub bracket_unit :
      (x : Read Part) (j : ℕ)
      → h.class ≡ class.Opening
      → 0 < d
      → FormulaRead text (d - 1) any h.end b a (Ok x)
      → Expected text x.end closing_sign (Ok j)
      → UnitRead text d p b a (Ok (record { value = x.value; end = j }))
  bracket_unit x j is lt o u =
      let g = real text p h k (λ z. no (cc)) in (
        omega (arith, g.0, o.0, u.0),
        u.1,
        λ xs l. bracket_came text d b a x lt o u
            (seen_as text p h k is xs l),
      )

  pub bracket_stops :
      (f : Fault)
      → h.class ≡ class.Opening
      → 0 < d
      → FormulaRead text (d - 1) any h.end b a (Err f)
      → UnitRead text d p b a (Err f)
  bracket_stops f is lt o xs l = bracket_stopped text d b a lt o (seen_as text p h k is xs l)

  pub unclosed_stops :
      (x : Read Part) (f : Fault)
      → h.class ≡ class.Opening
      → 0 < d
      → FormulaRead text (d - 1) any h.end b a (Ok x)
      → Expected text x.end closing_sign (Err f)
      → UnitRead text d p b a (Err f)
  unclosed_stops x f is lt o u xs l = unclosed_stopped text d b a x lt o u (seen_as text p h k is xs l)

  pub unit_stops :
      (f : Fault)
      → f ≡ refused_at h.place
      → ((m : ℕ) → h.class ≡ class.Number m → ⊥)
      → ((v : WordEntry) → h.class ≡ class.Name v → ⊥)
      → (h.class ≡ class.Not → ⊥)
      → (h.class ≡ class.Pick → ⊥)
      → (h.class ≡ class.Opening → ⊥)
      → UnitRead text d p b a (Err f)
  unit_stops f e v w x y z xs l =
      stops (λ c. a_unit d c.0 c.1) f e (k.seen xs l) (λ c. tt) (λ c t i n u m s. no_unit v w x y z m s)

  -- the token opens a level too many
  pub deep_not :
      (f : Fault)
      → f ≡ record { refusal = TooDeep; place = h.place }
      → h.class ≡ class.Not
      → d ≡ 0
      → UnitRead text d p b a (Err f)
  deep_not f e is z xs l = deep_stopped text d b a f e z opens (seen_as text p h k is xs l) (λ y. no (cc))
    where
      opens :
          (c : Around) (t : Tok) (i : ℕ)
          → Says text class.Not t i
          → (u : State) × Move (a_unit d c.0 c.1) t (level d) u
      opens c _ i says_not = (_, unit_not)

  pub deep_pick :
      (f : Fault)
      → f ≡ record { refusal = TooDeep; place = h.place }
      → h.class ≡ class.Pick
      → d ≡ 0
      → UnitRead text d p b a (Err f)
  deep_pick f e is z xs l = deep_stopped text d b a f e z opens (seen_as text p h k is xs l) (λ y. no (cc))
    where
      opens :
          (c : Around) (t : Tok) (i : ℕ)
          → Says text class.Pick t i
          → (u : State) × Move (a_unit d c.0 c.1) t (level d) u
      opens c _ i says_pick = (_, unit_pick)

  pub deep_bracket :
      (f : Fault)
      → f ≡ record { refusal = TooDeep; place = h.place }
      → h.class ≡ class.Opening
      → d ≡ 0
      → UnitRead text d p b a (Err f)
  deep_bracket f e is z xs l = deep_stopped text d b a f e z opens (seen_as text p h k is xs l) (λ y. no (cc))
    where
      opens :
          (c : Around) (t : Tok) (i : ℕ)
          → Says text class.Opening t i
          → (u : State) × Move (a_unit d c.0 c.1) t (level d) u
      opens c _ i says_opening = (_, unit_bracket)

-- Formulas

-- where no join stands, the level does not matter
same_move :
    {l k : Level} {o : Open} {t : Tok} {n : Need} {u : State}
    → ((j : Join) → t ≡ join j → ⊥)
    → Move (more l o) t n u
    → Move (more k o) t n u
same_move z next_join = absurd (z _ refl)
same_move z bracket_end = bracket_end
same_move z rule_end = rule_end
same_move z mark_end = mark_end

halts_level :
    {l k : Level} {o : Open} {n : ℕ} {xs r : Tokens}
    → NoJoin xs
    → Halts (more l o) xs n r
    → Halts (more k o) xs n r
halts_level z (goes_on {p =
    p} {xs = xs} m a h) = goes_on (same_move (λ j e. z j p xs (ap (λ t. at t p ∷ xs) e)) m) a h
halts_level z (halts_token {p =
    p} {xs = xs} h) = halts_token (λ n u m. h n u (same_move (λ j e. z j p xs (ap (λ t. at t p ∷ xs) e)) m))
halts_level z (halts_deep m e) = elim m [ ]
halts_level z (halts_mixed {p = p} {xs = xs} m e) = absurd (z _ p xs (ap (λ t. at t p ∷ xs) (join_of m)))
  where
    join_of :
        {l k : Level} {o : Open} {t : Tok} {j : Join} {u : State}
        → Move (more l o) t (like k j) u
        → t ≡ join j
    join_of next_join = refl
halts_level z (halts_end h) = halts_end tt

no_join :
    {text : List ℕ} {k : Class} {q e : ℕ} {xs : Tokens}
    → ((j : Join) → k ≡ class.Join j → ⊥)
    → Seen text xs k q e
    → NoJoin xs
no_join {text} {k} {q} {e} z s j p ys g = not_a_join z (subst (λ v. Seen text v k q e) g s)
  where
    not_a_join :
        {k : Class} {q e p : ℕ} {j : Join} {ys : Tokens}
        → ((j : Join) → k ≡ class.Join j → ⊥)
        → Seen text (at (join j) p ∷ ys) k q e
        → ⊥
    not_a_join z (a_token says_join l) = z _ refl

module _ (text : List ℕ) (d p : ℕ) (l : Level) where
  pub alone_formula :
      {b a : Table} (x : Read Part) (h : Ahead)
      → UnitRead text d p b a (Ok x)
      → Peeked text x.end h
      → ((j : Join) → h.class ≡ class.Join j → ⊥)
      → FormulaRead text d l p b a (Ok x)
  alone_formula x h o k z = (
    o.0,
    o.1,
    λ xs r.
        let v = o.2 xs r in
        let f = v.item in
        record {
          rest = v.rest;
          remains = v.remains;
          goes = λ c n y w. v.goes (l, c.0) n y w;
          item = ((f.0, alone f.1, f.2), no_join z (k.seen v.rest v.remains));
        },
  )

  pub first_stops :
      (b a : Table) (f : Fault)
      → UnitRead text d p b a (Err f)
      → FormulaRead text d l p b a (Err f)
  first_stops b a f o xs r =
      let v = o xs r in record { rest = v.rest; there = v.there; halts = λ c. v.halts (l, c.0) }

  module _
      {b m : Table} (x : Read Part) (o : UnitRead text d p b m (Ok x)) (h : Ahead)
      (k : Peeked text x.end h) (j : Join) (is : h.class ≡ class.Join j) where
    mixed_from :
        {q e : ℕ} {xs zs : Tokens} (f : Fault)
        → f ≡ record { refusal = JoinMixes; place = q }
        → (Fits strict l j → ⊥)
        → ((c : Around) (n : ℕ) (r : Tokens) → Halts (more c.0 c.1) zs n r → Halts
        (a_unit d c.0 c.1) xs n r)
        → Seen text zs (class.Join j) q e
        → Stopped text ((o : Open) × (allowance o ≡ d)) (λ c. a_unit d l c.0) xs f
    mixed_from f e z g (a_token {p = q} {xs = us} says_join y) = record {
      rest = at (join j) q ∷ us;
      there = ap (λ v. v.place) e;
      halts =
          λ c. g (l, c.0) _ _ (subst (λ v. Halts (more l c.0) (at (join j) q ∷ us)
          (table.number v.refusal) (at (join j) q ∷ us)) (sym e) (halts_mixed next_join z));
    }

    pub mixed_stops :
        (Fits strict l j → ⊥)
        → FormulaRead text d l p b b (Err (record { refusal = JoinMixes; place = h.place }))
    mixed_stops z xs r =
        let v = o.2 xs r in
        mixed_from _ refl z v.goes (seen_as text x.end h k is v.rest v.remains)

    -- after the join
    joined_halts :
        {q e : ℕ} {xs zs : Tokens}
        → Fits strict l j
        → ((c : Around) (n : ℕ) (r : Tokens) → Halts (more c.0 c.1) zs n r → Halts
        (a_unit d c.0 c.1) xs n r)
        → Seen text zs (class.Join j) q e
        → (us : Tokens) × Left text e us × (zs ≡ at (join j) q ∷ us)
        × ((o : Open) (n : ℕ) (r : Tokens) → Halts (after_join j o) us n r → Halts (a_unit d l o) xs n r)
    joined_halts fit g (a_token {xs =
        us} says_join y) = (us, y, refl, λ o n r z. g (l, o) n r (goes_on next_join fit z))

    pub weights_stop :
        (f : Fault)
        → Fits strict l j
        → WeightsRead text h.end (Err f)
        → FormulaRead text d l p b b (Err f)
    weights_stop f fit w xs r =
        let v = o.2 xs r in
        let y = joined_halts fit v.goes (seen_as text x.end h k is v.rest v.remains) in
        let s = w y.0 y.1 in
        record { rest = s.rest; there = s.there; halts = λ c. y.3 c.0 _ _ (s.halts (j, c.0)) }

    pub right_stops :
        (w : Read (Option WeightsEntry)) (f : Fault)
        → Fits strict l j
        → WeightsRead text h.end (Ok w)
        → FormulaRead text d (only j) w.end b b (Err f)
        → FormulaRead text d l p b b (Err f)
    right_stops w f fit u g xs r =
        let v = o.2 xs r in
        let y = joined_halts fit v.goes (seen_as text x.end h k is v.rest v.remains) in
        let i = u.2 y.0 y.1 in
        let s = g i.rest i.remains in
        record {
          rest = s.rest;
          there = s.there;
          halts = λ c. y.3 c.0 _ _ (i.goes (j, c.0) _ _
              (subst (λ e. Halts (a_unit e (only j) c.0) i.rest (table.number f.refusal) s.rest)
              (sym c.1) (s.halts c)));
        }

    pub join_formula :
        {n a : Table} {i : ℕ} (w : Read (Option WeightsEntry)) (y : Read Part)
        → Fits strict l j
        → WeightsRead text h.end (Ok w)
        → Grown m n
        → FormulaRead text d (only j) w.end m n (Ok y)
        → Pushed n a (node.Joined j w.value x.value.body y.value.body) i
        → FormulaRead text d l p b a (Ok (record {
          value =
              record {
                body = i;
                size = x.value.size + y.value.size + 1;
                joins = x.value.joins + y.value.joins + 1;
              };
          end = y.end;
        }))
    join_formula w y fit u gr g e =
        let r = real text x.end h k (λ z. no (cc)) in (
          omega (arith, o.0, r.0, u.0, g.0),
          g.1,
          λ xs s.
              let v = o.2 xs s in
              let q = joined_halts fit v.goes (seen_as text x.end h k is v.rest v.remains) in
              let i = u.2 q.0 q.1 in
              let t = g.2 i.rest i.remains in
              let f = v.item in
              let f' = t.item.0 in
              let left = subst (λ z. Reads unit d xs z f.0) q.2 f.1 in
              record {
                rest = t.rest;
                remains = t.remains;
                goes = λ c n z w. q.3 c.0 n z (i.goes (j, c.0) n z
                    (subst (λ e. Halts (a_unit e (only j) c.0) i.rest n z) (sym c.1)
                    (t.goes c n z (halts_level t.item.1 w))));
                item = (
                  ((
                    _,
                    a_join left fit i.item f'.1,
                    entered_join text x.value y.value j
                        w.value f.2 gr f'.2 e,
                  )),
                  t.item.1,
                );
              },
        )

-- a formula around a part is measured one more
pub within_measured :
    (p q i e : ℕ) (x y : Part)
    → y ≡ around x i
    → p < q
    → Measured q (Ok (record { value = x; end = e }))
    → Measured p (Ok (record { value = y; end = e }))
within_measured p q i e x y is lt m =
    subst (λ z. Measured p (Ok (record { value = z; end = e }))) (sym is) (omega arith, omega (arith, m.1), omega (arith, m.2))
