-- Whether a name is taken: in the tables and in the sheet.
use Rattle.std.proofs.Common.{◌≡◌, ℕ, suc, ◌<◌, ◌≤◌, ◌⊎◌, List, [], ◌∷◌, ◌++◌, map, length, get_or, take, Ok, Err, sym, refl, ap, ◌∙◌, subst, inl, inr, ⊎_elim, arith}
use Rattle.std.proofs.lemmas.List.{take-map, length-map}
use Rattle.refusal.specs.declared.Refusal.TheVariants.{NameTaken, WrongNumber}
use Rattle.grammar.specs.declared.table.Word.{Word as WordEntry}
use Rattle.grammar.specs.declared.table.FieldLine.{FieldLine}
use Rattle.grammar.specs.declared.table.RuleLine.{RuleLine}
use Rattle.grammar.specs.Syntax.{Word, Field, Rule, rule_line}
use Rattle.grammar.specs.Tables.{word_of, field_of, place_of, Rising}
use Rattle.names.specs.declared.scope.Scope.{Scope}
use Rattle.names.specs.Lists.{Stands, here, there, In, this, that, end, item}
use Rattle.names.specs.Names.{spelling}
use Rattle.names.specs.Faults.{field_name, rule_name, all_names, Taken, FieldFault, field_taken, wrong_range, many_fields, First, NoLater}
use Rattle.names.specs.Looking.{fields_in, fields_seen, params_seen, Alike, SomeOf, Heads, Declares, ParamTaken, no_word, NamesFault, FieldSettled}
use Rattle.names.proofs.Search.{stands_in, in_stands}
use Rattle.std.proofs.str.Laws.{order}
use Rattle.names.proofs.Lookups.{stands_at, stands_read}
use Rattle.names.proofs.Places.{in_left, in_right, in_map, split_in, stands_once}
use Rattle.names.proofs.Numbering.{stands_map, map_stands}
use Rattle.names.proofs.Ordered.{before_in}

pub taken_left : (w : Word) (xs ys : List Word) → Taken xs w → Taken (xs ++ ys) w
taken_left w xs ys t = (t.0, in_left ys t.1, t.2)

pub taken_right : (w : Word) (xs ys : List Word) → Taken ys w → Taken (xs ++ ys) w
taken_right w xs ys t = (t.0, in_right xs t.1, t.2)

pub taken_split : (w : Word) (xs ys : List Word) → Taken (xs ++ ys) w → Taken xs w ⊎ Taken ys w
taken_split w xs ys t = ⊎_elim (λ m. inl (t.0, m, t.2)) (λ m. inr (t.0, m, t.2)) (split_in xs t.1)

module _ (text : List ℕ) (w : WordEntry) where
  abbrev W : Word
  W = word_of text w

  -- names of fields
  pub fields_to :
      (fields : List FieldLine) → SomeOf (λ (f : FieldLine). Alike text f.name w) fields → Taken (map field_name (map (field_of text) fields)) W
  fields_to fields s = (_, in_map field_name (stands_in (stands_map (field_of text) s.2)), s.3)

  pub fields_from :
      (fields : List FieldLine) → Taken (map field_name (map (field_of text) fields)) W → SomeOf (λ (f : FieldLine). Alike text f.name w) fields
  fields_from fields t =
      let a = in_stands t.1 in
      let b = map_stands field_name (map (field_of text) fields) a.1 in
      let c = map_stands (field_of text) fields b.1 in
      let named : word_of text c.0.name ≡ t.0 = ap field_name c.2 ∙ b.2 in
      (a.0, c.0, c.1, ap spelling named ∙ t.2)

  -- names of parameters
  pub params_to :
      (ws : List WordEntry) → SomeOf (λ (v : WordEntry). Alike text v w) ws → Taken (map (word_of text) ws) W
  params_to ws s = (_, stands_in (stands_map (word_of text) s.2), s.3)

  pub params_from :
      (ws : List WordEntry) → Taken (map (word_of text) ws) W → SomeOf (λ (v : WordEntry). Alike text v w) ws
  params_from ws t =
      let a = in_stands t.1 in
      let b = map_stands (word_of text) ws a.1 in
      (a.0, b.0, b.1, ap spelling b.2 ∙ t.2)

  -- names of rules
  pub rules_to :
      {ls : List RuleLine} {above : List Rule} → Heads text ls above
      → SomeOf (λ (l : RuleLine). Alike text l.name w) ls → Taken (map rule_name above) W
  rules_to hs s = go hs s.2 s.3
    where
      go :
          {ls : List RuleLine} {above : List Rule} {i : ℕ} {l : RuleLine}
          → Heads text ls above → Stands RuleLine ls i l → Alike text l.name w → Taken (map rule_name above) W
      go end st a = elim st [ ]
      go (item {b = rule_line p v qs f} h e) here a = (v, this, sym (ap spelling h.1) ∙ a)
      go (item h e) (there st) a = let r = go e st a in (r.0, that r.1, r.2)

  pub rules_from :
      {ls : List RuleLine} {above : List Rule} → Heads text ls above
      → Taken (map rule_name above) W → SomeOf (λ (l : RuleLine). Alike text l.name w) ls
  rules_from hs t = go hs t.1 t.2
    where
      go :
          {ls : List RuleLine} {above : List Rule} {v : Word}
          → Heads text ls above → In Word (map rule_name above) v → spelling v ≡ spelling W → SomeOf (λ (l : RuleLine). Alike text l.name w) ls
      go end m e = elim m [ ]
      go (item {b = rule_line p v qs f} h each) this e = (0, _, here, ap spelling h.1 ∙ e)
      go (item h each) (that m) e = let r = go each m e in (suc r.0, r.1, there r.2, r.3)

  -- all names that rule lines declare
  pub declared_to :
      {ls : List RuleLine} {above : List Rule} → Heads text ls above → SomeOf (Declares text w) ls → Taken (all_names above) W
  declared_to hs s = go hs s.2 s.3
    where
      go :
          {ls : List RuleLine} {above : List Rule} {i : ℕ} {l : RuleLine}
          → Heads text ls above → Stands RuleLine ls i l → Declares text w l → Taken (all_names above) W
      go end st a = elim st [ ]
      go (item {a = l} {b = rule_line p v qs f} {ys = rs} h e) here a =
          ⊎_elim (λ x. (v, this, sym (ap spelling h.1) ∙ x))
          (λ x. let y = subst (λ zs. Taken zs W) h.2 (params_to l.params.items x) in (y.0, that (in_left (all_names rs) y.1), y.2)) a
      go (item {b = rule_line p v qs f} h e) (there st) a = let r = go e st a in (r.0, that (in_right qs r.1), r.2)

  pub declared_from :
      {ls : List RuleLine} {above : List Rule} → Heads text ls above → Taken (all_names above) W → SomeOf (Declares text w) ls
  declared_from hs t = go hs t.1 t.2
    where
      go :
          {ls : List RuleLine} {above : List Rule} {v : Word}
          → Heads text ls above → In Word (all_names above) v → spelling v ≡ spelling W → SomeOf (Declares text w) ls
      go end m e = elim m [ ]
      go (item {b = rule_line p v qs f} h each) this e = (0, _, here, inl (ap spelling h.1 ∙ e))
      go (item {a = l} {b = rule_line p v qs f} h each) (that m) e =
          ⊎_elim
          (λ x. (0, l, here, inr (params_from l.params.items (subst (λ zs. Taken zs W) (sym h.2) (_, x, e)))))
          (λ x. let r = go each x e in (suc r.0, r.1, there r.2, r.3))
          (split_in qs m)

-- Field lines

module _ (text : List ℕ) (above : List FieldLine) (f : FieldLine) (few : length above < 8) where
  abbrev Above : List Field
  Above = fields_in text above

  room : length Above < 8
  room = omega (arith, length-map above (field_of text))

  pub field_taken_first :
      SomeOf (λ (l : FieldLine). Alike text l.name f.name) above
      → FieldSettled text above f (Err (record { refusal = NameTaken; place = f.name.place }))
  field_taken_first taken lt = record { fault = field_taken (fields_to text f.name above taken); least = least }
    where
      least : (m q : ℕ) → FieldFault Above (field_of text f) m q → NoLater 7 f.name.place m q
      least m q (field_taken h) = inr (refl, omega arith)
      least m q (wrong_range h) = inl lt
      least m q (many_fields h) = let r = room in absurd (omega arith)

  module _ (free : SomeOf (λ (l : FieldLine). Alike text l.name f.name) above → ⊥) where
    pub range_first : f.high.value < f.low.value → FieldSettled text above f (Err (record { refusal = WrongNumber; place = f.low.place }))
    range_first empty lt = record { fault = wrong_range empty; least = least }
      where
        least : (m q : ℕ) → FieldFault Above (field_of text f) m q → NoLater 10 f.low.place m q
        least m q (field_taken h) = absurd (free (fields_from text f.name above h))
        least m q (wrong_range h) = inr (refl, omega arith)
        least m q (many_fields h) = let r = room in absurd (omega arith)

    pub field_faultless : (u : Unit {0}) → f.low.value ≤ f.high.value → FieldSettled text above f (Ok u)
    field_faultless u le lt m q (field_taken h) = free (fields_from text f.name above h)
    field_faultless u le lt m q (wrong_range h) = omega arith
    field_faultless u le lt m q (many_fields h) = let r = room in omega arith

-- Rule lines

rising_stands :
    (ps : List Word) {i j : ℕ} {u v : Word}
    → Rising (map place_of ps) → Stands Word ps i u → Stands Word ps j v → i < j → place_of u < place_of v
rising_stands _ up here here lt = absurd (omega arith)
rising_stands (u ∷ ps) up here (there s) lt = before_in (map place_of ps) up.0 (in_map place_of (stands_in s))
rising_stands _ up (there r) here lt = absurd (omega arith)
rising_stands (u ∷ ps) up (there r) (there s) lt = rising_stands ps up.1 r s (omega arith)

module _ (s : Scope) (own : WordEntry)
    (above : List Rule) (hs : Heads s.text.now s.rules.now above)
    (up : Rising (place_of (word_of s.text.now own) ∷ map place_of (params_seen s))) where
  abbrev Fs : List Field
  Fs = fields_seen s

  abbrev Own : Word
  Own = word_of s.text.now own

  abbrev Ps : List Word
  Ps = params_seen s

  abbrev Earlier : ℕ → List Word
  Earlier k = map field_name Fs ++ (map rule_name above ++ (Own ∷ take k Ps))

  abbrev TakenAt : ℕ → Type 0
  TakenAt k = ParamTaken s own (take k s.params.now) (get_or s.params.now k no_word)

  front : (k : ℕ) → take k Ps ≡ map (word_of s.text.now) (take k s.params.now)
  front k = take-map (word_of s.text.now) k s.params.now

  param_to : (k : ℕ) (v : WordEntry) → ParamTaken s own (take k s.params.now) v → Taken (Earlier k) (word_of s.text.now v)
  param_to k v p =
      ⊎_elim (λ x. taken_left (word_of s.text.now v) (map field_name Fs) _ (fields_to s.text.now v _ x))
      (λ y. taken_right (word_of s.text.now v) (map field_name Fs) _
      (⊎_elim (λ x. taken_left (word_of s.text.now v) (map rule_name above) _ (rules_to s.text.now v hs x))
      (λ z. taken_right (word_of s.text.now v) (map rule_name above) _
      (⊎_elim (λ x. (Own, this, x))
      (λ x. let m = subst (λ q. Taken q (word_of s.text.now v)) (sym (front k)) (params_to s.text.now v (take k s.params.now) x) in (m.0, that m.1, m.2)) z)) y)) p

  param_from : (k : ℕ) (v : WordEntry) → Taken (Earlier k) (word_of s.text.now v) → ParamTaken s own (take k s.params.now) v
  param_from k v p =
      ⊎_elim (λ x. inl (fields_from s.text.now v _ x))
      (λ y. inr (⊎_elim (λ x. inl (rules_from s.text.now v hs x))
      (λ z. inr (⊎_elim (λ x. inl (by_own x))
      (λ x. inr (params_from s.text.now v (take k s.params.now) (subst (λ q. Taken q (word_of s.text.now v)) (front k) x)))
      (taken_split (word_of s.text.now v) (Own ∷ []) (take k Ps) z)))
      (taken_split (word_of s.text.now v) (map rule_name above) (Own ∷ take k Ps) y)))
      (taken_split (word_of s.text.now v) (map field_name Fs) (map rule_name above ++ (Own ∷ take k Ps)) p)
    where
      by_own : Taken (Own ∷ []) (word_of s.text.now v) → spelling Own ≡ spelling (word_of s.text.now v)
      by_own x = go x.1 x.2
        where
          go : {u : Word} → In Word (Own ∷ []) u → spelling u ≡ spelling (word_of s.text.now v) → spelling Own ≡ spelling (word_of s.text.now v)
          go this e = e
          go (that m) e = elim m [ ]

  -- the parameter of number k, as it is read and as it is written
  param_stands : (k : ℕ) → k < length s.params.now → Stands Word Ps k (word_of s.text.now (get_or s.params.now k no_word))
  param_stands k len = stands_map (word_of s.text.now) (stands_at s.params.now k no_word len)

  param_is : (k : ℕ) (v : Word) → Stands Word Ps k v → word_of s.text.now (get_or s.params.now k no_word) ≡ v
  param_is k v st =
      let t = map_stands (word_of s.text.now) s.params.now st in
      ap (word_of s.text.now) (stands_read no_word t.1).1 ∙ t.2

  abbrev FaultOf : ℕ → ℕ → Type 0
  FaultOf = NamesFault Fs above Own Ps

  -- the line's own name is taken
  pub own_first :
      SomeOf (λ (f : FieldLine). Alike s.text.now f.name own) s.fields.now ⊎ SomeOf (Declares s.text.now own) s.rules.now → First FaultOf 7 own.place
  own_first h =
      record {
        fault =
            inl (
              ⊎_elim (λ x. taken_left Own (map field_name Fs) (all_names above) (fields_to s.text.now own s.fields.now x))
                  (λ x. taken_right Own (map field_name Fs) (all_names above) (declared_to s.text.now own hs x)) h,
              refl,
              refl,
            );
        least = λ m q x.
            ⊎_elim (λ y. inr (sym y.2, omega (arith, y.1)))
            (λ y. inl (subst (λ z. place_of Own < z) (sym y.3.2) (before_in (map place_of Ps) up.0 (in_map place_of (stands_in y.2))))) x;
      }

  module _ (no_field : SomeOf (λ (f : FieldLine). Alike s.text.now f.name own) s.fields.now → ⊥) (no_rule : SomeOf (Declares s.text.now own) s.rules.now → ⊥) where
    own_none : Taken (map field_name Fs ++ all_names above) Own → ⊥
    own_none h =
        ⊎_elim (λ x. no_field (fields_from s.text.now own s.fields.now x)) (λ x. no_rule (declared_from s.text.now own hs x))
        (taken_split Own (map field_name Fs) (all_names above) h)

    -- a fault of a parameter, by what is read
    fault_read : (k : ℕ) (v : Word) → Stands Word Ps k v → Taken (Earlier k) v → TakenAt k
    fault_read k v st h = param_from k (get_or s.params.now k no_word) (subst (λ z. Taken (Earlier k) z) (sym (param_is k v st)) h)

    pub param_first :
        (k : ℕ) → k < length s.params.now → ((i : ℕ) → i < k → TakenAt i → ⊥) → TakenAt k → First FaultOf 7 (get_or s.params.now k no_word).place
    param_first k len none h =
        let st = param_stands k len in
        record {
          fault = inr (k, _, st, (param_to k (get_or s.params.now k no_word) h, refl, refl));
          least = λ m q x.
              ⊎_elim (λ y. absurd (own_none y.0))
              (λ y. ⊎_elim (λ less. absurd (none y.0 less (fault_read y.0 y.1 y.2 y.3.0)))
              (λ more. ⊎_elim
              (λ greater. inl (subst (λ z. (get_or s.params.now k no_word).place < z) (sym y.3.2) (rising_stands Ps up.1 st y.2 greater)))
              (λ le. let e : k ≡ y.0 = omega arith in
              let same : word_of s.text.now (get_or s.params.now k no_word) ≡ y.1 =
              stands_once (subst (λ i. Stands Word Ps i (word_of s.text.now (get_or s.params.now k no_word))) e st) y.2 in
              inr (ap place_of same ∙ sym y.3.2, omega (arith, y.3.1)))
              (order k y.0))
              (order y.0 k)) x;
        }

    pub names_none : ((i : ℕ) → i < length s.params.now → TakenAt i → ⊥) → (m q : ℕ) → FaultOf m q → ⊥
    names_none none m q x =
        ⊎_elim (λ y. own_none y.0)
        (λ y. let lt = (stands_read no_word (map_stands (word_of s.text.now) s.params.now y.2).1).0 in none y.0 lt (fault_read y.0 y.1 y.2 y.3.0)) x
