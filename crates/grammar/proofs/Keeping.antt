-- Lines that a table keeps: one more, or from now on none.
use Rattle.std.proofs.Common.{◌≡◌, ℕ, suc, ◌+◌, ◌<◌, ◌≤◌, Bool, true, false, ◌⊎◌, List, [], ◌∷◌, ◌++◌, map, length, take, is_some, Some, None, Option, sym, refl, ap, ◌∙◌, subst, inl, inr, append_assoc, arith, length-append}
use lib.ListN.{length-map}
use Rattle.std.proofs.lemmas.List.{take_all}
use Rattle.grammar.specs.CopyVec.{CopyVec}
use Rattle.grammar.specs.declared.table.Word.{Word as WordEntry}
use Rattle.grammar.specs.declared.table.Node.{Node}
use Rattle.grammar.specs.declared.table.FieldLine.{FieldLine}
use Rattle.grammar.specs.declared.table.RuleLine.{RuleLine}
use Rattle.grammar.specs.declared.table.Table.{Table}
use Rattle.grammar.specs.declared.formula_part.Part.{Part}
use Rattle.grammar.specs.declared.line.Head.{Head}
use Rattle.grammar.specs.Syntax.{Word, Formula, Field, field_line, Rule, rule_line, mark_line, sheet}
use Rattle.grammar.specs.Tables.{word_of, number_of, node_at, Entries, size, joins, Over, many_params, many_joins, many_formulas, field_of, fields_of, params_of, rules_of, Rules, no_rules, a_rule, LinesAbove, Holds, over_field, over_rule, over_mark}
use Rattle.grammar.specs.Tables as tables
use Rattle.grammar.specs.Parsing.{Holds4, entered, Grown, LinesKept, all_kept, field_over, rule_over, Lines, BodyHeld, Exceeding, Kept}
use Rattle.grammar.proofs.Leaves.{no, not_true}
use Rattle.grammar.proofs.Entering.{starts, entries_same}

some_none : {X : Type 0} {x : X} {o : Option X} → o ≡ Some x → is_some o ≡ false → ⊥
some_none e h = no (cc)

none_some : {X : Type 0} {o : Option X} → o ≡ None → is_some o ≡ true → ⊥
none_some e h = no (cc)

longer : {A : Type 0} (xs : List A) (x : A) → length (xs ++ x ∷ []) ≡ length xs + 1
longer xs x = length-append xs (x ∷ [])

not_above : (a b : ℕ) → (b < a → ⊥) → a ≤ b
not_above a b z = omega (arith, z)

-- within the limits
not_passing : (s n : ℕ) (part : Part) → (Exceeding s n part → ⊥) → (n ≤ 4) × (s + part.size ≤ 256)
not_passing s n part z =
    (not_above n 4 (λ h. z (inl h)), not_above (s + part.size) 256 (λ h. z (inr (inr h))))

-- Rules in entries that stay

rules_order :
    {text : List ℕ} {ns : List Node} {s e : ℕ} {ls : List RuleLine} {xs : List Rule}
    → Rules text ns s ls xs e
    → s ≤ e
rules_order no_rules = omega arith
rules_order (a_rule p w ps st en ov r) = omega (arith, starts en, rules_order r)

rules_same :
    {text : List ℕ} {ns ms : List Node} {s e : ℕ} {ls : List RuleLine} {xs : List Rule}
    → ((k : ℕ) → k < e → node_at ms k ≡ node_at ns k)
    → Rules text ns s ls xs e
    → Rules text ms s ls xs e
rules_same h no_rules = no_rules
rules_same h (a_rule {l = l} p w ps st en ov r) =
    let o = rules_order r in
    a_rule p w ps st (entries_same (λ k le. h k (omega arith)) en) ov (rules_same h r)

module _ (text : List ℕ) where
  above_same :
      {b a : Table} {fs : List Field} {rs : List Rule} {e : ℕ}
      → a.fields ≡ b.fields
      → a.rules ≡ b.rules
      → ((k : ℕ) → k < e → node_at a.nodes.items k ≡ node_at b.nodes.items k)
      → LinesAbove text b fs rs e
      → LinesAbove text a fs rs e
  above_same {b} {a} {fs} {rs} {e} f r n h = record {
    few_fields = h.few_fields;
    fields_held = ap (λ v. map (field_of text) v.items) f ∙ h.fields_held;
    few_rules = h.few_rules;
    rules_held = subst (λ v. Rules text a.nodes.items 0 v.items rs e) (sym r) (rules_same n h.rules_held);
  }

  -- entries added after those in use leave the lines as they are
  pub lines_grown :
      {b a : Table} {fs : List Field} {rs : List Rule}
      → Grown b a
      → Lines text b fs rs
      → LinesKept text a fs rs (entered b)
  lines_grown g (all_kept o h) = all_kept (g.others.1 ∙ o) (above_same g.fields g.rules g.same h)
  lines_grown g (field_over w lo hi below o h le n e) =
      field_over w lo hi below (g.others.1 ∙ o)
      (above_same g.fields g.rules (λ k lt. g.same k (omega arith)) h) le n e
  lines_grown g (rule_over w below o h le v e) =
      rule_over w below (g.others.1 ∙ o) (above_same g.fields g.rules
      (λ k lt. g.same k (omega arith)) h) le v e

  -- A line passes a limit as it is read exactly where it does as it is written

  module _
      {b : Table} {s n : ℕ} {part : Part} {f : Formula} {ps : List Word}
      (body : BodyHeld text b s part f) (counts : n ≡ length ps) where
    passing : Exceeding s n part → Over s ps f
    passing (inl h) = many_params (omega (arith, counts))
    passing (inr (inl h)) = many_joins (omega (arith, body.joined))
    passing (inr (inr h)) = many_formulas (omega (arith, body.sized))

    passed : Over s ps f → Exceeding s n part
    passed (many_params h) = inl (omega (arith, counts))
    passed (many_joins h) = inr (inl (omega (arith, body.joined)))
    passed (many_formulas h) = inr (inr (omega (arith, body.sized)))

  -- Field lines

  no_rule : (q : Rule) (qs below : List Rule) → [] ≡ qs ++ (q ∷ below) → ⊥
  no_rule q [] below e = no (cc)
  no_rule q (r ∷ qs) below e = no (cc)

  field_skipped :
      {b : Table} {fs : List Field} (f : Field)
      → is_some b.over ≡ true
      → Lines text b fs []
      → Lines text b (fs ++ f ∷ []) []
  field_skipped f s (all_kept o h) = absurd (none_some o s)
  field_skipped f s (field_over {gs = gs} {p = p} w lo hi below o h le n e) =
      field_over w lo hi (below ++ f ∷ []) o h le n
      (ap (λ l. l ++ f ∷ []) e ∙ append_assoc gs (field_line p w lo hi ∷ below) (f ∷ []))
  field_skipped f s (rule_over w below o h le v e) = absurd (no_rule _ _ _ e)

  -- the table with the place of a line that passes a limit
  abbrev over_at : Table → ℕ → Table
  over_at b p = record b { over = Some p }

  over_above :
      {b : Table} {fs : List Field} {rs : List Rule} {e p : ℕ}
      → LinesAbove text b fs rs e
      → LinesAbove text (over_at b p) fs rs e
  over_above h = above_same refl refl (λ k lt. refl) h

  fields_length :
      {b : Table} {fs : List Field} {rs : List Rule} {e : ℕ}
      → LinesAbove text b fs rs e
      → length b.fields.items ≡ length fs
  fields_length {b} h = sym (length-map b.fields.items (field_of text)) ∙ ap length h.fields_held

  rules_length :
      {ns : List Node} {s e : ℕ} {ls : List RuleLine} {xs : List Rule}
      → Rules text ns s ls xs e
      → length ls ≡ length xs
  rules_length no_rules = refl
  rules_length (a_rule p w ps st en ov r) = ap (λ k. suc k) (rules_length r)

  field_passes :
      (b : Table) (fs : List Field) (line : FieldLine)
      → is_some b.over ≡ false
      → length b.fields.items ≡ 8
      → Lines text b fs []
      → Lines text (over_at b line.first) (fs ++ field_of text line ∷ []) []
  field_passes b fs line s e (all_kept o h) =
      field_over (word_of text line.name) (number_of line.low) (number_of line.high) [] refl
      (over_above h)
      (omega arith) (sym (fields_length h) ∙ e) refl
  field_passes b fs line s le (field_over w lo hi below o h d n e) = absurd (some_none o s)
  field_passes b fs line s le (rule_over w below o h d v e) = absurd (some_none o s)

  pub field_left_out :
      (b a : Table) (fs : List Field) (line : FieldLine) {v : Bool}
      → (v ≡ true → length b.fields.items ≡ 8)
      → Kept b a line.first v false
      → Lines text b fs []
      → Lines text a (fs ++ field_of text line ∷ []) []
  field_left_out b a fs line full kept h =
      let result : Table → Type 0 = λ t. Lines text t (fs ++ field_of text line ∷ []) [] in
      elim kept [
        | inl k ↦ subst result (sym k.1) (field_skipped (field_of text line) k.0 h)
        | inr k ↦ subst result (sym k.2) (field_passes b fs line k.0 (full k.1) h)
      ]

  -- Rule lines

  rules_more :
      {ns : List Node} {s d e : ℕ} {ls ks : List RuleLine} {xs ys : List Rule}
      → Rules text ns s ls xs d
      → Rules text ns d ks ys e
      → Rules text ns s (ls ++ ks) (xs ++ ys) e
  rules_more no_rules k = k
  rules_more (a_rule p w ps st en ov r) k = a_rule p w ps st en ov (rules_more r k)

  module _ (b : Table) (fs : List Field) (rs : List Rule) (s : ℕ) (le : s ≤ entered b) where
    rule_skipped :
        (r : Rule)
        → is_some b.over ≡ true
        → LinesKept text b fs rs s
        → Lines text b fs (rs ++ r ∷ [])
    rule_skipped r is (all_kept o h) = absurd (none_some o is)
    rule_skipped r is (field_over w lo hi below o h d n e) = field_over w lo hi below o h (omega arith) n e
    rule_skipped r is (rule_over {qs = qs} {p = p} {ps = ps} {f = f} w below o h d v e) =
        rule_over w (below ++ r ∷ []) o h (omega arith) v
        (ap (λ l. l ++ r ∷ []) e ∙ append_assoc qs (rule_line p w ps f ∷ below) (r ∷ []))

    module _
        (first : ℕ) (head : Head) (part : Part) (all : List WordEntry) (f : Formula)
        (few : Holds4 WordEntry head.params all) (body : BodyHeld text b s part f) where
      named : head.params.count ≡ length (map (word_of text) all)
      named = few.counts ∙ sym (length-map all (word_of text))

      rule_passes :
          is_some b.over ≡ false
          → (length b.rules.items ≡ 16) ⊎ Exceeding s head.params.count part
          → LinesKept text b fs rs s
          → Lines text (over_at b first) fs (rs ++ rule_line first (word_of text head.name)
          (map (word_of text) all) f ∷ [])
      rule_passes is (inl n) (all_kept o h) =
          rule_over (word_of text head.name) [] refl (over_above h) le (inl (omega (arith, rules_length h.rules_held)))
          refl
      rule_passes is (inr v) (all_kept o h) =
          rule_over (word_of text head.name) [] refl (over_above h) le (inr (passing body named v)) refl
      rule_passes is v (field_over w lo hi below o h d n e) = absurd (some_none o is)
      rule_passes is v (rule_over w below o h d u e) = absurd (some_none o is)

      pub rule_left_out :
          (a : Table) {v : Bool}
          → (v ≡ true → (length b.rules.items ≡ 16) ⊎ Exceeding s head.params.count part)
          → Kept b a first v false
          → LinesKept text b fs rs s
          → Lines text a fs (rs ++ rule_line first (word_of text head.name) (map (word_of text) all) f ∷ [])
      rule_left_out a full kept h =
          let read : Rule = rule_line first (word_of text head.name) (map (word_of text) all) f in
          let result : Table → Type 0 = λ t. Lines text t fs (rs ++ read ∷ []) in
          elim kept [
            | inl k ↦ subst result (sym k.1) (rule_skipped read k.0 h)
            | inr k ↦ subst result (sym k.2) (rule_passes k.0 (full k.1) h)
          ]

      -- the line, as it is stored
      abbrev line : CopyVec WordEntry → RuleLine
      line params = record { first = first; name = head.name; params = params; start = s; body = part.body }

      rule_stored :
          (params : CopyVec WordEntry) (more : CopyVec RuleLine)
          → params.items ≡ take head.params.count head.params.items
          → more.items ≡ b.rules.items ++ line params ∷ []
          → is_some b.over ≡ false
          → length b.rules.items < 16
          → (Exceeding s head.params.count part → ⊥)
          → s + part.size ≤ 256
          → head.params.count ≤ 4
          → LinesKept text b fs rs s
          → Lines text (record b { rules = more })
          fs (rs ++ rule_line first (word_of text head.name) (map (word_of text) all) f ∷ [])
      rule_stored params more ps_is is none lt z not_over not_many (all_kept o h) =
          let fits : s + size f ≤ 256 = omega (arith, not_over, body.sized) in
          let k = body.held fits in
          let n = longer rs (rule_line first (word_of text head.name) (map (word_of text) all) f) in
          let c = few.counts in
          let small : length all ≤ 4 = omega (arith, not_many) in
          let e : suc part.body ≡ entered b = omega (arith, k.2) in
          all_kept o (record {
            few_fields = h.few_fields;
            fields_held = h.fields_held;
            few_rules = omega (arith, rules_length h.rules_held);
            rules_held =
                subst (λ q. Rules text b.nodes.items 0 q (rs ++ rule_line first (word_of text head.name)
                (map (word_of text) all) f ∷ []) (entered b))
                (sym is)
                (rules_more h.rules_held
                (subst (Rules text b.nodes.items s (line params ∷ [])
                (rule_line first (word_of text head.name) (map (word_of text) all) f ∷ [])) e
                (a_rule refl refl
                (ap (map (word_of text)) (ps_is ∙ few.holds ∙ take_all 4 all small))
                refl k.0 (λ v. z (passed body named v)) no_rules)));
          })
      rule_stored params more ps_is is none lt z x y (field_over w lo hi below o h d n e) = absurd (some_none o none)
      rule_stored params more ps_is is none lt z x y (rule_over w below o h d u e) = absurd (some_none o none)

      pub rule_kept :
          (a : Table) {v : Bool} (params : CopyVec WordEntry) (more : CopyVec RuleLine)
          → params.items ≡ take head.params.count head.params.items
          → more.items ≡ a.rules.items ++ line params ∷ []
          → (v ≡ false → length b.rules.items < 16)
          → (Exceeding s head.params.count part → v ≡ true)
          → Kept b a first v true
          → LinesKept text b fs rs s
          → Lines text (record a { rules = more })
          fs (rs ++ rule_line first (word_of text head.name) (map (word_of text) all) f ∷ [])
      rule_kept a params more ps_is is room full kept h =
          let over : Exceeding s head.params.count part → ⊥ = λ p. not_true (sym kept.1 ∙ full p) in
          let within = not_passing s head.params.count part over in
          let read : Rule = rule_line first (word_of text head.name) (map (word_of text) all) f in
          subst (λ t. Lines text (record t { rules = more }) fs (rs ++ read ∷ [])) (sym kept.2)
          (rule_stored params more ps_is (is ∙ ap (λ t. t.rules.items ++ line params ∷ []) kept.2)
          kept.0 (room kept.1) over within.1 within.0 h)

  -- The mark line

  module _
      (b : Table) (fs : List Field) (rs : List Rule) (s first : ℕ) (part : Part) (f : Formula)
      (body : BodyHeld text b s part f) where
    mark_skipped :
        is_some b.over ≡ true
        → LinesKept text b fs rs s
        → Holds text b (sheet fs rs (mark_line first f))
    mark_skipped is (all_kept o h) = absurd (none_some o is)
    mark_skipped is (field_over w lo hi below o h d n e) = over_field o h n w lo hi below e
    mark_skipped is (rule_over w below o h d v e) = over_rule o h v w below e

    mark_passes :
        is_some b.over ≡ false
        → Exceeding s 0 part
        → LinesKept text b fs rs s
        → Holds text (over_at b first) (sheet fs rs (mark_line first f))
    mark_passes is v (all_kept o h) = over_mark refl (over_above h) (passing body refl v)
    mark_passes is v (field_over w lo hi below o h d n e) = absurd (some_none o is)
    mark_passes is v (rule_over w below o h d u e) = absurd (some_none o is)

    pub mark_left_out :
        (a : Table) {v : Bool}
        → (v ≡ true → Exceeding s 0 part)
        → Kept b a first v false
        → LinesKept text b fs rs s
        → Holds text a (sheet fs rs (mark_line first f))
    mark_left_out a full kept h =
        let result : Table → Type 0 = λ t. Holds text t (sheet fs rs (mark_line first f)) in
        elim kept [
          | inl k ↦ subst result (sym k.1) (mark_skipped k.0 h)
          | inr k ↦ subst result (sym k.2) (mark_passes k.0 (full k.1) h)
        ]

    mark_stored :
        is_some b.over ≡ false
        → (Exceeding s 0 part → ⊥)
        → s + part.size ≤ 256
        → LinesKept text b fs rs s
        → Holds text (record b { mark = record { first = first; start = s; body = part.body } })
        (sheet fs rs (mark_line first f))
    mark_stored is z fits (all_kept o h) =
        let k = body.held (omega (arith, body.sized)) in
        tables.whole o (above_same refl refl (λ i lt. refl) h) refl refl k.0
        (λ v. z (passed body refl v))
    mark_stored is z fits (field_over w lo hi below o h d n e) = absurd (some_none o is)
    mark_stored is z fits (rule_over w below o h d u e) = absurd (some_none o is)

    pub mark_kept :
        (a : Table) {v : Bool}
        → (Exceeding s 0 part → v ≡ true)
        → Kept b a first v true
        → LinesKept text b fs rs s
        → Holds text (record a { mark = record { first = first; start = s; body = part.body } })
        (sheet fs rs (mark_line first f))
    mark_kept a full kept h =
        let within : Exceeding s 0 part → ⊥ = λ p. not_true (sym kept.1 ∙ full p) in
        subst (λ t. Holds text (record t { mark = record { first = first; start = s; body = part.body } })
        (sheet fs rs (mark_line first f))) (sym kept.2)
        (mark_stored kept.0 within (not_passing s 0 part within).1 h)
