-- The loops over field lines and rule lines.
use Rattle.std.proofs.Common.{◌≡◌, ℕ, zero, suc, ◌+◌, ◌<◌, ◌≤◌, List, [], ◌∷◌, ◌++◌, length, take, Ok, Err, Result, sym, refl, ap, ◌∙◌, subst, inl, ⊎_elim, arith}
use Rattle.std.proofs.str.Laws.{order}
use Rattle.std.proofs.lemmas.List.{take-map, length-map, length-take}
use Rattle.refusal.specs.declared.Fault.{Fault}
use Rattle.grammar.specs.declared.table.FieldLine.{FieldLine}
use Rattle.grammar.specs.declared.table.RuleLine.{RuleLine}
use Rattle.grammar.specs.declared.table.Node.{Node as NodeEntry}
use Rattle.grammar.specs.Syntax.{Word, Formula, Field, Rule, rule_line}
use Rattle.grammar.specs.Tables.{field_of, node_at, Entries, Rules, no_rules, a_rule, Over, many_params, size, Rising, fields_places, rules_places}
use Rattle.sheet.specs.declared.node.Node.{Node}
use Rattle.names.specs.Lists.{Stands, here, there, end, item}
use Rattle.names.specs.Faults.{sizes, FieldFault, RuleFault}
use Rattle.names.specs.Looking.{fields_in, Settles, Best, FieldSettled, FieldsSettledWith, RulesSettledWith, RulesNumbered, EntriesNumbered, RuleSettled, IsRuleLine, IsHead, Heads, SameOutside, field_at, no_rule_line, rule_at, rule_params, rule_body, rule_places, Numbered}
use Rattle.names.proofs.Lookups.{stands_at}
use Rattle.names.proofs.Once.{once_below}
use Rattle.names.proofs.Places.{stands_length, stands_once}
use Rattle.names.proofs.Numbering.{stands_map}
use Rattle.names.proofs.Parts.{entries_size}
use Rattle.names.proofs.InOrder.{flat, field_own, rule_own, fields_flat, rules_flat, flat_own, flat_order, field_fault_in, rule_fault_in}

-- no field line below i is at fault
abbrev pub FieldsBelow : List ℕ → List FieldLine → ℕ → Type 0
FieldsBelow text ls i =
    (zs : List ℕ)
    → Rising (fields_places (fields_in text ls) zs)
    → (k : ℕ) (f : Field) → k < i → Stands Field (fields_in text ls) k f
    → (n p : ℕ) → FieldFault (take k (fields_in text ls)) f n p → ⊥

module _ (text : List ℕ) (ls : List FieldLine) (i : ℕ) (len : i < length ls) where
  abbrev Fs : List Field
  Fs = fields_in text ls

  line_stands : Stands Field Fs i (field_of text (field_at ls i))
  line_stands = stands_map (field_of text) (stands_at ls i _ len)

  -- what is settled of the line that is read, as it is written
  field_written :
      (r : Result (Unit {0}) Fault) (zs : List ℕ) → FieldSettled text (take i ls) (field_at ls i) r → Rising (fields_places Fs zs)
      → (f : Field) → Stands Field Fs i f → Best (FieldFault (take i Fs) f) r
  field_written r zs settled up f st =
      let line = field_at ls i in
      let rising = flat_own field_own zs Fs (subst Rising (fields_flat Fs zs) up) line_stands in
      subst (λ z. Best (FieldFault (take i Fs) z) r) (stands_once line_stands st)
      (subst (λ z. Best (FieldFault z (field_of text line)) r) (sym (take-map (field_of text) i ls)) (settled rising.1.0.0))

  pub field_refused :
      (x : Fault) → FieldsBelow text ls i → FieldSettled text (take i ls) (field_at ls i) (Err x) → FieldsSettledWith text ls (Err x)
  field_refused x none settled zs up =
      let line = field_of text (field_at ls i) in
      let h = field_written (Err x) zs settled up line line_stands in
      let up' = subst Rising (fields_flat Fs zs) up in
      record {
        fault = (i, line, line_stands, h.fault);
        least = λ m q y.
            ⊎_elim (λ lt. absurd (none zs up y.0 y.1 lt y.2 m q y.3))
            (λ ge. ⊎_elim
            (λ gt. inl (flat_order field_own zs Fs up' line_stands y.2 gt (field_fault_in h.fault) (field_fault_in y.3)))
            (λ le. let k : y.0 ≡ i = omega arith in
            let same : y.1 ≡ line = stands_once (subst (λ z. Stands Field Fs z y.1) k y.2) line_stands in
            h.least m q (subst (λ z. FieldFault (take i Fs) z m q) same (subst (λ z. FieldFault (take z Fs) y.1 m q) k y.3)))
            (order i y.0))
            (order y.0 i);
      }

  pub fields_more :
      (u : Unit {0}) → FieldsBelow text ls i → FieldSettled text (take i ls) (field_at ls i) (Ok u) → FieldsBelow text ls (i + 1)
  fields_more u none settled zs up k f lt st n p x =
      ⊎_elim (λ less. none zs up k f less st n p x)
      (λ ge. let same : k ≡ i = omega arith in
      field_written (Ok u) zs settled up f (subst (λ z. Stands Field Fs z f) same st) n p (subst (λ z. FieldFault (take z Fs) f n p) same x))
      (order k i)

pub fields_all :
    (text : List ℕ) (ls : List FieldLine) (i : ℕ) (u : Unit {0}) → length ls ≤ i → FieldsBelow text ls i → FieldsSettledWith text ls (Ok u)
fields_all text ls i u at none zs up n p x =
    let lt = stands_length x.2 in
    none zs up x.0 x.1 (omega (arith, length-map ls (field_of text))) x.2 n p x.3

-- no rule line below l is at fault, and the entries of those lines are numbered
abbrev pub RulesBelow : List ℕ → List FieldLine → List RuleLine → List NodeEntry → ℕ → List Node → Type 0
RulesBelow text ls ks raw l nodes =
    (rs : List Rule) (e : ℕ) (zs : List ℕ)
    → Rules text raw 0 ks rs e
    → Rising (rules_places rs zs)
    → ((k : ℕ) (x : Rule) → k < l → Stands Rule rs k x → (n p : ℕ) → RuleFault (fields_in text ls) (take k rs) x n p → ⊥)
    × RulesNumbered text ls ks raw rs l nodes

-- Facts of one rule line among many

-- a line that is over no limit has at most 4 parameters
few_params : (s : ℕ) (ps : List Word) (f : Formula) → (Over s ps f → ⊥) → length ps ≤ 4
few_params s ps f fits = ⊎_elim (λ h. absurd (fits (many_params h))) (λ h. h) (order 4 (length ps))

module _ (text : List ℕ) (nodes : List NodeEntry) where
  pub rules_heads : {s e : ℕ} {ls : List RuleLine} {rs : List Rule} → Rules text nodes s ls rs e → Heads text ls rs
  rules_heads no_rules = end
  rules_heads (a_rule {s = s} {ps = ps} {f = f} ep ew eps es d fits rest) =
      item (ep, ew, eps, few_params s ps f fits) (rules_heads rest)

  pub rules_end : {s e : ℕ} {ls : List RuleLine} {rs : List Rule} → Rules text nodes s ls rs e → e ≡ s + sizes rs
  rules_end no_rules = omega arith
  rules_end (a_rule ep ew eps es d fits rest) =
      let h = rules_end rest in let g = entries_size text nodes d in omega arith

  pub rules_long : {s e : ℕ} {ls : List RuleLine} {rs : List Rule} → Rules text nodes s ls rs e → length ls ≡ length rs
  rules_long no_rules = refl
  rules_long (a_rule ep ew eps es d fits rest) = ap suc (rules_long rest)

  -- the rule of a line
  pub record LineOf (s : ℕ) (rs : List Rule) (i : ℕ) (l : RuleLine) : Type 0 where
    pub rule : Rule
    pub stands : Stands Rule rs i rule
    pub head : IsHead text l rule
    pub entries : Entries text nodes l.start l.body (rule_body rule)
    pub within : Over (s + sizes (take i rs)) (rule_params rule) (rule_body rule) → ⊥
    pub starts : l.start ≡ s + sizes (take i rs)

  pub line_of :
      {s e : ℕ} {ls : List RuleLine} {rs : List Rule} {i : ℕ} {l : RuleLine}
      → Rules text nodes s ls rs e → Stands RuleLine ls i l → LineOf s rs i l
  line_of no_rules st = elim st [ ]
  line_of (a_rule {s = s} {l = l} {ps = ps} {f = f} ep ew eps es d fits rest) here =
      let zero_sum : s ≡ s + 0 = omega arith in
      record {
        rule = _;
        stands = here;
        head = (ep, ew, eps, few_params s ps f fits);
        entries = subst (λ z. Entries text nodes z l.body f) (sym es) d;
        within = subst (λ z. Over z ps f → ⊥) zero_sum fits;
        starts = es ∙ zero_sum;
      }
  line_of (a_rule {s = s} {l = l} {f = f} {xs = xs} ep ew eps es d fits rest) (there {i = i} st) =
      let h = line_of rest st in
      let g = entries_size text nodes d in
      let e : suc l.body + sizes (take i xs) ≡ s + (size f + sizes (take i xs)) = omega arith in
      record {
        rule = h.rule;
        stands = there h.stands;
        head = h.head;
        entries = h.entries;
        within = subst (λ z. Over z (rule_params h.rule) (rule_body h.rule) → ⊥) e h.within;
        starts = h.starts ∙ e;
      }

sizes_take : (i : ℕ) (rs : List Rule) {r : Rule} → Stands Rule rs i r → (k : ℕ) → i < k → sizes (take i rs) + size (rule_body r) ≤ sizes (take k rs)
sizes_take _ _ (here {x = rule_line p w ps f}) (suc k) lt = omega arith
sizes_take _ _ (here {x = rule_line p w ps f}) zero lt = absurd (omega arith)
sizes_take _ _ (there {y = rule_line p w ps f} {xs = xs} {i = i} s) (suc k) lt = let h = sizes_take i xs s k (omega arith) in omega arith
sizes_take _ _ (there s) zero lt = absurd (omega arith)

pub sizes_upto : (i : ℕ) (rs : List Rule) {r : Rule} → Stands Rule rs i r → sizes (take i rs) + size (rule_body r) ≤ sizes rs
sizes_upto _ _ (here {x = rule_line p w ps f}) = omega arith
sizes_upto _ _ (there {y = rule_line p w ps f} {xs = xs} {i = i} s) = let h = sizes_upto i xs s in omega arith

pub heads_take : {text : List ℕ} (n : ℕ) {ls : List RuleLine} {rs : List Rule} → Heads text ls rs → Heads text (take n ls) (take n rs)
heads_take zero h = end
heads_take (suc n) end = end
heads_take (suc n) (item h e) = item h (heads_take n e)

module _ (text : List ℕ) (ls : List FieldLine) (ks : List RuleLine) (raw : List NodeEntry) (few : length ks ≤ 16)
    (l : ℕ) (len : l < length ks) where
  abbrev Ls : List Field
  Ls = fields_in text ls

  abbrev Line : RuleLine
  Line = rule_at ks l

  -- what is settled of the line that is read, as it is written
  module _ (rs : List Rule) (e : ℕ) (zs : List ℕ) (held : Rules text raw 0 ks rs e) (up : Rising (rules_places rs zs)) where
    facts : LineOf text raw 0 rs l Line
    facts = line_of text raw held (stands_at ks l no_rule_line len)

    up' : Rising (flat rule_own rs zs)
    up' = subst Rising (rules_flat rs zs) up

    is_line : IsRuleLine text raw Line (take l rs) facts.rule
    is_line =
        record {
          head = facts.head;
          entries = facts.entries;
          few_rules = omega (arith, length-take l rs);
          within = subst (λ z. Over z (rule_params facts.rule) (rule_body facts.rule) → ⊥) (omega arith) facts.within;
        }

    own_rising : (x : Rule) → Stands Rule rs l x → Rising (rule_places x)
    own_rising (rule_line p w ps f) st = flat_own rule_own zs rs up' st

    rule_written :
        (r : Result (Unit {0}) Fault) (nodes : List Node) → RuleSettled text ls ks raw l nodes r
        → ((k : ℕ) (x : Rule) → k < l → Stands Rule rs k x → (n p : ℕ) → RuleFault Ls (take k rs) x n p → ⊥)
        → (x : Rule) → Stands Rule rs l x
        → Settles (RuleFault Ls (take l rs) x)
        (λ _. EntriesNumbered text ls raw (take l rs ++ (x ∷ [])) (rule_params x) nodes Line.start (Line.body + 1)) r
    rule_written r nodes settled none x st =
        subst
        (λ z. Settles (RuleFault Ls (take l rs) z)
        (λ _. EntriesNumbered text ls raw (take l rs ++ (z ∷ [])) (rule_params z) nodes Line.start (Line.body + 1)) r)
        (stands_once facts.stands st)
        (settled (take l rs) facts.rule (heads_take l (rules_heads text raw held)) (once_below Ls rs l none) is_line (own_rising facts.rule facts.stands))

    -- the entries of an earlier line stand before those of this line
    earlier_line : (i : ℕ) (x : Rule) → i < l → Stands Rule rs i x → (rule_at ks i).body + 1 ≤ Line.start
    earlier_line i x lt st =
        let at = line_of text raw held (stands_at ks i no_rule_line (omega arith)) in
        let a = entries_size text raw at.entries in
        let b = sizes_take i rs at.stands l lt in
        omega (arith, at.starts, facts.starts)

  pub rule_refused :
      (x : Fault) (nodes nodes' : List Node) → RulesBelow text ls ks raw l nodes → RuleSettled text ls ks raw l nodes' (Err x)
      → RulesSettledWith text ls ks raw nodes' (Err x)
  rule_refused x nodes nodes' none settled rs e zs held up =
      let at = facts rs e zs held up in
      let h = rule_written rs e zs held up (Err x) nodes' settled (none rs e zs held up).0 at.rule at.stands in
      record {
        fault = (l, at.rule, at.stands, h.fault);
        least = λ m q y.
            ⊎_elim (λ lt. absurd ((none rs e zs held up).0 y.0 y.1 lt y.2 m q y.3))
            (λ ge. ⊎_elim
            (λ gt. inl (flat_order rule_own zs rs (up' rs e zs held up) at.stands y.2 gt (rule_fault_in h.fault) (rule_fault_in y.3)))
            (λ le. let k : y.0 ≡ l = omega arith in
            let same : y.1 ≡ at.rule = stands_once (subst (λ z. Stands Rule rs z y.1) k y.2) at.stands in
            h.least m q (subst (λ z. RuleFault Ls (take l rs) z m q) same (subst (λ z. RuleFault Ls (take z rs) y.1 m q) k y.3)))
            (order l y.0))
            (order y.0 l);
      }

  pub rules_more :
      (u : Unit {0}) (nodes nodes' : List Node) → RulesBelow text ls ks raw l nodes → RuleSettled text ls ks raw l nodes' (Ok u)
      → SameOutside nodes nodes' Line.start (Line.body + 1) → RulesBelow text ls ks raw (l + 1) nodes'
  rules_more u nodes nodes' none settled same rs e zs held up =
      let old = none rs e zs held up in (
        λ k x lt st n p y.
            ⊎_elim (λ less. old.0 k x less st n p y)
            (λ ge. let is : k ≡ l = omega arith in
            (rule_written rs e zs held up (Ok u) nodes' settled old.0 x (subst (λ z. Stands Rule rs z x) is st)).0 n p
            (subst (λ z. RuleFault Ls (take z rs) x n p) is y))
            (order k l),
        λ i x lt st.
            ⊎_elim
            (λ less k from to.
            let before = earlier_line rs e zs held up i x less st in
            subst (Numbered text Ls (take i rs ++ (x ∷ [])) (rule_params x) (node_at raw k)) (sym (same.0 k (omega arith)))
            (old.1 i x less st k from to))
            (λ ge. let is : l ≡ i = omega arith in
            subst (λ z. EntriesNumbered text ls raw (take z rs ++ (x ∷ [])) (rule_params x) nodes' (rule_at ks z).start ((rule_at ks z).body + 1)) is
            (rule_written rs e zs held up (Ok u) nodes' settled old.0 x (subst (λ z. Stands Rule rs z x) (sym is) st)).1)
            (order i l),
      )

pub rules_all :
    (text : List ℕ) (ls : List FieldLine) (ks : List RuleLine) (raw : List NodeEntry) (l : ℕ) (nodes : List Node) (u : Unit {0})
    → length ks ≤ l → RulesBelow text ls ks raw l nodes → RulesSettledWith text ls ks raw nodes (Ok u)
rules_all text ls ks raw l nodes u at none rs e zs held up =
    let h = none rs e zs held up in
    let long = rules_long text raw held in (
      λ n p x. let lt = stands_length x.2 in h.0 x.0 x.1 (omega arith) x.2 n p x.3,
      λ i x lt st. h.1 i x (omega arith) st,
    )
