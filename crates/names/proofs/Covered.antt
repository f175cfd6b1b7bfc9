-- The first fault of a sheet is the first fault of the first line at fault, or 11 at the first line that is not kept.
use Rattle.std.proofs.Common.{◌≡◌, ℕ, ◌+◌, ◌<◌, ◌≤◌, ◌⊎◌, List, [], ◌∷◌, ◌++◌, map, length, take, Option, Some, None, Ok, Err, Result, sym, refl, ap, ◌∙◌, subst, inl, inr, ⊎_elim, append-nil, arith}
use lib.Seq.{take-append-le}
use Rattle.std.proofs.str.Laws.{order}
use Rattle.std.proofs.lemmas.List.{take_at}
use Rattle.refusal.specs.declared.Fault.{Fault}
use Rattle.refusal.specs.declared.Refusal.TheVariants.{TooMany}
use Rattle.grammar.specs.declared.table.FieldLine.{FieldLine}
use Rattle.grammar.specs.declared.table.RuleLine.{RuleLine}
use Rattle.grammar.specs.declared.table.Node.{Node as NodeEntry}
use Rattle.grammar.specs.declared.table.Table.{Table}
use Rattle.grammar.specs.Syntax.{Word, Number, num, Formula, Field, field_line, Rule, rule_line, Mark, mark_line, Sheet, sheet}
use Rattle.grammar.specs.Tables.{node_at, fields_of, rules_of, Entries, Rules, LinesAbove, Holds, whole, over_field, over_rule, over_mark, Over, WellRead, Rising, fields_places, rules_places, sheet_places, formula_places, place_of}
use Rattle.sheet.specs.declared.node.Node.{Node}
use Rattle.names.specs.Lists.{Stands, here, there, In, this, that}
use Rattle.names.specs.Faults.{sizes, FieldFault, field_taken, wrong_range, many_fields, RuleFault, rule_taken, param_taken, rule_formula, many_rules, rule_passes, MarkFault, mark_formula, mark_passes, Faulty, in_field, in_rule, in_mark, First, NoLater}
use Rattle.names.specs.Looking.{Best, Settles, EntriesNumbered, no_rule_line, FieldsFault, RulesFault, FieldsSettledWith, RulesSettledWith, MarkSettled, RulesNumbered, AllNumbered, LinesSettled, SameOutside, Numbered, rule_params}
use Rattle.names.proofs.Search.{stands_in}
use Rattle.names.proofs.Once.{once_all}
use Rattle.names.proofs.Places.{in_left, in_right, in_map, stands_length, stands_after, stands_once}
use Rattle.names.proofs.Ordered.{before_in}
use Rattle.names.proofs.Runs.{settles_like}
use Rattle.names.proofs.Lookups.{stands_at}
use Rattle.names.proofs.Parts.{entries_size}
use Rattle.names.proofs.Loops.{rules_heads, rules_end, rules_long, line_of, sizes_upto}
use Rattle.names.proofs.InOrder.{flat, field_own, rule_own, mark_own, fields_flat, rules_flat, flat_own, flat_rest, flat_order, flat_end, in_flat, in_end, field_fault_in, rule_fault_in, mark_fault_in, formula_fault_in}

stands_left : {A : Type 0} {xs : List A} {i : ℕ} {x : A} (ys : List A) → Stands A xs i x → Stands A (xs ++ ys) i x
stands_left ys here = here
stands_left ys (there s) = there (stands_left ys s)

stands_front : {A : Type 0} (xs ys : List A) {i : ℕ} {x : A} → Stands A (xs ++ ys) i x → i < length xs → Stands A xs i x
stands_front [] ys s lt = absurd (omega arith)
stands_front (x ∷ xs) ys here lt = here
stands_front (x ∷ xs) ys (there s) lt = there (stands_front xs ys s (omega arith))

-- the kept field lines fs and rule lines rs, and those that are not kept
module _ (fs gs : List Field) (rs qs : List Rule) (m : Mark)
    (all : List Field) (every : List Rule) (ea : all ≡ fs ++ gs) (ee : every ≡ rs ++ qs)
    (context : (rs ≡ []) ⊎ (all ≡ fs))
    (up : Rising (flat field_own all (flat rule_own every (mark_own m)))) where
  -- a fault of a line that is not kept, or of the mark line
  unfoldable pub Rest : ℕ → ℕ → Type 0
  Rest n q =
      ((i : ℕ) × (f : Field) × Stands Field all i f × (length fs ≤ i) × FieldFault (take i all) f n q)
      ⊎ (((i : ℕ) × (x : Rule) × Stands Rule every i x × (length rs ≤ i) × RuleFault all (take i every) x n q)
      ⊎ MarkFault all every m n q)

  up_rules : Rising (flat rule_own every (mark_own m))
  up_rules = flat_rest field_own (flat rule_own every (mark_own m)) all up

  same_above : (i : ℕ) → i ≤ length fs → take i all ≡ take i fs
  same_above i le = ap (take i) ea ∙ take-append-le i fs gs le

  same_rules : (i : ℕ) → i ≤ length rs → take i every ≡ take i rs
  same_rules i le = ap (take i) ee ∙ take-append-le i rs qs le

  fields_kept : {i : ℕ} {x : Rule} → Stands Rule rs i x → all ≡ fs
  fields_kept {i} {x} st = ⊎_elim (λ e. let z : Stands Rule [] i x = subst (λ l. Stands Rule l i x) e st in elim z [ ]) (λ e. e) context

  pub to_field : (n q : ℕ) → FieldsFault fs n q → Faulty (sheet all every m) n q
  to_field n q x =
      let lt = stands_length x.2 in
      in_field (subst (λ z. Stands Field z x.0 x.1) (sym ea) (stands_left gs x.2))
      (subst (λ z. FieldFault z x.1 n q) (sym (same_above x.0 (omega arith))) x.3)

  pub to_rule : (n q : ℕ) → RulesFault fs rs n q → Faulty (sheet all every m) n q
  to_rule n q x =
      let lt = stands_length x.2 in
      in_rule (subst (λ z. Stands Rule z x.0 x.1) (sym ee) (stands_left qs x.2))
      (subst (λ z. RuleFault all z x.1 n q) (sym (same_rules x.0 (omega arith)))
      (subst (λ z. RuleFault z (take x.0 rs) x.1 n q) (sym (fields_kept x.2)) x.3))

  pub to_rest : (n q : ℕ) → Rest n q → Faulty (sheet all every m) n q
  unfolding Rest
  to_rest n q x =
      ⊎_elim (λ y. in_field y.2 y.4) (λ z. ⊎_elim (λ y. in_rule y.2 y.4) (λ y. in_mark y) z) x

  pub from : (n q : ℕ) → Faulty (sheet all every m) n q → FieldsFault fs n q ⊎ (RulesFault fs rs n q ⊎ Rest n q)
  unfolding Rest
  from n q (in_field {i = i} {f = f} st h) =
      ⊎_elim
      (λ lt. inl (i, f, stands_front fs gs (subst (λ z. Stands Field z i f) ea st) lt, subst (λ z. FieldFault z f n q) (same_above i (omega arith)) h))
      (λ ge. inr (inr (inl (i, f, st, ge, h))))
      (order i (length fs))
  from n q (in_rule {i = i} {r = r} st h) =
      ⊎_elim
      (λ lt. let kept = stands_front rs qs (subst (λ z. Stands Rule z i r) ee st) lt in
      inr (inl (i, r, kept, subst (λ z. RuleFault z (take i rs) r n q) (fields_kept kept) (subst (λ z. RuleFault all z r n q) (same_rules i (omega arith)) h))))
      (λ ge. inr (inr (inr (inl (i, r, st, ge, h)))))
      (order i (length rs))
  from n q (in_mark h) = inr (inr (inr (inr h)))

  field_whole : {i : ℕ} {f : Field} → Stands Field fs i f → Stands Field all i f
  field_whole {i} {f} st = subst (λ z. Stands Field z i f) (sym ea) (stands_left gs st)

  rule_whole : {i : ℕ} {x : Rule} → Stands Rule rs i x → Stands Rule every i x
  rule_whole {i} {x} st = subst (λ z. Stands Rule z i x) (sym ee) (stands_left qs st)

  pub field_rule : (n p k q : ℕ) → FieldsFault fs n p → RulesFault fs rs k q → p < q
  field_rule n p k q x y =
      flat_end field_own (flat rule_own every (mark_own m)) all up (field_whole x.2) (field_fault_in x.3)
      (in_flat rule_own (mark_own m) every (rule_whole y.2) (rule_fault_in y.3))

  pub field_rest : (n p k q : ℕ) → FieldsFault fs n p → Rest k q → p < q
  unfolding Rest
  field_rest n p k q x y =
      let lt = stands_length x.2 in
      ⊎_elim
      (λ z. flat_order field_own (flat rule_own every (mark_own m)) all up (field_whole x.2) z.2 (omega (arith, z.3)) (field_fault_in x.3) (field_fault_in z.4))
      (λ w. flat_end field_own (flat rule_own every (mark_own m)) all up (field_whole x.2) (field_fault_in x.3)
      (⊎_elim (λ z. in_flat rule_own (mark_own m) every z.2 (rule_fault_in z.4)) (λ z. in_end rule_own (mark_own m) every (mark_fault_in z)) w)) y

  pub rule_rest : (n p k q : ℕ) → RulesFault fs rs n p → Rest k q → p < q
  unfolding Rest
  rule_rest n p k q x y =
      let lt = stands_length x.2 in
      ⊎_elim
      (λ z. let short = ap length (fields_kept x.2) in let in_all = stands_length z.2 in absurd (omega (arith, z.3)))
      (λ w. ⊎_elim
      (λ z. flat_order rule_own (mark_own m) every up_rules (rule_whole x.2) z.2 (omega (arith, z.3)) (rule_fault_in x.3) (rule_fault_in z.4))
      (λ z. flat_end rule_own (mark_own m) every up_rules (rule_whole x.2) (rule_fault_in x.3) (mark_fault_in z)) w) y

  -- the fault that comes first, wherever it stands
  pub first_field : {n p : ℕ} → First (FieldsFault fs) n p → First (Faulty (sheet all every m)) n p
  first_field {n} {p} h =
      record {
        fault = to_field n p h.fault;
        least = λ k q y. ⊎_elim (h.least k q)
            (λ z. inl (⊎_elim (field_rule n p k q h.fault) (field_rest n p k q h.fault) z)) (from k q y);
      }

  pub first_rule :
      {n p : ℕ} → ((k q : ℕ) → FieldsFault fs k q → ⊥) → First (RulesFault fs rs) n p → First (Faulty (sheet all every m)) n p
  first_rule {n} {p} none h =
      record {
        fault = to_rule n p h.fault;
        least = λ k q y. ⊎_elim (λ z. absurd (none k q z))
            (λ z. ⊎_elim (h.least k q) (λ w. inl (rule_rest n p k q h.fault w)) z) (from k q y);
      }

  pub rest_settled :
      {P Q : Type 0} (r : Result (Unit {0}) Fault)
      → ((k q : ℕ) → FieldsFault fs k q → ⊥) → ((k q : ℕ) → RulesFault fs rs k q → ⊥) → (P → Q)
      → Settles Rest (λ _. P) r → Settles (Faulty (sheet all every m)) (λ _. Q) r
  rest_settled r nf nr also b =
      settles_like r to_rest (λ k q y. ⊎_elim (λ z. absurd (nf k q z)) (λ z. ⊎_elim (λ w. absurd (nr k q w)) (λ w. w) z) (from k q y)) also b

  -- where all lines are kept, the rest is the mark line
  pub rest_is_mark : all ≡ fs → every ≡ rs → (n q : ℕ) → Rest n q → MarkFault all every m n q
  unfolding Rest
  rest_is_mark same alike n q x =
      ⊎_elim (λ y. let short = stands_length y.2 in let h = y.3 in let l = ap length same in absurd (omega arith))
      (λ z. ⊎_elim (λ y. let short = stands_length y.2 in let h = y.3 in let l = ap length alike in absurd (omega arith)) (λ y. y) z) x

  pub mark_is_rest : (n q : ℕ) → MarkFault all every m n q → Rest n q
  unfolding Rest
  mark_is_rest n q x = inr (inr x)

-- What a table keeps of a sheet

flat_append : {A : Type 0} (own : A → List ℕ) (xs ys : List A) (zs : List ℕ) → flat own (xs ++ ys) zs ≡ flat own xs (flat own ys zs)
flat_append own [] ys zs = refl
flat_append own (x ∷ xs) ys zs = ap (λ z. own x ++ z) (flat_append own xs ys zs)

sheet_flat : (fs : List Field) (rs : List Rule) (p : ℕ) (f : Formula) → sheet_places (sheet fs rs (mark_line p f)) ≡ flat field_own fs (flat rule_own rs (p ∷ formula_places f))
sheet_flat fs rs p f = fields_flat fs (rules_places rs (p ∷ formula_places f)) ∙ ap (flat field_own fs) (rules_flat rs (p ∷ formula_places f))

-- the mark line of a sheet that is kept whole
pub record WholeMark (text : List ℕ) (t : Table) (e : ℕ) (rs : List Rule) (m : Mark) : Type 0 where
  pub first : ℕ
  pub body : Formula
  pub is : m ≡ mark_line first body
  pub entries : Entries text t.nodes.items t.mark.start t.mark.body body
  pub within : Over (sizes rs) [] body → ⊥
  pub starts : t.mark.start ≡ e

pub record Kept (text : List ℕ) (t : Table) (s : Sheet) : Type 0 where
  pub fs : List Field
  pub gs : List Field
  pub rs : List Rule
  pub qs : List Rule
  pub m : Mark
  pub all : List Field
  pub every : List Rule
  pub ea : all ≡ fs ++ gs
  pub ee : every ≡ rs ++ qs
  pub context : (rs ≡ []) ⊎ (all ≡ fs)
  pub up : Rising (flat field_own all (flat rule_own every (mark_own m)))
  pub is : sheet all every m ≡ s
  pub e : ℕ
  pub above : LinesAbove text t fs rs e
  pub cut : (p : ℕ) → t.over ≡ Some p → First (Rest fs gs rs qs m all every ea ee context up) 11 p
  pub uncut : t.over ≡ None → (all ≡ fs) × (every ≡ rs) × WholeMark text t e rs m

mark_up : (fs : List Field) (rs : List Rule) (m : Mark) → WellRead (sheet fs rs m) → Rising (flat field_own fs (flat rule_own rs (mark_own m)))
mark_up fs rs (mark_line p f) well = subst Rising (sheet_flat fs rs p f) well.4

pub not_both : {A : Type 0} {o : Option A} {x : A} → o ≡ None → o ≡ Some x → ⊥
not_both a b = cc

-- the first line that is not kept is at fault at its first word, and that comes first
module _ (fs gs : List Field) (m : Mark) (all : List Field) (every : List Rule) (ea : all ≡ fs ++ gs)
    (context : (◌≡◌ {A = List Rule} [] []) ⊎ (all ≡ fs)) (up : Rising (flat field_own all (flat rule_own every (mark_own m))))
    (p : ℕ) (w : Word) (low high : Number) (below : List Field) (eg : gs ≡ field_line p w low high ∷ below) (eight : length fs ≡ 8) where
  ninth : Stands Field all 8 (field_line p w low high)
  ninth =
      subst (λ z. Stands Field z 8 (field_line p w low high)) (sym (ea ∙ ap (λ z. fs ++ z) eg))
      (subst (λ k. Stands Field (fs ++ (field_line p w low high ∷ below)) k (field_line p w low high)) eight (stands_after fs below))

  first_in : In ℕ (field_own (field_line p w low high)) p
  first_in = go low
    where
      go : (n : Number) → In ℕ (field_own (field_line p w n high)) p
      go (num v i) = this

  at_ninth : (n q : ℕ) (f : Field) → f ≡ field_line p w low high → FieldFault (take 8 all) f n q → Rising (field_own f) → NoLater 11 p n q
  at_ninth n q (field_line a v (num x i) y) e (field_taken h) r = let k : p ≡ a = cc in inl (subst (λ z. z < place_of v) (sym k) r.0.0)
  at_ninth n q (field_line a v (num x i) y) e (wrong_range h) r = let k : p ≡ a = cc in inl (subst (λ z. z < i) (sym k) r.0.1.0)
  at_ninth n q (field_line a v (num x i) y) e (many_fields h) r = let k : p ≡ a = cc in inr (k, omega arith)

  pub ninth_first : First (Rest fs gs [] every m all every ea refl context up) 11 p
  unfolding Rest
  ninth_first =
      record {
        fault = inl (
          8,
          _,
          ninth,
          omega arith,
          many_fields (let e : take 8 all ≡ fs = ap (take 8) ea ∙ take_at fs gs 8 eight in let h = ap length e in omega arith),
        );
        least = λ n q x. ⊎_elim
            (λ y. ⊎_elim
            (λ lt. inl (flat_order field_own (flat rule_own every (mark_own m)) all up ninth y.2 lt first_in (field_fault_in y.4)))
            (λ ge. let k : y.0 ≡ 8 = let h = y.3 in omega arith in
            let st : Stands Field all 8 y.1 = subst (λ z. Stands Field all z y.1) k y.2 in
            at_ninth n q y.1 (stands_once st ninth) (subst (λ z. FieldFault (take z all) y.1 n q) k y.4)
            (flat_own field_own (flat rule_own every (mark_own m)) all up st))
            (order 8 y.0))
            (λ z. inl (flat_end field_own (flat rule_own every (mark_own m)) all up ninth first_in
            (⊎_elim (λ y. in_flat rule_own (mark_own m) every y.2 (rule_fault_in y.4)) (λ y. in_end rule_own (mark_own m) every (mark_fault_in y)) z))) x;
      }

module _ (fs : List Field) (rs qs : List Rule) (m : Mark) (every : List Rule) (ee : every ≡ rs ++ qs)
    (ea : fs ≡ fs ++ []) (context : (rs ≡ []) ⊎ (fs ≡ fs)) (up : Rising (flat field_own fs (flat rule_own every (mark_own m))))
    (p : ℕ) (w : Word) (ps : List Word) (f : Formula) (below : List Rule) (eq : qs ≡ rule_line p w ps f ∷ below)
    (over : (16 ≤ length rs) ⊎ Over (sizes rs) ps f) where
  next_rule : Stands Rule every (length rs) (rule_line p w ps f)
  next_rule = subst (λ z. Stands Rule z (length rs) (rule_line p w ps f)) (sym (ee ∙ ap (λ z. rs ++ z) eq)) (stands_after rs below)

  rules_above : take (length rs) every ≡ rs
  rules_above = ap (take (length rs)) ee ∙ take_at rs qs (length rs) refl

  up_every : Rising (flat rule_own every (mark_own m))
  up_every = flat_rest field_own (flat rule_own every (mark_own m)) fs up

  at_next :
      (n q : ℕ) (x : Rule) → x ≡ rule_line p w ps f → RuleFault fs (take (length rs) every) x n q → Rising (rule_own x) → NoLater 11 p n q
  at_next n q (rule_line a v us g) e (rule_taken h) r = let k : p ≡ a = cc in inl (subst (λ z. z < place_of v) (sym k) r.0.0)
  at_next n q (rule_line a v us g) e (param_taken {v = u} st h) r =
      let k : p ≡ a = cc in
      inl (subst (λ z. z < place_of u) (sym k) (before_in (place_of v ∷ (map place_of us ++ formula_places g)) r.0 (that (in_left (formula_places g) (in_map place_of (stands_in st))))))
  at_next n q (rule_line a v us g) e (rule_formula h) r =
      let k : p ≡ a = cc in
      inl (subst (λ z. z < q) (sym k) (before_in (place_of v ∷ (map place_of us ++ formula_places g)) r.0 (that (in_right (map place_of us) (formula_fault_in g h)))))
  at_next n q (rule_line a v us g) e (many_rules h) r = let k : p ≡ a = cc in inr (k, omega arith)
  at_next n q (rule_line a v us g) e (rule_passes h) r = let k : p ≡ a = cc in inr (k, omega arith)

  pub next_first : First (Rest fs [] rs qs m fs every ea ee context up) 11 p
  unfolding Rest
  next_first =
      record {
        fault = inr (inl (
          length rs,
          _,
          next_rule,
          omega arith,
          subst (λ z. RuleFault fs z (rule_line p w ps f) 11 p) (sym rules_above) (⊎_elim (λ h. many_rules h) (λ h. rule_passes h) over),
        ));
        least = λ n q x. ⊎_elim
            (λ y. let short = stands_length y.2 in let h = y.3 in absurd (omega arith))
            (λ z. ⊎_elim
            (λ y. ⊎_elim
            (λ lt. inl (flat_order rule_own (mark_own m) every up_every next_rule y.2 lt this (rule_fault_in y.4)))
            (λ ge. let k : y.0 ≡ length rs = let h = y.3 in omega arith in
            let st : Stands Rule every (length rs) y.1 = subst (λ z. Stands Rule every z y.1) k y.2 in
            at_next n q y.1 (stands_once st next_rule) (subst (λ z. RuleFault fs (take z every) y.1 n q) k y.4)
            (flat_own rule_own (mark_own m) every up_every st))
            (order (length rs) y.0))
            (λ y. inl (flat_end rule_own (mark_own m) every up_every next_rule this (mark_fault_in y))) z) x;
      }

module _ (fs : List Field) (rs : List Rule) (p : ℕ) (f : Formula)
    (ee : rs ≡ rs ++ []) (ea : fs ≡ fs ++ []) (context : (rs ≡ []) ⊎ (fs ≡ fs))
    (up : Rising (flat field_own fs (flat rule_own rs (mark_own (mark_line p f))))) where
  up_mark : Rising (p ∷ formula_places f)
  up_mark = flat_rest rule_own (p ∷ formula_places f) rs (flat_rest field_own (flat rule_own rs (p ∷ formula_places f)) fs up)

  at_mark : (n q : ℕ) → MarkFault fs rs (mark_line p f) n q → NoLater 11 p n q
  at_mark n q (mark_formula h) = inl (before_in (formula_places f) up_mark.0 (formula_fault_in f h))
  at_mark n q (mark_passes h) = inr (refl, omega arith)

  pub mark_first : Over (sizes rs) [] f → First (Rest fs [] rs [] (mark_line p f) fs rs ea ee context up) 11 p
  mark_first over =
      record {
        fault = mark_is_rest fs [] rs [] (mark_line p f) fs rs ea ee context up 11 p (mark_passes over);
        least = λ n q x. at_mark n q (rest_is_mark fs [] rs [] (mark_line p f) fs rs ea ee context up refl refl n q x);
      }

-- what a table keeps of the sheet that it holds
module _ (text : List ℕ) (t : Table) where
  pub size_above : {fs : List Field} {rs : List Rule} {e : ℕ} → LinesAbove text t fs rs e → e ≡ sizes rs
  size_above above = let h = rules_end text t.nodes.items above.rules_held in omega arith

  pub kept : (s : Sheet) → Holds text t s → WellRead s → Kept text t s
  kept _ (whole {fs = fs} {rs = rs} {p = p} {e = e} {f = f} none above first starts d fits) well =
      let u = mark_up fs rs (mark_line p f) well in
      record {
        fs = fs;
        gs = [];
        rs = rs;
        qs = [];
        m = mark_line p f;
        all = fs;
        every = rs;
        ea = sym (append-nil fs);
        ee = sym (append-nil rs);
        context = inr refl;
        up = u;
        is = refl;
        e = e;
        above = above;
        cut = λ q o. absurd (not_both none o);
        uncut = λ o. (
          refl,
          refl,
          record {
            first = p;
            body = f;
            is = refl;
            entries = subst (λ z. Entries text t.nodes.items z t.mark.body f) (sym starts) d;
            within = subst (λ z. Over z [] f → ⊥) (size_above above) fits;
            starts = starts;
          },
        );
      }
  kept _ (over_field {fs = fs} {all = all} {rs = rs} {m = m} {p = p} {e = e} o above eight w low high below ea) well =
      let u = mark_up all rs m well in
      record {
        fs = fs;
        gs = field_line p w low high ∷ below;
        rs = [];
        qs = rs;
        m = m;
        all = all;
        every = rs;
        ea = ea;
        ee = refl;
        context = inl refl;
        up = u;
        is = refl;
        e = e;
        above = above;
        cut = λ q o'. let k : p ≡ q = cc in
            subst (First (Rest fs (field_line p w low high ∷ below) [] rs m all rs ea refl (inl refl) u) 11) k
            (ninth_first fs (field_line p w low high ∷ below) m all rs ea (inl refl) u p w low high below refl eight);
        uncut = λ o'. absurd (not_both o' o);
      }
  kept _ (over_rule {fs = fs} {rs = rs} {all = all} {p = p} {e = e} {ps = ps} {f = f} {m = m} o above over w below ee) well =
      let u = mark_up fs all m well in
      let over' : (16 ≤ length rs) ⊎ Over (sizes rs) ps f = subst (λ z. (16 ≤ length rs) ⊎ Over z ps f) (size_above above) over in
      record {
        fs = fs;
        gs = [];
        rs = rs;
        qs = rule_line p w ps f ∷ below;
        m = m;
        all = fs;
        every = all;
        ea = sym (append-nil fs);
        ee = ee;
        context = inr refl;
        up = u;
        is = refl;
        e = e;
        above = above;
        cut = λ q o'. let k : p ≡ q = cc in
            subst (First (Rest fs [] rs (rule_line p w ps f ∷ below) m fs all (sym (append-nil fs)) ee (inr refl) u) 11) k
            (next_first fs rs (rule_line p w ps f ∷ below) m all ee (sym (append-nil fs)) (inr refl) u p w ps f below refl over');
        uncut = λ o'. absurd (not_both o' o);
      }
  kept _ (over_mark {fs = fs} {rs = rs} {p = p} {e = e} {f = f} o above over) well =
      let u = mark_up fs rs (mark_line p f) well in
      record {
        fs = fs;
        gs = [];
        rs = rs;
        qs = [];
        m = mark_line p f;
        all = fs;
        every = rs;
        ea = sym (append-nil fs);
        ee = sym (append-nil rs);
        context = inr refl;
        up = u;
        is = refl;
        e = e;
        above = above;
        cut = λ q o'. let k : p ≡ q = cc in
            subst (First (Rest fs [] rs [] (mark_line p f) fs rs (sym (append-nil fs)) (sym (append-nil rs)) (inr refl) u) 11) k
            (mark_first fs rs p f (sym (append-nil rs)) (sym (append-nil fs)) (inr refl) u (subst (λ z. Over z [] f) (size_above above) over));
        uncut = λ o'. absurd (not_both o' o);
      }

-- What is settled of all lines

module _ (text : List ℕ) (t : Table) where
  abbrev Ls : List FieldLine
  Ls = t.fields.items

  abbrev Ks : List RuleLine
  Ks = rules_of t

  abbrev Raw : List NodeEntry
  Raw = t.nodes.items

  module _ (s : Sheet) (k : Kept text t s) where
    abbrev Zs : List ℕ
    Zs = flat field_own k.gs (flat rule_own k.every (mark_own k.m))

    up_fields : Rising (fields_places k.fs Zs)
    up_fields =
        subst Rising
        (ap (λ z. flat field_own z (flat rule_own k.every (mark_own k.m))) k.ea
        ∙ flat_append field_own k.fs k.gs (flat rule_own k.every (mark_own k.m)) ∙ sym (fields_flat k.fs Zs))
        k.up

    abbrev Ys : List ℕ
    Ys = flat rule_own k.qs (mark_own k.m)

    up_rules' : Rising (rules_places k.rs Ys)
    up_rules' =
        subst Rising
        (ap (λ z. flat rule_own z (mark_own k.m)) k.ee
        ∙ flat_append rule_own k.rs k.qs (mark_own k.m) ∙ sym (rules_flat k.rs Ys))
        (flat_rest field_own (flat rule_own k.every (mark_own k.m)) k.all k.up)

    fields_best : (r : Result (Unit {0}) Fault) → FieldsSettledWith text Ls r → Best (FieldsFault k.fs) r
    fields_best r h =
        subst (λ z. Best (FieldsFault z) r) k.above.fields_held
        (h Zs (subst (λ z. Rising (fields_places z Zs)) (sym k.above.fields_held) up_fields))

    rules_settled :
        (r : Result (Unit {0}) Fault) (nodes : List Node) → RulesSettledWith text Ls Ks Raw nodes r
        → Settles (RulesFault k.fs k.rs) (λ _. RulesNumbered text Ls Ks Raw k.rs (length k.rs) nodes) r
    rules_settled r nodes h =
        subst (λ z. Settles (RulesFault z k.rs) (λ _. RulesNumbered text Ls Ks Raw k.rs (length k.rs) nodes) r) k.above.fields_held
        (h k.rs k.e Ys k.above.rules_held up_rules')

    at_sheet :
        (r : Result (Unit {0}) Fault) (nodes : List Node)
        → Settles (Faulty (sheet k.all k.every k.m)) (λ _. (t.over ≡ None) × AllNumbered text t nodes (sheet k.all k.every k.m)) r
        → Settles (Faulty s) (λ _. (t.over ≡ None) × AllNumbered text t nodes s) r
    at_sheet r nodes b = subst (λ z. Settles (Faulty z) (λ _. (t.over ≡ None) × AllNumbered text t nodes z) r) k.is b

  pub fields_refused : (x : Fault) (nodes : List Node) → FieldsSettledWith text Ls (Err x) → LinesSettled text t nodes (Err x)
  fields_refused x nodes h s holds well =
      let k = kept text t s holds well in
      at_sheet s k (Err x) nodes
      (first_field k.fs k.gs k.rs k.qs k.m k.all k.every k.ea k.ee k.context k.up (fields_best s k (Err x) h))

  pub rules_refused :
      (x : Fault) (u : Unit {0}) (nodes : List Node) → FieldsSettledWith text Ls (Ok u) → RulesSettledWith text Ls Ks Raw nodes (Err x)
      → LinesSettled text t nodes (Err x)
  rules_refused x u nodes g h s holds well =
      let k = kept text t s holds well in
      at_sheet s k (Err x) nodes
      (first_rule k.fs k.gs k.rs k.qs k.m k.all k.every k.ea k.ee k.context k.up
      (fields_best s k (Ok u) g) (rules_settled s k (Err x) nodes h))

  pub over_refused :
      (p : ℕ) (u v : Unit {0}) (nodes nodes' : List Node) → t.over ≡ Some p
      → FieldsSettledWith text Ls (Ok u) → RulesSettledWith text Ls Ks Raw nodes (Ok v)
      → LinesSettled text t nodes' (Err (record { refusal = TooMany; place = p }))
  over_refused p u v nodes nodes' o g h s holds well =
      let k = kept text t s holds well in
      let r : Result (Unit {0}) Fault = Err (record { refusal = TooMany; place = p }) in
      at_sheet s k r nodes'
      (rest_settled k.fs k.gs k.rs k.qs k.m k.all k.every k.ea k.ee k.context k.up {P = (t.over ≡ None) × AllNumbered text t nodes' (sheet k.all k.every k.m)}
      r (fields_best s k (Ok u) g) (rules_settled s k (Ok v) nodes h).0 (λ x. x) (k.cut p o))

  -- the entries of the mark line stand after those of the rule lines
  rules_stay :
      {e : ℕ} (rs : List Rule) (nodes nodes' : List Node) (end : ℕ)
      → Rules text Raw 0 Ks rs e → t.mark.start ≡ e
      → SameOutside nodes nodes' t.mark.start end
      → RulesNumbered text Ls Ks Raw rs (length rs) nodes → RulesNumbered text Ls Ks Raw rs (length rs) nodes'
  rules_stay rs nodes nodes' end held starts same old i x lt st k from to =
      let long = rules_long text Raw held in
      let at = line_of text Raw held (stands_at Ks i no_rule_line (omega arith)) in
      let a = entries_size text Raw at.entries in
      let b = sizes_upto i rs at.stands in
      let c = rules_end text Raw held in
      subst (Numbered text (fields_of text t) (take i rs ++ (x ∷ [])) (rule_params x) (node_at Raw k))
      (sym (same.0 k (omega (arith, at.starts)))) (old i x lt st k from to)

  pub mark_answered :
      (r : Result (Unit {0}) Fault) (x y : Unit {0}) (nodes nodes' : List Node) → t.over ≡ None
      → FieldsSettledWith text Ls (Ok x) → RulesSettledWith text Ls Ks Raw nodes (Ok y)
      → MarkSettled text Ls Ks Raw t.mark nodes' r → SameOutside nodes nodes' t.mark.start (t.mark.body + 1)
      → LinesSettled text t nodes' r
  mark_answered r x y nodes nodes' o g h settled same s holds well =
      let k = kept text t s holds well in
      let u = k.uncut o in
      let w = u.2 in
      let rules = rules_settled s k (Ok y) nodes h in
      let up_m : Rising (formula_places w.body) =
      (subst (λ z. Rising (mark_own z)) w.is
      (flat_rest rule_own (mark_own k.m) k.every (flat_rest field_own (flat rule_own k.every (mark_own k.m)) k.all k.up))).1 in
      let mark = settled k.rs w.first w.body (rules_heads text Raw k.above.rules_held) (once_all k.fs k.rs (λ i x st n p f. rules.0 n p (i, x, st, f))) w.entries w.within up_m in
      let Mark : Type 0 = EntriesNumbered text Ls Raw k.rs [] nodes' t.mark.start (t.mark.body + 1) in
      let best : Settles (MarkFault k.all k.every k.m) (λ _. Mark) r =
      subst (λ z. Settles (MarkFault k.all k.every z) (λ _. Mark) r) (sym w.is)
      (subst (λ z. Settles (MarkFault k.all z (mark_line w.first w.body)) (λ _. Mark) r) (sym u.1)
      (subst (λ z. Settles (MarkFault z k.rs (mark_line w.first w.body)) (λ _. Mark) r) (k.above.fields_held ∙ sym u.0) mark)) in
      let numbered : Mark → AllNumbered text t nodes' (sheet k.all k.every k.m) = λ m.
      subst (λ z. AllNumbered text t nodes' (sheet k.all k.every z)) (sym w.is)
      (subst (λ z. AllNumbered text t nodes' (sheet k.all z (mark_line w.first w.body))) (sym u.1) (
        rules_stay k.rs nodes nodes' (t.mark.body + 1) k.above.rules_held w.starts same rules.1,
        m,
      )) in
      at_sheet s k r nodes'
      (rest_settled k.fs k.gs k.rs k.qs k.m k.all k.every k.ea k.ee k.context k.up r
      (fields_best s k (Ok x) g) rules.0 (λ m. (o, numbered m))
      (settles_like r
      (mark_is_rest k.fs k.gs k.rs k.qs k.m k.all k.every k.ea k.ee k.context k.up)
      (rest_is_mark k.fs k.gs k.rs k.qs k.m k.all k.every k.ea k.ee k.context k.up u.0 u.1) (λ m. m) best))
