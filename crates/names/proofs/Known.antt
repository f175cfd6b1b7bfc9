-- The entries of a numbered line keep the rules of a sheet.
use Rattle.std.proofs.Common.{◌≡◌, ℕ, zero, suc, ◌<◌, ◌≤◌, Bool, true, ◌&&◌, List, [], ◌∷◌, ◌++◌, map, length, get_or, take, Option, sym, refl, ap, subst, ⊎_elim, arith}
use Rattle.std.specs.Cmp.Derive.{both_true}
use Rattle.std.proofs.str.Laws.{order}
use Rattle.std.proofs.lemmas.Bool.Decides.{nat_tests}
use Rattle.formula.specs.declared.Comparison.{Comparison}
use Rattle.formula.specs.declared.Join.{Join}
use Rattle.formula.specs.Trees as tree
use Rattle.grammar.specs.declared.few.Few.{Few}
use Rattle.grammar.specs.declared.table.Word.{Word as WordEntry}
use Rattle.grammar.specs.Tables.{TermEntry}
use Rattle.grammar.specs.declared.table.Weights.{Weights as WeightsEntry}
use Rattle.grammar.specs.declared.table.Node.{Node as NodeEntry}
use Rattle.grammar.specs.declared.table.Node.TheVariants.{Compared, Called, Negated, Picked, Joined}
use Rattle.grammar.specs.Syntax.{Word, num, Term, Weights, absent, given, Formula, Field, Rule}
use Rattle.grammar.specs.Tables.{word_of, term_of, weights_of, node_at, Entries, a_comparison, a_call, a_not, a_pick, a_join, SmallTerm, SmallTerms, SmallWeights, SmallFormula}
use Rattle.sheet.specs.declared.node.Name.{Name}
use Rattle.sheet.specs.declared.node.Name.TheVariants.{Field as FieldName, Param}
use Rattle.formula.specs.declared.term.Shift.{Shift}
use Rattle.formula.specs.declared.term.Shift.TheVariants.{Up, Down}
use Rattle.sheet.specs.Table.{SheetTerm}
use Rattle.formula.specs.declared.term.Term.TheVariants.{Number as NumberTerm, Bare, Moved}
use Rattle.sheet.specs.declared.node.Node.{Node}
use Rattle.sheet.specs.declared.node.Line.{Line}
use Rattle.sheet.specs.Table as table
use Rattle.sheet.specs.Keeping.{known_name, known_shift, known_term, known_terms, entry_kept}
use Rattle.sheet.specs.Sheets.{KnownName, KnownShift, KnownTerm}
use Rattle.names.specs.Lists.{In, this, that, Each, item}
use Rattle.names.specs.Names.{Means, a_field, a_param, Calls, TermIs, constant_is, bare_is, raised_is, lowered_is, left_weight, right_weight}
use Rattle.names.specs.Faults.{Use, weight, weight_uses, uses}
use Rattle.names.specs.Looking.{Numbered, numbered_compared, numbered_called, numbered_negated, numbered_picked, numbered_joined}
use Rattle.names.proofs.Places.{in_left, in_right, stands_length}
use Rattle.names.proofs.Parts.{entries_size, size_some}

and_left : (x y : Bool) → (x && y) ≡ true → x ≡ true
and_left x y e = grind (arith, nat_tests, e)

and_right : (x y : Bool) → (x && y) ≡ true → y ≡ true
and_right x y e = grind (arith, nat_tests, e)

module _ {fs : List Field} {ps : List Word} where
  means_known : {w : Word} {x : tree.Name} → Means fs ps w x → KnownName (length fs) (length ps) x
  means_known (a_field st e) = stands_length st
  means_known (a_param st e) = stands_length st

  term_is_known : {t : Term} {x : tree.Term} → TermIs fs ps t x → SmallTerm t → KnownTerm (length fs) (length ps) x
  term_is_known constant_is small = small
  term_is_known (bare_is m) small = means_known m
  term_is_known (raised_is m) small = (means_known m, small)
  term_is_known (lowered_is m) small = (means_known m, small)

name_test : (fields params : ℕ) (b : Name) → KnownName fields params (table.name_of b) → known_name fields params b ≡ true
name_test fields params (FieldName f) h = grind (arith, nat_tests, h)
name_test fields params (Param p) h = grind (arith, nat_tests, h)

shift_test : (s : Shift) → KnownShift (table.shift_of s) → known_shift s ≡ true
shift_test (Up n) h = grind (arith, nat_tests, h)
shift_test (Down n) h = grind (arith, nat_tests, h)

term_test : (fields params : ℕ) (x : SheetTerm) → KnownTerm fields params (table.term_of x) → known_term fields params x ≡ true
term_test fields params (NumberTerm n) h = grind (arith, nat_tests, h)
term_test fields params (Bare b) h = name_test fields params b h
term_test fields params (Moved b s) h =
    both_true (name_test fields params b h.0) (shift_test s h.1)

terms_test :
    {fs : List Field} {ps : List Word} (ts : List Term) (ys : List SheetTerm)
    → Each Term tree.Term (TermIs fs ps) ts (map table.term_of ys) → SmallTerms ts → known_terms (length fs) (length ps) ys ≡ true
terms_test ts [] each small = refl
terms_test [] (y ∷ ys) each small = elim each [ ]
terms_test {fs} {ps} (t ∷ ts) (y ∷ ys) (item h each) small =
    both_true
    (term_test (length fs) (length ps) y (term_is_known h small.0)) (terms_test ts ys each small.1)

small_take : (n : ℕ) (ts : List Term) → SmallTerms ts → SmallTerms (take n ts)
small_take zero ts s = tt
small_take (suc n) [] s = tt
small_take (suc n) (t ∷ ts) s = (s.0, small_take n ts s.1)

-- weights are not 0
abbrev pub Weighted : Formula → Type 0
Weighted f = (v p : ℕ) → In Use (uses f) (weight (num v p)) → 1 ≤ v

left_good : (w : Weights) → SmallWeights w → ((v p : ℕ) → In Use (weight_uses w) (weight (num v p)) → 1 ≤ v) → (1 ≤ left_weight w) × (left_weight w ≤ 1023)
left_good absent s h = (omega arith, omega arith)
left_good (given (num v p) (num w q)) s h = (h v p this, s.0)

right_good : (w : Weights) → SmallWeights w → ((v p : ℕ) → In Use (weight_uses w) (weight (num v p)) → 1 ≤ v) → (1 ≤ right_weight w) × (right_weight w ≤ 1023)
right_good absent s h = (omega arith, omega arith)
right_good (given (num v p) (num w q)) s h = (h w q (that this), s.1)

-- what the sheet knows of a line: how many fields there are, which rules may be called, its parameters and its first entry
-- zeros past the known terms are known too
padded_test :
    (fields params : ℕ) (ys : List SheetTerm) (n : ℕ)
    → known_terms fields params (take n ys) ≡ true
    → ((j : ℕ) → n ≤ j → get_or ys j (NumberTerm 0) ≡ NumberTerm 0)
    → known_terms fields params ys ≡ true
padded_test fields params [] n h z = refl
padded_test fields params (y ∷ ys) zero h z =
    both_true
    (ap (known_term fields params) (z 0 (omega arith)))
    (padded_test fields params ys zero refl (λ j k. z (suc j) (omega arith)))
padded_test fields params (y ∷ ys) (suc n) h z =
    both_true
    (and_left (known_term fields params y) (known_terms fields params (take n ys)) h)
    (padded_test fields params ys n (and_right (known_term fields params y) (known_terms fields params (take n ys)) h)
    (λ j k. z (suc j) (omega arith)))

module _ (text : List ℕ) (raw : List NodeEntry) (nodes : List Node) (fs : List Field) (rs : List Rule) (ps : List Word)
    (rules : ℕ) (lines : List Line) (l low high : ℕ)
    (params : (table.line_at lines l).params ≡ length ps) (start : (table.line_at lines l).start ≡ low)
    (numbered : (k : ℕ) → low ≤ k → k < high → Numbered text fs rs ps (node_at raw k) (table.node_at nodes k))
    (calls : (w : Word) (k : ℕ) (qs : List Word) → Calls rs w k qs
    → (k < rules) × (k ≤ l) × ((table.line_at lines k).params ≡ length qs) × (length qs ≤ 4)) where
  at : {m : NodeEntry} (i : ℕ) → low ≤ i → i < high → node_at raw i ≡ m → Numbered text fs rs ps m (table.node_at nodes i)
  at i from to e = subst (λ z. Numbered text fs rs ps z (table.node_at nodes i)) e (numbered i from to)

  abbrev Good : ℕ → Node → Type 0
  Good i v = entry_kept (length fs) rules lines l i v ≡ true

  compared_good :
      (i : ℕ) {c : Comparison} {t u : TermEntry} (v : Node) → Numbered text fs rs ps (Compared c t u) v
      → SmallTerm (term_of text t) → SmallTerm (term_of text u) → Good i v
  compared_good i _ (numbered_compared {x = x} {y = y} a b) st su =
      subst (λ n. (known_term (length fs) n x && known_term (length fs) n y) ≡ true) (sym params)
      (both_true
      (term_test (length fs) (length ps) x (term_is_known a st)) (term_test (length fs) (length ps) y (term_is_known b su)))

  called_good :
      (i : ℕ) {v : WordEntry} {ts : Few TermEntry} (m : Node) → Numbered text fs rs ps (Called v ts) m
      → SmallTerms (map (term_of text) (take ts.count ts.items)) → Good i m
  called_good i {v = v} {ts = ts} _ (numbered_called {k = k} {xs = ys} {qs = qs} c len each four) small =
      let h = calls (word_of text v) k qs c in
      let known : known_terms (length fs) (table.line_at lines l).params ys ≡ true =
      subst (λ z. known_terms (length fs) z ys ≡ true) (sym params)
      (padded_test (length fs) (length ps) ys ts.count (terms_test (map (term_of text) (take ts.count ts.items)) (take ts.count ys) each small) four.1) in
      let long = four.0 in
      grind (arith, nat_tests, known, h, len, long)

  negated_good : (i : ℕ) {a : ℕ} (m : Node) → Numbered text fs rs ps (Negated a) m → low ≤ a → a < i → Good i m
  negated_good i _ numbered_negated from less = grind (arith, nat_tests, start, from, less)

  picked_good : (i : ℕ) {a : ℕ} {v : WordEntry} (m : Node) → Numbered text fs rs ps (Picked v a) m → low ≤ a → a < i → Good i m
  picked_good i {a} _ (numbered_picked {b = b} x) from less =
      let known : known_name (length fs) (table.line_at lines l).params b ≡ true =
      subst (λ z. known_name (length fs) z b ≡ true) (sym params) (name_test (length fs) (length ps) b (means_known x)) in
      grind (arith, nat_tests, start, from, less, known)

  joined_good :
      (i : ℕ) {a b : ℕ} {j : Join} {v : Option WeightsEntry} (m : Node) → Numbered text fs rs ps (Joined j v a b) m
      → (1 ≤ left_weight (weights_of v)) × (left_weight (weights_of v) ≤ 1023)
      → (1 ≤ right_weight (weights_of v)) × (right_weight (weights_of v) ≤ 1023)
      → low ≤ a → a < i → low ≤ b → b < i → Good i m
  joined_good i _ (numbered_joined {x = x} {y = y} l r) left right fa la fb lb =
      let lx : (1 ≤ x) × (x ≤ 1023) = subst (λ z. (1 ≤ z) × (z ≤ 1023)) l left in
      let ry : (1 ≤ y) × (y ≤ 1023) = subst (λ z. (1 ≤ z) × (z ≤ 1023)) r right in
      grind (arith, nat_tests, start, fa, la, fb, lb, lx, ry)

  same_place : (i k : ℕ) → k ≡ i → Good i (table.node_at nodes i) → Good k (table.node_at nodes k)
  same_place i k e g = subst (λ z. Good z (table.node_at nodes z)) (sym e) g

  pub kept_at :
      {s b : ℕ} {f : Formula} → Entries text raw s b f → low ≤ s → b < high → SmallFormula f → Weighted f
      → (k : ℕ) → s ≤ k → k ≤ b → Good k (table.node_at nodes k)
  kept_at (a_comparison {i = i} e p q) from to small weighted k ge le =
      same_place i k (omega arith)
      (compared_good i (table.node_at nodes i) (at i from to e) (subst SmallTerm (sym p) small.0) (subst SmallTerm (sym q) small.1))
  kept_at (a_call {i = i} {xs = xs} e p q r) from to small weighted k ge le =
      same_place i k (omega arith) (called_good i (table.node_at nodes i) (at i from to e) (subst SmallTerms (sym r) (small_take 4 xs small)))
  kept_at (a_not {a = a} {i = i} {f = f} e p d) from to small weighted k ge le =
      let h = entries_size text raw d in let n = size_some text raw f in
      ⊎_elim (λ lt. kept_at d from (omega arith) small weighted k ge (omega arith))
      (λ more. same_place i k (omega arith) (negated_good i (table.node_at nodes i) (at i (omega arith) to e) (omega arith) (omega arith)))
      (order k i)
  kept_at (a_pick {a = a} {i = i} {w = w} {f = f} e p q d) from to small weighted k ge le =
      let h = entries_size text raw d in let n = size_some text raw f in
      ⊎_elim (λ lt. kept_at d from (omega arith) small (λ v r m. weighted v r (that m)) k ge (omega arith))
      (λ more. same_place i k (omega arith) (picked_good i (table.node_at nodes i) (at i (omega arith) to e) (omega arith) (omega arith)))
      (order k i)
  kept_at (a_join {a = a} {b = b} {i = i} {w = w} {f = f} {g = g} e p q c d) from to small weighted k ge le =
      let h = entries_size text raw c in let n = size_some text raw f in
      let h' = entries_size text raw d in let n' = size_some text raw g in
      let own : (v r : ℕ) → In Use (weight_uses w) (weight (num v r)) → 1 ≤ v = λ v r m. weighted v r (in_right (uses f) (in_left (uses g) m)) in
      ⊎_elim
      (λ lt. ⊎_elim
      (λ left. kept_at c from (omega arith) small.1 (λ v r m. weighted v r (in_left (weight_uses w ++ uses g) m)) k ge (omega arith))
      (λ right. kept_at d (omega arith) (omega arith) small.2 (λ v r m. weighted v r (in_right (uses f) (in_right (weight_uses w) m))) k right (omega arith))
      (order k (suc a)))
      (λ more. same_place i k (omega arith)
      (joined_good i (table.node_at nodes i) (at i (omega arith) to e)
      (subst (λ z. (1 ≤ left_weight z) × (left_weight z ≤ 1023)) (sym p) (left_good w small.0 own))
      (subst (λ z. (1 ≤ right_weight z) × (right_weight z ≤ 1023)) (sym p) (right_good w small.0 own))
      (omega arith) (omega arith) (omega arith) (omega arith)))
      (order k i)
