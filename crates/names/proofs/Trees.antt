-- A line whose entries are numbered holds the tree that its formula comes to.
use Rattle.std.proofs.Common.{◌≡◌, Option, ℕ, suc, ◌+◌, ◌<◌, ◌≤◌, cond, List, map, length, take, sym, refl, ap, ◌∙◌, subst, arith}
use Rattle.std.proofs.lemmas.List.{take_all}
use Rattle.formula.specs.declared.Comparison.{Comparison}
use Rattle.formula.specs.declared.Join.{Join}
use Rattle.formula.specs.declared.Join.TheVariants.{And, Or}
use Rattle.formula.specs.Trees as tree
use Rattle.grammar.specs.declared.few.Few.{Few}
use Rattle.grammar.specs.declared.table.Word.{Word as WordEntry}
use Rattle.grammar.specs.Tables.{TermEntry}
use Rattle.grammar.specs.declared.table.Weights.{Weights as WeightsEntry}
use Rattle.grammar.specs.declared.table.Node.{Node as NodeEntry}
use Rattle.grammar.specs.declared.table.Node.TheVariants.{Compared, Called, Negated, Picked, Joined}
use Rattle.grammar.specs.Grammar.{only, Kind, unit, formula}
use Rattle.grammar.specs.Syntax.{Word, Term, Weights, Formula, compared, called, negated, picked, joined, Field, Rule}
use Rattle.grammar.specs.Tables.{word_of, term_of, weights_of, node_at, Entries, a_comparison, a_call, a_not, a_pick, a_join, size, joins, nested, bracketed, differ}
use Rattle.sheet.specs.declared.node.Node.{Node}
use Rattle.sheet.specs.Table as table
use Rattle.sheet.specs.Keeping as keeping
use Rattle.names.specs.Lists.{Each}
use Rattle.names.specs.Names.{Means, Calls, TermIs, FormulaIs, compared_is, called_is, negated_is, picked_is, joined_is, left_weight, right_weight}
use Rattle.names.specs.Looking.{Numbered, numbered_compared, numbered_called, numbered_negated, numbered_picked, numbered_joined}
use Rattle.names.proofs.Parts.{entries_size, size_some}

-- Counts are the same

right_is : (i j : Join) → keeping.right_of i j ≡ cond (differ i j) 1 0
right_is And And = refl
right_is And Or = refl
right_is Or And = refl
right_is Or Or = refl

module _ {fs : List Field} {rs : List Rule} {ps : List Word} where
  pub same_size : {f : Formula} {x : tree.Formula} → FormulaIs fs rs ps f x → keeping.size x ≡ size f
  same_size (compared_is a b) = refl
  same_size (called_is a b) = refl
  same_size (negated_is a) = ap (λ n. 1 + n) (same_size a)
  same_size (picked_is a b) = ap (λ n. 1 + n) (same_size b)
  same_size (joined_is a b) = let h = same_size a in let g = same_size b in omega arith

  pub same_joins : {f : Formula} {x : tree.Formula} → FormulaIs fs rs ps f x → keeping.joins x ≡ joins f
  same_joins (compared_is a b) = refl
  same_joins (called_is a b) = refl
  same_joins (negated_is a) = same_joins a
  same_joins (picked_is a b) = same_joins b
  same_joins (joined_is a b) = let h = same_joins a in let g = same_joins b in omega arith

  pub same_nested :
      {f : Formula} {x : tree.Formula} (k : Kind) (round : Join → ℕ)
      → ((j : Join) → round j ≡ cond (bracketed k j) 1 0) → FormulaIs fs rs ps f x → keeping.nested x round ≡ nested f k
  same_nested k round e (compared_is a b) = refl
  same_nested k round e (called_is a b) = refl
  same_nested k round e (negated_is a) = ap (λ n. n + 1) (same_nested unit keeping.as_unit (λ j. refl) a)
  same_nested k round e (picked_is a b) = ap (λ n. n + 1) (same_nested unit keeping.as_unit (λ j. refl) b)
  same_nested k round e (joined_is {j = j} a b) =
      let h = same_nested unit keeping.as_unit (λ i. refl) a in
      let g = same_nested (formula (only j)) (keeping.right_of j) (right_is j) b in
      let d = e j in
      cc

-- The tree of a line

module _ (text : List ℕ) (raw : List NodeEntry) (nodes : List Node) (fs : List Field) (rs : List Rule) (ps : List Word)
    (low high : ℕ) (numbered : (k : ℕ) → low ≤ k → k < high → Numbered text fs rs ps (node_at raw k) (table.node_at nodes k))
    (few : (w : Word) (k : ℕ) (qs : List Word) → Calls rs w k qs → length qs ≤ 4) where
  at : {m : NodeEntry} (i : ℕ) → low ≤ i → i < high → node_at raw i ≡ m → Numbered text fs rs ps m (table.node_at nodes i)
  at i from to e = subst (λ z. Numbered text fs rs ps z (table.node_at nodes i)) e (numbered i from to)

  abbrev Is : Formula → ℕ → Type 0
  Is f i = (x : tree.Formula) × table.Holds nodes i x × FormulaIs fs rs ps f x

  of_compared :
      {i : ℕ} {c : Comparison} {t u : TermEntry} (v : Node) → table.node_at nodes i ≡ v → Numbered text fs rs ps (Compared c t u) v
      → (x : Term) (y : Term) → term_of text t ≡ x → term_of text u ≡ y → Is (compared c x y) i
  of_compared _ e (numbered_compared {x = l} {y = r} a b) x y p q = (
    _,
    table.a_comparison e refl refl,
    compared_is (subst (λ z. TermIs fs ps z (table.term_of l)) p a) (subst (λ z. TermIs fs ps z (table.term_of r)) q b),
  )

  of_called :
      {i : ℕ} {v : WordEntry} {ts : Few TermEntry} (m : Node) → table.node_at nodes i ≡ m → Numbered text fs rs ps (Called v ts) m
      → (w : Word) (xs : List Term) → word_of text v ≡ w → ts.count ≡ length xs → map (term_of text) (take ts.count ts.items) ≡ take 4 xs → Is (called w xs) i
  of_called {v = v} {ts = ts} _ e (numbered_called {k = k} {xs = ys} {qs = qs} c len each four) w xs p q r =
      let small = few (word_of text v) k qs c in
      let all = r ∙ take_all 4 xs (omega arith) in (
        _,
        table.a_call e refl,
        called_is (subst (λ z. Calls rs z k qs) p c) (subst (λ z. Each Term tree.Term (TermIs fs ps) z (map table.term_of (take ts.count ys))) all each),
      )

  of_negated :
      {i a : ℕ} (m : Node) → table.node_at nodes i ≡ m → Numbered text fs rs ps (Negated a) m → (f : Formula) → i ≡ suc a → Is f a → Is (negated f) i
  of_negated {i} {a} _ e numbered_negated f p h = (_, table.a_not e (omega arith) h.1, negated_is h.2)

  of_picked :
      {i a : ℕ} {v : WordEntry} (m : Node) → table.node_at nodes i ≡ m → Numbered text fs rs ps (Picked v a) m
      → (w : Word) (f : Formula) → word_of text v ≡ w → i ≡ suc a → Is f a → Is (picked w f) i
  of_picked {i} {a} _ e (numbered_picked {b = b} x) w f p q h =
      (_, table.a_pick e refl (omega arith) h.1, picked_is (subst (λ z. Means fs ps z (table.name_of b)) p x) h.2)

  of_joined :
      {i a b : ℕ} {j : Join} {v : Option WeightsEntry} (m : Node) → table.node_at nodes i ≡ m → Numbered text fs rs ps (Joined j v a b) m
      → (w : Weights) (f g : Formula) → weights_of v ≡ w → a < i → b < i → Is f a → Is g b → Is (joined j w f g) i
  of_joined {j = j} _ e (numbered_joined {x = x} {y = y} l r) w f g p la lb h k =
      let left : left_weight w ≡ x = ap left_weight (sym p) ∙ l in
      let right : right_weight w ≡ y = ap right_weight (sym p) ∙ r in (
        tree.join j x y h.0 k.0,
        table.a_join e la lb h.1 k.1,
        subst (λ z. FormulaIs fs rs ps (joined j w f g) (tree.join j z y h.0 k.0)) left
            (subst (λ z. FormulaIs fs rs ps (joined j w f g) (tree.join j (left_weight w) z h.0 k.0)) right (joined_is h.2 k.2)),
      )

  pub tree_at : {s b : ℕ} {f : Formula} → Entries text raw s b f → low ≤ s → b < high → Is f b
  tree_at (a_comparison {i = i} {x = x} {y = y} e p q) from to = of_compared _ refl (at i from to e) x y p q
  tree_at (a_call {i = i} {w = w} {xs = xs} e p q r) from to = of_called _ refl (at i from to e) w xs p q r
  tree_at (a_not {s = s} {a = a} {i = i} {f = f} e p d) from to =
      let h = entries_size text raw d in let g = size_some text raw f in
      of_negated _ refl (at i (omega arith) to e) f p (tree_at d from (omega arith))
  tree_at (a_pick {s = s} {a = a} {i = i} {w = w} {f = f} e p q d) from to =
      let h = entries_size text raw d in let g = size_some text raw f in
      of_picked _ refl (at i (omega arith) to e) w f p q (tree_at d from (omega arith))
  tree_at (a_join {s = s} {a = a} {b = b} {i = i} {w = w} {f = f} {g = g} e p q c d) from to =
      let h = entries_size text raw c in let k = entries_size text raw d in
      let m = size_some text raw f in let n = size_some text raw g in
      of_joined _ refl (at i (omega arith) to e) w f g p (omega arith) (omega arith) (tree_at c from (omega arith)) (tree_at d (omega arith) (omega arith))
