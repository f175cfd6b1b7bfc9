-- What the entries of a sheet's table say of their parts, and how they read.
use Rattle.std.proofs.Common.{◌≡◌, ℕ, suc, ◌-◌, ◌<◌, ◌≤◌, Bool, true, false, not, ◌≢◌, List, [], ◌∷◌, map, length, take, Some, None, Option, sym, refl, ap, ◌∙◌, subst, ap₂, subst₂, arith}
use Rattle.std.proofs.lemmas.Bool.{and_parts}
use Rattle.std.specs.Bool.{beq}
use Rattle.std.proofs.lemmas.Bool.Decides.{nat_tests as tests}
use Rattle.std.proofs.lemmas.List.{length-map, length-take-le, get_or-map, take-map}
use Rattle.formula.specs.declared.Comparison.{Comparison}
use Rattle.formula.specs.declared.Join.{Join as JoinWord}
use Rattle.formula.specs.Comparing.{holds}
use Rattle.formula.specs.Trees as tree
use Rattle.meaning.specs.Terms.{body, formula_of, value, wants}
use Rattle.meaning.specs.Reading.{said, ran_out, Reads, tells, called, uncalled, turns, picked, left_out}
use Rattle.meaning.specs.Reading.{left_only, right_too}
use Rattle.sheet.specs.declared.node.Name.{Name}
use Rattle.sheet.specs.Table.{SheetTerm as Term}
use Rattle.sheet.specs.declared.node.Node.{Node}
use Rattle.sheet.specs.declared.node.Node.TheVariants.{Compare, Call, Not, Pick, Join}
use Rattle.sheet.specs.declared.node.Line.{Line}
use Rattle.sheet.specs.declared.table.Sheet.{Sheet}
use Rattle.sheet.specs.Table.{term_of, node_at, line_at, whole, formula_at}
use Rattle.sheet.specs.Keeping.{known_term, known_terms, entry_kept, Within}
use Rattle.sheet.specs.Sheets.{rule_of, lines_in}
use Rattle.sheet.proofs.Holding.{Parts, parts_of, formula_step}
use Rattle.reading.specs.Steps.{values, answer, rules, Read}

-- what a call keeps
pub record Called (s : Sheet) (l r k : ℕ) (ts : List Term) : Type 0 where
  pub below : r < length s.rules.items
  pub count : k ≡ (line_at (lines_in s) r).params
  pub few : k ≤ 4
  pub long : length ts ≡ 4
  pub known : known_terms (length s.ranges.items) (line_at (lines_in s) l).params ts ≡ true

module _ (s : Sheet) (l i : ℕ) (w : Within (length s.rules.items) (lines_in s) l i) where
  kept_as :
      {n : Node} → node_at s.nodes i ≡ n
      → entry_kept (length s.ranges.items) (length s.rules.items) (lines_in s) l i n ≡ true
  kept_as is =
      sym (ap (entry_kept (length s.ranges.items) (length s.rules.items) (lines_in s) l i) is) ∙ s.entries_kept l i w

  -- its parts are entries of the line that stand before it
  pub parts_as : {n : Node} → node_at s.nodes i ≡ n → Parts (line_at (lines_in s) l).start i n
  parts_as {n} is = parts_of (length s.ranges.items) (length s.rules.items) (lines_in s) l i n (kept_as is)

  -- the two terms of a comparison are known
  pub terms_known :
      {fields params : ℕ} {t u : Term} {c : Comparison}
      → fields ≡ length s.ranges.items
      → params ≡ (line_at (lines_in s) l).params
      → node_at s.nodes i ≡ Compare t c u
      → (known_term fields params t ≡ true) × (known_term fields params u ≡ true)
  terms_known {t = t} {u = u} p q is =
      let left = known_term (length s.ranges.items) (line_at (lines_in s) l).params t in
      let e = kept_as is in (
        ap₂ (λ (x y : ℕ). known_term x y t) p q ∙ (and_parts left _ e).0,
        ap₂ (λ (x y : ℕ). known_term x y u) p q ∙ (and_parts left _ e).1,
      )

  -- a call is of a rule of the sheet, with as many terms as that has parameters
  pub call_kept : {r k : ℕ} {ts : List Term} → node_at s.nodes i ≡ Call r k ts → Called s l r k ts
  call_kept {r} {k} is =
      let e = kept_as is in
      let below : r < length s.rules.items = grind (arith, tests, e) in
      let count : k ≡ (line_at (lines_in s) r).params = grind (arith, tests, e) in
      record {
        below = below;
        count = count;
        few = omega (arith, s.lines_kept r (omega arith), count);
        long = grind (arith, tests, e);
        known = grind (arith, tests, e);
      }

-- the numbers that a call passes on are as many as the rule has parameters
module _
    {s : Sheet} {l r k : ℕ} {ts : List Term} (c : Called s l r k ts) (m e vs : List ℕ)
    (p : vs ≡ values m e ts) where
  pub numbers_enough : k ≤ length vs
  numbers_enough = omega (arith, ap length p, length-map ts (λ t. value m e (term_of t)), c.long, c.few)

  pub numbers_count : length (take k vs) ≡ (line_at (lines_in s) r).params
  numbers_count = length-take-le k vs numbers_enough ∙ c.count

-- the formula of a called rule
pub rule_body :
    (s : Sheet) (r : ℕ) → r < length s.rules.items
    → formula_at s.nodes (line_at s.rules.items r).body ≡ body (rules s) r
rule_body s r lt =
    let past : Line = record { params = 0; start = 0; body = 0 } in
    sym (ap formula_of (get_or-map (rule_of s.nodes) s.rules.items r past _ lt))

-- an entry reads as the formula that it is the whole of
as_whole :
    (s : Sheet) (l i : ℕ) → Within (length s.rules.items) (lines_in s) l i
    → (m e : List ℕ) (n : ℕ) (x : Node) → node_at s.nodes i ≡ x → (o : Option Bool) (k : ℕ)
    → Reads (rules s) m e (whole (formula_at s.nodes) x) n (answer o k)
    → Reads (rules s) m e (formula_at s.nodes i) n (answer o k)
as_whole s l i w m e n x is o k d =
    subst (λ (F : tree.Formula). Reads (rules s) m e F n (answer o k))
    (sym (formula_step s l i w ∙ ap (whole (formula_at s.nodes)) is))
    d

-- the numbers that a call passes on
passed :
    (m e : List ℕ) (k : ℕ) (ts : List Term) (vs : List ℕ) → vs ≡ values m e ts
    → take k vs ≡ map (value m e) (map term_of (take k ts))
passed m e k ts vs p =
    ap (take k) p
    ∙ take-map (λ t. value m e (term_of t)) k ts
    ∙ twice (take k ts)
  where
    twice : (l : List Term) → map (λ t. value m e (term_of t)) l ≡ map (value m e) (map term_of l)
    twice [] = refl
    twice (t ∷ l) = ap {B = List ℕ} (λ z. value m e (term_of t) ∷ z) (twice l)

-- two results that differ, and two that do not
pub differ : (a b : Bool) → not (beq a b) ≡ true → a ≢ b
differ true true e p = absurd cc
differ true false e p = absurd cc
differ false true e p = absurd cc
differ false false e p = absurd cc

pub agree : (a b : Bool) → not (beq a b) ≡ false → a ≡ b
agree true true e = refl
agree true false e = absurd cc
agree false true e = absurd cc
agree false false e = refl

-- equal numbers name one entry
pub at_entry :
    {s : Sheet} {m e : List ℕ} {i j n k : ℕ} {o : Option Bool} → i ≡ j → Read s m e i n o k → Read s m e j n o k
at_entry {s} {m} {e} {n = n} {k = k} {o = o} p d = subst (λ i. Read s m e i n o k) p d

-- the reading of the entry i of the line l, by the kind of entry
module _
    {s : Sheet} {m e : List ℕ} {i n : ℕ} (l : ℕ) (w : Within (length s.rules.items) (lines_in s) l i) where
  pub read_compare :
      {t u : Term} {c : Comparison} {b : Bool} {x y : ℕ}
      → node_at s.nodes i ≡ Compare t c u
      → x ≡ value m e (term_of t)
      → y ≡ value m e (term_of u)
      → b ≡ holds c x y
      → Read s m e i n (Some b) n
  read_compare {t} {u} {c} {b} is p q h =
      record {
        reads = as_whole s l i w m e n (Compare t c u) is (Some b) n
            (subst (λ (z : Bool). Reads (rules s) m e (tree.compare (term_of t) c (term_of u)) n (said z n))
            (sym (h ∙ ap₂ (holds c) p q)) tells);
        fuel = refl;
      }

  pub read_uncalled :
      {r k : ℕ} {ts : List Term} → node_at s.nodes i ≡ Call r k ts → n ≡ 0 → Read s m e i n None n
  read_uncalled {r} {k} {ts} is z =
      record {
        reads = as_whole s l i w m e n (Call r k ts) is None n
            (subst (λ (j : ℕ). Reads (rules s) m e (tree.call r (map term_of (take k ts))) j ran_out)
            (sym z) uncalled);
        fuel = sym z;
      }

  pub read_called :
      {r k f : ℕ} {ts : List Term} {o : Option Bool} {j : ℕ} (vs : List ℕ)
      → node_at s.nodes i ≡ Call r k ts
      → (1 ≤ n) × (f ≡ n - 1)
      → vs ≡ values m e ts
      → Read s m (take k vs) (line_at s.rules.items r).body f o j
      → Read s m e i n o j
  read_called {r} {k} {f} {ts} {o} {j} vs is fuel p d =
      let inner : Reads (rules s) m (map (value m e) (map term_of (take k ts))) (body (rules s) r) f
      (answer o j) =
      subst₂ (λ (v : List ℕ) (F : tree.Formula). Reads (rules s) m v F f (answer o j))
      (passed m e k ts vs p) (rule_body s r (call_kept s l i w is).below) d.reads in
      let up : suc f ≡ n = omega (arith, fuel) in
      record {
        reads = as_whole s l i w m e n (Call r k ts) is o j
            (subst (λ (z : ℕ). Reads (rules s) m e (tree.call r (map term_of (take k ts))) z (answer o j)) up
            (called inner));
        fuel = d.fuel;
      }

  pub read_not :
      {a k : ℕ} {b : Bool}
      → node_at s.nodes i ≡ Not a
      → Read s m e a n (Some b) k
      → Read s m e i n (Some (not b)) k
  read_not {a} {k} {b} is d =
      record { reads = as_whole s l i w m e n (Not a) is (Some (not b)) k (turns d.reads); fuel = refl }

  pub read_not_out :
      {a k : ℕ} {o : Option Bool}
      → node_at s.nodes i ≡ Not a
      → o ≡ None
      → Read s m e a n None k
      → Read s m e i n o k
  read_not_out {a} {k} is z d =
      subst (λ (o : Option Bool). Read s m e i n o k) (sym z)
      (record { reads = as_whole s l i w m e n (Not a) is None k (turns d.reads); fuel = d.fuel })

  pub read_pick :
      {x : Name} {a k : ℕ} {o : Option Bool}
      → node_at s.nodes i ≡ Pick x a
      → Read s m e a n o k
      → Read s m e i n o k
  read_pick {x} {a} {k} {o} is d =
      record { reads = as_whole s l i w m e n (Pick x a) is o k (picked d.reads); fuel = d.fuel }

  module _ {j : JoinWord} {v u a b : ℕ} (is : node_at s.nodes i ≡ Join j v u a b) where
    pub read_left_out : {k : ℕ} {o : Option Bool} → o ≡ None → Read s m e a n None k → Read s m e i n o k
    read_left_out {k} z d =
        subst (λ (o : Option Bool). Read s m e i n o k) (sym z)
        (record {
          reads = as_whole s l i w m e n (Join j v u a b) is None k (left_out d.reads);
          fuel = d.fuel;
        })

    pub read_left : {c : Bool} {k : ℕ} → c ≢ wants j → Read s m e a n (Some c) k → Read s m e i n (Some c) k
    read_left {c} {k} h d =
        record {
          reads = as_whole s l i w m e n (Join j v u a b) is (Some c) k (left_only h d.reads);
          fuel = refl;
        }

    pub read_right :
        {c : Bool} {k q : ℕ} {o : Option Bool}
        → c ≡ wants j
        → Read s m e a n (Some c) k
        → Read s m e b k o q
        → Read s m e i n o q
    read_right {c} {k} {q} {o} h d f =
        record {
          reads = as_whole s l i w m e n (Join j v u a b) is o q (right_too h d.reads f.reads);
          fuel = f.fuel;
        }
