-- Formulas as entries of a table: what is entered stays, and wholes are entered after their parts.
use Rattle.std.proofs.Common.{◌≡◌, ℕ, suc, ◌+◌, ◌≤◌, List, Option, map, sym, refl, ap, ◌∙◌, subst, arith}
use lib.ListN.{length-map}
use Rattle.std.proofs.lemmas.List.{take-map}
use Rattle.formula.specs.declared.Comparison.{Comparison}
use Rattle.formula.specs.declared.Join.{Join}
use Rattle.grammar.specs.declared.table.Word.{Word as WordEntry}
use Rattle.grammar.specs.Tables.{TermEntry}
use Rattle.grammar.specs.declared.table.Weights.{Weights as WeightsEntry}
use Rattle.grammar.specs.declared.table.Node.{Node}
use Rattle.grammar.specs.declared.table.Node.TheVariants.{Compared, Called, Negated, Picked, Joined}
use Rattle.grammar.specs.declared.table.Table.{Table}
use Rattle.grammar.specs.declared.formula_part.Part.{Part}
use Rattle.grammar.specs.declared.few.Few.{Few}
use Rattle.grammar.specs.Syntax.{Formula, compared, called, negated, picked, joined}
use Rattle.grammar.specs.Tables.{word_of, term_of, weights_of, node_at, Entries, a_comparison, a_call, a_not, a_pick, a_join}
use Rattle.grammar.specs.Parsing.{Holds4, entered, Grown, Pushed, Entered}

pub grown_none : (t : Table) → Grown t t
grown_none t =
    record {
      fields = refl;
      rules = refl;
      others = (refl, refl);
      grows = omega arith;
      same = λ k lt. refl;
    }

pub grown_more : {a b c : Table} → Grown a b → Grown b c → Grown a c
grown_more g h = record {
  fields = h.fields ∙ g.fields;
  rules = h.rules ∙ g.rules;
  others = (h.others.0 ∙ g.others.0, h.others.1 ∙ g.others.1);
  grows = omega (arith, g.grows, h.grows);
  same = λ k lt. h.same k (omega (arith, g.grows)) ∙ g.same k lt;
}

-- the whole stands after its first entry
pub starts : {text : List ℕ} {ns : List Node} {s e : ℕ} {f : Formula} → Entries text ns s e f → s ≤ e
starts (a_comparison n t u) = omega arith
starts (a_call n v c ts) = omega arith
starts (a_not n e a) = omega (arith, starts a)
starts (a_pick n v e a) = omega (arith, starts a)
starts (a_join n v e x y) = omega (arith, starts x, starts y)

-- entries that stay are the same formula
pub entries_same :
    {text : List ℕ} {ns ms : List Node} {s e : ℕ} {f : Formula}
    → ((k : ℕ) → k ≤ e → node_at ms k ≡ node_at ns k)
    → Entries text ns s e f
    → Entries text ms s e f
entries_same h (a_comparison {i} n t u) = a_comparison (h i (omega arith) ∙ n) t u
entries_same h (a_call {i} n v c ts) = a_call (h i (omega arith) ∙ n) v c ts
entries_same h (a_not {i =
    i} n e a) = a_not (h i (omega arith) ∙ n) e (entries_same (λ k le. h k (omega arith)) a)
entries_same h (a_pick {i =
    i} n v e a) = a_pick (h i (omega arith) ∙ n) v e (entries_same (λ k le. h k (omega arith)) a)
entries_same h (a_join {a = a} {b = b} {i = i} n v e x y) =
    let le = starts y in
    a_join (h i (omega arith) ∙ n) v e (entries_same (λ k l. h k (omega arith)) x)
    (entries_same (λ k l. h k (omega arith)) y)

-- entries below those in use stay
kept :
    {text : List ℕ} {b a : Table} {s e : ℕ} {f : Formula}
    → Grown b a
    → e + 1 ≤ entered b
    → Entries text b.nodes.items s e f
    → Entries text a.nodes.items s e f
kept g h x = entries_same (λ k le. g.same k (omega arith)) x

module _ (text : List ℕ) {b a : Table} where
  pub entered_comparison :
      {i : ℕ} (c : Comparison) (t u : TermEntry)
      → Pushed b a (Compared c t u) i
      → Entered text b a (record { body = i; size = 1; joins = 0 })
      (compared c (term_of text t) (term_of text u))
  entered_comparison {i} c t u p = record {
    sized = refl;
    joined = refl;
    held = λ h.
        let q = p.there (omega arith) in
        let f = compared c (term_of text t) (term_of text u) in (
          subst (λ s. Entries text a.nodes.items s i f) q.0 (a_comparison q.2 refl refl),
          q.1,
          omega
              (arith, q.0, q.1),
        );
  }

  pub entered_call :
      {i : ℕ} (v : WordEntry) (list : Few TermEntry) (all : List TermEntry)
      → Holds4 TermEntry list all
      → Pushed b a (Called v list) i
      → Entered text b a (record { body = i; size = 1; joins = 0 })
      (called (word_of text v) (map (term_of text) all))
  entered_call {i} v list all h p = record {
    sized = refl;
    joined = refl;
    held = λ r.
        let q = p.there (omega arith) in
        let f = called (word_of text v) (map (term_of text) all) in
        let n = h.counts ∙ sym (length-map all (term_of text)) in
        let ts = ap (map (term_of text)) h.holds ∙ sym (take-map (term_of text) 4 all) in (
          subst (λ s. Entries text a.nodes.items s i f) q.0 (a_call q.2 refl n ts),
          q.1,
          omega
              (arith, q.0, q.1),
        );
  }

-- a whole after its part
module _
    (text : List ℕ) {b m a : Table} {i : ℕ} (part : Part) {f : Formula} (h : Entered text b m part f) where
  pub entered_not :
      Pushed m a (Negated part.body) i
      → Entered text b a (record { body = i; size = part.size + 1; joins = part.joins }) (negated f)
  entered_not p = record {
    sized = omega (arith, h.sized);
    joined = h.joined;
    held = λ r.
        let k = h.held (omega arith) in
        let q = p.there (omega (arith, k.1)) in (
          a_not q.2 (omega (arith, q.0, k.2)) (kept p.grown (omega (arith, k.2)) k.0),
          omega (arith, q.1, k.1),
          omega (arith, q.0, q.1),
        );
  }

  pub entered_pick :
      (v : WordEntry)
      → Pushed m a (Picked v part.body) i
      → Entered text b a (record { body = i; size = part.size + 1; joins = part.joins })
      (picked (word_of text v) f)
  entered_pick v p = record {
    sized = omega (arith, h.sized);
    joined = h.joined;
    held = λ r.
        let k = h.held (omega arith) in
        let q = p.there (omega (arith, k.1)) in (
          a_pick q.2 refl (omega (arith, q.0, k.2)) (kept p.grown (omega (arith, k.2)) k.0),
          omega (arith, q.1, k.1),
          omega (arith, q.0, q.1),
        );
  }

-- a join after its two parts
pub entered_join :
    (text : List ℕ) {b m n a : Table} {i : ℕ} (left right : Part) {f g : Formula} (j : Join) (w : Option WeightsEntry)
    → Entered text b m left f
    → Grown m n
    → Entered text m n right g
    → Pushed n a (Joined j w left.body right.body) i
    → Entered text b a
    (record { body = i; size = left.size + right.size + 1; joins = left.joins + right.joins + 1 })
    (joined j (weights_of w) f g)
entered_join text {b} {m} {n} {a} {i} left right {f} {g} j w x h y p = record {
  sized = omega (arith, x.sized, y.sized);
  joined = omega (arith, x.joined, y.joined);
  held = λ r.
      let k = x.held (omega arith) in
      let l = y.held (omega (arith, k.1)) in
      let q = p.there (omega (arith, k.1, l.1)) in
      let e : entered m ≡ suc left.body = omega (arith, k.2) in (
        a_join q.2 refl (omega (arith, q.0, l.2))
            (kept (grown_more h p.grown) (omega (arith, k.2)) k.0)
            (subst (λ s. Entries text a.nodes.items s right.body g) e
            (kept p.grown (omega (arith, l.2)) l.0)),
        omega (arith, q.1, k.1, l.1),
        omega (arith, q.0, q.1),
      );
}
