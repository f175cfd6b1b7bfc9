-- The entries of a line, one after the other.
use Rattle.std.proofs.Common.{◌≡◌, ℕ, ◌+◌, ◌<◌, ◌≤◌, ◌≢◌, ◌⊎◌, List, length, set, Ok, Err, Result, sym, ◌∙◌, subst, inl, inr, ⊎_elim, arith, get_or-set_other, get_or-set_same}
use Rattle.std.specs.Option.{unwrap_or}
use Rattle.std.specs.Result.{result_err}
use Rattle.std.specs.Ordering.{ord_min}
use Rattle.std.proofs.lemmas.List.{length-set}
use Rattle.refusal.specs.declared.Fault.{Fault}
use Rattle.refusal.specs.contracts.FaultOrd.TheImpl as fault
use Rattle.refusal.proofs.Order.{min_is_earlier}
use Rattle.grammar.specs.declared.table.Node.{Node as NodeEntry}
use Rattle.grammar.specs.Syntax.{Formula, Rule}
use Rattle.grammar.specs.Tables.{node_at}
use Rattle.sheet.specs.declared.node.Node.{Node}
use Rattle.sheet.specs.Table.{node_at as number_node}
use Rattle.std.proofs.str.Laws.{order}
use Rattle.refusal.specs.Table.{number}
use Rattle.formula.specs.declared.Comparison.TheVariants.{Equal}
use Rattle.sheet.specs.declared.node.Node.TheVariants.{Compare}
use Rattle.formula.specs.declared.term.Term.TheVariants.{Number}
use Rattle.names.specs.Faults.{First, NoLater}
use Rattle.names.specs.declared.scope.Scope.{Scope}
use Rattle.names.specs.Looking.{fields_seen, params_seen, Heads, CallsOnce, Numbered, UsesFault, own_uses, AreEntries, EntriesFault, EntriesSettled, EntrySettled, SameOutside, Settles}
use Rattle.names.proofs.Search.{le_trans}
use Rattle.names.proofs.Numbering.{first_like}

-- what is settled of the entries below i, where those from start to before end are entries of formulas
abbrev pub SettledBelow :
    Scope → List NodeEntry → (start end i : ℕ) → List Node → Result (Unit {0}) Fault → Type 0
SettledBelow s raw start end i nodes r =
    (rs : List Rule) (part : ℕ → Formula)
    → Heads s.text.now s.rules.now rs
    → CallsOnce rs
    → AreEntries s.text.now raw part start end
    → (i ≤ end) ⊎ (i ≡ start)
    → Settles (EntriesFault (fields_seen s) rs (params_seen s) part start i)
    (λ _. (k : ℕ) → start ≤ k → k < i
    → Numbered s.text.now (fields_seen s) rs (params_seen s) (node_at raw k) (number_node nodes k)) r

-- q is the first of the faults so far, if any, and f
abbrev pub Sooner : Result (Unit {0}) Fault → Fault → Fault → Type 0
Sooner (Ok _) f q = q ≡ f
Sooner (Err g) f q =
    ((q ≡ g) × NoLater (number g.refusal) g.place (number f.refusal) f.place)
    ⊎ ((q ≡ f) × NoLater (number f.refusal) f.place (number g.refusal) g.place)

pub sooner_min :
    (r : Result (Unit {0}) Fault) (f q : Fault)
    → q ≡ ord_min fault.cmp-value.it (unwrap_or (result_err r) f) f → Sooner r f q
sooner_min (Ok _) f q e = ⊎_elim (λ h. e ∙ h.0) (λ h. e ∙ h.0) (min_is_earlier f f)
sooner_min (Err g) f q e =
    ⊎_elim (λ h. inl (e ∙ h.0, h.1)) (λ h. inr (e ∙ h.0, h.1)) (min_is_earlier g f)

-- the first of two kinds of faults
first_of_two :
    {F G : ℕ → ℕ → Type 0} (P : Type 0) (r : Result (Unit {0}) Fault) (f g : Fault)
    → Settles F (λ _. P) r → First G (number f.refusal) f.place → Sooner r f g
    → First (λ n p. F n p ⊎ G n p) (number g.refusal) g.place
first_of_two {F} {G} P (Ok _) f g b h e =
    subst (λ z. First (λ n p. F n p ⊎ G n p) (number z.refusal) z.place) (sym e)
    (record { fault = inr h.fault; least = λ m q x. ⊎_elim (λ y. absurd (b.0 m q y)) (h.least m q) x })
first_of_two {F} {G} P (Err o) f g b h e =
    ⊎_elim
    (λ u. subst (λ z. First (λ n p. F n p ⊎ G n p) (number z.refusal) z.place) (sym u.0)
    (record { fault = inl b.fault; least = λ m q x. ⊎_elim (b.least m q) (λ y. le_trans _ _ _ _ _ _ u.1 (h.least m q y)) x }))
    (λ u. subst (λ z. First (λ n p. F n p ⊎ G n p) (number z.refusal) z.place) (sym u.0)
    (record { fault = inr h.fault; least = λ m q x. ⊎_elim (λ y. le_trans _ _ _ _ _ _ u.1 (b.least m q y)) (h.least m q) x }))
    e

-- faults that are the same have the same first
pub settles_like :
    {F G : ℕ → ℕ → Type 0} {P Q : Type 0} (r : Result (Unit {0}) Fault)
    → ((n p : ℕ) → F n p → G n p) → ((n p : ℕ) → G n p → F n p) → (P → Q) → Settles F (λ _. P) r → Settles G (λ _. Q) r
settles_like (Ok _) to from also b = (λ n p g. b.0 n p (from n p g), also b.1)
settles_like (Err f) to from also b = first_like to from b

module _ (s : Scope) (raw : List NodeEntry) (start end i : ℕ) (nodes : List Node) (r : Result (Unit {0}) Fault)
    (before : SettledBelow s raw start end i nodes r) (from : start ≤ i) (to : i < end) where
  -- a fault below i + 1 is one below i, or one of the entry i
  module _ (rs : List Rule) (part : ℕ → Formula) where
    abbrev Below : ℕ → ℕ → ℕ → Type 0
    Below = EntriesFault (fields_seen s) rs (params_seen s) part start

    abbrev Here : ℕ → ℕ → Type 0
    Here = UsesFault (fields_seen s) rs (params_seen s) (own_uses (part i))

    join_below : (n p : ℕ) → Below i n p ⊎ Here n p → Below (i + 1) n p
    join_below n p x = ⊎_elim (λ b. (b.0, b.1, omega (arith, b.2), b.3)) (λ h. (i, from, omega arith, h)) x

    split_below : (n p : ℕ) → Below (i + 1) n p → Below i n p ⊎ Here n p
    split_below n p x =
        ⊎_elim (λ lt. inl (x.0, x.1, lt, x.3))
        (λ ge. let e : x.0 ≡ i = omega (arith, x.2) in
        inr (subst (λ k. UsesFault (fields_seen s) rs (params_seen s) (own_uses (part k)) n p) e x.3)) (order x.0 i)

  run_refused :
      (f g : Fault) → EntrySettled s (node_at raw i) (Err f) → Sooner r f g
      → SettledBelow s raw start end (i + 1) nodes (Err g)
  run_refused f g h e rs part hs once are reach =
      let entry = are i from to in
      first_like (join_below rs part) (split_below rs part)
      (first_of_two _ r f g (before rs part hs once are (inl (omega arith))) (h rs (part i) hs once entry.0 entry.1) e)

  run_settled :
      (node : Node) → EntrySettled s (node_at raw i) (Ok node) → i < length nodes
      → SettledBelow s raw start end (i + 1) (set nodes i node) r
  run_settled node h len rs part hs once are reach =
      let entry = are i from to in
      let settled = h rs (part i) hs once entry.0 entry.1 in
      settles_like r (λ n p x. join_below rs part n p (inl x))
      (λ n p x. ⊎_elim (λ y. y) (λ y. absurd (settled.0 n p y)) (split_below rs part n p x))
      (λ old k ge lt. number k ge lt old settled.1) (before rs part hs once are (inl (omega arith)))
    where
      number :
          (k : ℕ) → start ≤ k → k < i + 1
          → ((j : ℕ) → start ≤ j → j < i → Numbered s.text.now (fields_seen s) rs (params_seen s) (node_at raw j) (number_node nodes j))
          → Numbered s.text.now (fields_seen s) rs (params_seen s) (node_at raw i) node
          → Numbered s.text.now (fields_seen s) rs (params_seen s) (node_at raw k) (number_node (set nodes i node) k)
      number k ge lt below here =
          ⊎_elim
          (λ less. let ne : k ≢ i = omega arith in
          subst (Numbered s.text.now (fields_seen s) rs (params_seen s) (node_at raw k))
          (sym (get_or-set_other nodes i k node (Compare (Number 0) Equal (Number 0)) ne)) (below k ge less))
          (λ more. let e : i ≡ k = omega arith in
          subst (λ z. Numbered s.text.now (fields_seen s) rs (params_seen s) (node_at raw z) (number_node (set nodes i node) z)) e
          (subst (Numbered s.text.now (fields_seen s) rs (params_seen s) (node_at raw i))
          (sym (get_or-set_same nodes i node (Compare (Number 0) Equal (Number 0)) len)) here)) (order k i)

-- a write inside leaves the outside
outside_set :
    (before nodes : List Node) (start i : ℕ) (node : Node)
    → start ≤ i → SameOutside before nodes start i → SameOutside before (set nodes i node) start (i + 1)
outside_set before nodes start i node from o = (
  λ k lt. let ne : k ≢ i = omega arith in get_or-set_other nodes i k node (Compare (Number 0) Equal (Number 0)) ne ∙ o.0 k lt,
  λ k ge. let ne : k ≢ i = omega arith in get_or-set_other nodes i k node (Compare (Number 0) Equal (Number 0)) ne ∙ o.1 k (omega arith),
)

outside_more :
    (before nodes : List Node) (start i : ℕ) → SameOutside before nodes start i → SameOutside before nodes start (i + 1)
outside_more before nodes start i o = (o.0, λ k ge. o.1 k (omega arith))

-- the loop's invariant at i
abbrev pub Goes :
    Scope → List NodeEntry → (start end i : ℕ) → (before nodes : List Node)
    → Result (Unit {0}) Fault → Type 0
Goes s raw start end i before nodes r =
    ((start ≤ i) × ((i ≤ end) ⊎ (i ≡ start))) × (length nodes ≡ 256)
    × SettledBelow s raw start end i nodes r × SameOutside before nodes start i

module _ (s : Scope) (raw : List NodeEntry) (start end i : ℕ)
    (before nodes : List Node) (r : Result (Unit {0}) Fault) (so_far : Goes s raw start end i before nodes r) where
  -- the entry i is numbered
  pub goes_settled :
      (to : i < end) (small : i < 256) (node : Node) (nodes' : List Node) (r' : Result (Unit {0}) Fault)
      → nodes' ≡ set nodes i node → r' ≡ r → EntrySettled s (node_at raw i) (Ok node)
      → Goes s raw start end (i + 1) before nodes' r'
  goes_settled to small node nodes' r' e d h =
      let len : i < length nodes = omega (arith, so_far.1) in
      rw (e, d) (
        (omega arith, inl (omega arith)),
        length-set nodes i node ∙ so_far.1,
        run_settled s raw start end i nodes r so_far.2 so_far.0.0 to node h len,
        outside_set before nodes start i node so_far.0.0 so_far.3,
      )

  -- the entry i is at fault
  pub goes_refused :
      (to : i < end) (f g : Fault) (nodes' : List Node) (r' : Result (Unit {0}) Fault)
      → nodes' ≡ nodes → r' ≡ Err g → EntrySettled s (node_at raw i) (Err f) → Sooner r f g
      → Goes s raw start end (i + 1) before nodes' r'
  goes_refused to f g nodes' r' e d h sooner =
      rw (e, d) (
        (omega arith, inl (omega arith)),
        so_far.1,
        run_refused s raw start end i nodes r so_far.2 so_far.0.0 to f g h sooner,
        outside_more before nodes start i so_far.3,
      )

  -- all is settled
  pub goes_all : end ≤ i → EntriesSettled s raw start end nodes r
  goes_all ge rs part hs once are =
      let reach = so_far.0.1 in
      settles_like r
      (λ n p x. (x.0, x.1, ⊎_elim (λ le. omega (arith, x.2)) (λ e. let a = x.1 in let b = x.2 in absurd (omega arith)) reach, x.3))
      (λ n p x. (x.0, x.1, omega (arith, x.2), x.3)) (λ old k from to. old k from (omega arith)) (so_far.2 rs part hs once are reach)
