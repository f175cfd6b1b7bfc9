-- The entries of a line hold formulas, each one only.
use Rattle.std.proofs.Common.{◌≡◌, ℕ, zero, suc, ◌<◌, ◌≤◌, true, List, length, refl, arith, rules}
use Rattle.formula.specs.Trees as tree
use Rattle.sheet.specs.declared.node.Node.{Node}
use Rattle.sheet.specs.declared.node.Node.TheVariants.{Compare, Call, Not, Pick, Join}
use Rattle.sheet.specs.declared.node.Line.{Line}
use Rattle.sheet.specs.declared.table.Sheet.{Sheet}
use Rattle.sheet.specs.Table.{node_at, Holds, a_comparison, a_call, a_not, a_pick, a_join, whole, formula_within, formula_at, line_at}
use Rattle.sheet.specs.Keeping.{entry_kept, Within}
use Rattle.sheet.specs.Sheets.{lines_in, EntriesHold}

-- what an entry holds is made of what its parts hold
held_whole :
    (nodes : List Node) (parts : ℕ → tree.Formula) (i : ℕ) (f : tree.Formula)
    → ((a : ℕ) (g : tree.Formula) → a < i → Holds nodes a g → g ≡ parts a)
    → Holds nodes i f → f ≡ whole parts (node_at nodes i)
held_whole = search rules

-- what an entry holds is the formula of its number
pub held_within :
    (nodes : List Node) (n i : ℕ) (f : tree.Formula)
    → i < n → Holds nodes i f → f ≡ formula_within n nodes i
unfolding formula_within
held_within nodes zero i f lt h = absurd (omega arith)
held_within nodes (suc n) i f lt h =
    held_whole nodes (formula_within n nodes) i f (λ a g less k. held_within nodes n a g (omega arith) k) h

-- the parts of an entry are entries of its line that stand before it
abbrev pub Parts : (start i : ℕ) → Node → Type 0
Parts start i (Compare t c u) = Unit {0}
Parts start i (Call r n ts) = Unit {0}
Parts start i (Not a) = (start ≤ a) × (a < i)
Parts start i (Pick b a) = (start ≤ a) × (a < i)
Parts start i (Join j v w a b) = ((start ≤ a) × (a < i)) × ((start ≤ b) × (b < i))

pub parts_of :
    (fields rules : ℕ) (lines : List Line) (l i : ℕ) (n : Node)
    → entry_kept fields rules lines l i n ≡ true → Parts (line_at lines l).start i n
parts_of = search rules

-- so for each entry of a line
pub entry_parts :
    (s : Sheet) (l i : ℕ) → Within (length s.rules.items) (lines_in s) l i
    → Parts (line_at (lines_in s) l).start i (node_at s.nodes i)
entry_parts s l i w =
    parts_of (length s.ranges.items) (length s.rules.items) (lines_in s) l i _ (s.entries_kept l i w)

module _
    (nodes : List Node) (start body : ℕ)
    (parts : (i : ℕ) → start ≤ i → i ≤ body → Parts start i (node_at nodes i)) where
  holds_whole :
      (n i : ℕ) → i ≤ body
      → ((a : ℕ) → start ≤ a → a < i → Holds nodes a (formula_within n nodes a))
      → (m : Node) → node_at nodes i ≡ m → Parts start i m → Holds nodes i (whole (formula_within n nodes) m)
  holds_whole n i end held (Compare t c u) e p = a_comparison e refl refl
  holds_whole n i end held (Call r k ts) e p = a_call e refl
  holds_whole n i end held (Not a) e p = a_not e p.1 (held a p.0 p.1)
  holds_whole n i end held (Pick b a) e p = a_pick e refl p.1 (held a p.0 p.1)
  holds_whole n i end held (Join j v w a b) e p =
      a_join e p.0.1 p.1.1 (held a p.0.0 p.0.1) (held b p.1.0 p.1.1)

  pub holds_within : (n i : ℕ) → i < n → start ≤ i → i ≤ body → Holds nodes i (formula_within n nodes i)
  unfolding formula_within
  holds_within zero i lt from end = absurd (omega arith)
  holds_within (suc n) i lt from end =
      holds_whole n i end (λ a ge less. holds_within n a (omega arith) ge (omega arith)) (node_at nodes i) refl
      (parts i from end)

-- every entry of a line holds one formula
pub entries_hold_lem : EntriesHold
unfolding formula_at
entries_hold_lem s l i w = (
  holds_within s.nodes (line_at (lines_in s) l).start (line_at (lines_in s) l).body
      (λ k from end. entry_parts s l k (w.0, from, end))
      256 i (omega (arith, s.lines_kept l w.0)) w.1 w.2,
  λ f h. held_within s.nodes 256 i f (omega (arith, s.lines_kept l w.0)) h,
)

-- an entry's formula is made of the formulas of its parts
pub formula_step :
    (s : Sheet) (l i : ℕ) → Within (length s.rules.items) (lines_in s) l i
    → formula_at s.nodes i ≡ whole (formula_at s.nodes) (node_at s.nodes i)
unfolding formula_at
formula_step s l i w =
    held_whole s.nodes (formula_at s.nodes) i (formula_at s.nodes i)
    (λ a g less h. held_within s.nodes 256 a g (omega (arith, s.lines_kept l w.0, w.2)) h)
    (entries_hold_lem s l i w).0
