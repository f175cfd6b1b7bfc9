-- A sheet that is written out is read back.
use Rattle.std.proofs.Common.{ℕ, ◌-◌, ◌≤◌, List, [], ◌∷◌, refl, arith}
use Rattle.formula.specs.declared.Join.TheVariants.{And, Or}
use Rattle.grammar.specs.Syntax.{Word, word, num, Term, constant, bare, raised, lowered, Weights, absent, given, Formula, compared, called, negated, picked, joined, Field, field_line, Rule, rule_line, mark_line, sheet}
use Rattle.grammar.specs.Grammar.{at, Tokens, comma, closing, Parted, last, next, Listed, none, some, IsName, a_name, IsTerm, a_constant, a_bare, a_sum, a_difference, IsWeights, no_weights, weights, any, only, Kind, unit, formula, Reads, a_comparison, a_call, a_not, a_pick, brackets, alone, a_join, IsField, a_field, IsRule, a_rule, a_mark, Many, done, line, a_sheet}
use Rattle.grammar.specs.Tables.{nested}
use Rattle.grammar.specs.Written.{write_more, write_list, write_name, write_term, write_weights, write, write_fields, write_rules, ShallowRules}
use Rattle.grammar.specs.Laws.{ReadBack}

name_back : (w : Word) (r : Tokens) → IsName (write_name w r) r w
name_back (word w p) r = a_name

term_back : (t : Term) (r : Tokens) → IsTerm (write_term t r) r t
term_back (constant n) r = a_constant
term_back (bare (word w p)) r = a_bare
term_back (raised (word w p) n) r = a_sum
term_back (lowered (word w p) n) r = a_difference

module _
    (A : Type 0) (Item : Tokens → Tokens → A → Type 0) (write_one : A → Tokens → Tokens)
    (back_one : (a : A) (r : Tokens) → Item (write_one a r) r a) where
  parted_back :
      (a : A) (bs : List A) (r : Tokens)
      → Parted A Item (write_one a (write_more A write_one bs r)) r (a ∷ bs)
  parted_back a [] r = last (back_one a (at closing 0 ∷ r))
  parted_back a (b ∷ bs) r =
      next (back_one a (at comma 0 ∷ write_one b (write_more A write_one bs r))) (parted_back b bs r)

  list_back : (bs : List A) (r : Tokens) → Listed A Item (write_list A write_one bs r) r bs
  list_back [] r = none
  list_back (a ∷ bs) r = some (parted_back a bs r)

weights_back : (w : Weights) (r : Tokens) → IsWeights (write_weights w r) r w
weights_back absent r = no_weights
weights_back (given (num v p) (num w q)) r = weights

as_kind : (k : Kind) {d : ℕ} {xs r : Tokens} {f : Formula} → Reads unit d xs r f → Reads k d xs r f
as_kind unit a = a
as_kind (formula l) a = alone a

back : (f : Formula) (k : Kind) (d : ℕ) (r : Tokens) → nested f k ≤ d → Reads k d (write f k r) r f
back (compared c t u) k d r h = as_kind k (a_comparison (term_back t _) (term_back u r))
back (called (word w p) ts) k d r h = as_kind k (a_call (list_back Term IsTerm write_term term_back ts r))
back (negated f) k d r h = as_kind k (a_not (omega arith) (back f unit (d - 1) r (omega arith)))
back (picked (word w p) f) k d r h = as_kind k (a_pick (omega arith) (back f unit (d - 1) r (omega arith)))
back (joined j w f g) unit d r h =
    brackets (omega arith) (a_join (back f unit (d - 1) _ (omega arith)) tt (weights_back w _)
    (back g (formula (only j)) (d - 1) _ (omega arith)))
back (joined j w f g) (formula any) d r h =
    a_join (back f unit d _ (omega arith)) tt (weights_back w _) (back g (formula (only j)) d r (omega arith))
back (joined And w f g) (formula (only And)) d r h =
    a_join (back f unit d _ (omega arith)) refl (weights_back w _)
    (back g (formula (only And)) d r (omega arith))
back (joined Or w f g) (formula (only Or)) d r h =
    a_join (back f unit d _ (omega arith)) refl (weights_back w _)
    (back g (formula (only Or)) d r (omega arith))
back (joined And w f g) (formula (only Or)) d r h =
    alone (brackets (omega arith) (a_join (back f unit (d - 1) _ (omega arith)) tt (weights_back w _)
    (back g (formula (only And)) (d - 1) _ (omega arith))))
back (joined Or w f g) (formula (only And)) d r h =
    alone (brackets (omega arith) (a_join (back f unit (d - 1) _ (omega arith)) tt (weights_back w _)
    (back g (formula (only Or)) (d - 1) _ (omega arith))))

fields_back : (fs : List Field) (r : Tokens) → Many Field IsField (write_fields fs r) r fs
fields_back [] r = done
fields_back (field_line p (word w q) (num l i) (num h k) ∷ fs) r = line a_field (fields_back fs r)

rules_back : (rs : List Rule) (r : Tokens) → ShallowRules rs → Many Rule IsRule (write_rules rs r) r rs
rules_back [] r h = done
rules_back (rule_line p (word w q) ps f ∷ rs) r h =
    line (a_rule (list_back Word IsName write_name name_back ps _) (back f (formula any) 16 _ h.0))
    (rules_back rs r h.1)

pub read_back : ReadBack
read_back (sheet [] rs (mark_line a g)) h = absurd h.0
read_back (sheet (field_line p (word w q) (num l i) (num k e) ∷ fs) rs (mark_line a g)) h =
    a_sheet a_field (fields_back fs _) (rules_back rs _ h.1) (a_mark (back g (formula any) 16 _ h.2))
