use Rattle.std.proofs.Common.{ℕ, List, map, take}
use Rattle.formula.specs.Trees as tree
use Rattle.grammar.specs.Syntax.{Rule, Term}
use Rattle.grammar.specs.Tables.{term_of}
use Rattle.sheet.specs.Table.{term_of as number_term}
use Rattle.names.specs.Lists.{Each}
use Rattle.names.specs.Names.{TermIs}
use Rattle.names.specs.Faults.{terms_uses}
use Rattle.names.specs.Looking.{fields_seen, params_seen, UsesFault, Padded}
use Rattle.names.proofs.scope.Scope.number_terms.Given as goal

abbrev pub invariant-loop-i : goal.invariant-loop-i
invariant-loop-i l =
    Padded l.i l.numbered
    × ((rs : List Rule) (m q : ℕ) → UsesFault (fields_seen l.self) rs (params_seen l.self) (terms_uses (map (term_of l.self.text.now) (take l.i l.terms))) m q → ⊥)
    × Each Term tree.Term (TermIs (fields_seen l.self) (params_seen l.self))
    (map (term_of l.self.text.now) (take l.i l.terms)) (map number_term (take l.i l.numbered))
