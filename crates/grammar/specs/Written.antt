-- A sheet written out as tokens. A sign or a reserved word that no fault points at is given place 0.
use Rattle.std.specs.Prelude.{◌≤◌, cond, List, [], ◌∷◌}
use Rattle.grammar.specs.Syntax.{Word, word, num, Term, constant, bare, raised, lowered, Weights, absent, given, Formula, compared, called, negated, picked, joined, Field, field_line, Rule, rule_line, mark_line, Sheet, sheet}
use Rattle.grammar.specs.Grammar.{name, number, field, rule, mark, not, pick, join, sign, opening, closing, comma, semicolon, colon, plus, minus, at, Tokens, any, only, Kind, unit, formula}
use Rattle.grammar.specs.Tables.{bracketed, nested, SomeFields}

-- Each of these writes an item, and then the tokens r.

-- the items after the first of a list, each after a comma, and the closing bracket
abbrev pub write_more : (A : Type 0) → (A → Tokens → Tokens) → List A → Tokens → Tokens
write_more A write_one [] r = at closing 0 ∷ r
write_more A write_one (a ∷ rest) r = at comma 0 ∷ write_one a (write_more A write_one rest r)

-- items parted by commas, and the closing bracket
abbrev pub write_list : (A : Type 0) → (A → Tokens → Tokens) → List A → Tokens → Tokens
write_list A write_one [] r = at closing 0 ∷ r
write_list A write_one (a ∷ rest) r = write_one a (write_more A write_one rest r)

-- a name
abbrev pub write_name : Word → Tokens → Tokens
write_name (word w p) r = at (name w) p ∷ r

-- a term
abbrev pub write_term : Term → Tokens → Tokens
write_term (constant n) r = at (number n) 0 ∷ r
write_term (bare w) r = write_name w r
write_term (raised w n) r = write_name w (at plus 0 ∷ at (number n) 0 ∷ r)
write_term (lowered w n) r = write_name w (at minus 0 ∷ at (number n) 0 ∷ r)

-- weights, if there are any
abbrev pub write_weights : Weights → Tokens → Tokens
write_weights absent r = r
write_weights (given (num v p) (num w q)) r = at (number v) p ∷ at colon 0 ∷ at (number w) q ∷ r

-- a formula where such a kind stands; a join is put in brackets where it needs them
abbrev pub write : Formula → Kind → Tokens → Tokens
write (compared c t u) k r = write_term t (at (sign c) 0 ∷ write_term u r)
write (called w ts) k r = write_name w (at opening 0 ∷ write_list Term write_term ts r)
write (negated f) k r = at not 0 ∷ write f unit r
write (picked w f) k r = at pick 0 ∷ write_name w (write f unit r)
write (joined j w f g) k r =
    cond (bracketed k j)
    (at opening 0 ∷ write f unit (at (join j) 0 ∷ write_weights w (write g (formula (only j)) (at closing 0 ∷ r))))
    (write f unit (at (join j) 0 ∷ write_weights w (write g (formula (only j)) r)))

-- field lines
abbrev pub write_fields : List Field → Tokens → Tokens
write_fields [] r = r
write_fields (field_line p w (num l i) (num h k) ∷ fs) r =
    at field p ∷ write_name w (at (number l) i ∷ at (number h) k ∷ at semicolon 0 ∷ write_fields fs r)

-- rule lines
abbrev pub write_rules : List Rule → Tokens → Tokens
write_rules [] r = r
write_rules (rule_line p w ps f ∷ rs) r =
    at rule p ∷ write_name w (at opening 0 ∷ write_list Word write_name ps
    (at colon 0 ∷ write f (formula any) (at semicolon 0 ∷ write_rules rs r)))

-- a sheet
abbrev pub write_sheet : Sheet → Tokens
write_sheet (sheet fs rs (mark_line p f)) =
    write_fields fs (write_rules rs (at mark p ∷ write f (formula any) (at semicolon 0 ∷ [])))

-- the formulas of rules nest at most 16 deep
abbrev pub ShallowRules : List Rule → Type 0
ShallowRules [] = Unit {0}
ShallowRules (rule_line p w ps f ∷ rs) = (nested f (formula any) ≤ 16) × ShallowRules rs

-- a sheet that can be written: it has a field line, and its formulas nest at most 16 deep
abbrev pub Writable : Sheet → Type 0
Writable (sheet fs rs (mark_line p f)) = SomeFields fs × ShallowRules rs × (nested f (formula any) ≤ 16)
