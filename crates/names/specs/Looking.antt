-- Words of this crate's private contracts: what was found among some lines, and the first fault so far.
use Rattle.std.specs.Prelude.{◌≡◌, ℕ, ◌+◌, ◌<◌, ◌≤◌, ◌⊎◌, List, [], ◌∷◌, ◌++◌, map, length, take, Some, None, Ok, Err, Option, Result, slice_index_or}
use Rattle.formula.specs.declared.Comparison.{Comparison}
use Rattle.formula.specs.declared.Join.{Join}
use Rattle.formula.specs.Trees as tree
use Rattle.refusal.specs.declared.Fault.{Fault}
use Rattle.refusal.specs.Table.{number}
use Rattle.grammar.specs.declared.few.Few.{Few}
use Rattle.grammar.specs.declared.table.Word.{Word as WordEntry}
use Rattle.grammar.specs.Tables.{TermEntry}
use Rattle.grammar.specs.declared.table.Weights.{Weights as WeightsEntry}
use Rattle.grammar.specs.declared.table.Node.{Node as NodeEntry}
use Rattle.grammar.specs.declared.table.Node.TheVariants.{Compared, Called, Negated, Picked, Joined}
use Rattle.grammar.specs.declared.table.FieldLine.{FieldLine}
use Rattle.grammar.specs.declared.table.RuleLine.{RuleLine}
use Rattle.grammar.specs.declared.table.Table.{Table}
use Rattle.grammar.specs.Syntax.{Word, num, Term, Weights, Formula, compared, called, negated, picked, joined, Field, Rule, rule_line, mark_line, Sheet, sheet}
use Rattle.grammar.specs.Tables.{word_of, term_of, node_at, weights_of, field_of, params_of, place_of, formula_places, fields_places, rules_places, rules_of, Entries, Rules, Holds, WellRead, Over, Rising}
use Rattle.sheet.specs.declared.node.Name.{Name}
use Rattle.sheet.specs.Table.{SheetTerm}
use Rattle.formula.specs.declared.term.Term.TheVariants.{Number as SheetNumber}
use Rattle.sheet.specs.declared.node.Node.{Node}
use Rattle.sheet.specs.declared.node.Node.TheVariants.{Compare, Call, Not, Pick, Join as JoinNode}
use Rattle.sheet.specs.declared.node.Range.{Range}
use Rattle.sheet.specs.declared.node.Line.{Line}
use Rattle.grammar.specs.declared.table.MarkLine.{MarkLine}
use Rattle.sheet.specs.Table.{range_at, line_at, name_of as number_name, term_of as number_term, node_at as number_node}
use Rattle.names.specs.declared.scope.Scope.{Scope}
use Rattle.names.specs.Lists.{Stands, In, Each}
use Rattle.names.specs.Names.{spelling, Means, Calls, TermIs, left_weight, right_weight}
use Rattle.names.specs.Faults.{Use, term, call, weight, term_uses, terms_uses, weight_uses, UseFault, field_name, rule_name, all_names, Taken, sizes, FieldFault, RuleFault, MarkFault, Faulty, First}

-- the place of an item with the property P, or none where no item has it
abbrev pub Found : {A : Type 0} → (A → Type 0) → List A → Option ℕ → Type 0
Found {A} P xs None = (i : ℕ) (x : A) → Stands A xs i x → P x → ⊥
Found {A} P xs (Some i) = (x : A) × Stands A xs i x × P x

-- some item has the property P
abbrev pub SomeOf : {A : Type 0} → (A → Type 0) → List A → Type 0
SomeOf {A} P xs = (i : ℕ) × (x : A) × Stands A xs i x × P x

-- two names are spelled alike
abbrev pub Alike : List ℕ → WordEntry → WordEntry → Type 0
Alike text v w = spelling (word_of text v) ≡ spelling (word_of text w)

-- the field line of that number
abbrev pub field_at : List FieldLine → ℕ → FieldLine
field_at fields i =
    slice_index_or fields i
    (record {
      first = 0;
      name = record { place = 0; length = 0 };
      low = record { value = 0; place = 0 };
      high = record { value = 0; place = 0 };
    })

-- the words of some names
abbrev pub names_of : List ℕ → List WordEntry → List Word
names_of text ws = map (word_of text) ws

-- the fields of some lines
abbrev pub fields_in : List ℕ → List FieldLine → List Field
fields_in text ls = map (field_of text) ls

-- the line l is that of the rule, its formula aside, and has at most 4 parameters
abbrev pub IsHead : List ℕ → RuleLine → Rule → Type 0
IsHead text l (rule_line p w ps f) =
    (l.first ≡ p) × (word_of text l.name ≡ w) × (params_of text l ≡ ps) × (length ps ≤ 4)

-- the lines are those of the rules, their formulas aside
abbrev pub Heads : List ℕ → List RuleLine → List Rule → Type 0
Heads text ls rs = Each RuleLine Rule (IsHead text) ls rs

-- what a formula uses itself, its parts aside
abbrev pub own_uses : Formula → List Use
own_uses (compared c t u) = term_uses t ++ term_uses u
own_uses (called w ts) = call w (length ts) ∷ terms_uses ts
own_uses (negated f) = []
own_uses (picked w f) = term w ∷ []
own_uses (joined j w f g) = weight_uses w

-- a name calls one rule at most
abbrev pub CallsOnce : List Rule → Type 0
CallsOnce rs = (w : Word) (i j : ℕ) (ps qs : List Word) → Calls rs w i ps → Calls rs w j qs → i ≡ j

-- a fault of one of some uses
abbrev pub UsesFault : List Field → List Rule → List Word → List Use → (number place : ℕ) → Type 0
UsesFault fs rs ps us n p = (u : Use) × In Use us u × UseFault fs rs ps u n p

-- the place of a use
abbrev pub use_place : Use → ℕ
use_place (term w) = place_of w
use_place (call w n) = place_of w
use_place (weight (num v p)) = p

-- the entry is that of the formula, its parts aside
pub data IsEntry (text : List ℕ) : NodeEntry → Formula → Type 0 where
  an_entry_compared :
      {c : Comparison} {t u : TermEntry} {x y : Term}
      → term_of text t ≡ x
      → term_of text u ≡ y
      → IsEntry text (Compared c t u) (compared c x y)
  an_entry_called :
      {v : WordEntry} {w : Word} {ts : Few TermEntry} {xs : List Term}
      → word_of text v ≡ w
      → ts.count ≡ length xs
      → map (term_of text) (take ts.count ts.items) ≡ take 4 xs
      → IsEntry text (Called v ts) (called w xs)
  an_entry_negated : {a : ℕ} {f : Formula} → IsEntry text (Negated a) (negated f)
  an_entry_picked :
      {v : WordEntry} {w : Word} {a : ℕ} {f : Formula}
      → word_of text v ≡ w
      → IsEntry text (Picked v a) (picked w f)
  an_entry_joined :
      {j : Join} {v : Option WeightsEntry} {w : Weights} {a b : ℕ} {f g : Formula}
      → weights_of v ≡ w
      → IsEntry text (Joined j v a b) (joined j w f g)

-- four terms, of which those past the first n are 0
abbrev pub Padded : (n : ℕ) → List SheetTerm → Type 0
Padded n xs = (length xs ≡ 4) × ((j : ℕ) → n ≤ j → slice_index_or xs j (SheetNumber 0) ≡ SheetNumber 0)

-- an entry with its names replaced by numbers: parts keep their numbers
pub data Numbered (text : List ℕ) (fs : List Field) (rs : List Rule) (ps : List Word) : NodeEntry → Node → Type 0 where
  numbered_compared :
      {c : Comparison} {t u : TermEntry} {x y : SheetTerm}
      → TermIs fs ps (term_of text t) (number_term x)
      → TermIs fs ps (term_of text u) (number_term y)
      → Numbered text fs rs ps (Compared c t u) (Compare x c y)
  numbered_called :
      {k : ℕ} {v : WordEntry} {ts : Few TermEntry} {xs : List SheetTerm} {qs : List Word}
      → Calls rs (word_of text v) k qs
      → length qs ≡ ts.count
      → Each Term tree.Term (TermIs fs ps) (map (term_of text) (take ts.count ts.items))
      (map number_term (take ts.count xs))
      → Padded ts.count xs
      → Numbered text fs rs ps (Called v ts) (Call k ts.count xs)
  numbered_negated : {a : ℕ} → Numbered text fs rs ps (Negated a) (Not a)
  numbered_picked :
      {v : WordEntry} {b : Name} {a : ℕ}
      → Means fs ps (word_of text v) (number_name b)
      → Numbered text fs rs ps (Picked v a) (Pick b a)
  numbered_joined :
      {j : Join} {v : Option WeightsEntry} {a b x y : ℕ}
      → left_weight (weights_of v) ≡ x
      → right_weight (weights_of v) ≡ y
      → Numbered text fs rs ps (Joined j v a b) (JoinNode j x y a b)

-- the first of the faults F, or where there is none a value with the property P
abbrev pub Settles : {A : Type 0} → (ℕ → ℕ → Type 0) → (A → Type 0) → Result A Fault → Type 0
Settles F P (Ok x) = ((n p : ℕ) → F n p → ⊥) × P x
Settles F P (Err f) = First F (number f.refusal) f.place

-- the first of the faults F, or none where there is none
abbrev pub Best : (ℕ → ℕ → Type 0) → Result (Unit {0}) Fault → Type 0
Best F (Ok _) = (n p : ℕ) → F n p → ⊥
Best F (Err f) = First F (number f.refusal) f.place

-- What is settled of a name, a call, a term and an entry: the first fault, or what it comes to

-- the fields of the scope
abbrev pub fields_seen : Scope → List Field
fields_seen s = fields_in s.text.now s.fields.now

-- the parameters of the scope
abbrev pub params_seen : Scope → List Word
params_seen s = names_of s.text.now s.params.now

-- a name in the scope
abbrev pub NameSettled : Scope → WordEntry → Result Name Fault → Type 0
NameSettled s w r =
    (rs : List Rule)
    → Settles (UseFault (fields_seen s) rs (params_seen s) (term (word_of s.text.now w)))
    (λ x. Means (fields_seen s) (params_seen s) (word_of s.text.now w) (number_name x)) r

-- a call of the name w with n terms in the scope
abbrev pub CallSettled : Scope → WordEntry → (n : ℕ) → Result ℕ Fault → Type 0
CallSettled s w n r =
    (fs : List Field) (rs : List Rule) (ps : List Word)
    → Heads s.text.now s.rules.now rs
    → CallsOnce rs
    → Settles (UseFault fs rs ps (call (word_of s.text.now w) n))
    (λ k. (qs : List Word) × Calls rs (word_of s.text.now w) k qs × (length qs ≡ n) × (n ≤ 4)) r

-- a term in the scope
abbrev pub TermSettled : Scope → TermEntry → Result SheetTerm Fault → Type 0
TermSettled s x r =
    (rs : List Rule)
    → Settles (UsesFault (fields_seen s) rs (params_seen s) (term_uses (term_of s.text.now x)))
    (λ y. TermIs (fields_seen s) (params_seen s) (term_of s.text.now x) (number_term y)) r

-- at most four terms xs in the scope
abbrev pub TermsSettled : Scope → List TermEntry → Result (List SheetTerm) Fault → Type 0
TermsSettled s xs r =
    (rs : List Rule)
    → Rising (map use_place (terms_uses (map (term_of s.text.now) xs)))
    → Settles (UsesFault (fields_seen s) rs (params_seen s) (terms_uses (map (term_of s.text.now) xs)))
    (λ ys. Each Term tree.Term (TermIs (fields_seen s) (params_seen s)) (map (term_of s.text.now) xs)
    (map number_term (take (length xs) ys)) × Padded (length xs) ys) r

-- the weights of a join
abbrev pub WeightsSettled : Option WeightsEntry → Result (ℕ × ℕ) Fault → Type 0
WeightsSettled v r =
    (fs : List Field) (rs : List Rule) (ps : List Word)
    → Rising (map use_place (weight_uses (weights_of v)))
    → Settles (UsesFault fs rs ps (weight_uses (weights_of v)))
    (λ y. (left_weight (weights_of v) ≡ y.0) × (right_weight (weights_of v) ≡ y.1)) r

-- an entry in the scope
abbrev pub EntrySettled : Scope → NodeEntry → Result Node Fault → Type 0
EntrySettled s x r =
    (rs : List Rule) (f : Formula)
    → Heads s.text.now s.rules.now rs
    → CallsOnce rs
    → IsEntry s.text.now x f
    → Rising (map use_place (own_uses f))
    → Settles (UsesFault (fields_seen s) rs (params_seen s) (own_uses f))
    (Numbered s.text.now (fields_seen s) rs (params_seen s) x) r

-- a fault of what some entry from start to before end uses itself, where part gives the formula of each entry
abbrev pub EntriesFault :
    List Field → List Rule → List Word → (part : ℕ → Formula) → (start end : ℕ) → (number place : ℕ) → Type 0
EntriesFault fs rs ps part start end n p =
    (k : ℕ) × (start ≤ k) × (k < end) × UsesFault fs rs ps (own_uses (part k)) n p

-- the entries from start to before end are those of the formulas that part gives
abbrev pub AreEntries : List ℕ → List NodeEntry → (part : ℕ → Formula) → (start end : ℕ) → Type 0
AreEntries text nodes part start end =
    (k : ℕ) → start ≤ k → k < end → IsEntry text (node_at nodes k) (part k) × Rising (map use_place (own_uses (part k)))

-- the entries from start to before end, in a line with the fields of the lines ls and the parameters ws, which may call
-- the rules of the lines ks: their first fault, or none and the entries by their numbers
abbrev pub EntriesSettledWith :
    List ℕ → List FieldLine → List RuleLine → List WordEntry → List NodeEntry → (start end : ℕ) → List Node
    → Result (Unit {0}) Fault → Type 0
EntriesSettledWith text ls ks ws raw start end nodes r =
    (rs : List Rule) (part : ℕ → Formula)
    → Heads text ks rs
    → CallsOnce rs
    → AreEntries text raw part start end
    → Settles (EntriesFault (fields_in text ls) rs (names_of text ws) part start end)
    (λ _. (k : ℕ) → start ≤ k → k < end
    → Numbered text (fields_in text ls) rs (names_of text ws) (node_at raw k) (number_node nodes k)) r

-- the entries from start to before end, in the scope
abbrev pub EntriesSettled : Scope → List NodeEntry → (start end : ℕ) → List Node → Result (Unit {0}) Fault → Type 0
EntriesSettled s = EntriesSettledWith s.text.now s.fields.now s.rules.now s.params.now

-- two tables agree outside the entries from start to before end
abbrev pub SameOutside : List Node → List Node → (start end : ℕ) → Type 0
SameOutside before after start end =
    ((k : ℕ) → k < start → number_node after k ≡ number_node before k)
    × ((k : ℕ) → end ≤ k → number_node after k ≡ number_node before k)

-- Names that lines declare

-- a rule line declares the name w: as its own, or as a parameter's
abbrev pub Declares : List ℕ → WordEntry → RuleLine → Type 0
Declares text w l = Alike text l.name w ⊎ SomeOf (λ v. Alike text v w) l.params.items

-- a name that stands for none
abbrev pub no_word : WordEntry
no_word = record { place = 0; length = 0 }

-- the name w is that of a field, of a rule line in the scope, of the line's own rule or of a parameter before it
abbrev pub ParamTaken : Scope → (own : WordEntry) → List WordEntry → WordEntry → Type 0
ParamTaken s own before w =
    SomeOf (λ f. Alike s.text.now f.name w) s.fields.now
    ⊎ (SomeOf (λ r. Alike s.text.now r.name w) s.rules.now
    ⊎ (Alike s.text.now own w ⊎ SomeOf (λ v. Alike s.text.now v w) before))

-- a name that the rule line declares, its own w or one of its parameters ps, is taken
abbrev pub NamesFault : List Field → (above : List Rule) → Word → List Word → (number place : ℕ) → Type 0
NamesFault fs above w ps n p =
    (Taken (map field_name fs ++ all_names above) w × (n ≡ 7) × (p ≡ place_of w))
    ⊎ ((i : ℕ) × (v : Word) × Stands Word ps i v
    × (Taken (map field_name fs ++ (map rule_name above ++ (w ∷ take i ps))) v × (n ≡ 7) × (p ≡ place_of v)))

-- a field line below the lines above: its first fault
abbrev pub FieldSettled : List ℕ → (above : List FieldLine) → FieldLine → Result (Unit {0}) Fault → Type 0
FieldSettled text above l r =
    l.name.place < l.low.place → Best (FieldFault (fields_in text above) (field_of text l)) r

-- the names that a rule line declares below the field lines ls and the rule lines ks, its own and its parameters ws:
-- the first that is taken
abbrev pub NamesSettledWith :
    List ℕ → List FieldLine → List RuleLine → (own : WordEntry) → List WordEntry → Result (Unit {0}) Fault → Type 0
NamesSettledWith text ls ks own ws r =
    (above : List Rule)
    → Heads text ks above
    → Rising (place_of (word_of text own) ∷ map place_of (names_of text ws))
    → Best (NamesFault (fields_in text ls) above (word_of text own) (names_of text ws)) r

-- the names that a rule line declares in the scope, its own and the parameters of the scope
abbrev pub NamesSettled : Scope → (own : WordEntry) → Result (Unit {0}) Fault → Type 0
NamesSettled s own = NamesSettledWith s.text.now s.fields.now s.rules.now own s.params.now

-- Whole lines

-- a rule line that stands for none
abbrev pub no_rule_line : RuleLine
no_rule_line =
    record { first = 0; name = record { place = 0; length = 0 }; params = record { items = []; spare = [] }; start = 0; body = 0 }

-- the rule line of that number
abbrev pub rule_at : List RuleLine → ℕ → RuleLine
rule_at rules l = slice_index_or rules l no_rule_line

-- the entries from start to before end are numbered, where the rules rs may be called and ps are the parameters
abbrev pub EntriesNumbered :
    List ℕ → List FieldLine → List NodeEntry → List Rule → List Word → List Node → (start end : ℕ) → Type 0
EntriesNumbered text ls raw rs ps nodes start end =
    (k : ℕ) → start ≤ k → k < end → Numbered text (fields_in text ls) rs ps (node_at raw k) (number_node nodes k)

-- the parameters of a rule
abbrev pub rule_params : Rule → List Word
rule_params (rule_line p w ps f) = ps

-- the formula of a rule
abbrev pub rule_body : Rule → Formula
rule_body (rule_line p w ps f) = f

-- the places of a rule line: its first word, its names and what its formula uses
abbrev pub rule_places : Rule → List ℕ
rule_places (rule_line p w ps f) = p ∷ place_of w ∷ (map place_of ps ++ formula_places f)

-- the line, with its entries, is that of the rule, below the rules above and over no limit
pub record IsRuleLine (text : List ℕ) (nodes : List NodeEntry) (line : RuleLine) (above : List Rule)
    (r : Rule) : Type 0 where
  pub head : IsHead text line r
  pub entries : Entries text nodes line.start line.body (rule_body r)
  pub few_rules : length above < 16
  pub within : Over (sizes above) (rule_params r) (rule_body r) → ⊥

-- the rule line of number l, below the field lines ls: its first fault, or none and its entries by their numbers
abbrev pub RuleSettled :
    List ℕ → List FieldLine → List RuleLine → List NodeEntry → (l : ℕ) → List Node → Result (Unit {0}) Fault → Type 0
RuleSettled text ls ks raw l nodes r =
    (above : List Rule) (x : Rule)
    → Heads text (take l ks) above
    → CallsOnce above
    → IsRuleLine text raw (rule_at ks l) above x
    → Rising (rule_places x)
    → Settles (RuleFault (fields_in text ls) above x)
    (λ _. EntriesNumbered text ls raw (above ++ (x ∷ [])) (rule_params x) nodes
    (rule_at ks l).start ((rule_at ks l).body + 1)) r

-- the mark line: its first fault, or none and its entries by their numbers
abbrev pub MarkSettled :
    List ℕ → List FieldLine → List RuleLine → List NodeEntry → MarkLine → List Node → Result (Unit {0}) Fault → Type 0
MarkSettled text ls ks raw mark nodes r =
    (rs : List Rule) (p : ℕ) (f : Formula)
    → Heads text ks rs
    → CallsOnce rs
    → Entries text raw mark.start mark.body f
    → (Over (sizes rs) [] f → ⊥)
    → Rising (formula_places f)
    → Settles (MarkFault (fields_in text ls) rs (mark_line p f))
    (λ _. EntriesNumbered text ls raw rs [] nodes mark.start (mark.body + 1)) r

-- All lines

-- a fault of one of the field lines
abbrev pub FieldsFault : List Field → (number place : ℕ) → Type 0
FieldsFault fs n p = (i : ℕ) × (f : Field) × Stands Field fs i f × FieldFault (take i fs) f n p

-- a fault of one of the rule lines
abbrev pub RulesFault : List Field → List Rule → (number place : ℕ) → Type 0
RulesFault fs rs n p = (i : ℕ) × (x : Rule) × Stands Rule rs i x × RuleFault fs (take i rs) x n p

-- the field lines: their first fault
abbrev pub FieldsSettledWith : List ℕ → List FieldLine → Result (Unit {0}) Fault → Type 0
FieldsSettledWith text ls r =
    (zs : List ℕ) → Rising (fields_places (fields_in text ls) zs) → Best (FieldsFault (fields_in text ls)) r

-- the field lines of the scope
abbrev pub FieldsSettled : Scope → Result (Unit {0}) Fault → Type 0
FieldsSettled s = FieldsSettledWith s.text.now s.fields.now

-- the entries of the first n rule lines are numbered
abbrev pub RulesNumbered :
    List ℕ → List FieldLine → List RuleLine → List NodeEntry → List Rule → (n : ℕ) → List Node → Type 0
RulesNumbered text ls ks raw rs n nodes =
    (i : ℕ) (x : Rule) → i < n → Stands Rule rs i x
    → EntriesNumbered text ls raw (take i rs ++ (x ∷ [])) (rule_params x) nodes
    (rule_at ks i).start ((rule_at ks i).body + 1)

-- the rule lines: their first fault, or none and their entries by their numbers
abbrev pub RulesSettledWith :
    List ℕ → List FieldLine → List RuleLine → List NodeEntry → List Node → Result (Unit {0}) Fault → Type 0
RulesSettledWith text ls ks raw nodes r =
    (rs : List Rule) (e : ℕ) (zs : List ℕ)
    → Rules text raw 0 ks rs e
    → Rising (rules_places rs zs)
    → Settles (RulesFault (fields_in text ls) rs) (λ _. RulesNumbered text ls ks raw rs (length rs) nodes) r

-- the rule lines of the scope
abbrev pub RulesSettled : Scope → List NodeEntry → List Node → Result (Unit {0}) Fault → Type 0
RulesSettled s = RulesSettledWith s.text.now s.fields.now s.rules.now

-- every line of the sheet is numbered
abbrev pub AllNumbered : List ℕ → Table → List Node → Sheet → Type 0
AllNumbered text t nodes (sheet fs rs (mark_line p f)) =
    RulesNumbered text t.fields.items (rules_of t) t.nodes.items rs (length rs) nodes
    × EntriesNumbered text t.fields.items t.nodes.items rs [] nodes t.mark.start (t.mark.body + 1)

-- the lines of the sheet that the table holds: its first fault, or none and all entries by their numbers
abbrev pub LinesSettled : List ℕ → Table → List Node → Result (Unit {0}) Fault → Type 0
LinesSettled text t nodes r =
    (s : Sheet) → Holds text t s → WellRead s
    → Settles (Faulty s) (λ _. (t.over ≡ None) × AllNumbered text t nodes s) r

-- The parts of a sheet

-- the ranges of the field lines
abbrev pub RangesOf : List FieldLine → List Range → Type 0
RangesOf fields ranges =
    (length ranges ≡ length fields)
    × ((i : ℕ) → i < length fields
    → ((range_at ranges i).low ≡ (field_at fields i).low.value)
    × ((range_at ranges i).high ≡ (field_at fields i).high.value))

-- the lines of the rule lines
abbrev pub LinesOf : List RuleLine → List Line → Type 0
LinesOf rules lines =
    (length lines ≡ length rules)
    × ((l : ℕ) → l < length rules
    → ((line_at lines l).start ≡ (rule_at rules l).start) × ((line_at lines l).body ≡ (rule_at rules l).body)
    × ((line_at lines l).params ≡ length (rule_at rules l).params.items))

-- the line of the mark line
abbrev pub MarkOf : MarkLine → Line → Type 0
MarkOf mark line = (line.start ≡ mark.start) × (line.body ≡ mark.body) × (line.params ≡ 0)
