-- Only private contracts and proofs cite this file: what the inner functions of the parser answer.
-- They work with places in the text. `Left text p xs` says which tokens are left from a place on.
use Rattle.std.specs.Prelude.{◌≡◌, ℕ, ◌+◌, ◌-◌, ◌<◌, ◌≤◌, Bool, true, false, cond, ◌⊎◌, List, [], ◌∷◌, ◌++◌, map, length, take, Option, is_some, Some, None, Ok, Err, codes, Result, ◌≢◌}
use Rattle.std.specs.Str.{bytes_eq}
use Rattle.refusal.specs.declared.Fault.{Fault}
use Rattle.refusal.specs.declared.Refusal.TheVariants.{TokenNotPermitted, TooDeep}
use Rattle.refusal.specs.Table as table
use Rattle.formula.specs.declared.Comparison.{Comparison}
use Rattle.formula.specs.declared.Join.{Join}
use Rattle.formula.specs.declared.Join.TheVariants.{And, Or}
use Rattle.signs.specs.declared.token.Sign.{Sign}
use Rattle.signs.specs.declared.token.Sign.TheVariants as signs
use Rattle.signs.specs.Tokens.{TokAt}
use Rattle.signs.specs.Cutting.{CutFrom}
use Rattle.grammar.specs.declared.table.Word.{Word as WordEntry}
use Rattle.grammar.specs.declared.table.Number.{Number as NumberEntry}
use Rattle.formula.specs.declared.term.Shift.{Shift}
use Rattle.formula.specs.declared.term.Term.TheVariants.{Moved}
use Rattle.grammar.specs.Tables.{TermEntry}
use Rattle.grammar.specs.declared.table.Weights.{Weights as WeightsEntry}
use Rattle.grammar.specs.declared.table.Node.{Node}
use Rattle.grammar.specs.declared.table.Table.{Table}
use Rattle.grammar.specs.declared.table.FieldLine.{FieldLine}
use Rattle.grammar.specs.declared.formula_part.Part.{Part}
use Rattle.grammar.specs.declared.body.Body.{Body}
use Rattle.grammar.specs.declared.line.Head.{Head}
use Rattle.grammar.specs.declared.few.Few.{Few}
use Rattle.grammar.specs.declared.cursor.Cursor.{Cursor}
use Rattle.grammar.specs.declared.token.Class.{Class}
use Rattle.grammar.specs.declared.token.Class.TheVariants as class
use Rattle.grammar.specs.declared.token.Ahead.{Ahead}
use Rattle.grammar.specs.Syntax.{Word, word, Number, num, Formula, Field, field_line, Rule, rule_line, Mark, mark_line, sheet}
use Rattle.grammar.specs.Grammar.{Tok, name, number, field, rule, mark, not, pick, join, sign, opening, closing, comma, semicolon, colon, plus, minus, at, Tokens, Parted, Listed, IsName, IsTerm, IsWeights, Level, any, only, Kind, unit, formula, Reads, IsField, IsRule, IsMark, Many}
use Rattle.grammar.specs.Tokens.{tokens}
use Rattle.grammar.specs.Tables.{word_of, number_of, term_of, weights_of, node_at, Entries, size, joins, field_of, LinesAbove, Over, Holds}
use Rattle.grammar.specs.Moves.{Shape, some_name, some_number, some_sign, opening_sign, closing_sign, semicolon_sign, colon_sign, Is, Need, free, Move, Unfinished, State, expects, names, more_names, term, summed, terms, more_terms, a_unit, named, more, after_join, Line, of_rule, of_mark, Open, whole, allowance, compared_with, fields, rules, ended, start, field_rest, rule_rest, Halts, place_of}

-- from place p on the text is cut into the tokens xs
pub data Left (text : List ℕ) (p : ℕ) : Tokens → Type 0 where
  left : {ts : List TokAt} → CutFrom text p ts → Left text p (tokens ts)

-- the class of a word at a place
abbrev pub class_of_word : List ℕ → ℕ → Class
class_of_word w p =
    cond (bytes_eq w (codes "field")) class.Field (
    cond (bytes_eq w (codes "rule")) class.Rule (
    cond (bytes_eq w (codes "mark")) class.Mark (
    cond (bytes_eq w (codes "and")) (class.Join And) (
    cond (bytes_eq w (codes "or")) (class.Join Or) (
    cond (bytes_eq w (codes "not")) class.Not (
    cond (bytes_eq w (codes "pick")) class.Pick (
    class.Name (record { place = p; length = length w }))))))))

-- the class of a sign
abbrev pub class_of_sign : Sign → Class
class_of_sign signs.Open = class.Opening
class_of_sign signs.Close = class.Closing
class_of_sign signs.Comma = class.Comma
class_of_sign signs.Semicolon = class.Semicolon
class_of_sign signs.Colon = class.Colon
class_of_sign signs.Plus = class.Plus
class_of_sign signs.Minus = class.Minus
class_of_sign (signs.Compare c) = class.Compare c

-- the class says the token t at place p
pub data Says (text : List ℕ) : Class → Tok → ℕ → Type 0 where
  says_name : {v : WordEntry} {w : List ℕ} {p : ℕ} → word_of text v ≡ word w p → Says text (class.Name v) (name w) p
  says_number : {n p : ℕ} → Says text (class.Number n) (number n) p
  says_field : {p : ℕ} → Says text class.Field field p
  says_rule : {p : ℕ} → Says text class.Rule rule p
  says_mark : {p : ℕ} → Says text class.Mark mark p
  says_not : {p : ℕ} → Says text class.Not not p
  says_pick : {p : ℕ} → Says text class.Pick pick p
  says_join : {j : Join} {p : ℕ} → Says text (class.Join j) (join j) p
  says_sign : {c : Comparison} {p : ℕ} → Says text (class.Compare c) (sign c) p
  says_opening : {p : ℕ} → Says text class.Opening opening p
  says_closing : {p : ℕ} → Says text class.Closing closing p
  says_comma : {p : ℕ} → Says text class.Comma comma p
  says_semicolon : {p : ℕ} → Says text class.Semicolon semicolon p
  says_colon : {p : ℕ} → Says text class.Colon colon p
  says_plus : {p : ℕ} → Says text class.Plus plus p
  says_minus : {p : ℕ} → Says text class.Minus minus p

-- Seen text xs k p e: the first of the tokens xs is of the class k, at place p, and ends before e; or there is none
pub data Seen (text : List ℕ) : Tokens → Class → (place end : ℕ) → Type 0 where
  no_token : {p e : ℕ} → p ≡ length text → Seen text [] class.End p e
  a_token :
      {k : Class} {t : Tok} {p e : ℕ} {xs : Tokens}
      → Says text k t p
      → Left text e xs
      → Seen text (at t p ∷ xs) k p e

-- looking ahead from place p
pub record Peeked (text : List ℕ) (p : ℕ) (a : Ahead) : Type 0 where
  pub onward : (a.class ≢ class.End) → (p < a.end) × (a.end ≤ length text)
  pub seen : (xs : Tokens) → Left text p xs → Seen text xs a.class a.place a.end

-- what was read, and the place after it
pub record Read (A : Type 0) : Type 0 where
  pub value : A
  pub end : ℕ

-- what is read up to a place
abbrev pub read_to : {A : Type 0} → ℕ → Result A Fault → Result (Read A) Fault
read_to q (Ok v) = Ok (record { value = v; end = q })
read_to q (Err f) = Err f

-- the place up to which something is read
abbrev pub passed_to : {A : Type 0} → ℕ → Result A Fault → Result ℕ Fault
passed_to q (Ok v) = Ok q
passed_to q (Err f) = Err f

-- from one state of the cursor to another its text is the same, of which P holds
abbrev pub Along : Cursor → Cursor → (List ℕ → Type 0) → Type 0
Along b a P = (text : List ℕ) → b.text.now ≡ text → (a.text.now ≡ text) × P text

-- the token ahead of the cursor
abbrev pub Sees : Cursor → Ahead → Type 0
Sees c h = (text : List ℕ) → c.text.now ≡ text → Peeked text c.at h

-- the levels that are allowed within the one that the token opens, of d with it; of none, it opens one too many
abbrev pub Deeper : Ahead → ℕ → Result ℕ Fault → Type 0
Deeper h d (Ok e) = (0 < d) × (e ≡ d - 1)
Deeper h d (Err f) = (d ≡ 0) × (f ≡ record { refusal = TooDeep; place = h.place })

-- what is read moves the cursor past it
abbrev pub Takes :
    {A : Type 0} → Cursor → Cursor → Result A Fault → (List ℕ → ℕ → Result (Read A) Fault → Type 0)
    → Type 0
Takes b a r Item = Along b a (λ text. Item text b.at (read_to a.at r))

-- so too where only the place after it is known
abbrev pub Passes : {A : Type 0} → Cursor → Cursor → Result A Fault → (List ℕ → ℕ → Result ℕ Fault → Type 0) → Type 0
Passes b a r Item = Along b a (λ text. Item text b.at (passed_to a.at r))

-- the token ahead is passed if something was found in it, and else refused
abbrev pub Taken : {A : Type 0} → Cursor → Cursor → Ahead → Option A → Result A Fault → Type 0
Taken b a h (Some v) r = (r ≡ Ok v) × (a.at ≡ h.end) × (a.text.now ≡ b.text.now)
Taken b a h None r =
    (r ≡ Err (record { refusal = TokenNotPermitted; place = h.place })) × (a.text.now ≡ b.text.now)

-- so too for what is found in the token ahead
abbrev pub Finds : {A : Type 0} → (Ahead → Option A → Type 0) → Cursor → Cursor → Result A Fault → Type 0
Finds {A} found b a r = (h : Ahead) × (o : Option A) × Sees b h × found h o × Taken b a h o r

-- the token ahead, h, is of the class and is passed, and its place is answered; or it is refused
abbrev pub MetAt : Class → Cursor → Cursor → Result ℕ Fault → Ahead → Type 0
MetAt k b a (Ok q) h = (h.class ≡ k) × (q ≡ h.place) × (a.at ≡ h.end)
MetAt k b a (Err f) h = (h.class ≡ k → ⊥) × (f ≡ record { refusal = TokenNotPermitted; place = h.place })

-- so for the token that the cursor sees
abbrev pub Met : Class → Cursor → Cursor → Result ℕ Fault → Type 0
Met k b a r = (h : Ahead) × Sees b h × (a.text.now ≡ b.text.now) × MetAt k b a r h

-- the token ahead, h, is of the class and is passed, and its place is answered; or the cursor stays
abbrev pub PassedAt : Class → Cursor → Cursor → Option ℕ → Ahead → Type 0
PassedAt k b a (Some q) h = (h.class ≡ k) × (q ≡ h.place) × (a.at ≡ h.end) × (a.text.now ≡ b.text.now)
PassedAt k b a None h = (h.class ≡ k → ⊥) × (a ≡ b)

-- so for the token that the cursor sees
abbrev pub PassedIf : Class → Cursor → Cursor → Option ℕ → Type 0
PassedIf k b a r = (h : Ahead) × Sees b h × PassedAt k b a r h

-- the name, the number or the sign of comparison that a token is
abbrev pub name_in : Class → Option WordEntry
name_in (class.Name v) = Some v
name_in _ = None

abbrev pub number_in : Class → ℕ → Option NumberEntry
number_in (class.Number n) p = Some (record { value = n; place = p })
number_in _ p = None

abbrev pub sign_in : Class → Option Comparison
sign_in (class.Compare c) = Some c
sign_in _ = None

-- Stopped text C before xs f: whatever c is to come, from the state `before c` the tokens xs halt with the fault f
pub record Stopped (text : List ℕ) (C : Type 0) (before : C → State) (xs : Tokens) (f : Fault) : Type 0 where
  pub rest : Tokens
  pub there : f.place ≡ place_of (length text) rest
  pub halts : (c : C) → Halts (before c) xs (table.number f.refusal) rest

-- Came text C before after xs q Item: the tokens xs go on, as `Item` says, with those left at place q;
-- and whatever c is to come, what halts there from `after c` halts from `before c` at xs
pub record Came
    (text : List ℕ) (C : Type 0) (before after : C → State) (xs : Tokens) (q : ℕ) (Item : Tokens → Type 0)
    : Type 0 where
  pub rest : Tokens
  pub remains : Left text q rest
  pub goes : (c : C) (n : ℕ) (r : Tokens) → Halts (after c) rest n r → Halts (before c) xs n r
  pub item : Item rest

-- what reading an item from place p answers: where it ends and what it is; or the fault
abbrev pub Outcome :
    (text : List ℕ) (p : ℕ) (C : Type 0) (before after : C → State) (X : Type 0)
    → (X → Tokens → Tokens → Type 0)
    → Result (Read X) Fault
    → Type 0
Outcome text p C before after X Item (Ok x) =
    (p < x.end) × (x.end ≤ length text)
    × ((xs : Tokens) → Left text p xs → Came text C before after xs x.end (Item x.value xs))
Outcome text p C before after X Item (Err f) = (xs : Tokens) → Left text p xs → Stopped text C before xs f

-- a number
pub data IsNumber : Tokens → Tokens → Number → Type 0 where
  a_number : {n p : ℕ} {r : Tokens} → IsNumber (at (number n) p ∷ r) r (num n p)

-- a sign of comparison
pub data IsSign : Tokens → Tokens → Comparison → Type 0 where
  a_sign : {c : Comparison} {p : ℕ} {r : Tokens} → IsSign (at (sign c) p ∷ r) r c

abbrev pub NameRead : List ℕ → ℕ → Result (Read WordEntry) Fault → Type 0
NameRead text p r =
    Outcome text p State (expects some_name) (λ s. s) WordEntry (λ v xs us. IsName xs us (word_of text v)) r

abbrev pub NumberRead : List ℕ → ℕ → Result (Read NumberEntry) Fault → Type 0
NumberRead text p r =
    Outcome text p State (expects some_number) (λ s. s) NumberEntry (λ v xs us. IsNumber xs us (number_of v)) r

abbrev pub SignRead : List ℕ → ℕ → Result (Read Comparison) Fault → Type 0
SignRead text p r =
    Outcome text p State (expects some_sign) (λ s. s) Comparison (λ c xs us. IsSign xs us c) r

abbrev pub TermRead : List ℕ → ℕ → Result (Read TermEntry) Fault → Type 0
TermRead text p r =
    Outcome text p State term (λ s. s) TermEntry (λ t xs us. IsTerm xs us (term_of text t)) r

-- the rest of a term, after its name: it may be nothing
abbrev pub SumRead : List ℕ → ℕ → WordEntry → Result (Read TermEntry) Fault → Type 0
SumRead text p v (Ok x) =
    (p ≤ x.end) × (x.end ≤ length text)
    × ((xs : Tokens) → Left text p xs → Came text State summed (λ s. s) xs x.end (λ us.
    (w : List ℕ) (i : ℕ) → word_of text v ≡ word w i → IsTerm (at (name w) i ∷ xs) us (term_of text x.value)))
SumRead text p v (Err f) = (xs : Tokens) → Left text p xs → Stopped text State summed xs f

-- a name and the number at the place, which are one term by what `made` makes of the number
abbrev pub ShiftedRead : (ℕ → Shift → Type 0) → List ℕ → ℕ → WordEntry → Result (Read TermEntry) Fault → Type 0
ShiftedRead made text p v (Ok x) =
    (n : Read NumberEntry) × (s : Shift) × made n.value.value s × NumberRead text p (Ok n)
    × (x ≡ record { value = Moved v s; end = n.end })
ShiftedRead made text p v (Err f) = NumberRead text p (Err f)

-- the class of a sign that is asked for, and its kind
pub data Fixed : Class → Shape → Type 0 where
  fixed_opening : Fixed class.Opening opening_sign
  fixed_closing : Fixed class.Closing closing_sign
  fixed_semicolon : Fixed class.Semicolon semicolon_sign
  fixed_colon : Fixed class.Colon colon_sign

-- the tokens begin with one of the kind, and go on with r
pub data FirstIs (k : Shape) : Tokens → Tokens → Type 0 where
  first_is : {t : Tok} {p : ℕ} {r : Tokens} → Is k t → FirstIs k (at t p ∷ r) r

-- the place after a sign that is asked for, or the fault at another token
abbrev pub Expected : List ℕ → ℕ → Shape → Result ℕ Fault → Type 0
Expected text p k (Ok q) =
    (p < q) × (q ≤ length text)
    × ((xs : Tokens) → Left text p xs → (us : Tokens) × FirstIs k xs us × Left text q us)
Expected text p k (Err f) =
    (xs : Tokens) → Left text p xs
    → (table.number f.refusal ≡ 4) × (f.place ≡ place_of (length text) xs) × ((us : Tokens) → FirstIs k xs us → ⊥)

-- so for a sign of that class
abbrev pub Asked : Class → List ℕ → ℕ → Result ℕ Fault → Type 0
Asked c text p r = (k : Shape) → Fixed c k → Expected text p k r

-- the list counts all the items, and holds the first four
pub record Holds4 (X : Type 0) (list : Few X) (all : List X) : Type 0 where
  pub room : length list.items ≡ 4
  pub counts : list.count ≡ length all
  pub holds : take list.count list.items ≡ take 4 all

-- the states of a list in brackets: before it, after an item, and where an item is due
pub record Listing : Type 0 where
  pub before : State → State
  pub after : State → State
  pub due : State → State

-- the moves of a list in brackets
pub record Brackets (g : Listing) : Type 0 where
  pub ends_first : (s : State) → Move (g.before s) closing free s
  pub ends_more : (s : State) → Move (g.after s) closing free s
  pub goes_more : (s : State) → Move (g.after s) comma free (g.due (g.after s))
  pub unfinished : (s : State) → Unfinished (g.after s)
  -- only a comma or a closing bracket stands after an item
  pub stuck :
      (text : List ℕ) (k : Class) → (k ≡ class.Comma → ⊥) → (k ≡ class.Closing → ⊥) → (s : State)
      → (t : Tok) (i : ℕ) (n : Need) (u : State) → Move (g.after s) t n u → Says text k t i → ⊥
  -- where no closing bracket stands, a list begins with an item
  pub begins :
      (text : List ℕ) (k : Class) (q e : ℕ) (xs : Tokens)
      → (k ≡ class.Closing → ⊥)
      → Seen text xs k q e
      → (s : State) (n : ℕ) (r : Tokens)
      → Halts (g.due (g.after s)) xs n r
      → Halts (g.before s) xs n r

-- an item of a list
abbrev pub ItemRead :
    {X : Type 0} → Listing → (List ℕ → Tokens → Tokens → X → Type 0) → List ℕ → ℕ → Result (Read X) Fault → Type 0
ItemRead {X} g Item text p r = Outcome text p State g.due (λ s. s) X (λ v xs us. Item text xs us v) r

-- a list in brackets
abbrev pub ItemsRead :
    {X : Type 0} → Listing → (List ℕ → Tokens → Tokens → X → Type 0) → List ℕ → ℕ → Result (Read (Few X)) Fault
    → Type 0
ItemsRead {X} g Item text p r =
    Outcome text p State g.before (λ s. s) (Few X)
    (λ v xs us. (all : List X) × Holds4 X v all × Listed X (Item text) xs us all) r

abbrev pub term_listing : Listing
term_listing = record { before = terms; after = more_terms; due = term }

abbrev pub name_listing : Listing
name_listing = record { before = names; after = more_names; due = expects some_name }

abbrev pub TermAt : List ℕ → Tokens → Tokens → TermEntry → Type 0
TermAt text xs us t = IsTerm xs us (term_of text t)

abbrev pub NameAt : List ℕ → Tokens → Tokens → WordEntry → Type 0
NameAt text xs us v = IsName xs us (word_of text v)

abbrev pub TermsRead : List ℕ → ℕ → Result (Read (Few TermEntry)) Fault → Type 0
TermsRead text p r = ItemsRead term_listing TermAt text p r

abbrev pub NamesRead : List ℕ → ℕ → Result (Read (Few WordEntry)) Fault → Type 0
NamesRead text p r = ItemsRead name_listing NameAt text p r

-- Begun ..: of the items in brackets that xs begins with, those of the list are read, and one more is due at place q
pub record Begun
    (text : List ℕ) (X : Type 0) (Item : Tokens → Tokens → X → Type 0) (listed due : State → State)
    (xs : Tokens) (list : Few X) (q : ℕ)
    : Type 0 where
  pub rest : Tokens
  pub remains : Left text q rest
  pub goes : (s : State) (n : ℕ) (r : Tokens) → Halts (due s) rest n r → Halts (listed s) xs n r
  pub all : List X
  pub held : Holds4 X list all
  pub joins : (r : Tokens) (bs : List X) → Parted X Item rest r bs → Parted X Item xs r (all ++ bs)

-- how many entries a table has
abbrev pub entered : Table → ℕ
entered t = length t.nodes.items

-- Only entries are added to the table, after those in use.
pub record Grown (b a : Table) : Type 0 where
  pub fields : a.fields ≡ b.fields
  pub rules : a.rules ≡ b.rules
  pub others : (a.mark ≡ b.mark) × (a.over ≡ b.over)
  pub grows : entered b ≤ entered a
  pub same : (k : ℕ) → k < entered b → node_at a.nodes.items k ≡ node_at b.nodes.items k

-- the entry is added at i, if there is room
pub record Pushed (b a : Table) (n : Node) (i : ℕ) : Type 0 where
  pub grown : Grown b a
  pub there :
      entered b < 256
      → (i ≡ entered b) × (entered a ≡ entered b + 1) × (node_at a.nodes.items i ≡ n)

-- the formula f is entered in the table, if there is room
pub record Entered (text : List ℕ) (b a : Table) (part : Part) (f : Formula) : Type 0 where
  pub sized : size f ≡ part.size
  pub joined : joins f ≡ part.joins
  pub held :
      entered b + size f ≤ 256
      → Entries text a.nodes.items (entered b) part.body f
      × (entered a ≡ entered b + size f) × (part.body + 1 ≡ entered a)

-- the part of the entry i around this one
abbrev pub around : Part → ℕ → Part
around part i = record { body = i; size = part.size + 1; joins = part.joins }

-- a formula that is read, and entered
abbrev pub FormulaIs : List ℕ → Kind → ℕ → Table → Table → Part → Tokens → Tokens → Type 0
FormulaIs text k d b a part xs us = (f : Formula) × Reads k d xs us f × Entered text b a part f

-- a part has at least one formula, no more than there are bytes, and fewer joins
abbrev pub Measured : ℕ → Result (Read Part) Fault → Type 0
Measured p (Ok x) =
    (0 < x.value.size) × (p + x.value.size ≤ x.end) × (x.value.joins < x.value.size)
Measured p (Err f) = Unit {0}

-- what is read moves the cursor past it, has that measure, and adds only entries to the table
pub record Enters
    (b a : Cursor) (s t : Table) (r : Result Part Fault)
    (Item : List ℕ → ℕ → Table → Table → Result (Read Part) Fault → Type 0)
    : Type 0 where
  pub grown : Grown s t
  pub measured : Measured b.at (read_to a.at r)
  pub value : Takes b a r (λ text p x. Item text p s t x)

-- what may follow a unit: a level, and the open formulas
abbrev pub Around : Type 0
Around = Level × Open

-- the rest of a comparison, after its first term
abbrev pub ComparisonRead : List ℕ → ℕ → TermEntry → Table → Table → Result (Read Part) Fault → Type 0
ComparisonRead text p t b a r =
    Outcome text p Around (λ c. compared_with c.0 c.1) (λ c. more c.0 c.1) Part (λ part xs us.
    (d : ℕ) (zs : Tokens) → IsTerm zs xs (term_of text t) → FormulaIs text unit d b a part zs us) r

-- the rest of a call, after its opening bracket
abbrev pub CallRead : List ℕ → ℕ → WordEntry → Table → Table → Result (Read Part) Fault → Type 0
CallRead text p v b a r =
    Outcome text p Around (λ c. terms (more c.0 c.1)) (λ c. more c.0 c.1) Part (λ part xs us.
    (d : ℕ) (w : List ℕ) (i q : ℕ) → word_of text v ≡ word w i
    → FormulaIs text unit d b a part (at (name w) i ∷ at opening q ∷ xs) us) r

-- the rest of a unit that begins with a name
abbrev pub NamedRead : List ℕ → ℕ → WordEntry → Table → Table → Result (Read Part) Fault → Type 0
NamedRead text p v b a r =
    Outcome text p Around (λ c. named c.0 c.1) (λ c. more c.0 c.1) Part (λ part xs us.
    (d : ℕ) (w : List ℕ) (i : ℕ) → word_of text v ≡ word w i
    → FormulaIs text unit d b a part (at (name w) i ∷ xs) us) r

-- a unit
abbrev pub UnitRead : List ℕ → ℕ → ℕ → Table → Table → Result (Read Part) Fault → Type 0
UnitRead text d p b a r =
    Outcome text p Around (λ c. a_unit d c.0 c.1) (λ c. more c.0 c.1) Part (FormulaIs text unit d b a) r

-- the weights after a join, which may be absent
abbrev pub WeightsRead : List ℕ → ℕ → Result (Read (Option WeightsEntry)) Fault → Type 0
WeightsRead text p (Ok x) =
    (p ≤ x.end) × (x.end ≤ length text)
    × ((xs : Tokens) → Left text p xs
    → Came text (Join × Open) (λ c. after_join c.0 c.1) (λ c. a_unit (allowance c.1) (only c.0) c.1)
    xs x.end (λ us. IsWeights xs us (weights_of x.value)))
WeightsRead text p (Err f) =
    (xs : Tokens) → Left text p xs → Stopped text (Join × Open) (λ c. after_join c.0 c.1) xs f

-- the level that joins keep to
abbrev pub level_of : Option Join → Level
level_of None = any
level_of (Some j) = only j

-- the tokens do not begin with a join
abbrev pub NoJoin : Tokens → Type 0
NoJoin xs = (j : Join) (p : ℕ) (ys : Tokens) → xs ≢ at (join j) p ∷ ys

-- a formula at a level; what follows it is no join
abbrev pub FormulaRead : List ℕ → ℕ → Level → ℕ → Table → Table → Result (Read Part) Fault → Type 0
FormulaRead text d l p b a r =
    Outcome text p ((o : Open) × (allowance o ≡ d)) (λ c. a_unit d l c.0) (λ c. more l c.0) Part (λ part xs us.
    FormulaIs text (formula l) d b a part xs us × NoJoin us) r

-- LinesKept text t fs rs e: of the lines fs and rs the table keeps, in e entries, those before the first that passes a
-- limit
pub data LinesKept (text : List ℕ) (t : Table) (fs : List Field) (rs : List Rule) (e : ℕ) : Type 0 where
  all_kept :
      t.over ≡ None
      → LinesAbove text t fs rs e
      → LinesKept text t fs rs e
  field_over :
      {gs : List Field} {p d : ℕ} (w : Word) (low high : Number) (below : List Field)
      → t.over ≡ Some p
      → LinesAbove text t gs [] d
      → d ≤ e
      → length gs ≡ 8
      → fs ≡ gs ++ (field_line p w low high ∷ below)
      → LinesKept text t fs rs e
  rule_over :
      {qs : List Rule} {p d : ℕ} {ps : List Word} {f : Formula} (w : Word) (below : List Rule)
      → t.over ≡ Some p
      → LinesAbove text t fs qs d
      → d ≤ e
      → (16 ≤ length qs) ⊎ Over d ps f
      → rs ≡ qs ++ (rule_line p w ps f ∷ below)
      → LinesKept text t fs rs e

-- the lines of a table are kept at the end of a line
abbrev pub Lines : List ℕ → Table → List Field → List Rule → Type 0
Lines text t fs rs = LinesKept text t fs rs (entered t)

-- a line with n parameters and this formula, from the entry s on, exceeds a limit
abbrev pub Exceeding : ℕ → ℕ → Part → Type 0
Exceeding s n part = (4 < n) ⊎ ((16 < part.joins) ⊎ (256 < s + part.size))

-- a line from the place p on, which may pass a limit, is kept: none did, and it does not
-- or it is not, and the first line that passes a limit is noted by its place
abbrev pub Kept : Table → Table → ℕ → (exceeds kept : Bool) → Type 0
Kept b a p v true = (is_some b.over ≡ false) × (v ≡ false) × (a ≡ b)
Kept b a p v false =
    ((is_some b.over ≡ true) × (a ≡ b))
    ⊎ ((is_some b.over ≡ false) × (v ≡ true) × (a ≡ record b { over = Some p }))

-- a field line more
abbrev pub FieldKept : Table → Table → FieldLine → Type 0
FieldKept b a line =
    (text : List ℕ) (fs : List Field) → Lines text b fs [] → Lines text a (fs ++ field_of text line ∷ []) []

-- the formula f stands in the table from the entry s on, if there is room
pub record BodyHeld (text : List ℕ) (t : Table) (s : ℕ) (part : Part) (f : Formula) : Type 0 where
  pub sized : size f ≡ part.size
  pub joined : joins f ≡ part.joins
  pub held :
      s + size f ≤ 256
      → Entries text t.nodes.items s part.body f × (entered t ≡ s + size f) × (part.body + 1 ≡ entered t)

-- a rule line more
abbrev pub RuleKept : Table → Table → ℕ → Head → ℕ → Part → Type 0
RuleKept b a first head s part =
    (text : List ℕ) (fs : List Field) (rs : List Rule) (all : List WordEntry) (f : Formula)
    → LinesKept text b fs rs s
    → s ≤ entered b
    → Holds4 WordEntry head.params all
    → BodyHeld text b s part f
    → Lines text a fs (rs ++ rule_line first (word_of text head.name) (map (word_of text) all) f ∷ [])

-- the mark line, and with it the sheet
abbrev pub MarkKept : Table → Table → ℕ → ℕ → Part → Type 0
MarkKept b a first s part =
    (text : List ℕ) (fs : List Field) (rs : List Rule) (f : Formula)
    → LinesKept text b fs rs s
    → BodyHeld text b s part f
    → Holds text a (sheet fs rs (mark_line first f))

-- the head of a rule: `NAME ( NAMES ) :`
pub data HeadIs (text : List ℕ) (head : Head) : Tokens → Tokens → Type 0 where
  a_head :
      {w : List ℕ} {q i k : ℕ} {ys zs : Tokens} (all : List WordEntry)
      → word_of text head.name ≡ word w q
      → Holds4 WordEntry head.params all
      → Listed Word IsName ys (at colon k ∷ zs) (map (word_of text) all)
      → HeadIs text head (at (name w) q ∷ at opening i ∷ ys) zs

abbrev pub HeadRead : List ℕ → ℕ → Result (Read Head) Fault → Type 0
HeadRead text p r =
    Outcome text p (Unit {0}) (λ _. rule_rest) (λ _. a_unit 16 any (whole of_rule)) Head (HeadIs text) r

-- what comes after a line
abbrev pub after_line : Line → State
after_line of_rule = rules
after_line of_mark = ended

-- a line's formula and the semicolon
pub data BodyIs (text : List ℕ) (b a : Table) (part : Part) : Tokens → Tokens → Type 0 where
  a_body :
      {e : ℕ} {xs us : Tokens} {f : Formula}
      → Reads (formula any) 16 xs (at semicolon e ∷ us) f
      → Entered text b a part f
      → BodyIs text b a part xs us

abbrev pub BodyRead : List ℕ → ℕ → Table → Table → Result (Read Body) Fault → Type 0
BodyRead text p b a r =
    Outcome text p Line (λ n. a_unit 16 any (whole n)) after_line Body (λ body xs us.
    (body.start ≡ entered b) × BodyIs text b a body.part xs us) r

-- a line from place p on: where it ends, or the fault
abbrev pub LineRead : List ℕ → ℕ → State → State → (Tokens → Tokens → Type 0) → Result ℕ Fault → Type 0
LineRead text p before after Item (Ok q) =
    (p < q) × (q ≤ length text)
    × ((xs : Tokens) → Left text p xs → Came text (Unit {0}) (λ _. before) (λ _. after) xs q (Item xs))
LineRead text p before after Item (Err f) =
    (xs : Tokens) → Left text p xs → Stopped text (Unit {0}) (λ _. before) xs f

-- the rest of a field line whose first word is at place i, and the line that is kept
abbrev pub FieldRead : List ℕ → ℕ → ℕ → Table → Table → Result ℕ Fault → Type 0
FieldRead text p i b a r =
    LineRead text p field_rest fields (λ xs us.
    (f : Field) × IsField (at field i ∷ xs) us f
    × ((fs : List Field) → Lines text b fs [] → Lines text a (fs ++ f ∷ []) [])) r

-- the rest of a rule line whose first word is at place i, and the line that is kept
abbrev pub RuleRead : List ℕ → ℕ → ℕ → Table → Table → Result ℕ Fault → Type 0
RuleRead text p i b a r =
    LineRead text p rule_rest rules (λ xs us.
    (f : Rule) × IsRule (at rule i ∷ xs) us f
    × ((fs : List Field) (rs : List Rule) → Lines text b fs rs → Lines text a fs (rs ++ f ∷ []))) r

-- the tokens do not begin with t
abbrev pub NotFirst : Tok → Tokens → Type 0
NotFirst t xs = (p : ℕ) (ys : Tokens) → xs ≢ at t p ∷ ys

-- the mark line and the end of the text, where no rule line stands; and the sheet that is held
abbrev pub MarkRead : List ℕ → ℕ → Table → Table → Result (Unit {0}) Fault → Type 0
MarkRead text p b a (Ok _) =
    (xs : Tokens) → Left text p xs
    → (m : Mark) × IsMark xs [] m
    × ((fs : List Field) (rs : List Rule) → Lines text b fs rs → Holds text a (sheet fs rs m))
MarkRead text p b a (Err f) =
    (xs : Tokens) → Left text p xs → NotFirst rule xs → Stopped text (Unit {0}) (λ _. rules) xs f

-- the first line of a sheet, a field line
abbrev pub FirstRead : List ℕ → ℕ → Table → Table → Result ℕ Fault → Type 0
FirstRead text p b a r =
    LineRead text p start fields (λ xs us.
    (f : Field) × IsField xs us f
    × ((fs : List Field) → Lines text b fs [] → Lines text a (fs ++ f ∷ []) [])) r

-- from place p to place q there are only field lines, and they are kept
abbrev pub FieldsSoFar : List ℕ → ℕ → Table → Table → ℕ → Type 0
FieldsSoFar text p b a q =
    (p ≤ q) × (q ≤ length text)
    × ((xs : Tokens) → Left text p xs → Came text (Unit {0}) (λ _. fields) (λ _. fields) xs q (λ us.
    (fs : List Field) × Many Field IsField xs us fs
    × ((gs : List Field) → Lines text b gs [] → Lines text a (gs ++ fs) [])))

-- field lines, as many as there are
abbrev pub FieldsRead : List ℕ → ℕ → Table → Table → Result ℕ Fault → Type 0
FieldsRead text p b a (Ok q) = FieldsSoFar text p b a q × ((xs : Tokens) → Left text q xs → NotFirst field xs)
FieldsRead text p b a (Err f) = (xs : Tokens) → Left text p xs → Stopped text (Unit {0}) (λ _. fields) xs f

-- from place p to place q there are only rule lines, and they are kept
abbrev pub RulesSoFar : List ℕ → ℕ → Table → Table → ℕ → Type 0
RulesSoFar text p b a q =
    (p ≤ q) × (q ≤ length text)
    × ((xs : Tokens) → Left text p xs → Came text (Unit {0}) (λ _. rules) (λ _. rules) xs q (λ us.
    (rs : List Rule) × Many Rule IsRule xs us rs
    × ((fs : List Field) (ps : List Rule) → Lines text b fs ps → Lines text a fs (ps ++ rs))))

-- rule lines, as many as there are
abbrev pub RulesRead : List ℕ → ℕ → Table → Table → Result ℕ Fault → Type 0
RulesRead text p b a (Ok q) = RulesSoFar text p b a q × ((xs : Tokens) → Left text q xs → NotFirst rule xs)
RulesRead text p b a (Err f) = (xs : Tokens) → Left text p xs → Stopped text (Unit {0}) (λ _. rules) xs f

-- the table, where the lines are read
abbrev pub parsed_to : Table → Result (Unit {0}) Fault → Result Table Fault
parsed_to t (Ok _) = Ok t
parsed_to t (Err f) = Err f
