-- What every sheet keeps that is read: a field line, small numbers, nesting up to 16, and places that rise.
use Rattle.std.proofs.Common.{◌≡◌, ℕ, ◌+◌, ◌≤◌, List, [], ◌∷◌, refl, ap, arith}
use Rattle.formula.specs.declared.Join.{Join}
use Rattle.formula.specs.declared.Join.TheVariants.{And, Or}
use Rattle.grammar.specs.Syntax.{Word, Term, Weights, Formula, compared, called, negated, picked, joined, Field, Rule, Sheet}
use Rattle.grammar.specs.Grammar.{Placed, at, Tokens, number, Parted, last, next, Listed, none, some, IsName, a_name, IsTerm, a_constant, a_bare, a_sum, a_difference, IsWeights, no_weights, weights, Level, any, only, Kind, unit, formula, Fits, strict, Reads, a_comparison, a_call, a_not, a_pick, brackets, alone, a_join, IsField, a_field, IsRule, a_rule, a_mark, Many, done, line, IsSheet, a_sheet}
use Rattle.grammar.specs.Tables.{nested, SmallTerm, SmallTerms, SmallWeights, SmallFormula, SmallFields, ReadRules, WellRead, sheet_places, Rising}
use Rattle.grammar.specs.Laws.{SmallNumbers, EverySheetWellRead}
use Rattle.grammar.proofs.Order.{in_order}

-- Nesting

no : ◌≡◌ {A = ℕ} 0 1 → ⊥
no z = omega arith

least : (f : Formula) (k : Kind) → nested f k ≤ nested f unit
least (compared c t u) k = omega arith
least (called w ts) k = omega arith
least (negated f) k = omega arith
least (picked w f) k = omega arith
least (joined j w f g) unit = omega arith
least (joined j w f g) (formula any) = omega arith
least (joined And w f g) (formula (only And)) = omega arith
least (joined And w f g) (formula (only Or)) = omega arith
least (joined Or w f g) (formula (only And)) = omega arith
least (joined Or w f g) (formula (only Or)) = omega arith

in_brackets : (f : Formula) → nested f unit ≤ nested f (formula any) + 1
in_brackets (compared c t u) = omega arith
in_brackets (called w ts) = omega arith
in_brackets (negated f) = omega arith
in_brackets (picked w f) = omega arith
in_brackets (joined j w f g) = omega arith

join_nested :
    (l : Level) (j : Join) (w : Weights) (f g : Formula) (d : ℕ)
    → Fits strict l j
    → nested f unit ≤ d
    → nested g (formula (only j)) ≤ d
    → nested (joined j w f g) (formula l) ≤ d
join_nested any j w f g d e h k = omega arith
join_nested (only And) And w f g d e h k = omega arith
join_nested (only Or) Or w f g d e h k = omega arith
join_nested (only And) Or w f g d e h k = absurd (no (cc))
join_nested (only Or) And w f g d e h k = absurd (no (cc))

reads_nested : {k : Kind} {d : ℕ} {xs r : Tokens} {f : Formula} → Reads k d xs r f → nested f k ≤ d
reads_nested (a_comparison a b) = omega arith
reads_nested (a_call l) = omega arith
reads_nested (a_not h a) = let i = reads_nested a in omega arith
reads_nested (a_pick h a) = let i = reads_nested a in omega arith
reads_nested (brackets {f = f} h a) = let i = reads_nested a in let k = in_brackets f in omega arith
reads_nested (alone {l = l} {f = f} a) = let i = reads_nested a in let k = least f (formula l) in omega arith
reads_nested (a_join {d} {l =
    l} {f = f} {g = g} {w = w} {j = j} a h v b) = join_nested l j w f g d h (reads_nested a) (reads_nested b)

-- Numbers: of each item, that its numbers are small, and those of the rest

tail : {x : Placed} {xs : Tokens} → SmallNumbers (x ∷ xs) → SmallNumbers xs
tail {x} h b a n p e = h (x ∷ b) a n p (ap (λ l. x ∷ l) e)

head : {n p : ℕ} {xs : Tokens} → SmallNumbers (at (number n) p ∷ xs) → n ≤ 1023
head {n} {p} {xs} h = h [] xs n p refl

term_small : {xs r : Tokens} {t : Term} → IsTerm xs r t → SmallNumbers xs → SmallTerm t × SmallNumbers r
term_small a_constant h = (head h, tail h)
term_small a_bare h = (tt, tail h)
term_small a_sum h = (head (tail (tail h)), tail (tail (tail h)))
term_small a_difference h = (head (tail (tail h)), tail (tail (tail h)))

parted_small :
    {xs r : Tokens} {ts : List Term}
    → Parted Term IsTerm xs r ts
    → SmallNumbers xs
    → SmallTerms ts × SmallNumbers r
parted_small (last i) h = let v = term_small i h in ((v.0, tt), tail v.1)
parted_small (next i k) h =
    let v = term_small i h in let u = parted_small k (tail v.1) in ((v.0, u.0), u.1)

terms_small :
    {xs r : Tokens} {ts : List Term}
    → Listed Term IsTerm xs r ts
    → SmallNumbers xs
    → SmallTerms ts × SmallNumbers r
terms_small none h = (tt, tail h)
terms_small (some k) h = parted_small k h

names_rest : {xs r : Tokens} {ws : List Word} → Parted Word IsName xs r ws → SmallNumbers xs → SmallNumbers r
names_rest (last a_name) h = tail (tail h)
names_rest (next a_name k) h = names_rest k (tail (tail h))

names_small : {xs r : Tokens} {ws : List Word} → Listed Word IsName xs r ws → SmallNumbers xs → SmallNumbers r
names_small none h = tail h
names_small (some k) h = names_rest k h

weights_small :
    {xs r : Tokens} {w : Weights}
    → IsWeights xs r w
    → SmallNumbers xs
    → SmallWeights w × SmallNumbers r
weights_small no_weights h = (tt, h)
weights_small weights h = ((head h, head (tail (tail h))), tail (tail (tail h)))

reads_small :
    {k : Kind} {d : ℕ} {xs r : Tokens} {f : Formula}
    → Reads k d xs r f
    → SmallNumbers xs
    → SmallFormula f × SmallNumbers r
reads_small (a_comparison a b) h =
    let v = term_small a h in let u = term_small b (tail v.1) in ((v.0, u.0), u.1)
reads_small (a_call l) h = terms_small l (tail (tail h))
reads_small (a_not e a) h = reads_small a (tail h)
reads_small (a_pick e a) h = reads_small a (tail (tail h))
reads_small (brackets e a) h = let v = reads_small a (tail h) in (v.0, tail v.1)
reads_small (alone a) h = reads_small a h
reads_small (a_join a e w b) h =
    let v = reads_small a h in
    let u = weights_small w (tail v.1) in
    let t = reads_small b u.1 in
    ((u.0, v.0, t.0), t.1)

fields_small :
    {xs r : Tokens} {fs : List Field}
    → Many Field IsField xs r fs
    → SmallNumbers xs
    → SmallFields fs × SmallNumbers r
fields_small done h = (tt, h)
fields_small (line a_field m) h =
    let g = tail (tail h) in
    let v = fields_small m (tail (tail (tail g))) in
    ((head g, head (tail g), v.0), v.1)

rules_small :
    {xs r : Tokens} {rs : List Rule}
    → Many Rule IsRule xs r rs
    → SmallNumbers xs
    → ReadRules rs × SmallNumbers r
rules_small done h = (tt, h)
rules_small (line (a_rule n a) m) h =
    let v = reads_small a (tail (names_small n (tail (tail (tail h))))) in
    let u = rules_small m (tail v.1) in
    (((reads_nested a, v.0), u.0), u.1)

sheet_well : {xs : Tokens} {s : Sheet} → IsSheet xs s → Rising (sheet_places s) → SmallNumbers xs → WellRead s
sheet_well (a_sheet a_field fs rs (a_mark a)) o h =
    let g = tail (tail h) in
    let v = fields_small fs (tail (tail (tail g))) in
    let u = rules_small rs v.1 in
    let t = reads_small a (tail u.1) in
    (tt, (head g, head (tail g), v.0), u.0, (reads_nested a, t.0), o)

pub well_read_lem : EverySheetWellRead
well_read_lem xs s d o h = sheet_well d (in_order d o) h
