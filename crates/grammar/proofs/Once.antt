-- A list of tokens is a sheet in one way at most. Assumes nothing.
use Rattle.std.proofs.Common.{◌≡◌, ℕ, List, [], ◌∷◌, sym, refl, ap, subst, arith}
use Rattle.formula.specs.declared.Comparison.{Comparison}
use Rattle.formula.specs.declared.Join.{Join}
use Rattle.grammar.specs.Syntax.{Word, Term, Weights, Formula, negated, Field, Rule, Mark, Sheet}
use Rattle.grammar.specs.Grammar.{Tok, name, number, field, rule, mark, not, pick, join, sign, opening, closing, comma, semicolon, colon, plus, minus, at, Tokens, Parted, last, next, Listed, none, some, IsName, a_name, IsTerm, a_constant, a_bare, a_sum, a_difference, IsWeights, no_weights, weights, any, only, Kind, unit, formula, Reads, a_comparison, a_call, a_not, a_pick, brackets, alone, a_join, IsField, a_field, IsRule, a_rule, IsMark, a_mark, Many, done, line, IsSheet, a_sheet}

-- what a token can do after a term or a formula: go on with it, or not
data Class : Type 0 where
  sums joins fields rules other : Class

abbrev class : Tok → Class
class (name w) = other
class (number n) = other
class field = fields
class rule = rules
class mark = other
class not = other
class pick = other
class (join j) = joins
class (sign c) = other
class opening = other
class closing = other
class comma = other
class semicolon = other
class colon = other
class plus = sums
class minus = sums

abbrev first : Tokens → Class
first [] = other
first (at t p ∷ r) = class t

abbrev NoSum : Class → Type 0
NoSum sums = ⊥
NoSum joins = Unit {0}
NoSum fields = Unit {0}
NoSum rules = Unit {0}
NoSum other = Unit {0}

abbrev NoJoin : Class → Type 0
NoJoin sums = ⊥
NoJoin joins = ⊥
NoJoin fields = Unit {0}
NoJoin rules = Unit {0}
NoJoin other = Unit {0}

abbrev Ends : Kind → Class → Type 0
Ends unit c = NoSum c
Ends (formula l) c = NoJoin c

no_sum : (c : Class) → NoJoin c → NoSum c
no_sum sums h = h
no_sum joins h = tt
no_sum fields h = tt
no_sum rules h = tt
no_sum other h = tt

-- one item at most, where what follows satisfies E
abbrev Once : (A : Type 0) → (Tokens → Tokens → A → Type 0) → (Class → Type 0) → Type 0
Once A Item E = (xs r s : Tokens) (a b : A) → Item xs r a → Item xs s b → E (first r) → E (first s) → (r ≡ s) × (a ≡ b)

no : ◌≡◌ {A = ℕ} 0 1 → ⊥
no z = omega arith

term_once : {xs r s : Tokens} {a b : Term} → IsTerm xs r a → IsTerm xs s b → NoSum (first r) → NoSum (first s) → (r ≡ s) × (a ≡ b)
term_once a_constant a_constant e f = (refl, refl)
term_once a_bare a_bare e f = (refl, refl)
term_once a_bare a_sum e f = absurd e
term_once a_bare a_difference e f = absurd e
term_once a_sum a_bare e f = absurd f
term_once a_sum a_sum e f = (refl, refl)
term_once a_difference a_bare e f = absurd f
term_once a_difference a_difference e f = (refl, refl)

name_once : {xs r s : Tokens} {a b : Word} → IsName xs r a → IsName xs s b → NoSum (first r) → NoSum (first s) → (r ≡ s) × (a ≡ b)
name_once a_name a_name e f = (refl, refl)

module _ (A : Type 0) (Item : Tokens → Tokens → A → Type 0) (once : Once A Item NoSum) (no_closing : (p : ℕ) (r s : Tokens) (a : A) → Item (at closing p ∷ r) s a → ⊥) where
  parted_once : {xs r s : Tokens} {a b : List A} → Parted A Item xs r a → Parted A Item xs s b → (r ≡ s) × (a ≡ b)
  parted_once (last i) (last j) = let o = once _ _ _ _ _ i j tt tt in let x = o.0 in let y = o.1 in (cc, cc)
  parted_once (last i) (next j l) = let o = once _ _ _ _ _ i j tt tt in let x = o.0 in absurd (no (cc))
  parted_once (next i k) (last j) = let o = once _ _ _ _ _ i j tt tt in let x = o.0 in absurd (no (cc))
  parted_once (next {ys = ys} i k) (next {ys = zs} {r = r} {bs = bs} j l) =
      let o = once _ _ _ _ _ i j tt tt in
      let x = o.0 in
      let e : zs ≡ ys = cc in
      let m = parted_once k (subst (λ z. Parted A Item z r bs) e l) in
      let y = o.1 in
      let z = m.1 in
      (m.0, cc)

  no_parted : {p : ℕ} {r s : Tokens} {a : List A} → Parted A Item (at closing p ∷ r) s a → ⊥
  no_parted (last i) = no_closing _ _ _ _ i
  no_parted (next i k) = no_closing _ _ _ _ i

  listed_once : {xs r s : Tokens} {a b : List A} → Listed A Item xs r a → Listed A Item xs s b → (r ≡ s) × (a ≡ b)
  listed_once none none = (refl, refl)
  listed_once none (some k) = absurd (no_parted k)
  listed_once (some k) none = absurd (no_parted k)
  listed_once (some k) (some l) = parted_once k l

term_closing : (p : ℕ) (r s : Tokens) (a : Term) → IsTerm (at closing p ∷ r) s a → ⊥
term_closing p r s a i = elim i [ ]

name_closing : (p : ℕ) (r s : Tokens) (a : Word) → IsName (at closing p ∷ r) s a → ⊥
name_closing p r s a i = elim i [ ]

terms_once : {xs r s : Tokens} {a b : List Term} → Listed Term IsTerm xs r a → Listed Term IsTerm xs s b → (r ≡ s) × (a ≡ b)
terms_once = listed_once Term IsTerm (λ xs r s a b. term_once) term_closing

names_once : {xs r s : Tokens} {a b : List Word} → Listed Word IsName xs r a → Listed Word IsName xs s b → (r ≡ s) × (a ≡ b)
names_once = listed_once Word IsName (λ xs r s a b. name_once) name_closing

not_called : {w : List ℕ} {p q i : ℕ} {c : Comparison} {ys zs : Tokens} {t : Term} → IsTerm (at (name w) p ∷ at opening q ∷ ys) (at (sign c) i ∷ zs) t → ⊥
not_called i = elim i [ ]

-- no formula begins with a number and `:`
no_colon : {k : Kind} {d n p q : ℕ} {xs r : Tokens} {f : Formula} → Reads k d (at (number n) p ∷ at colon q ∷ xs) r f → ⊥
no_colon (a_comparison t u) = elim t [ ]
no_colon (alone a) = no_colon a
no_colon (a_join a b c e) = no_colon a

carry : {d : ℕ} {i j : Join} {xs ys r : Tokens} {f : Formula} → i ≡ j → xs ≡ ys → Reads (formula (only i)) d xs r f → Reads (formula (only j)) d ys r f
carry {d} {i} {j} {xs} {ys} {r} {f} p q a = subst (λ x. Reads (formula (only x)) d ys r f) p (subst (λ x. Reads (formula (only i)) d x r f) q a)

weights_once : {d e : ℕ} {k l : Kind} {xs ys zs r s : Tokens} {v w : Weights} {f g : Formula} → IsWeights xs ys v → Reads k d ys r f → IsWeights xs zs w → Reads l e zs s g → (ys ≡ zs) × (v ≡ w)
weights_once no_weights a no_weights b = (refl, refl)
weights_once no_weights a weights b = absurd (no_colon a)
weights_once weights a no_weights b = absurd (no_colon b)
weights_once weights a weights b = (refl, refl)

reads_once : {k : Kind} {d : ℕ} {xs r s : Tokens} {f g : Formula} → Reads k d xs r f → Reads k d xs s g → Ends k (first r) → Ends k (first s) → (r ≡ s) × (f ≡ g)
reads_once (a_comparison {ys = ys} t u) (a_comparison {ys = zs} {r = r} {u = u2} t' u') e f =
    let o = term_once t t' tt tt in
    let x = o.0 in
    let y = o.1 in
    let z : zs ≡ ys = cc in
    let m = term_once u (subst (λ q. IsTerm q r u2) z u') e f in
    let v = m.1 in
    (m.0, cc)
reads_once (a_comparison t u) (a_call l) e f = absurd (not_called t)
reads_once (a_comparison t u) (a_not h b) e f = elim t [ ]
reads_once (a_comparison t u) (a_pick h b) e f = elim t [ ]
reads_once (a_comparison t u) (brackets h b) e f = elim t [ ]
reads_once (a_call l) (a_comparison t u) e f = absurd (not_called t)
reads_once (a_call l) (a_call m) e f = let o = terms_once l m in let y = o.1 in (o.0, cc)
reads_once (a_not h a) (a_comparison t u) e f = elim t [ ]
reads_once (a_not h a) (a_not i b) e f = let o = reads_once a b e f in (o.0, ap negated o.1)
reads_once (a_pick h a) (a_comparison t u) e f = elim t [ ]
reads_once (a_pick h a) (a_pick i b) e f = let o = reads_once a b e f in let y = o.1 in (o.0, cc)
reads_once (brackets h a) (a_comparison t u) e f = elim t [ ]
reads_once (brackets h a) (brackets i b) e f = let o = reads_once a b tt tt in let x = o.0 in (cc, o.1)
reads_once (alone {r = r} a) (alone {r = s} b) e f = reads_once a b (no_sum (first r) e) (no_sum (first s) f)
reads_once (alone {r = r} a) (a_join b h w c) e f = let o = reads_once a b (no_sum (first r) e) tt in absurd (subst (λ z. NoJoin (first z)) o.0 e)
reads_once (a_join a h w c) (alone {r = s} b) e f = let o = reads_once a b tt (no_sum (first s) f) in absurd (subst (λ z. NoJoin (first z)) (sym o.0) f)
reads_once (a_join {ys = ys} {zs = zs} {j = j} a h w c) (a_join {d} {ys = ys'} {zs = zs'} {w = v} {j = j'} b h' w' c') e f =
    let o = reads_once a b tt tt in
    let x = o.0 in
    let y = o.1 in
    let ej : j' ≡ j = cc in
    let ey : ys' ≡ ys = cc in
    let m = weights_once w c (subst (λ z. IsWeights z zs' v) ey w') c' in
    let mz = m.1 in
    let q = reads_once c (carry ej (sym m.0) c') e f in
    let qf = q.1 in
    (q.0, cc)

abbrev NotField : Class → Type 0
NotField sums = Unit {0}
NotField joins = Unit {0}
NotField fields = ⊥
NotField rules = Unit {0}
NotField other = Unit {0}

abbrev NotRule : Class → Type 0
NotRule sums = Unit {0}
NotRule joins = Unit {0}
NotRule fields = Unit {0}
NotRule rules = ⊥
NotRule other = Unit {0}

module _ (A : Type 0) (Item : Tokens → Tokens → A → Type 0) (E : Class → Type 0) (once : (xs r s : Tokens) (a b : A) → Item xs r a → Item xs s b → (r ≡ s) × (a ≡ b)) (begins : (xs r : Tokens) (a : A) → Item xs r a → E (first xs) → ⊥) where
  many_once : {xs r s : Tokens} {a b : List A} → Many A Item xs r a → Many A Item xs s b → E (first r) → E (first s) → (r ≡ s) × (a ≡ b)
  many_once done done e f = (refl, refl)
  many_once done (line i m) e f = absurd (begins _ _ _ i e)
  many_once (line i m) done e f = absurd (begins _ _ _ i f)
  many_once (line {ys = ys} i m) (line {ys = zs} {r = r} {bs = bs} j n) e f =
      let o = once _ _ _ _ _ i j in
      let q = many_once m (subst (λ z. Many A Item z r bs) (sym o.0) n) e f in
      let y = o.1 in
      let z = q.1 in
      (q.0, cc)

field_once : {xs r s : Tokens} {a b : Field} → IsField xs r a → IsField xs s b → (r ≡ s) × (a ≡ b)
field_once a_field a_field = (refl, refl)

rule_once : {xs r s : Tokens} {a b : Rule} → IsRule xs r a → IsRule xs s b → (r ≡ s) × (a ≡ b)
rule_once (a_rule {zs = zs} n a) (a_rule {e = e} {zs = zs'} {r = r} {f = f} m b) =
    let o = names_once n m in
    let x = o.0 in
    let y = o.1 in
    let ez : zs' ≡ zs = cc in
    let q = reads_once a (subst (λ z. Reads (formula any) 16 z (at semicolon e ∷ r) f) ez b) tt tt in
    let u = q.0 in
    let v = q.1 in
    (cc, cc)

mark_once : {xs r s : Tokens} {a b : Mark} → IsMark xs r a → IsMark xs s b → (r ≡ s) × (a ≡ b)
mark_once (a_mark a) (a_mark b) = let q = reads_once a b tt tt in let u = q.0 in let v = q.1 in (cc, cc)

field_begins : (xs r : Tokens) (a : Field) → IsField xs r a → NotField (first xs) → ⊥
field_begins _ _ _ a_field e = e

rule_begins : (xs r : Tokens) (a : Rule) → IsRule xs r a → NotRule (first xs) → ⊥
rule_begins _ _ _ (a_rule n a) e = e

mark_begins : {xs r : Tokens} {a : Mark} → IsMark xs r a → NotRule (first xs)
mark_begins (a_mark a) = tt

after_fields : {xs r s : Tokens} {a : List Rule} {m : Mark} → Many Rule IsRule xs r a → IsMark r s m → NotField (first xs)
after_fields done (a_mark a) = tt
after_fields (line (a_rule n a) l) m = tt

-- the grammar is unambiguous
pub sheet_once : {xs : Tokens} {s t : Sheet} → IsSheet xs s → IsSheet xs t → s ≡ t
sheet_once (a_sheet {ys = ys} {zs = zs} {us = us} f fs rs m) (a_sheet {ys = ys'} {zs = zs'} {us = us'} {fs = gs} {rs = qs} {m = n} f' fs' rs' m') =
    let a = field_once f f' in
    let b = many_once Field IsField NotField (λ xs r s a b. field_once) field_begins fs (subst (λ z. Many Field IsField z zs' gs) (sym a.0) fs') (after_fields rs m) (after_fields rs' m') in
    let c = many_once Rule IsRule NotRule (λ xs r s a b. rule_once) rule_begins rs (subst (λ z. Many Rule IsRule z us' qs) (sym b.0) rs') (mark_begins m) (mark_begins m') in
    let d = mark_once m (subst (λ z. IsMark z [] n) (sym c.0) m') in
    let a1 = a.1 in
    let b1 = b.1 in
    let c1 = c.1 in
    let d1 = d.1 in
    cc
