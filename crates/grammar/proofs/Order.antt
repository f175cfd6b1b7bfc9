-- The places of a sheet rise, since those of its tokens do.
use Rattle.std.proofs.Common.{ℕ, List, [], ◌∷◌, ◌++◌, map, sym, subst, append_assoc, append-nil}
use Rattle.grammar.specs.Syntax.{Word, Term, Weights, Formula, Field, Rule, mark_line, Sheet}
use Rattle.grammar.specs.Grammar.{Tokens, Parted, last, next, Listed, none, some, IsName, a_name, IsTerm, a_constant, a_bare, a_sum, a_difference, IsWeights, no_weights, weights, Kind, Reads, a_comparison, a_call, a_not, a_pick, brackets, alone, a_join, IsField, a_field, IsRule, a_rule, IsMark, a_mark, Many, done, line, IsSheet, a_sheet}
use Rattle.grammar.specs.Tables.{place_of, term_places, terms_places, weights_places, formula_places, fields_places, rules_places, sheet_places, BeforeAll, Rising}
use Rattle.grammar.specs.Laws.{token_places}

-- the first list is the second with some left out
data Sub : List ℕ → List ℕ → Type 0 where
  empty : {ys : List ℕ} → Sub [] ys
  keep : {x : ℕ} {xs ys : List ℕ} → Sub xs ys → Sub (x ∷ xs) (x ∷ ys)
  skip : {y : ℕ} {xs ys : List ℕ} → Sub xs ys → Sub xs (y ∷ ys)

before_sub : (p : ℕ) {xs ys : List ℕ} → Sub xs ys → BeforeAll p ys → BeforeAll p xs
before_sub p empty h = tt
before_sub p (keep s) h = (h.0, before_sub p s h.1)
before_sub p (skip s) h = before_sub p s h.1

rising_sub : {xs ys : List ℕ} → Sub xs ys → Rising ys → Rising xs
rising_sub empty h = tt
rising_sub (keep s) h = (before_sub _ s h.0, rising_sub s h.1)
rising_sub (skip s) h = rising_sub s h.1

both : (xs ys zs ps : List ℕ) → Sub (xs ++ (ys ++ zs)) ps → Sub ((xs ++ ys) ++ zs) ps
both xs ys zs ps s = subst (λ l. Sub l ps) (sym (append_assoc xs ys zs)) s

-- Of each item: its places and then zs are among those of the tokens, where zs are among those of the rest.

term_sub :
    {xs r : Tokens} {t : Term} {zs : List ℕ}
    → IsTerm xs r t
    → Sub zs (token_places r)
    → Sub (term_places t ++ zs) (token_places xs)
term_sub a_constant z = skip z
term_sub a_bare z = keep z
term_sub a_sum z = keep (skip (skip z))
term_sub a_difference z = keep (skip (skip z))

parted_sub :
    {xs r : Tokens} {ts : List Term} (zs : List ℕ)
    → Parted Term IsTerm xs r ts
    → Sub zs (token_places r)
    → Sub (terms_places ts ++ zs) (token_places xs)
parted_sub {xs} zs (last {a = t} i) z = both (term_places t) [] zs (token_places xs) (term_sub i (skip z))
parted_sub {xs} zs (next {a = t} {bs = ts} i k) z =
    both (term_places t) (terms_places ts) zs (token_places xs) (term_sub i (skip (parted_sub zs k z)))

terms_sub :
    {xs r : Tokens} {ts : List Term} (zs : List ℕ)
    → Listed Term IsTerm xs r ts
    → Sub zs (token_places r)
    → Sub (terms_places ts ++ zs) (token_places xs)
terms_sub zs none z = skip z
terms_sub zs (some k) z = parted_sub zs k z

words_sub :
    {xs r : Tokens} {ws : List Word} {zs : List ℕ}
    → Parted Word IsName xs r ws
    → Sub zs (token_places r)
    → Sub (map place_of ws ++ zs) (token_places xs)
words_sub (last a_name) z = keep (skip z)
words_sub (next a_name k) z = keep (skip (words_sub k z))

names_sub :
    {xs r : Tokens} {ws : List Word} {zs : List ℕ}
    → Listed Word IsName xs r ws
    → Sub zs (token_places r)
    → Sub (map place_of ws ++ zs) (token_places xs)
names_sub none z = skip z
names_sub (some k) z = words_sub k z

weights_sub :
    {xs r : Tokens} {w : Weights} {zs : List ℕ}
    → IsWeights xs r w
    → Sub zs (token_places r)
    → Sub (weights_places w ++ zs) (token_places xs)
weights_sub no_weights z = z
weights_sub weights z = keep (skip (keep z))

reads_sub :
    {k : Kind} {d : ℕ} {xs r : Tokens} {f : Formula} (zs : List ℕ)
    → Reads k d xs r f
    → Sub zs (token_places r)
    → Sub (formula_places f ++ zs) (token_places xs)
reads_sub {xs = xs} zs (a_comparison {t = t} {u = u} a b) z =
    both (term_places t) (term_places u) zs (token_places xs) (term_sub a (skip (term_sub b z)))
reads_sub zs (a_call l) z = keep (skip (terms_sub zs l z))
reads_sub zs (a_not h a) z = skip (reads_sub zs a z)
reads_sub zs (a_pick h a) z = skip (keep (reads_sub zs a z))
reads_sub zs (brackets h a) z = skip (reads_sub zs a (skip z))
reads_sub zs (alone a) z = reads_sub zs a z
reads_sub {xs = xs} zs (a_join {f = f} {g = g} {w = w} a h v b) z =
    both (formula_places f) (weights_places w ++ formula_places g) zs (token_places xs)
    (reads_sub ((weights_places w ++ formula_places g) ++ zs) a
    (skip (both (weights_places w) (formula_places g) zs _ (weights_sub v (reads_sub zs b z)))))

fields_sub :
    {xs r : Tokens} {fs : List Field} {zs : List ℕ}
    → Many Field IsField xs r fs
    → Sub zs (token_places r)
    → Sub (fields_places fs zs) (token_places xs)
fields_sub done z = z
fields_sub (line a_field m) z = keep (keep (keep (skip (skip (fields_sub m z)))))

rules_sub :
    {xs r : Tokens} {rs : List Rule} (zs : List ℕ)
    → Many Rule IsRule xs r rs
    → Sub zs (token_places r)
    → Sub (rules_places rs zs) (token_places xs)
rules_sub zs done z = z
rules_sub zs (line {bs = rs} (a_rule n a) m) z =
    keep (keep (skip (names_sub n (skip (reads_sub (rules_places rs zs) a (skip (rules_sub zs m z)))))))

mark_sub :
    {xs : Tokens} {p : ℕ} {f : Formula}
    → IsMark xs [] (mark_line p f)
    → Sub (p ∷ formula_places f) (token_places xs)
mark_sub {f = f} (a_mark {ys = ys} a) =
    keep (subst (λ l. Sub l (token_places ys)) (append-nil (formula_places f)) (reads_sub [] a (skip empty)))

sheet_sub : {xs : Tokens} {s : Sheet} → IsSheet xs s → Sub (sheet_places s) (token_places xs)
sheet_sub (a_sheet {m =
    mark_line p f} a_field fs rs m) = keep (keep
    (keep (skip (skip (fields_sub fs (rules_sub _ rs (mark_sub m)))))))

pub in_order : {xs : Tokens} {s : Sheet} → IsSheet xs s → Rising (token_places xs) → Rising (sheet_places s)
in_order d h = rising_sub (sheet_sub d) h
