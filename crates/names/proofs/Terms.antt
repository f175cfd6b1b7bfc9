-- The terms of a call, one after the other.
use Rattle.std.proofs.Common.{◌≡◌, ℕ, zero, suc, ◌<◌, List, [], ◌∷◌, ◌++◌, map, length, get_or, take, sym, refl, ap, ◌∙◌, subst, append_assoc, arith}
use Rattle.std.proofs.lemmas.List.{map-append}
use Rattle.grammar.specs.Tables.{TermEntry}
use Rattle.grammar.specs.Syntax.{Word, Term, Field, Rule}
use Rattle.grammar.specs.Tables.{term_of, Rising}
use Rattle.names.specs.Lists.{Each, end, item}
use Rattle.names.specs.Faults.{term_uses, terms_uses, First}
use Rattle.names.specs.Looking.{UsesFault, use_place}
use Rattle.names.proofs.Numbering.{no_uses}
use Rattle.names.proofs.Ordered.{first_left, first_right, none_both, uses_right}

-- a list: the items before i, the item i, and others
pub take_split :
    {A : Type 0} (xs : List A) (i : ℕ) (d : A) → i < length xs → (rest : List A) × (xs ≡ take i xs ++ (get_or xs i d ∷ rest))
take_split [] i d len = absurd (omega arith)
take_split (x ∷ xs) zero d len = (xs, refl)
take_split (x ∷ xs) (suc i) d len = let r = take_split xs i d (omega arith) in (r.0, ap (λ z. x ∷ z) r.1)

pub each_push :
    {A B : Type 0} {R : A → B → Type 0} {xs : List A} {ys : List B} {a : A} {b : B}
    → Each A B R xs ys → R a b → Each A B R (xs ++ (a ∷ [])) (ys ++ (b ∷ []))
each_push end r = item r end
each_push (item p e) r = item p (each_push e r)

-- one item more on both sides, each seen through a function
pub each_more :
    {A B X Y : Type 0} (R : X → Y → Type 0) (g : A → X) (h : B → Y)
    (front all : List A) (a : A) (front' all' : List B) (b : B)
    → all ≡ front ++ (a ∷ []) → all' ≡ front' ++ (b ∷ [])
    → Each X Y R (map g front) (map h front') → R (g a) (h b) → Each X Y R (map g all) (map h all')
each_more {X = X} {Y = Y} R g h front all a front' all' b e e' each r =
    let left : map g all ≡ map g front ++ (g a ∷ []) = ap (map g) e ∙ map-append g front (a ∷ []) in
    let right : map h all' ≡ map h front' ++ (h b ∷ []) = ap (map h) e' ∙ map-append h front' (b ∷ []) in
    subst (λ xs. Each X Y R xs (map h all')) (sym left)
    (subst (λ ys. Each X Y R (map g front ++ (g a ∷ [])) ys) (sym right) (each_push each r))

uses_append : (xs ys : List Term) → terms_uses (xs ++ ys) ≡ terms_uses xs ++ terms_uses ys
uses_append [] ys = refl
uses_append (x ∷ xs) ys = ap (λ z. term_uses x ++ z) (uses_append xs ys) ∙ sym (append_assoc (term_uses x) (terms_uses xs) (terms_uses ys))

module _ (text : List ℕ) where
  split_uses :
      (front rest : List TermEntry) (x : TermEntry)
      → terms_uses (map (term_of text) (front ++ (x ∷ rest)))
      ≡ terms_uses (map (term_of text) front) ++ (term_uses (term_of text x) ++ terms_uses (map (term_of text) rest))
  split_uses front rest x =
      ap terms_uses (map-append (term_of text) front (x ∷ rest)) ∙ uses_append (map (term_of text) front) (map (term_of text) (x ∷ rest))

  module _ {fs : List Field} {rs : List Rule} {ps : List Word} where
    pub terms_more :
        (front : List TermEntry) (x : TermEntry) (all : List TermEntry)
        → all ≡ front ++ (x ∷ [])
        → ((m q : ℕ) → UsesFault fs rs ps (terms_uses (map (term_of text) front)) m q → ⊥)
        → ((m q : ℕ) → UsesFault fs rs ps (term_uses (term_of text x)) m q → ⊥)
        → (m q : ℕ) → UsesFault fs rs ps (terms_uses (map (term_of text) all)) m q → ⊥
    terms_more front x all e a b m q f =
        none_both (terms_uses (map (term_of text) front)) (term_uses (term_of text x) ++ []) a
        (none_both (term_uses (term_of text x)) [] b no_uses) m q
        (subst (λ us. UsesFault fs rs ps us m q) (ap (λ z. terms_uses (map (term_of text) z)) e ∙ split_uses front [] x) f)

    pub terms_first :
        (front rest : List TermEntry) (x : TermEntry) (all : List TermEntry) {n p : ℕ}
        → all ≡ front ++ (x ∷ rest)
        → Rising (map use_place (terms_uses (map (term_of text) all)))
        → ((m q : ℕ) → UsesFault fs rs ps (terms_uses (map (term_of text) front)) m q → ⊥)
        → First (UsesFault fs rs ps (term_uses (term_of text x))) n p
        → First (UsesFault fs rs ps (terms_uses (map (term_of text) all))) n p
    terms_first front rest x all {n} {p} e up none f =
        let same = ap (λ z. terms_uses (map (term_of text) z)) e ∙ split_uses front rest x in
        let us = terms_uses (map (term_of text) front) in
        let vs = term_uses (term_of text x) in
        let ws = terms_uses (map (term_of text) rest) in
        let up' : Rising (map use_place (us ++ (vs ++ ws))) = subst (λ z. Rising (map use_place z)) same up in
        subst (λ z. First (UsesFault fs rs ps z) n p) (sym same)
        (first_right us (vs ++ ws) none (first_left vs ws (uses_right us (vs ++ ws) up') f))
