-- Spellings: what a token begins with, that one spelling is one token, and which is the longest.
use Rattle.std.proofs.Common.{◌≡◌, ℕ, ◌<◌, ◌≤◌, Bool, true, false, cond, eqb, List, [], ◌∷◌, ◌++◌, length, get_or, take, sym, refl, ap, ◌∙◌, subst, ⊎_elim, arith, rules}
use Rattle.std.proofs.str.Laws.{order}
use Rattle.std.proofs.lemmas.Bool.{both_ways}
use Rattle.std.proofs.lemmas.Bool.Decides.{nat_tests}
use Rattle.std.proofs.ByRecursion.{All-get_or}
use Rattle.std.proofs.lemmas.List.{length-append, get_or_append_left, append_cancel_left, take_at}
use Rattle.formula.specs.declared.Comparison.TheVariants.{Equal, Differ, Less, AtMost, More, AtLeast}
use Rattle.signs.specs.declared.token.Sign.{Sign}
use Rattle.signs.specs.declared.token.Sign.TheVariants.{Open, Close, Comma, Semicolon, Colon, Plus, Minus, Compare}
use Rattle.signs.specs.Bytes.{letter, digit, alphanumeric, blank, Only, value}
use Rattle.signs.specs.Tokens.{Tok, word, number, sign, sign_bytes, Spells, a_word, a_number, a_sign, Takes}

-- classes of bytes that have nothing in common

letter_no_digit : (b : ℕ) → letter b ≡ true → digit b ≡ true → ⊥
letter_no_digit b e f = grind (arith, nat_tests, e, f)

letter_alphanumeric : (b : ℕ) → letter b ≡ true → alphanumeric b ≡ true
letter_alphanumeric b e = grind (arith, nat_tests, e)

-- the first byte of a sign

-- a byte that begins no word, no number and no gap
record Plain (b : ℕ) : Type 0 where
  no_letter : letter b ≡ false
  no_digit : digit b ≡ false
  solid : blank b ≡ false

-- what a sign's bytes begin with: one byte at least, and a plain one first
record Begins (bs : List ℕ) : Type 0 where
  some : 0 < length bs
  plain : Plain (get_or bs 0 0)

sign_begins : (s : Sign) → Begins (sign_bytes s)
sign_begins = search rules

pub sign_some : (s : Sign) → 0 < length (sign_bytes s)
sign_some s = (sign_begins s).some

-- the sign back from its bytes
back : List ℕ → Sign
back bs =
    let a = get_or bs 0 0 in
    cond (eqb (length bs) 2)
    (Compare (cond (eqb a 47) Differ (cond (eqb a 60) AtMost AtLeast)))
    (cond (eqb a 40) Open (cond (eqb a 41) Close (cond (eqb a 44) Comma (cond (eqb a 59) Semicolon
    (cond (eqb a 58) Colon (cond (eqb a 43) Plus (cond (eqb a 45) Minus
    (Compare (cond (eqb a 61) Equal (cond (eqb a 60) Less More))))))))))

back_is : (s : Sign) → back (sign_bytes s) ≡ s
unfolding back
back_is = search rules

-- what a spelling begins with

-- the first byte of a spelling, by its token
abbrev FirstOf : Tok → ℕ → Type 0
FirstOf (word w) b = letter b ≡ true
FirstOf (number n) b = digit b ≡ true
FirstOf (sign s) b = Plain b

first_of : {t : Tok} {w : List ℕ} → Spells t w → FirstOf t (get_or w 0 0)
first_of (a_word {b = b} e l o) = ap (λ l. letter (get_or l 0 0)) e ∙ l
first_of (a_number {w = w} pos o e) = All-get_or (λ b. digit b ≡ true) w 0 0 pos o
first_of (a_sign {s = s} e) = subst (λ l. Plain (get_or l 0 0)) (sym e) (sign_begins s).plain

pub spelling_some : {t : Tok} {w : List ℕ} → Spells t w → 0 < length w
spelling_some = search rules

solid_of : (t : Tok) (b : ℕ) → FirstOf t b → blank b ≡ false
solid_of = search rules

-- a blank begins no token
pub spelling_solid : {t : Tok} {w : List ℕ} → Spells t w → blank (get_or w 0 0) ≡ false
spelling_solid {t} {w} s = solid_of t (get_or w 0 0) (first_of s)

-- the first byte of what begins the bytes is theirs
pub same_first : (bytes w rest : List ℕ) → bytes ≡ w ++ rest → 0 < length w → get_or bytes 0 0 ≡ get_or w 0 0
same_first bytes w rest e pos = ap (λ l. get_or l 0 0) e ∙ get_or_append_left w rest 0 0 pos

-- one spelling, one token: the first byte is a letter, a digit or neither
pub spelling_once : {t u : Tok} {w : List ℕ} → Spells t w → Spells u w → t ≡ u
spelling_once {t = word v} {u = word u} (a_word e l o) (a_word f k q) = refl
spelling_once {t = word v} {u = number n} {w = w} a b =
    absurd (letter_no_digit (get_or w 0 0) (first_of a) (first_of b))
spelling_once {t = word v} {u = sign s} a b = absurd (both_ways _ (first_of b).no_letter (first_of a))
spelling_once {t = number n} {u = word v} {w = w} a b =
    absurd (letter_no_digit (get_or w 0 0) (first_of b) (first_of a))
spelling_once {t = number n} {u = number m} (a_number p q f) (a_number p' q' g) = ap number (f ∙ sym g)
spelling_once {t = number n} {u = sign s} a b = absurd (both_ways _ (first_of b).no_digit (first_of a))
spelling_once {t = sign s} {u = word v} a b = absurd (both_ways _ (first_of a).no_letter (first_of b))
spelling_once {t = sign s} {u = number n} a b = absurd (both_ways _ (first_of a).no_digit (first_of b))
spelling_once {t = sign s} {u = sign u} (a_sign e) (a_sign f) =
    ap sign (sym (back_is s) ∙ ap back (sym e ∙ f) ∙ back_is u)

-- two ways of beginning the same bytes, equally long, are the same
same_front : (w v rest more : List ℕ) → w ++ rest ≡ v ++ more → length w ≡ length v → w ≡ v
same_front w v rest more e n =
    sym (take_at w rest (length v) n) ∙ ap (take (length v)) e ∙ take_at v more (length v) refl

-- the longest token is one
pub record Same (t u : Tok) (w v rest more : List ℕ) : Type 0 where
  pub tokens : t ≡ u
  pub spellings : w ≡ v
  pub rests : rest ≡ more

pub takes_once :
    {bytes w v rest more : List ℕ} {t u : Tok}
    → Takes bytes t w rest
    → Takes bytes u v more
    → Same t u w v rest more
takes_once {bytes} {w} {v} {rest} {more} {t} {u} a b =
    let n : length w ≡ length v =
    omega (arith, a.longest u v more b.split b.spells, b.longest t w rest a.split a.spells) in
    let f = same_front w v rest more (sym a.split ∙ b.split) n in
    record {
      tokens = spelling_once a.spells (subst (Spells u) (sym f) b.spells);
      spellings = f;
      rests = append_cancel_left v rest more (ap (λ l. l ++ rest) (sym f) ∙ sym a.split ∙ b.split);
    }

-- the longest run of bytes that pass a test
pub record Front (test : ℕ → Bool) (bytes w rest : List ℕ) : Type 0 where
  pub split : bytes ≡ w ++ rest
  pub all : Only test w
  pub stops : length w < length bytes → test (get_or bytes (length w) 0) ≡ false

-- what begins the bytes and passes is no longer than the run
front_longest :
    {test : ℕ → Bool} {bytes w rest : List ℕ} (v more : List ℕ)
    → Front test bytes w rest
    → bytes ≡ v ++ more
    → Only test v
    → length v ≤ length w
front_longest {test} {bytes} {w} {rest} v more f e o =
    ⊎_elim
    (λ (h : length w < length v).
    let n = length-append v more in
    let m = ap length e in
    let passes = All-get_or (λ b. test b ≡ true) v (length w) 0 h o in
    let same = ap (λ l. test (get_or l (length w) 0)) e ∙ ap test (get_or_append_left v more 0 (length w) h) in
    absurd (both_ways _ (f.stops (omega arith)) (same ∙ passes)))
    (λ h. h)
    (order (length w) (length v))

-- a spelling whose first byte is a letter is a word's, and one whose first byte is a digit a number's
abbrev Begun : List ℕ → List ℕ → Type 0
Begun bytes v =
    (letter (get_or bytes 0 0) ≡ true → Only alphanumeric v) × (digit (get_or bytes 0 0) ≡ true → Only digit v)

spelling_only : {u : Tok} {v : List ℕ} → Spells u v → Begun v v
spelling_only {v = v} (a_word {b = b} e l o) = (
  λ h. subst (Only alphanumeric) (sym e) (letter_alphanumeric b l, o),
  λ h. absurd (letter_no_digit (get_or v 0 0) (first_of (a_word e l o)) h),
)
spelling_only {v = v} (a_number {n = n} p o e) =
    (λ h. absurd (letter_no_digit (get_or v 0 0) h (first_of (a_number {n = n} p o e))), λ h. o)
spelling_only (a_sign {s = s} e) = (
  λ h. absurd (both_ways _ (first_of (a_sign {s = s} e)).no_letter h),
  λ h. absurd (both_ways _ (first_of (a_sign {s = s} e)).no_digit h),
)

-- the same of what begins the bytes
begun : (bytes v more : List ℕ) {u : Tok} → bytes ≡ v ++ more → Spells u v → Begun bytes v
begun bytes v more e s =
    let f = same_first bytes v more e (spelling_some s) in
    let o = spelling_only s in
    (λ h. o.0 (ap letter (sym f) ∙ h), λ h. o.1 (ap digit (sym f) ∙ h))

front_some :
    {test : ℕ → Bool} {bytes w rest : List ℕ}
    → Front test bytes w rest
    → 0 < length bytes
    → test (get_or bytes 0 0) ≡ true
    → 0 < length w
front_some = search rules

word_spelt : (w : List ℕ) → 0 < length w → letter (get_or w 0 0) ≡ true → Only alphanumeric w → Spells (word w) w
word_spelt [] pos l o = absurd (omega arith)
word_spelt (b ∷ bs) pos l o = a_word refl l o.1

-- where a read past the end gives 0, which is neither, a letter or a digit stands in front of some bytes
letter_some : (bytes : List ℕ) → letter (get_or bytes 0 0) ≡ true → 0 < length bytes
letter_some [] l = absurd cc
letter_some (b ∷ bs) l = omega arith

digit_some : (bytes : List ℕ) → digit (get_or bytes 0 0) ≡ true → 0 < length bytes
digit_some [] d = absurd cc
digit_some (b ∷ bs) d = omega arith

pub takes_word :
    {bytes w rest : List ℕ}
    → Front alphanumeric bytes w rest
    → letter (get_or bytes 0 0) ≡ true
    → Takes bytes (word w) w rest
takes_word {bytes} {w} {rest} f l =
    let some = front_some f (letter_some bytes l) (letter_alphanumeric (get_or bytes 0 0) l) in
    record {
      split = f.split;
      spells = word_spelt w some (ap letter (sym (same_first bytes w rest f.split some)) ∙ l) f.all;
      longest = λ u v more e s. front_longest v more f e ((begun bytes v more e s).0 l);
    }

pub takes_number :
    {bytes w rest : List ℕ} {n : ℕ}
    → Front digit bytes w rest
    → digit (get_or bytes 0 0) ≡ true
    → n ≡ value w
    → Takes bytes (number n) w rest
takes_number {bytes} {w} {rest} f d e =
    let some = front_some f (digit_some bytes d) d in
    record {
      split = f.split;
      spells = a_number some f.all e;
      longest = λ u v more g s. front_longest v more f g ((begun bytes v more g s).1 d);
    }

-- bytes that begin with neither a letter nor a digit begin no word and no number
sign_only :
    (bytes v more : List ℕ) {u : Tok}
    → letter (get_or bytes 0 0) ≡ false
    → digit (get_or bytes 0 0) ≡ false
    → bytes ≡ v ++ more
    → Spells u v
    → (s : Sign) × (v ≡ sign_bytes s)
sign_only bytes v more nl nd e (a_word f l o) =
    let same = same_first bytes v more e (spelling_some (a_word f l o)) in
    absurd (both_ways _ (ap letter (sym same) ∙ nl) (first_of (a_word f l o)))
sign_only bytes v more nl nd e (a_number {n = n} p o f) =
    absurd (both_ways _ (ap digit (sym (same_first bytes v more e p)) ∙ nd) (first_of (a_number {n = n} p o f)))
sign_only bytes v more nl nd e (a_sign {s = s} f) = (s, f)

pub takes_sign :
    (bytes : List ℕ) (s : Sign) (rest : List ℕ)
    → letter (get_or bytes 0 0) ≡ false
    → digit (get_or bytes 0 0) ≡ false
    → bytes ≡ sign_bytes s ++ rest
    → ((h : Sign) (more : List ℕ) → bytes ≡ sign_bytes h ++ more → length (sign_bytes h) ≤ length (sign_bytes s))
    → Takes bytes (sign s) (sign_bytes s) rest
takes_sign bytes s rest nl nd e most = record {
  split = e;
  spells = a_sign refl;
  longest = λ u v more g p.
      let o = sign_only bytes v more nl nd g p in
      omega (arith, ap length o.1, most o.0 more (g ∙ ap (λ l. l ++ more) o.1));
}

pub no_spelling :
    (bytes : List ℕ)
    → letter (get_or bytes 0 0) ≡ false
    → digit (get_or bytes 0 0) ≡ false
    → ((s : Sign) (rest : List ℕ) → bytes ≡ sign_bytes s ++ rest → ⊥)
    → (t : Tok) (w rest : List ℕ)
    → bytes ≡ w ++ rest
    → Spells t w
    → ⊥
no_spelling bytes nl nd none t w rest e p =
    let o = sign_only bytes w rest nl nd e p in
    none o.0 rest (e ∙ ap (λ l. l ++ rest) o.1)
