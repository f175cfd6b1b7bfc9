-- A text is cut in one way, as far as it can be cut; and tokens and gaps put together are the text again.
use Rattle.std.proofs.Common.{◌≡◌, ℕ, ◌+◌, ◌<◌, true, List, [], ◌∷◌, ◌++◌, length, drop, sym, refl, ap, ◌∙◌, subst, arith, rules}
use Rattle.std.proofs.lemmas.Bool.{both_ways}
use Rattle.std.proofs.lemmas.List.{length-append, length-drop}
use Rattle.signs.specs.Bytes.{blank}
use Rattle.signs.specs.Tokens.{Tok, TokAt, at, Takes, Within}
use Rattle.signs.specs.Cutting.{Cut, stop, gap, token, FaultHere, nothing_begins, over_limit, Tokenized, Refused, too_long, not_cut}
use Rattle.signs.specs.Laws.{Assembled, last_gap, next_token, PutTogether, OneVerdict}
use Rattle.signs.proofs.Spelling.{spelling_some, spelling_solid, same_first, takes_once}

-- Bytes are empty, begin with a blank, with a token within its limit, or with a fault: only one of these.

pub takes_some : {bytes w rest : List ℕ} {t : Tok} → Takes bytes t w rest → 0 < length bytes
takes_some {bytes} {w} {rest} x = omega (arith, spelling_some x.spells, ap length x.split, length-append w rest)

blank_no_token : {b : ℕ} {bytes w rest : List ℕ} {t : Tok} → blank b ≡ true → Takes (b ∷ bytes) t w rest → ⊥
blank_no_token {b} {bytes} {w} {rest} h x =
    let same = same_first (b ∷ bytes) w rest x.split (spelling_some x.spells) in
    both_ways _ (ap blank same ∙ spelling_solid x.spells) h

pub fault_some : {bytes : List ℕ} {n : ℕ} → FaultHere bytes n → 0 < length bytes
fault_some (nothing_begins h none) = omega arith
fault_some (over_limit x over) = takes_some x

blank_no_fault : {b n : ℕ} {bytes : List ℕ} → blank b ≡ true → FaultHere (b ∷ bytes) n → ⊥
blank_no_fault h (nothing_begins k none) = both_ways _ k h
blank_no_fault h (over_limit x over) = blank_no_token h x

token_no_fault : {bytes w rest : List ℕ} {t : Tok} {n : ℕ} → Takes bytes t w rest → Within t w → FaultHere bytes n → ⊥
token_no_fault {w = w} {rest = rest} {t = t} x within (nothing_begins k none) = none t w rest x.split x.spells
token_no_fault {w = w} x within (over_limit {w = v} {t = u} y over) =
    let s = takes_once x y in
    over (subst (λ z. Within z v) s.tokens (subst (Within _) s.spellings within))

fault_once : {bytes : List ℕ} {m n : ℕ} → FaultHere bytes m → FaultHere bytes n → m ≡ n
fault_once = search rules

-- where cutting ends: at the end of the text, or at a fault
pub data Ends : List ℕ → Type 0 where
  at_end : Ends []
  at_fault : {bytes : List ℕ} {n : ℕ} → FaultHere bytes n → Ends bytes

blank_no_end : {b : ℕ} {bytes : List ℕ} → blank b ≡ true → Ends (b ∷ bytes) → ⊥
blank_no_end h (at_fault f) = blank_no_fault h f

token_no_end : {bytes w rest : List ℕ} {t : Tok} → Takes bytes t w rest → Within t w → Ends bytes → ⊥
token_no_end x within at_end = omega (arith, takes_some x)
token_no_end x within (at_fault f) = token_no_fault x within f

-- one step back from a cut

pub gap_back :
    {p b : ℕ} {bytes rest : List ℕ} {ts : List TokAt}
    → blank b ≡ true
    → Ends rest
    → Cut p (b ∷ bytes) ts rest
    → Cut (p + 1) bytes ts rest
gap_back h e stop = absurd (blank_no_end h e)
gap_back h e (gap k c) = c
gap_back h e (token x within c) = absurd (blank_no_token h x)

pub token_back :
    {p : ℕ} {bytes w after rest : List ℕ} {t : Tok} {ts : List TokAt}
    → Takes bytes t w after
    → Within t w
    → Ends rest
    → Cut p bytes ts rest
    → (us : List TokAt) × (ts ≡ at t p ∷ us) × Cut (p + length w) after us rest
token_back x within e stop = absurd (token_no_end x within e)
token_back x within e (gap h c) = absurd (blank_no_token h x)
token_back {p} {after = after} {rest = rest} x within e (token {w = v} {ts = us} y within' c) =
    let s = takes_once y x in (
      us,
      ap (λ z. at z p ∷ us) s.tokens,
      subst (λ l. Cut (p + length l) after us rest) s.spellings (subst (λ l. Cut (p + length v) l us rest) s.rests c),
    )

-- a cut that goes as far as it can is one
pub cut_once :
    {p : ℕ} {bytes rest more : List ℕ} {ts us : List TokAt}
    → Cut p bytes ts rest
    → Ends rest
    → Cut p bytes us more
    → Ends more
    → (ts ≡ us) × (rest ≡ more)
cut_once stop e stop f = (refl, refl)
cut_once stop e (gap h d) f = absurd (blank_no_end h e)
cut_once stop e (token x within d) f = absurd (token_no_end x within e)
cut_once (gap h c) e d f = cut_once c e (gap_back h f d) f
cut_once {p} (token {t = t} {ts = ts} x within c) e d f =
    let b = token_back x within f d in
    let r = cut_once c e b.2 f in
    (ap (λ l. at t p ∷ l) r.0 ∙ sym b.1, r.1)

-- the two verdicts on a text

same_place :
    (text : List ℕ) (p q : ℕ)
    → drop p text ≡ drop q text
    → 0 < length (drop p text)
    → p ≡ q
same_place text p q e h = omega (arith, length-drop p text, length-drop q text, ap length e)

one_fault : (text : List ℕ) (m n p q : ℕ) → Refused text m p → Refused text n q → (m ≡ n) × (p ≡ q)
one_fault text m n p q (too_long h) (too_long k) = (refl, refl)
one_fault text m n p q (too_long h) (not_cut k r) = absurd (omega arith)
one_fault text m n p q (not_cut h r) (too_long k) = absurd (omega arith)
one_fault text m n p q (not_cut h r) (not_cut k s) =
    let same = (cut_once r.cut (at_fault r.fault) s.cut (at_fault s.fault)).1 in
    (fault_once r.fault (subst (λ l. FaultHere l n) (sym same) s.fault), same_place text p q same (fault_some r.fault))

not_both : (text : List ℕ) (ts : List TokAt) (n q : ℕ) → Tokenized text ts → Refused text n q → ⊥
not_both text ts n q a (too_long h) = omega (arith, a.short)
not_both text ts n q a (not_cut h r) =
    let same = (cut_once a.cut at_end r.cut (at_fault r.fault)).1 in
    omega (arith, ap length same, fault_some r.fault)

pub one_verdict_lem : (text : List ℕ) → OneVerdict text
one_verdict_lem text = record {
  one_cut = λ ts us a b. (cut_once a.cut at_end b.cut at_end).0;
  one_fault = one_fault text;
  not_both = not_both text;
}

-- tokens and gaps put together

-- one blank more before what is assembled
blank_before :
    {p b : ℕ} {bytes : List ℕ} {ts : List TokAt}
    → blank b ≡ true
    → Assembled (p + 1) bytes ts
    → Assembled p (b ∷ bytes) ts
blank_before {b = b} h (last_gap g o) = last_gap (b ∷ g) (h, o)
blank_before {p} {b} h (next_token g w rest {t = t} {ts = us} o s a) =
    let n : p + 1 + length g ≡ p + length (b ∷ g) = omega arith in
    subst (λ k. Assembled p (b ∷ (g ++ (w ++ rest))) (at t k ∷ us)) (sym n)
    (next_token (b ∷ g) w rest (h, o) s (subst (λ k. Assembled (k + length w) rest us) n a))

pub assembled : {p : ℕ} {bytes : List ℕ} {ts : List TokAt} → Cut p bytes ts [] → Assembled p bytes ts
assembled stop = last_gap [] tt
assembled (gap h c) = blank_before h (assembled c)
assembled {p} (token {bytes = bytes} {w = w} {after = after} {t = t} {ts = us} x within c) =
    let none : List ℕ = [] in
    let n : p ≡ p + length none = omega arith in
    let rest = subst (λ k. Assembled (k + length w) after us) n (assembled c) in
    subst (λ l. Assembled p l (at t p ∷ us)) (sym x.split)
    (subst (λ k. Assembled p (w ++ after) (at t k ∷ us)) (sym n) (next_token {p = p} none w after tt x.spells rest))

pub put_together : (text : List ℕ) → PutTogether text
put_together text ts a = assembled a.cut
