-- What one token ahead gives: an item that it is, or the fault that it is not permitted.
use Rattle.std.proofs.Common.{◌≡◌, ℕ, ◌<◌, ◌≤◌, true, false, List, [], ◌∷◌, length, Ok, Err, sym, refl, ap, ◌∙◌, subst, arith}
use Rattle.refusal.specs.declared.Fault.{Fault}
use Rattle.refusal.specs.declared.Refusal.TheVariants.{TokenNotPermitted}
use Rattle.refusal.specs.Table as table
use Rattle.formula.specs.declared.Comparison.{Comparison}
use Rattle.grammar.specs.declared.table.Word.{Word as WordEntry}
use Rattle.grammar.specs.declared.token.Class.{Class}
use Rattle.grammar.specs.declared.token.Class.TheVariants as class
use Rattle.grammar.specs.declared.token.Ahead.{Ahead}
use Rattle.grammar.specs.Syntax.{num}
use Rattle.grammar.specs.Grammar.{Tok, at, Tokens, IsName, a_name}
use Rattle.grammar.specs.Tables.{word_of}
use Rattle.grammar.specs.Moves.{Shape, some_name, some_number, some_sign, is_name, is_number, is_sign, is_opening, is_closing, is_semicolon, is_colon, State, expects, Need, Move, asked, Unfinished, Halts, goes_on, halts_token, halts_end, place_of}
use Rattle.grammar.specs.Parsing.{Left, Says, says_name, says_number, says_sign, says_opening, says_closing, says_semicolon, says_colon, Seen, no_token, a_token, Peeked, Stopped, Came, IsNumber, a_number, IsSign, a_sign, NameRead, NumberRead, SignRead, Fixed, fixed_opening, fixed_closing, fixed_semicolon, fixed_colon, FirstIs, first_is, Expected}

pub no : ◌≡◌ {A = ℕ} 0 1 → ⊥
no z = omega arith

pub not_true : false ≡ true → ⊥
not_true e = no (cc)

-- the fault that the token at a place is not permitted
abbrev pub refused_at : ℕ → Fault
refused_at p = record { refusal = TokenNotPermitted; place = p }

-- what holds from the end of a token that was passed, at its place
pub from_passed :
    (h : Ahead) {i e : ℕ} (P : (end place : ℕ) → Type 0)
    → i ≡ h.place
    → e ≡ h.end
    → P e i
    → P h.end h.place
from_passed h {i} {e} P there ended o = subst (λ z. P z h.place) ended (subst (P e) there o)

-- no move takes what the class says
abbrev pub Stuck : List ℕ → Class → State → Type 0
Stuck text k s = (t : Tok) (i : ℕ) (n : Need) (u : State) → Move s t n u → Says text k t i → ⊥

pub stops :
    {text : List ℕ} {C : Type 0} {k : Class} {p e : ℕ} {xs : Tokens} (before : C → State) (f : Fault)
    → f ≡ refused_at p
    → Seen text xs k p e
    → ((c : C) → Unfinished (before c))
    → ((c : C) → Stuck text k (before c))
    → Stopped text C before xs f
stops before f e (no_token q) h z = record {
  rest = [];
  there = ap (λ g. g.place) e ∙ q;
  halts = λ c. subst (λ g. Halts (before c) [] (table.number g.refusal) []) (sym e) (halts_end (h c));
}
stops before f e (a_token {t = t} {p = p} {xs = xs} s l) h z = record {
  rest = at t p ∷ xs;
  there = ap (λ g. g.place) e;
  halts = λ c. subst (λ g. Halts (before c) (at t p ∷ xs) (table.number g.refusal) (at t p ∷ xs)) (sym e)
      (halts_token (λ n u m. z c _ _ n u m s));
}

module _ (text : List ℕ) (p : ℕ) (a : Ahead) (h : Peeked text p a) where
  -- the token is real where its class is not that of the end
  pub real : (a.class ≡ class.End → ⊥) → (p < a.end) × (a.end ≤ length text)
  real = h.onward

  pub seen_as :
      {k : Class}
      → a.class ≡ k
      → (xs : Tokens)
      → Left text p xs
      → Seen text xs k a.place a.end
  seen_as e xs l = subst (λ k. Seen text xs k a.place a.end) e (h.seen xs l)

  name_came :
      {v : WordEntry} {q e : ℕ} {xs : Tokens}
      → Seen text xs (class.Name v) q e
      → Came text State (expects some_name) (λ s. s) xs e (λ us. IsName xs us (word_of text v))
  name_came (a_token {p = p} {xs = us} (says_name {w = w} g) l) = record {
    rest = _;
    remains = l;
    goes = λ s n r k. goes_on (asked is_name) tt k;
    item = subst (IsName _ us) (sym g) a_name;
  }

  pub name_read :
      (v : WordEntry)
      → a.class ≡ class.Name v
      → NameRead text p (Ok (record { value = v; end = a.end }))
  name_read v is = let r = real (λ e. no (cc)) in (r.0, r.1, λ xs l. name_came (seen_as is xs l))

  no_name :
      {k : Class}
      → ((v : WordEntry) → k ≡ class.Name v → ⊥)
      → (s : State)
      → Stuck text k (expects some_name s)
  no_name z s t i n u (asked is_name) (says_name g) = z _ refl

  pub name_stops :
      (f : Fault)
      → f ≡ refused_at a.place
      → ((v : WordEntry) → a.class ≡ class.Name v → ⊥)
      → NameRead text p (Err f)
  name_stops f e z xs l = stops (expects some_name) f e (h.seen xs l) (λ s. tt) (no_name z)

  number_came :
      {m q e : ℕ} {xs : Tokens}
      → Seen text xs (class.Number m) q e
      → Came text State (expects some_number) (λ s. s) xs e (λ us. IsNumber xs us (num m q))
  number_came (a_token says_number l) =
      record { rest = _; remains = l; goes = λ s n r k. goes_on (asked is_number) tt k; item = a_number }

  pub number_read :
      (m : ℕ)
      → a.class ≡ class.Number m
      → NumberRead text p (Ok (record { value = record { value = m; place = a.place }; end = a.end }))
  number_read m is = let r = real (λ e. no (cc)) in (r.0, r.1, λ xs l. number_came (seen_as is xs l))

  no_number :
      {k : Class}
      → ((m : ℕ) → k ≡ class.Number m → ⊥)
      → (s : State)
      → Stuck text k (expects some_number s)
  no_number z s t i n u (asked is_number) says_number = z _ refl

  pub number_stops :
      (f : Fault)
      → f ≡ refused_at a.place
      → ((m : ℕ) → a.class ≡ class.Number m → ⊥)
      → NumberRead text p (Err f)
  number_stops f e z xs l = stops (expects some_number) f e (h.seen xs l) (λ s. tt) (no_number z)

  sign_came :
      {c : Comparison} {q e : ℕ} {xs : Tokens}
      → Seen text xs (class.Compare c) q e
      → Came text State (expects some_sign) (λ s. s) xs e (λ us. IsSign xs us c)
  sign_came (a_token says_sign l) =
      record { rest = _; remains = l; goes = λ s n r k. goes_on (asked is_sign) tt k; item = a_sign }

  pub sign_read :
      (c : Comparison)
      → a.class ≡ class.Compare c
      → SignRead text p (Ok (record { value = c; end = a.end }))
  sign_read c is = let r = real (λ e. no (cc)) in (r.0, r.1, λ xs l. sign_came (seen_as is xs l))

  no_sign :
      {k : Class}
      → ((c : Comparison) → k ≡ class.Compare c → ⊥)
      → (s : State)
      → Stuck text k (expects some_sign s)
  no_sign z s t i n u (asked is_sign) says_sign = z _ refl

  pub sign_stops :
      (f : Fault)
      → f ≡ refused_at a.place
      → ((c : Comparison) → a.class ≡ class.Compare c → ⊥)
      → SignRead text p (Err f)
  sign_stops f e z xs l = stops (expects some_sign) f e (h.seen xs l) (λ s. tt) (no_sign z)

  -- a sign that is asked for
  fixed_came :
      {c : Class} {k : Shape} (g : Fixed c k) {q e : ℕ} {xs : Tokens}
      → Seen text xs c q e
      → (us : Tokens) × FirstIs k xs us × Left text e us
  fixed_came fixed_opening (a_token says_opening l) = (_, first_is is_opening, l)
  fixed_came fixed_closing (a_token says_closing l) = (_, first_is is_closing, l)
  fixed_came fixed_semicolon (a_token says_semicolon l) = (_, first_is is_semicolon, l)
  fixed_came fixed_colon (a_token says_colon l) = (_, first_is is_colon, l)

  fixed_real : {c : Class} {k : Shape} → Fixed c k → c ≡ class.End → ⊥
  fixed_real fixed_opening e = no (cc)
  fixed_real fixed_closing e = no (cc)
  fixed_real fixed_semicolon e = no (cc)
  fixed_real fixed_colon e = no (cc)

  pub fixed_read : {c : Class} {k : Shape} → Fixed c k → a.class ≡ c → Expected text p k (Ok a.end)
  fixed_read g is =
      let r = real (λ e. fixed_real g (sym is ∙ e)) in
      (r.0, r.1, λ xs l. fixed_came g (seen_as is xs l))

  not_first :
      {c : Class} {s : Shape} (g : Fixed c s) {k : Class} {q e : ℕ} {xs us : Tokens}
      → (k ≡ c → ⊥)
      → FirstIs s xs us
      → Seen text xs k q e
      → ⊥
  not_first fixed_opening z (first_is is_opening) (a_token says_opening l) = z refl
  not_first fixed_closing z (first_is is_closing) (a_token says_closing l) = z refl
  not_first fixed_semicolon z (first_is is_semicolon) (a_token says_semicolon l) = z refl
  not_first fixed_colon z (first_is is_colon) (a_token says_colon l) = z refl

  seen_place : {k : Class} {q e : ℕ} {xs : Tokens} → Seen text xs k q e → q ≡ place_of (length text) xs
  seen_place (no_token g) = g
  seen_place (a_token s l) = refl

  pub fixed_stops :
      {c : Class} {k : Shape} (g : Fixed c k) (f : Fault)
      → f ≡ refused_at a.place
      → (a.class ≡ c → ⊥)
      → Expected text p k (Err f)
  fixed_stops g f e z xs l =
      let s = h.seen xs l in
      (ap (λ x. table.number x.refusal) e, ap (λ x. x.place) e ∙ seen_place s, λ us i. not_first g z i s)
