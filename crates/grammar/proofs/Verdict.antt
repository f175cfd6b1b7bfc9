-- Every list of tokens is a sheet or is refused, with one number at one place, and not both.
use Rattle.std.proofs.Common.{◌≡◌, ℕ, ◌⊎◌, [], ◌∷◌, ◌++◌, sym, refl, ap, ◌∙◌, subst, inl, inr, append_assoc, append-nil, eq-zero-or-pos, arith}
use Rattle.formula.specs.declared.Join.{Join}
use Rattle.formula.specs.declared.Join.TheVariants.{And, Or}
use Rattle.grammar.specs.Grammar.{Tok, join, Placed, at, Tokens, Level, any, only, Limits, strict, Fits, IsSheet}
use Rattle.grammar.specs.Moves.{State, expects, fields, rules, ended, names, more_names, term, summed, terms, more_terms, a_unit, named, more, after_join, numbered, start, Need, free, level, like, Allowed, Move, unit_not, unit_pick, unit_bracket, next_join, no_field, no_sum, unit_compares, join_opens, Unfinished, Halts, goes_on, halts_token, halts_deep, halts_mixed, halts_end, place_of}
use Rattle.grammar.specs.Refusal.{Begins, Stands, OpensLevel, by_bracket, by_not, by_pick, Why, not_permitted, too_deep, mixes, Refused, at_token, at_end}
use Rattle.grammar.specs.Laws.{SomeVerdict, NotBoth, OneRefusal, OneVerdict}
use Rattle.grammar.proofs.Once.{sheet_once}
use Rattle.grammar.proofs.Accepts.{Accepts, accepted, takes, Path, here, move_once, path_accepts, accepts_after, path_more, path_loosely}
use Rattle.grammar.proofs.Taken.{sheet_taken}
use Rattle.grammar.proofs.Means.{sheet_of}
use Rattle.grammar.proofs.Ways.{way}
use Rattle.grammar.proofs.Next.{Next, moves, stays, next_of}

-- only a token that opens a level needs one, and only a join needs to be like the one before
opens : {s u : State} {t : Tok} {d : ℕ} → Move s t (level d) u → OpensLevel t
opens (no_field m) = opens m
opens (no_sum h m) = opens m
opens unit_not = by_not
opens unit_pick = by_pick
opens unit_bracket = by_bracket
opens (unit_compares m) = opens m
opens (join_opens m) = opens m

joins : {s u : State} {t : Tok} {l : Level} {j : Join} → Move s t (like l j) u → t ≡ join j
joins (no_field m) = joins m
joins (no_sum h m) = joins m
joins (unit_compares m) = joins m
joins next_join = refl

-- the first token moves a state from which the tokens are taken
first_move :
    {L : Limits} {s : State} {t : Tok} {p : ℕ} {xs : Tokens}
    → Accepts L s (at t p ∷ xs)
    → (n : Need) × (u : State) × Move s t n u × Allowed L n
first_move (takes m h a) = (_, _, m, h)

finished : {L : Limits} {s : State} → Accepts L s [] → Unfinished s → ⊥
finished accepted h = h

module _ {L : Limits} {before : Tokens} {s : State} (w : Path L start before s) where
  -- where a path ends, a sheet can go on
  begins : Begins L before
  begins =
      let v = way L s in let z = sheet_of L (before ++ v.0) (path_accepts w v.1) in (v.0, z.0, z.1)

  -- and with a token that moves it
  stands : {t : Tok} {n : Need} {u : State} → Move s t n u → Allowed L n → Stands L before t
  stands {t} {u = u} m h =
      let v = way L u in
      let z = sheet_of L (before ++ at t 0 ∷ v.0) (path_accepts w (takes m h v.1)) in
      (0, v.0, z.0, z.1)

  -- a token that can stand moves it
  moved : {t : Tok} → Stands L before t → (n : Need) × (u : State) × Move s t n u × Allowed L n
  moved v = first_move (accepts_after w (sheet_taken v.3))

-- a level that cannot be opened, or a join that mixes
too_deep_at :
    {before : Tokens} {s u : State} {t : Tok} {d : ℕ}
    → Path strict start before s
    → Move s t (level d) u
    → d ≡ 0
    → Stands strict before t
    → ⊥
too_deep_at w m e v =
    let k = moved w v in
    let h = subst (Allowed strict) (move_once k.2 m).0 k.3 in
    omega (arith, h, e)

mixes_at :
    {before : Tokens} {s u : State} {t : Tok} {l : Level} {j : Join}
    → Path strict start before s
    → Move s t (like l j) u
    → (Fits strict l j → ⊥)
    → Stands strict before t
    → ⊥
mixes_at w m g v =
    let k = moved w v in
    g (subst (Allowed strict) (move_once k.2 m).0 k.3)

-- where the moves halt, the tokens are refused
refused_from :
    {s : State} {k : ℕ} {after r : Tokens} (before : Tokens) (size : ℕ)
    → Path strict start before s
    → Halts s after k r
    → Refused (before ++ after) size k (place_of size r)
refused_from before size w (goes_on {t = t} {p = p} {k = k} {xs = xs} {r = r} m h a) =
    subst (λ z. Refused z size k (place_of size r)) (append_assoc before (at t p ∷ []) xs)
    (refused_from (before ++ at t p ∷ []) size (path_more p w m h) a)
refused_from before size w (halts_token {xs = xs} h) =
    at_token before xs refl (begins w) (λ v. h _ _ (moved w v).2)
    (not_permitted (λ v. h _ _ (moved (path_loosely w) v).2))
refused_from before size w (halts_deep {xs = xs} m e) =
    at_token before xs refl (begins w) (too_deep_at w m e) (too_deep (stands (path_loosely w) m tt) (opens m))
refused_from before size w (halts_mixed {xs = xs} {j = j} m g) =
    at_token before xs refl (begins w) (mixes_at w m g) (mixes j (joins m) (stands (path_loosely w) m tt))
refused_from before size w (halts_end h) =
    subst (λ z. Refused z size 4 size) (sym (append-nil before))
    (at_end (begins w) (λ s d. finished (accepts_after w
    (subst (Accepts strict start) (sym (append-nil before)) (sheet_taken d))) h))

pub refused : {k : ℕ} {xs r : Tokens} (size : ℕ) → Halts start xs k r → Refused xs size k (place_of size r)
refused size h = refused_from [] size here h

no : ◌≡◌ {A = ℕ} 0 1 → ⊥
no z = omega arith

-- taken to the end, or halted
abbrev Run : State → Tokens → Type 0
Run s xs = Accepts strict s xs ⊎ ((k : ℕ) × (r : Tokens) × Halts s xs k r)

run_on :
    {s u : State} {t : Tok} {n : Need} {xs : Tokens} (p : ℕ)
    → Move s t n u
    → Allowed strict n
    → Run u xs
    → Run s (at t p ∷ xs)
run_on p m h (inl a) = inl (takes m h a)
run_on p m h (inr b) = inr (b.0, b.1, goes_on m h b.2)

run_if :
    {s u : State} {t : Tok} {xs : Tokens} (p : ℕ) (n : Need)
    → Move s t n u
    → Run u xs
    → Run s (at t p ∷ xs)
run_if p free m a = run_on p m tt a
run_if p (level d) m a =
    elim (eq-zero-or-pos d) [ inl e ↦ inr (5, _, halts_deep m e) | inr h ↦ run_on p m h a ]
run_if p (like any j) m a = run_on p m tt a
run_if p (like (only And) And) m a = run_on p m refl a
run_if p (like (only And) Or) m a = inr (6, _, halts_mixed m (λ e. no (cc)))
run_if p (like (only Or) And) m a = inr (6, _, halts_mixed m (λ e. no (cc)))
run_if p (like (only Or) Or) m a = run_on p m refl a

run_at :
    {s : State} {t : Tok} (p : ℕ) (xs : Tokens)
    → Next s t
    → ((u : State) → Run u xs)
    → Run s (at t p ∷ xs)
run_at p xs (moves {n = n} m) a = run_if p n m (a _)
run_at p xs (stays h) a = inr (4, _, halts_token h)

run_end : (s : State) → Run s []
run_end (expects k s) = inr (4, [], halts_end tt)
run_end fields = inr (4, [], halts_end tt)
run_end rules = inr (4, [], halts_end tt)
run_end ended = inl accepted
run_end (names s) = inr (4, [], halts_end tt)
run_end (more_names s) = inr (4, [], halts_end tt)
run_end (term s) = inr (4, [], halts_end tt)
run_end (summed s) = inr (4, [], halts_end tt)
run_end (terms s) = inr (4, [], halts_end tt)
run_end (more_terms s) = inr (4, [], halts_end tt)
run_end (a_unit d l o) = inr (4, [], halts_end tt)
run_end (named l o) = inr (4, [], halts_end tt)
run_end (more l o) = inr (4, [], halts_end tt)
run_end (after_join j o) = inr (4, [], halts_end tt)
run_end (numbered j o) = inr (4, [], halts_end tt)

run : (s : State) (xs : Tokens) → Run s xs
run s [] = run_end s
run s (at t p ∷ xs) = run_at p xs (next_of s t) (λ u. run u xs)

some_verdict : SomeVerdict
some_verdict xs size =
    elim (run start xs) [
      | inl a ↦ inl (sheet_of strict xs a)
      | inr h ↦ inr (h.0, place_of size h.1, refused size h.2)
    ]

not_both : NotBoth
not_both xs size n p s d (at_token {p =
    q} before after e b h w) = h (q, after, s, subst (λ z. IsSheet z s) e d)
not_both xs size n p s d (at_end b h) = h s d

-- what begins a sheet, with a token after some of it
begins_over :
    {xs : Tokens} (t : Tok) (p : ℕ) (before after : Tokens)
    → xs ≡ before ++ at t p ∷ after
    → Begins strict xs
    → Stands strict before t
begins_over t p before after e b = (
  p,
  after ++ b.0,
  b.1,
  subst (λ z. IsSheet z b.1)
      (ap (λ z. z ++ b.0) e ∙ append_assoc before (at t p ∷ after) b.0) b.2,
)

-- two cuts of one list are the same, or one lies behind the other
data Cuts (b c : Tokens) (x y : Placed) : Type 0 where
  same : b ≡ c → x ≡ y → Cuts b c x y
  behind : (m : Tokens) → c ≡ b ++ x ∷ m → Cuts b c x y
  ahead : (m : Tokens) → b ≡ c ++ y ∷ m → Cuts b c x y

cuts_more : {b c : Tokens} {x y z w : Placed} → z ≡ w → Cuts b c x y → Cuts (z ∷ b) (w ∷ c) x y
cuts_more e (same f g) = same (cc) g
cuts_more e (behind m f) = behind m (cc)
cuts_more e (ahead m f) = ahead m (cc)

cuts : (b c : Tokens) {x y : Placed} (xs ys : Tokens) → b ++ x ∷ xs ≡ c ++ y ∷ ys → Cuts b c x y
cuts [] [] xs ys e = same refl (cc)
cuts [] (w ∷ c) {x} {y} xs ys e = let f : x ≡ w = cc in behind c (ap (λ v. v ∷ c) (sym f))
cuts (z ∷ b) [] {x} {y} xs ys e = let f : z ≡ y = cc in ahead b (ap (λ v. v ∷ b) f)
cuts (z ∷ b) (w ∷ c) {x} {y} xs ys e =
    let f : z ≡ w = cc in
    let g : b ++ x ∷ xs ≡ c ++ y ∷ ys = cc in
    cuts_more f (cuts b c xs ys g)

no_join : {t : Tok} {j : Join} → OpensLevel t → t ≡ join j → ⊥
no_join o e = elim (subst OpensLevel e o) [ ]

one_why : {before : Tokens} {t : Tok} {n m : ℕ} → Why before t n → Why before t m → n ≡ m
one_why (not_permitted h) (not_permitted k) = refl
one_why (not_permitted h) (too_deep k o) = absurd (h k)
one_why (not_permitted h) (mixes j e k) = absurd (h k)
one_why (too_deep h o) (not_permitted k) = absurd (k h)
one_why (too_deep h o) (too_deep k u) = refl
one_why (too_deep h o) (mixes j e k) = absurd (no_join o e)
one_why (mixes j e h) (not_permitted k) = absurd (k h)
one_why (mixes j e h) (too_deep k u) = absurd (no_join u e)
one_why (mixes j e h) (mixes i f k) = refl

one_token :
    {b c : Tokens} {t u : Tok} {p q n m : ℕ}
    → Cuts b c (at t p) (at u q)
    → Begins strict b
    → (Stands strict b t → ⊥)
    → Why b t n
    → Begins strict c
    → (Stands strict c u → ⊥)
    → Why c u m
    → (n ≡ m) × (p ≡ q)
one_token {b} {c} {t} {u} {p} {q} {n} {m} (same e f) x h v y k w =
    let tok : u ≡ t = cc in
    let place : p ≡ q = cc in
    (one_why v (subst (λ z. Why z t m) (sym e) (subst (λ z. Why c z m) tok w)), place)
one_token {b} {t = t} {p = p} (behind m e) x h v y k w = absurd (h (begins_over t p b m e y))
one_token {c = c} {u = u} {q = q} (ahead m e) x h v y k w = absurd (k (begins_over u q c m e x))

one_refusal : OneRefusal
one_refusal xs size n m p q (at_token b bs e x h v) (at_token c cs f y k w) =
    one_token (cuts b c bs cs (sym e ∙ f)) x h v y k w
one_refusal xs size n m p q (at_token {t =
    t} b bs e x h v) (at_end y k) = absurd (h (begins_over t p b bs e y))
one_refusal xs size n m p q (at_end x h) (at_token {t =
    t} c cs f y k w) = absurd (k (begins_over t q c cs f x))
one_refusal xs size n m p q (at_end x h) (at_end y k) = (refl, refl)

pub one_verdict_lem : OneVerdict
one_verdict_lem = (some_verdict, not_both, λ xs s t a b. sheet_once a b, one_refusal)
