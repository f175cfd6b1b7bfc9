-- Tokens that are taken from a state to the end, by moves that the limits permit. Moves are determined.
use Rattle.std.proofs.Common.{◌≡◌, ℕ, [], ◌∷◌, ◌++◌, refl, subst}
use Rattle.grammar.specs.Grammar.{Tok, at, Tokens, Limits, strict, loose}
use Rattle.grammar.specs.Moves.{State, ended, Need, free, level, like, Allowed, Move, asked, line_field, no_field, line_rule, line_mark, no_names, first_name, names_end, next_name, term_number, term_name, sum_plus, sum_minus, no_sum, no_terms, first_number, first_term, terms_end, next_term, unit_number, unit_name, unit_not, unit_pick, unit_bracket, unit_call, unit_compares, next_join, bracket_end, rule_end, mark_end, join_number, join_name, join_opens, weight_colon, weight_none}

-- the tokens are all taken, and nothing more is to come
pub data Accepts (L : Limits) : State → Tokens → Type 0 where
  accepted : Accepts L ended []
  takes :
      {s u : State} {t : Tok} {n : Need} {p : ℕ} {xs : Tokens}
      → Move s t n u
      → Allowed L n
      → Accepts L u xs
      → Accepts L s (at t p ∷ xs)

-- the tokens are taken from one state to another
pub data Path (L : Limits) : State → Tokens → State → Type 0 where
  here : {s : State} → Path L s [] s
  step :
      {s u v : State} {t : Tok} {n : Need} {p : ℕ} {xs : Tokens}
      → Move s t n u
      → Allowed L n
      → Path L u xs v
      → Path L s (at t p ∷ xs) v

-- a token moves a state in one way
pub move_once : {s u v : State} {t : Tok} {n m : Need} → Move s t n u → Move s t m v → (n ≡ m) × (u ≡ v)
move_once (asked i) (asked j) = (refl, refl)
move_once line_field line_field = (refl, refl)
move_once line_field (no_field b) = elim b [ ]
move_once (no_field a) line_field = elim a [ ]
move_once (no_field a) (no_field b) = move_once a b
move_once line_rule line_rule = (refl, refl)
move_once line_mark line_mark = (refl, refl)
move_once no_names no_names = (refl, refl)
move_once first_name first_name = (refl, refl)
move_once names_end names_end = (refl, refl)
move_once next_name next_name = (refl, refl)
move_once term_number term_number = (refl, refl)
move_once term_name term_name = (refl, refl)
move_once sum_plus sum_plus = (refl, refl)
move_once sum_plus (no_sum h b) = absurd h
move_once sum_minus sum_minus = (refl, refl)
move_once sum_minus (no_sum h b) = absurd h
move_once (no_sum h a) sum_plus = absurd h
move_once (no_sum h a) sum_minus = absurd h
move_once (no_sum h a) (no_sum k b) = move_once a b
move_once no_terms no_terms = (refl, refl)
move_once first_number first_number = (refl, refl)
move_once first_term first_term = (refl, refl)
move_once terms_end terms_end = (refl, refl)
move_once next_term next_term = (refl, refl)
move_once unit_number unit_number = (refl, refl)
move_once unit_name unit_name = (refl, refl)
move_once unit_not unit_not = (refl, refl)
move_once unit_pick unit_pick = (refl, refl)
move_once unit_bracket unit_bracket = (refl, refl)
move_once unit_call unit_call = (refl, refl)
move_once unit_call (unit_compares (no_sum h (asked i))) = elim i [ ]
move_once (unit_compares (no_sum h (asked i))) unit_call = elim i [ ]
move_once (unit_compares a) (unit_compares b) = move_once a b
move_once next_join next_join = (refl, refl)
move_once bracket_end bracket_end = (refl, refl)
move_once rule_end rule_end = (refl, refl)
move_once mark_end mark_end = (refl, refl)
move_once join_number join_number = (refl, refl)
move_once join_name join_name = (refl, refl)
move_once (join_opens a) (join_opens b) = move_once a b
move_once join_number (join_opens b) = elim b [ ]
move_once join_name (join_opens b) = elim b [ ]
move_once (join_opens a) join_number = elim a [ ]
move_once (join_opens a) join_name = elim a [ ]
move_once weight_colon weight_colon = (refl, refl)
move_once weight_none weight_none = (refl, refl)

-- a path, and then the rest
pub path_accepts :
    {L : Limits} {s u : State} {xs ys : Tokens}
    → Path L s xs u
    → Accepts L u ys
    → Accepts L s (xs ++ ys)
path_accepts here a = a
path_accepts (step m h w) a = takes m h (path_accepts w a)

-- what is taken along a path is taken from its end
pub accepts_after :
    {L : Limits} {s u : State} {xs ys : Tokens}
    → Path L s xs u
    → Accepts L s (xs ++ ys)
    → Accepts L u ys
accepts_after here a = a
accepts_after {L} {ys = ys} (step {xs = xs} m h w) (takes k g a) =
    accepts_after w (subst (λ v. Accepts L v (xs ++ ys)) (move_once k m).1 a)

-- one token more
pub path_more :
    {L : Limits} {s u v : State} {t : Tok} {n : Need} {xs : Tokens} (p : ℕ)
    → Path L s xs u
    → Move u t n v
    → Allowed L n
    → Path L s (xs ++ at t p ∷ []) v
path_more p here k g = step k g here
path_more p (step m h w) k g = step m h (path_more p w k g)

-- what the limits permit is permitted when they are lifted
pub loosely : (n : Need) → Allowed strict n → Allowed loose n
loosely free h = tt
loosely (level d) h = tt
loosely (like l j) h = tt

pub path_loosely : {s u : State} {xs : Tokens} → Path strict s xs u → Path loose s xs u
path_loosely here = here
path_loosely (step {n = n} m h w) = step m (loosely n h) (path_loosely w)
