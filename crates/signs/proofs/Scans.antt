-- From places in a text to the bytes that begin there.
use Rattle.std.proofs.Common.{◌≡◌, ℕ, ◌-◌, ◌<◌, ◌≤◌, Bool, true, false, List, [], ◌∷◌, length, get_or, take, drop, Some, None, sym, ap, ◌∙◌, subst₂, arith}
use Rattle.std.proofs.ByRecursion.{All-from_get_or}
use Rattle.std.proofs.lemmas.List.{take-append-drop, length-take-le, length-drop, get_or-take, take_at, take_all, drop_at, length-append}
use Rattle.std.proofs.lemmas.List.Sums.{prefix_len-le-length, prefix_len_passes, prefix_len_stops}
use Rattle.std.proofs.lemmas.List.Folds.{length-prefix_len}
use Rattle.std.specs.List.{prefix_len, take_while}
use Rattle.signs.specs.declared.token.Sign.{Sign}
use Rattle.signs.specs.Bytes.{letter, digit, blank}
use Rattle.signs.specs.Tokens.{sign, sign_bytes, Takes}
use Rattle.signs.specs.Cutting.{FaultHere, nothing_begins}
use Rattle.signs.specs.Scanning.{part, LongestSign}
use Rattle.signs.proofs.Spelling.{Front, takes_sign, no_spelling}

-- the bytes from p to the end
pub part_last : (text : List ℕ) (p : ℕ) → part text p (length text) ≡ drop p text
part_last text p = take_all (length text - p) (drop p text) (omega (arith, length-drop p text))

-- the longest front of the bytes that passes

module _ (test : ℕ → Bool) (bytes : List ℕ) (n : ℕ) (counted : n ≡ length (take_while test bytes)) where
  pub front_within : n ≤ length bytes
  front_within = omega (arith, counted, length-prefix_len test bytes, prefix_len-le-length test bytes)

  pub front_long : length (take n bytes) ≡ n
  front_long = length-take-le n bytes front_within

  pub front_at : Front test bytes (take n bytes) (drop n bytes)
  front_at =
      let e : n ≡ prefix_len test bytes = counted ∙ length-prefix_len test bytes in
      record {
        split = sym (take-append-drop n bytes);
        all = All-from_get_or (λ b. test b ≡ true) (take n bytes) 0
            (λ i h. ap test (get_or-take n bytes i 0 (omega (arith, front_long)))
            ∙ prefix_len_passes test bytes i 0 (omega (arith, front_long, e)));
        stops = λ h. ap (λ k. test (get_or bytes k 0)) (front_long ∙ e)
            ∙ prefix_len_stops test bytes 0 (omega (arith, front_long, e));
      }

-- the token that the bytes begin with

pub sign_here :
    (bytes : List ℕ) (n : ℕ) (s : Sign)
    → letter (get_or bytes 0 0) ≡ false
    → digit (get_or bytes 0 0) ≡ false
    → LongestSign bytes (Some s)
    → n ≡ length (sign_bytes s)
    → (n ≤ length bytes) × Takes bytes (sign s) (take n bytes) (drop n bytes)
sign_here bytes n s nl nd found e =
    let w = sign_bytes s in
    let rest = found.0 in
    let is = found.1 in
    let t = takes_sign bytes s rest nl nd is found.2 in
    let front : take n bytes ≡ w = ap (λ l. take n l) is ∙ take_at w rest n (sym e) in
    let back : drop n bytes ≡ rest = ap (λ l. drop n l) is ∙ drop_at w rest n (sym e) in (
      omega (arith, e, ap length is, length-append w rest),
      subst₂ (λ v l. Takes bytes (sign s) v l) (sym front) (sym back) t,
    )

pub nothing_here :
    (bytes : List ℕ)
    → 0 < length bytes
    → blank (get_or bytes 0 0) ≡ false
    → letter (get_or bytes 0 0) ≡ false
    → digit (get_or bytes 0 0) ≡ false
    → LongestSign bytes None
    → FaultHere bytes 2
nothing_here [] h nb nl nd none = absurd (omega arith)
nothing_here (b ∷ bs) h nb nl nd none = nothing_begins nb (no_spelling (b ∷ bs) nl nd none)
