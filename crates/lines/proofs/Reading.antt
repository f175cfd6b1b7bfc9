-- A mark's line, read back.
use Rattle.std.proofs.Common.{◌≡◌, ℕ, ◌+◌, ◌-◌, ◌*◌, ◌^◌, ◌<◌, true, false, List, [], ◌∷◌, ◌++◌, length, take, drop, Some, Ok, Err, Result, IfOk, decimal, sym, refl, ap, ◌∙◌, append_assoc, arith, rules}
use Rattle.std.proofs.lemmas.Fmt.{decimal_nonempty, digits_decimal, digits_value-decimal}
use Rattle.std.proofs.lemmas.List.{take_at}
use Rattle.std.proofs.lemmas.Str.Parse.{IsNumeralModel, numerals_by_fold, tells_all_ascii_digits}
use Rattle.std.proofs.lemmas.Bool.{and_parts}
use Rattle.std.specs.Char.{is_ascii_digit}
use Rattle.std.specs.List.{AllByRecursion}
use Rattle.std.specs.Str.{all_ascii_digits}
use Rattle.std.specs.List.{flat_map}
use Rattle.refusal.specs.declared.Refusal.{Refusal}
use Rattle.lines.specs.Lines.{Made, line_feed, further, mark_text}
use Rattle.lines.specs.Pieces.{parted, slashed}
use Rattle.lines.specs.Reading.{numbers_on, numbers_of, ReadBack, LinesDiffer}

-- the value of a run of digits, after a number already read
abbrev value_on : ℕ → List ℕ → ℕ
value_on n [] = n
value_on n (d ∷ ds) = value_on (10 * n + (d - 48)) ds

value_of_digits : IsNumeralModel (λ ds. all_ascii_digits ds ≡ true) (value_on 0)
value_of_digits = numerals_by_fold _ tells_all_ascii_digits value_on (search rules)

-- a run of digits that another byte ends is one number
run_on :
    (n : ℕ) (ds : List ℕ) (b : ℕ) (bs : List ℕ)
    → all_ascii_digits ds ≡ true
    → is_ascii_digit b ≡ false
    → numbers_on (Some n) (ds ++ b ∷ bs) ≡ value_on n ds ∷ numbers_of bs
run_on n [] b bs digits end = rw end
run_on n (d ∷ ds) b bs digits end =
    let both = and_parts (is_ascii_digit d) (all_ascii_digits ds) digits in
    rw both.0 (run_on (10 * n + (d - 48)) ds b bs both.1 end)

run :
    (ds : List ℕ) (b : ℕ) (bs : List ℕ)
    → 0 < length ds
    → all_ascii_digits ds ≡ true
    → is_ascii_digit b ≡ false
    → numbers_of (ds ++ b ∷ bs) ≡ value_on 0 ds ∷ numbers_of bs
run [] b bs some digits end = absurd (omega arith)
run (d ∷ ds) b bs some digits end =
    let both = and_parts (is_ascii_digit d) (all_ascii_digits ds) digits in
    rw both.0 (run_on (10 * 0 + (d - 48)) ds b bs both.1 end)

run_decimal :
    (n b : ℕ) (bs : List ℕ)
    → n < 2 ^ 64
    → is_ascii_digit b ≡ false
    → numbers_of (decimal n ++ b ∷ bs) ≡ n ∷ numbers_of bs
run_decimal n b bs small end =
    run (decimal n) b bs (decimal_nonempty n small) (digits_decimal value_of_digits n small) end
    ∙ ap (λ v. v ∷ numbers_of bs) (digits_value-decimal value_of_digits n small)

further_back :
    (n : ℕ) (ns : List ℕ)
    → n < 2 ^ 64
    → AllByRecursion (λ k. k < 2 ^ 64) ns
    → numbers_of (decimal n ++ further ns) ≡ n ∷ ns
further_back n [] small all = run_decimal n 10 [] small refl
further_back n (k ∷ ks) small all =
    run_decimal n 47 (decimal k ++ further ks) small refl
    ∙ ap (λ l. n ∷ l) (further_back k ks all.0 all.1)

pub read_back : ReadBack
read_back [] all = refl
read_back (n ∷ ns) all = further_back n ns all.0 all.1

pub lines_differ_lem : LinesDiffer
lines_differ_lem m n small_m small_n same = sym (read_back m small_m) ∙ ap numbers_of same ∙ read_back n small_n

-- a mark's line is its numbers, parted by `/`, and a line feed
further_parted : (ns : List ℕ) → flat_map slashed ns ++ line_feed ≡ further ns
further_parted [] = refl
further_parted (n ∷ ns) =
    append_assoc (slashed n) (flat_map slashed ns) line_feed ∙ ap (λ l. slashed n ++ l) (further_parted ns)

pub mark_text_parted : (mark : List ℕ) → parted mark ++ line_feed ≡ mark_text mark
mark_text_parted [] = refl
mark_text_parted (n ∷ ns) =
    append_assoc (decimal n) (flat_map slashed ns) line_feed ∙ ap (λ l. decimal n ++ l) (further_parted ns)

pub made_read_back :
    (mark before after : List ℕ) (r : Result ℕ Refusal)
    → AllByRecursion (λ k. k < 2 ^ 64) mark
    → Made (mark_text mark) before after r
    → IfOk r (λ n. numbers_of (take n after) ≡ mark)
made_read_back mark before after (Ok n) small made =
    ap numbers_of (ap (take n) made.2 ∙ take_at (mark_text mark) (drop n before) n (sym made.0)) ∙ read_back mark small
made_read_back mark before after (Err e) small made = tt
