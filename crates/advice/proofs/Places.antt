-- Every place lies in one line.
use Rattle.std.proofs.Common.{◌≡◌, ℕ, zero, suc, ◌+◌, ◌-◌, ◌<◌, ◌≤◌, min, Bool, true, false, ◌≢◌, List, [], ◌∷◌, ◌++◌, reverse, length, get_or, take, drop, sym, refl, ap, ◌∙◌, subst, ⊎_elim, one-add, arith, length-append, take-append-drop, length-take, eqb-true}
use borrow.Author.Tests.{eqb-false, not-true, not-false}
use lib.ListN.{length-reverse}
use Rattle.std.proofs.lemmas.List.{get_or_append_left, get_or-append_right, get_or-reverse}
use Rattle.std.proofs.lemmas.List.Sums.{suffix_len-le-length, prefix_len-le-length}
use Rattle.std.proofs.lemmas.Bool.{cases_Bool, cases_lt}
use Rattle.std.specs.List.{suffix_len, prefix_len}
use Rattle.advice.specs.Places.{is_in_line, start_of_line, end_of_line, LineAt, OneLine}

-- a place past the end counts as the end
pub take_within : (text : List ℕ) (place : ℕ) → take (length (take place text)) text ≡ take place text
take_within text zero = refl
take_within [] (suc n) = refl
take_within (b ∷ bs) (suc n) = ap (λ l. b ∷ l) (take_within bs n)

pub drop_within : (text : List ℕ) (place : ℕ) → drop (length (take place text)) text ≡ drop place text
drop_within text zero = refl
drop_within [] (suc n) = refl
drop_within (b ∷ bs) (suc n) = drop_within bs n

leading_yes : (p : ℕ → Bool) (x : ℕ) (xs : List ℕ) → p x ≡ true → prefix_len p (x ∷ xs) ≡ 1 + prefix_len p xs
leading_yes p x xs passes = rw passes

leading_no : (p : ℕ → Bool) (x : ℕ) (xs : List ℕ) → p x ≡ false → prefix_len p (x ∷ xs) ≡ 0
leading_no p x xs fails = rw fails

-- the front that passes a test passes it everywhere, and what follows it, if anything, does not
leading_passes :
    (p : ℕ → Bool) (xs : List ℕ) (k : ℕ)
    → k < prefix_len p xs
    → p (get_or xs k 0) ≡ true
leading_passes p [] k inside = absurd (omega arith)
leading_passes p (x ∷ xs) zero inside =
    ⊎_elim (λ passes. passes) (λ fails. absurd (omega (arith, leading_no p x xs fails))) (cases_Bool (p x))
leading_passes p (x ∷ xs) (suc k) inside =
    ⊎_elim
    (λ passes. leading_passes p xs k (omega (arith, leading_yes p x xs passes)))
    (λ fails. absurd (omega (arith, leading_no p x xs fails)))
    (cases_Bool (p x))

leading_stops :
    (p : ℕ → Bool) (xs : List ℕ)
    → prefix_len p xs < length xs
    → p (get_or xs (prefix_len p xs) 0) ≡ false
leading_stops p [] some = absurd (omega arith)
leading_stops p (x ∷ xs) some =
    ⊎_elim
    (λ passes.
    let more : prefix_len p (x ∷ xs) ≡ suc (prefix_len p xs) = leading_yes p x xs passes ∙ one-add _ in
    ap (λ i. p (get_or (x ∷ xs) i 0)) more ∙ leading_stops p xs (omega arith))
    (λ fails. ap (λ i. p (get_or (x ∷ xs) i 0)) (leading_no p x xs fails) ∙ fails)
    (cases_Bool (p x))

ending_passes :
    (p : ℕ → Bool) (xs : List ℕ) (k : ℕ)
    → length xs - suffix_len p xs ≤ k
    → k < length xs
    → p (get_or xs k 0) ≡ true
ending_passes p xs k from inside =
    let turned = get_or-reverse xs (length xs - 1 - k) 0 (omega arith) in
    let same : length xs - 1 - (length xs - 1 - k) ≡ k = omega arith in
    let at = leading_passes p (reverse xs) (length xs - 1 - k) (omega (arith, suffix_len-le-length p xs)) in
    sym (ap p (turned ∙ ap (λ i. get_or xs i 0) same)) ∙ at

ending_stops :
    (p : ℕ → Bool) (xs : List ℕ)
    → suffix_len p xs < length xs
    → p (get_or xs (length xs - suffix_len p xs - 1) 0) ≡ false
ending_stops p xs some =
    let turned = get_or-reverse xs (suffix_len p xs) 0 some in
    let same : length xs - 1 - suffix_len p xs ≡ length xs - suffix_len p xs - 1 = omega arith in
    let at = leading_stops p (reverse xs) (omega (arith, length-reverse xs)) in
    sym (ap p (turned ∙ ap (λ i. get_or xs i 0) same)) ∙ at

inside_line : (b : ℕ) → is_in_line b ≡ true → b ≢ 10
inside_line b h = eqb-false b 10 (not-true _ h)

outside_line : (b : ℕ) → is_in_line b ≡ false → b ≡ 10
outside_line b h = eqb-true b 10 (not-false _ h)

-- the line between what stands before a place and what stands from it on
line_between :
    (before after : List ℕ) (place : ℕ)
    → min place (length (before ++ after)) ≡ length before
    → LineAt (before ++ after) place
    (length before - suffix_len is_in_line before)
    (length before + prefix_len is_in_line after)
line_between before after place there =
    let p = is_in_line in
    let front = suffix_len-le-length p before in
    let back = prefix_len-le-length p after in
    let whole = length-append before after in
    let left : (k : ℕ) → k < length before → get_or (before ++ after) k 0 ≡ get_or before k 0 =
    λ k inside. get_or_append_left before after 0 k inside in
    let right : (k : ℕ) → length before ≤ k → get_or (before ++ after) k 0 ≡ get_or after (k - length before) 0 =
    λ k past. get_or-append_right before after (length before) k 0 refl past in
    let n = length before + prefix_len p after in
    let m = length before - suffix_len p before - 1 in
    let here : n - length before ≡ prefix_len p after = omega arith in
    record {
      holds = (omega arith, omega arith, omega arith);
      unbroken = λ k from to feed. ⊎_elim
          (λ inside. inside_line _ (ending_passes p before k from inside) (sym (left k inside) ∙ feed))
          (λ past. inside_line _ (leading_passes p after (k - length before) (omega arith)) (sym (right k past) ∙ feed))
          (cases_lt k (length before));
      begins = λ some.
          let inside : suffix_len p before < length before = omega arith in
          left m (omega arith) ∙ outside_line _ (ending_stops p before inside);
      ends = λ more.
          let inside : prefix_len p after < length after = omega arith in
          right n (omega arith) ∙ ap (λ i. get_or after i 0) here ∙ outside_line _ (leading_stops p after inside);
    }

pub line_at : (text : List ℕ) (place : ℕ) → LineAt text place (start_of_line text place) (end_of_line text place)
line_at text place =
    let whole = take-append-drop place text in
    let there : min place (length (take place text ++ drop place text)) ≡ length (take place text) =
    omega (arith, ap length whole, length-take place text) in
    subst (λ t. LineAt t place (start_of_line text place) (end_of_line text place)) whole
    (line_between (take place text) (drop place text) place there)

-- of two lines in which a place lies, none begins after the other or ends before it
begins_no_later :
    (text : List ℕ) (place s e t f : ℕ)
    → LineAt text place s e
    → LineAt text place t f
    → t ≤ s
begins_no_later text place s e t f a b =
    ⊎_elim
    (λ later. absurd (a.unbroken (t - 1) (omega arith) (omega arith) (b.begins (omega arith))))
    (λ so. so)
    (cases_lt s t)

ends_no_sooner :
    (text : List ℕ) (place s e t f : ℕ)
    → LineAt text place s e
    → LineAt text place t f
    → e ≤ f
ends_no_sooner text place s e t f a b =
    ⊎_elim
    (λ sooner. absurd (a.unbroken f (omega arith) sooner (b.ends (omega arith))))
    (λ so. so)
    (cases_lt f e)

pub one_line : (text : List ℕ) (place : ℕ) → OneLine text place
one_line text place =
    let the = line_at text place in
    let s = start_of_line text place in
    let e = end_of_line text place in (
      the,
      λ t f other. (
        omega (arith, begins_no_later text place s e t f the other, begins_no_later text place t f s e other the),
        omega (arith, ends_no_sooner text place s e t f the other, ends_no_sooner text place t f s e other the),
      ),
    )
